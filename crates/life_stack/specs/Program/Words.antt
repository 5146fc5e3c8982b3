-- What the words of a call ask for.
use Rattle.std.specs.Prelude.{List, [], ◌∷◌, Option, Some, None, codes, bytes_eq, string_bytes, if◌then◌else◌}
use Rattle.std.specs.declared.string.String.{String}
use Rattle.std.specs.declared.alloc.Global.{Global}
use Rattle.life_stack.specs.declared.program.words.Command.{Command}
use Rattle.life_stack.specs.declared.program.words.Command.TheVariants.{Drive}

-- what the words ask for: the one command is the one word `drive`
abbrev pub command : List (String Global) → Option Command
command (word ∷ []) = if bytes_eq (string_bytes word) (codes "drive") then Some Drive else None
command words = None
