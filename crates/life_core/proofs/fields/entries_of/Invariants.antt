use Rattle.std.proofs.Common.{◌≡◌, ◌++◌, map}
use Rattle.http_header.specs.HeaderMap.{keys}
use Rattle.life_core.specs.Fields.{entry_of}
use Rattle.life_core.proofs.fields.entries_of.Given as goal

abbrev pub invariant-loop-name : goal.invariant-loop-name
invariant-loop-name l = l.entries.items ++ map (entry_of l.headers) l.name-iterator ≡ map (entry_of l.headers) (keys l.headers)
