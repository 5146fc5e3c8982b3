-- The lines that a run writes where it gives no report.
use Rattle.std.specs.Prelude.{ℕ, List, [], ◌++◌, codes, decimal}
use Rattle.life_script.specs.declared.error.DriveError.{DriveError}
use Rattle.life_script.specs.declared.error.DriveError.TheVariants.{TooManyHeaders, ClockBack, NoRequest, NoMemory}

-- where the words are no command
abbrev pub usage_line : List ℕ
usage_line = codes "usage: drive\n"

-- where the source gives more than is read
abbrev pub too_long_line : List ℕ
too_long_line = codes "input over 16777216 bytes\n"

-- where the bytes are no scenario
abbrev pub bad_scenario_line : List ℕ
bad_scenario_line = codes "bad scenario\n"

-- a line that names a refusal: why, and the number of what is refused
abbrev pub refused_at : List ℕ → ℕ → List ℕ
refused_at why number = codes "refused: " ++ (why ++ (codes " " ++ (decimal number ++ codes "\n")))

-- the line that names a refusal; want of memory is none
abbrev pub refused_line : DriveError → List ℕ
refused_line (TooManyHeaders request) = codes "refused: too many headers in request " ++ decimal request ++ codes "\n"
refused_line (ClockBack step) = codes "refused: clock back at step " ++ decimal step ++ codes "\n"
refused_line (NoRequest step) = codes "refused: no request at step " ++ decimal step ++ codes "\n"
refused_line NoMemory = []
