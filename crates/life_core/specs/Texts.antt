-- The texts of latencies, levels and faults.
use Rattle.std.specs.Prelude.{ℕ, zero, suc, ◌+◌, ◌/◌, ◌%◌, List, [], ◌∷◌, ◌++◌, ◌==◌, if◌then◌else◌, codes, decimal, Option, Some}
use Rattle.life_core.specs.declared.body.BodyError.{BodyError}
use Rattle.life_core.specs.declared.body.BodyError.TheVariants.{Elapsed, LengthLimit, Inner}
use Rattle.life_core.specs.declared.event.Level.{Level}
use Rattle.life_core.specs.declared.event.Level.TheVariants.{Error, Warn, Info, Debug, Trace}
use Rattle.life_core.specs.declared.latency.Latency.{Latency}
use Rattle.life_core.specs.declared.latency.LatencyUnit.{LatencyUnit}
use Rattle.life_core.specs.declared.latency.LatencyUnit.TheVariants.{Seconds, Millis, Micros, Nanos}

-- the last decimal digits of a number, so many of them, with zeros in front where the number has fewer
abbrev pub last_digits : ℕ → ℕ → List ℕ
last_digits zero number = []
last_digits (suc width) number = last_digits width (number / 10) ++ (48 + number % 10) ∷ []

-- the same digits without the zeros at their end
unfoldable pub trimmed_digits : ℕ → ℕ → List ℕ
trimmed_digits zero number = []
trimmed_digits (suc width) number = if number % 10 == 0 then trimmed_digits width (number / 10) else last_digits (suc width) number

-- what is over whole seconds: a point and its nine digits without the zeros at their end, or nothing where nothing is over
abbrev pub fraction_text : ℕ → List ℕ
fraction_text nanos = let over = nanos % 1000000000 in if over == 0 then [] else codes "." ++ trimmed_digits 9 over

-- so many nanoseconds in a unit, rounded down but for seconds; the small Greek mu, U+03BC, is two bytes
abbrev pub shown_in : LatencyUnit → ℕ → List ℕ
shown_in Seconds nanos = decimal (nanos / 1000000000) ++ fraction_text nanos ++ codes " s"
shown_in Millis nanos = decimal (nanos / 1000000) ++ codes " ms"
shown_in Micros nanos = decimal (nanos / 1000) ++ codes " " ++ 0xCE ∷ 0xBC ∷ codes "s"
shown_in Nanos nanos = decimal nanos ++ codes " ns"

-- the text of a latency, in its unit
abbrev pub latency_text : Latency → List ℕ
latency_text latency = shown_in latency.unit latency.nanos

-- a level's name
abbrev pub level_name : Level → List ℕ
level_name Error = codes "ERROR"
level_name Warn = codes "WARN"
level_name Info = codes "INFO"
level_name Debug = codes "DEBUG"
level_name Trace = codes "TRACE"

-- the text of a fault, where that of the wrapped body's is known
abbrev pub body_error_text : {E : Type 0} → (E → Option (List ℕ)) → BodyError E → Option (List ℕ)
body_error_text text Elapsed = Some (codes "data was not received within the designated timeout")
body_error_text text LengthLimit = Some (codes "length limit exceeded")
body_error_text text (Inner fault) = text fault
