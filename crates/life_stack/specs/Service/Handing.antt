-- What was handed by an answer of a body.
use Rattle.std.specs.Prelude.{◌≡◌, List, ℕ, Option, Some, None, Result, Ok, Err}
use Rattle.http_body.specs.declared.frame.Frame.{Frame}
use Rattle.life_core.specs.declared.body.BodyError.{BodyError}
use Rattle.life_core.specs.declared.body.BodyError.TheVariants as fault
use Rattle.life_core.specs.declared.event.Handed.{Handed}
use Rattle.life_core.specs.declared.event.Handed.TheVariants as handed
use Rattle.life_core.specs.declared.poll.Poll.{Poll}
use Rattle.life_core.specs.declared.poll.Poll.TheVariants.{Ready, Pending}
use Rattle.life_script.specs.declared.answer.Seen.{Seen}
use Rattle.life_script.specs.declared.answer.Seen.TheVariants as seen
use Rattle.life_session.specs.Table.{Shows}

-- what is seen, as handed
abbrev pub handed_seen : Seen → Handed
handed_seen (seen.Chunk bytes) = handed.Chunk bytes
handed_seen (seen.Trailers shown) = handed.Trailers shown

-- a fault, as handed
abbrev pub fault_handed : BodyError (List ℕ) → Handed
fault_handed fault.Elapsed = handed.Elapsed
fault_handed fault.LengthLimit = handed.LengthLimit
fault_handed (fault.Inner text) = handed.Inner text

-- this is handed for this answer of a body
abbrev pub IsHandedAs : Poll (Option (Result (Frame (List ℕ)) (BodyError (List ℕ)))) → Handed → Type 0
IsHandedAs Pending got = got ≡ handed.Pending
IsHandedAs (Ready None) got = got ≡ handed.End
IsHandedAs (Ready (Some (Ok f))) got = (s : Seen) → Shows s f → got ≡ handed_seen s
IsHandedAs (Ready (Some (Err e))) got = got ≡ fault_handed e
