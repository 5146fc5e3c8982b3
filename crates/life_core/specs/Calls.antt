-- The forms of what calls mean, and what calls inward have in common.
use Rattle.std.specs.Prelude.{◌≡◌, Option, Some, None, Result, Ok, Err, ⊤}
use Rattle.http_body.specs.declared.frame.Frame.{Frame}
use Rattle.life_core.specs.declared.message.Response.{Response}
use Rattle.life_core.specs.declared.body.BodyError.{BodyError}
use Rattle.life_core.specs.declared.body.BodyError.TheVariants.{Elapsed, LengthLimit, Inner}
use Rattle.life_core.specs.declared.poll.Poll.{Poll}
use Rattle.life_core.specs.declared.poll.Poll.TheVariants.{Ready, Pending}
use Rattle.life_core.specs.declared.recorder.NoMemory.{NoMemory}
use Rattle.life_core.specs.Moment.{Moment}
use Rattle.life_core.specs.Recorded.{Recorded}

-- State and recorder before, when, the answer, state and recorder after.
abbrev pub Steps : Type 0 → Type 0 → Type 1
Steps S A = S → Recorded → Moment → A → S → Recorded → Type 0

-- a poll of a future
abbrev pub Polls : Type 0 → Type 0 → Type 1
Polls F A = Steps F (Result (Poll A) NoMemory)

-- the answer of a body's poll: a frame or a fault, the end, or nothing yet; or want of memory
abbrev pub Answer : Type 0 → Type 0 → Type 0
Answer D E = Result (Poll (Option (Result (Frame D) E))) NoMemory

-- a poll of a body for its next frame
abbrev pub Frames : Type 0 → Type 0 → Type 0 → Type 1
Frames B D E = Steps B (Answer D E)

-- a poll for a service's readiness
abbrev pub Readies : Type 0 → Type 0 → Type 1
Readies S E = Steps S (Poll (Result Unit E))

-- a service passes readiness on: the inner answer, and its own parts stay
pub record Forwards {S I E : Type 0} (inner : S → I) (with_inner : S → I → S) (readies : Readies I E) (old : S) (was : Recorded) (m : Moment)
    (answer : Poll (Result Unit E)) (new : S) (now : Recorded) : Type 0 where
  pub forwarded : readies (inner old) was m answer (inner new) now
  pub same : new ≡ with_inner old (inner new)

-- the same with a request
abbrev pub Calls : Type 0 → Type 0 → Type 0 → Type 1
Calls S R F = S → R → Recorded → Moment → Result F NoMemory → S → Recorded → Type 0

-- the inner call, and a future that stands so over what it gave
abbrev pub CallsOver : {S R F G : Type 0} → Calls S R F → (F → G → Type 0) → Calls S R G
CallsOver {F = F} calls Over old req was m (Ok f) new now = (given : F) × calls old req was m (Ok given) new now × Over given f
CallsOver calls Over old req was m (Err e) new now = calls old req was m (Err e) new now

-- State and recorder before, when, the answer, the recorder after.
abbrev pub Abandons : Type 0 → Type 1
Abandons S = S → Recorded → Moment → Result Unit NoMemory → Recorded → Type 0

-- whether memory was there, whatever was answered
abbrev pub spent : {A : Type 0} → Result A NoMemory → Result Unit NoMemory
spent (Ok a) = Ok tt
spent (Err e) = Err e

-- it is abandoned, whatever that answers
abbrev pub Abandoned : {S : Type 0} → Abandons S → S → Recorded → Moment → Recorded → Type 0
Abandoned abandons s was m now = (answer : Result Unit NoMemory) × abandons s was m answer now

-- there is nothing to abandon, so it always succeeds and records nothing
abbrev pub NothingToAbandon : {S : Type 0} → Abandons S
NothingToAbandon old was m answer now = (answer ≡ Ok tt) × (now ≡ was)

-- what is there is abandoned
abbrev pub AbandonsIfAny : {F : Type 0} → Abandons F → Option F → Recorded → Moment → Result Unit NoMemory → Recorded → Type 0
AbandonsIfAny abandons None was m answer now = (answer ≡ Ok tt) × (now ≡ was)
AbandonsIfAny abandons (Some f) was m answer now = abandons f was m answer now

-- what is there is polled, and stays there
abbrev pub PollsWithin : {F A : Type 0} → Polls F A → Option F → Recorded → Moment → Result (Poll A) NoMemory → Option F → Recorded → Type 0
PollsWithin polls None was m answer new now = ⊥
PollsWithin polls (Some f) was m answer None now = ⊥
PollsWithin polls (Some f) was m answer (Some g) now = polls f was m answer g now

-- the inner body is polled, and its faults come as inner ones
abbrev pub WrapsFaults : {B D E : Type 0} → Frames B D E → B → Recorded → Moment → Answer D (BodyError E) → B → Recorded → Type 0
WrapsFaults frames old was m (Ok (Ready (Some (Ok f)))) new now = frames old was m (Ok (Ready (Some (Ok f)))) new now
WrapsFaults frames old was m (Ok (Ready (Some (Err Elapsed)))) new now = ⊥
WrapsFaults frames old was m (Ok (Ready (Some (Err LengthLimit)))) new now = ⊥
WrapsFaults frames old was m (Ok (Ready (Some (Err (Inner e))))) new now = frames old was m (Ok (Ready (Some (Err e)))) new now
WrapsFaults frames old was m (Ok (Ready None)) new now = frames old was m (Ok (Ready None)) new now
WrapsFaults frames old was m (Ok Pending) new now = frames old was m (Ok Pending) new now
WrapsFaults frames old was m (Err e) new now = frames old was m (Err e) new now

-- what a poll of a service's future answers
abbrev pub Reply : Type 0 → Type 0 → Type 0 → Type 0
Reply B X E = Result (Poll (Result (Response B X) E)) NoMemory

-- the answer with another body in the response
abbrev pub under : {B C X E : Type 0} → (C → B) → Reply C X E → Reply B X E
under f (Ok (Ready (Ok r))) = Ok (Ready (Ok (record { head = r.head; body = f r.body })))
under f (Ok (Ready (Err e))) = Ok (Ready (Err e))
under f (Ok Pending) = Ok Pending
under f (Err e) = Err e

-- a fact of the response, where one is answered
abbrev pub OnResponse : {B X E : Type 0} → Reply B X E → (Response B X → Type 0) → Type 0
OnResponse (Ok (Ready (Ok r))) P = P r
OnResponse (Ok (Ready (Err e))) P = ⊤
OnResponse (Ok Pending) P = ⊤
OnResponse (Err e) P = ⊤
