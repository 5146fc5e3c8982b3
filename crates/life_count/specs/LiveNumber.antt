-- How the live number of a meter moves with the requests that count.
use Rattle.std.specs.Prelude.{◌≡◌, ℕ, ◌+◌, Bool, true, false, Result, Ok, Err}
use Rattle.life_core.specs.Calls.{Steps, Abandons, Calls, Reply}
use Rattle.life_core.specs.History.{NumbersStay}
use Rattle.life_core.specs.Moment.{Moment}
use Rattle.life_core.specs.Recorded.{Counted, Recorded}
use Rattle.life_core.specs.declared.poll.Poll.TheVariants.{Ready, Pending}
use Rattle.life_core.specs.declared.recorder.NoMemory.{NoMemory}
use Rattle.life_count.specs.declared.in_flight_requests.body.ResponseBody.{ResponseBody}
use Rattle.life_count.specs.declared.in_flight_requests.future.ResponseFuture.{ResponseFuture}

-- how many requests count by such a mark
abbrev pub weight : Bool → ℕ
weight true = 1
weight false = 0

-- how many requests count by a future
abbrev pub future_weight : {F : Type 0} → ResponseFuture F → ℕ
future_weight f = weight f.counted

-- how many requests count by a body
abbrev pub body_weight : {B : Type 0} → ResponseBody B → ℕ
body_weight b = weight b.counted

-- how many requests count by what a call gave
abbrev pub made_weight : {F : Type 0} → Result (ResponseFuture F) NoMemory → ℕ
made_weight (Ok f) = future_weight f
made_weight (Err e) = 0

-- how many requests count by the body of the response that was answered, if one was
abbrev pub response_weight : {B X E : Type 0} → Reply (ResponseBody B) X E → ℕ
response_weight (Ok (Ready (Ok r))) = body_weight r.body
response_weight (Ok (Ready (Err e))) = 0
response_weight (Ok Pending) = 0
response_weight (Err e) = 0

-- a requests counted before a call and b count after it: the live number moved with them; its cap and the others stay
pub record Moves (a b : ℕ) (was now : Counted) : Type 0 where
  pub live : now.live + a ≡ was.live + b
  pub cap : now.cap ≡ was.cap
  pub others : now.others ≡ was.others

-- a recorder's numbers stay in each such call, whatever it answers
abbrev pub CountsNothing : {S A : Type 0} → Steps S A → Type 0
CountsNothing {S = S} {A = A} steps = (s : S) (was : Recorded) (m : Moment) (answer : A) (new : S) (now : Recorded) →
    steps s was m answer new now → NumbersStay was now

-- the same of a call with a request
abbrev pub CallsCountNothing : {S R F : Type 0} → Calls S R F → Type 0
CallsCountNothing {S = S} {R = R} {F = F} calls = (s : S) (req : R) (was : Recorded) (m : Moment) (made : Result F NoMemory) (new : S) (now : Recorded) →
    calls s req was m made new now → NumbersStay was now

-- the same of abandoning
abbrev pub AbandonsCountNothing : {S : Type 0} → Abandons S → Type 0
AbandonsCountNothing {S = S} abandons = (s : S) (was : Recorded) (m : Moment) (answer : Result Unit NoMemory) (now : Recorded) →
    abandons s was m answer now → NumbersStay was now
