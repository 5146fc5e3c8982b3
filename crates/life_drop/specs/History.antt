-- Where the values of this layer stand after some polls, and what their histories are.
use Rattle.std.specs.Prelude.{◌≡◌, ℕ, List, [], ◌∷◌, ◌++◌, Bool, true, false, ◌||◌, if◌then◌else◌, Option, Some, None, ⊤}
use Rattle.life_core.specs.History.{BodyHistory, said_under, FutureHistory, Where, Waiting, Answered}
use Rattle.life_core.specs.declared.event.Event.{Event}
use Rattle.life_drop.specs.declared.on_early_drop.body.OnEarlyDropBody.{OnEarlyDropBody}
use Rattle.life_drop.specs.declared.on_early_drop.future.OnEarlyDropFuture.{OnEarlyDropFuture}
use Rattle.life_drop.specs.EarlyBody.{is_ending_frame}
use Rattle.life_drop.specs.Guard.{callback_of}

-- the guard of a future holds this callback until the answer
abbrev pub future_guard : {C : Type 0} → C → Where → Option C
future_guard callback (Waiting past) = Some callback
future_guard callback Answered = None

-- the hook's intermediate is kept until the answer
abbrev pub BegunIs : {I : Type 0} → I → Option I → Where → Type 0
BegunIs begun kept (Waiting past) = kept ≡ Some begun
BegunIs begun kept Answered = ⊤

-- a future with this callback and this intermediate
pub record DropStands {F C H I Q : Type 0} (callback : C) (begun : I) (Stands : F → Where → Type 0) (f : OnEarlyDropFuture F C H I Q) (w : Where) : Type 0 where
  pub guard_is : callback_of f.guard ≡ future_guard callback w
  pub begun_is : BegunIs begun f.intermediate w
  pub inner : Stands f.inner w

-- the inner answers; abandoning it records what the callback tells, too. The plan of a body keeps its response's head
abbrev pub drop_history : {H P X : Type 0} → (ℕ → List Event) → FutureHistory H P X → FutureHistory H (H × P) X
drop_history fired h = record {
  says = λ past t. said_under (λ head p. (head, p)) (h.says past t);
  events = h.events;
  abandoned = λ past t. h.abandoned past t ++ fired t;
}

-- whether an answer so far was an ending one
abbrev pub ended : {D E : Type 0} → BodyHistory D E → List ℕ → Bool
ended h [] = h.ends []
ended h (q ∷ past) = ended h past || is_ending_frame (h.frame past q) (h.ends (q ∷ past))

-- a body that is done, and whose guard holds no callback, once an ending answer came
pub record DropBodyStands {G P B C D E : Type 0} (callback : G → C) (h : P → BodyHistory D E) (Stands : P → B → List ℕ → Type 0) (p : G × P) (b : OnEarlyDropBody B C) (past : List ℕ) : Type 0 where
  pub guard_is : callback_of b.guard ≡ (if ended (h p.1) past then None else Some (callback p.0))
  pub done_is : b.life.done ≡ ended (h p.1) past
  pub inner : Stands p.1 b.inner past

-- nothing where an ending answer came
abbrev pub unless_ended : Bool → List Event → List Event
unless_ended true es = []
unless_ended false es = es

-- the inner answers; abandoning it records what the callback tells, too, where no ending answer came
abbrev pub drop_body_history : {G P D E : Type 0} → (G → ℕ → List Event) → (P → BodyHistory D E) → G × P → BodyHistory D E
drop_body_history fired h p = record {
  frame = (h p.1).frame;
  events = (h p.1).events;
  ends = (h p.1).ends;
  abandoned = λ past q. (h p.1).abandoned past q ++ unless_ended (ended (h p.1) past) (fired p.0 q);
}
