-- What `OnEarlyDropService` does: it asks both hooks and then calls the inner service.
use Rattle.std.specs.Prelude.{◌≡◌, ◌⊎◌, Result, Ok, Err, IsSomeAnd}
use Rattle.std.specs.Borrow.{Lends, MutBor, Fml}
use denote.RattleType.{RattleType}
use Rattle.life_core.specs.Calls.{Abandons, Calls, Abandoned}
use Rattle.life_core.specs.Moment.{Moment}
use Rattle.life_core.specs.Recorded.{Recorded}
use Rattle.life_core.specs.declared.message.Request.{Request}
use Rattle.life_core.specs.declared.recorder.NoMemory.{NoMemory}
use Rattle.life_drop.specs.declared.on_early_drop.future.OnEarlyDropFuture.{OnEarlyDropFuture}
use Rattle.life_drop.specs.declared.on_early_drop.layer.OnEarlyDropLayer.{OnEarlyDropLayer}
use Rattle.life_drop.specs.declared.on_early_drop.service.OnEarlyDropService.{OnEarlyDropService}
use Rattle.life_drop.specs.Guard.{callback_of}
use Rattle.life_drop.specs.contracts.on_early_drop.service.OnEarlyDropService.{the_row}

-- the service with these hooks
abbrev pub early_service : {S A H : Type 0} → S → A → H → OnEarlyDropService S A H
early_service inner on_future_drop on_body_drop = record { inner = inner; on_future_drop = on_future_drop; on_body_drop = on_body_drop }

-- the layer with these hooks
abbrev pub early_layer : {A H : Type 0} → A → H → OnEarlyDropLayer A H
early_layer on_future_drop on_body_drop = record { on_future_drop = on_future_drop; on_body_drop = on_body_drop }

-- it is the service with these hooks
abbrev pub IsEarlyDropService : {S A H : Type 0} → S → A → H → OnEarlyDropService S A H → Type 0
IsEarlyDropService inner on_future_drop on_body_drop made = made ≡ early_service inner on_future_drop on_body_drop

-- once the borrow r ends, the service has the inner one that was left
abbrev pub LendsEarlyInner : (S A H : RattleType) → MutBor (OnEarlyDropService S.Denot A.Denot H.Denot) → MutBor S.Denot → Fml
LendsEarlyInner S A H s r = Lends (the_row S A H) S s r (λ w. record s.now { inner = w })

-- the inner service and both hooks may be called
abbrev pub EarlyMay : {S A H : Type 0} → (S → Type 0) → (A → Type 0) → (H → Type 0) → OnEarlyDropService S A H → Type 0
EarlyMay may future_may body_may s = may s.inner × future_may s.on_future_drop × body_may s.on_body_drop

-- what a hook does at the call
abbrev pub MakesAtCall : Type 0 → Type 0 → Type 0 → Type 0 → Type 1
MakesAtCall H B X C = H → Request B X → Moment → Result C NoMemory → H → Type 0

module _ {S A H B X F K I : Type 0} (calls : Calls S (Request B X) F) (makes : MakesAtCall A B X K) (starts : MakesAtCall H B X I)
    (abandons : Abandons B) where
  -- both hooks gave their part, in order, and then the inner service its future
  pub record EarlyCallGives (old : OnEarlyDropService S A H) (req : Request B X) (was : Recorded) (m : Moment)
      (f : OnEarlyDropFuture F K H I B) (new : OnEarlyDropService S A H) (now : Recorded) : Type 0 where
    pub inner : calls old.inner req was m (Ok f.inner) new.inner now
    pub future_hook : IsSomeAnd (callback_of f.guard) (λ k. makes old.on_future_drop req m (Ok k) new.on_future_drop)
    pub body_hook : IsSomeAnd f.intermediate (λ i. starts old.on_body_drop req m (Ok i) new.on_body_drop)
    pub kept : f.on_body_drop ≡ new.on_body_drop
    pub called : f.called ≡ m.now

  -- the future's hook finds no memory
  pub record FutureHookRefuses (old : OnEarlyDropService S A H) (req : Request B X) (was : Recorded) (m : Moment)
      (new : OnEarlyDropService S A H) (now : Recorded) : Type 0 where
    pub no_memory : NoMemory
    pub future_hook : makes old.on_future_drop req m (Err no_memory) new.on_future_drop
    pub same : new ≡ record old { on_future_drop = new.on_future_drop }
    pub abandoned : Abandoned abandons req.body was m now

  -- the body's hook, or its twin, finds no memory
  pub record BodyHookRefuses (old : OnEarlyDropService S A H) (req : Request B X) (was : Recorded) (m : Moment)
      (new : OnEarlyDropService S A H) (now : Recorded) : Type 0 where
    pub callback : K
    pub made : Result I NoMemory
    pub future_hook : makes old.on_future_drop req m (Ok callback) new.on_future_drop
    pub body_hook : starts old.on_body_drop req m made new.on_body_drop
    pub same : new.inner ≡ old.inner
    pub abandoned : Abandoned abandons req.body was m now

  -- the inner service finds no memory
  pub record EarlyInnerRefuses (old : OnEarlyDropService S A H) (req : Request B X) (was : Recorded) (m : Moment) (e : NoMemory)
      (new : OnEarlyDropService S A H) (now : Recorded) : Type 0 where
    pub callback : K
    pub intermediate : I
    pub future_hook : makes old.on_future_drop req m (Ok callback) new.on_future_drop
    pub body_hook : starts old.on_body_drop req m (Ok intermediate) new.on_body_drop
    pub inner : calls old.inner req was m (Err e) new.inner now

  -- the future's hook, the body's hook and the inner service, in this order; each may find no memory
  abbrev pub EarlyCalls : Calls (OnEarlyDropService S A H) (Request B X) (OnEarlyDropFuture F K H I B)
  EarlyCalls old req was m (Ok f) new now = EarlyCallGives old req was m f new now
  EarlyCalls old req was m (Err e) new now =
      FutureHookRefuses old req was m new now ⊎ BodyHookRefuses old req was m new now ⊎ EarlyInnerRefuses old req was m e new now
