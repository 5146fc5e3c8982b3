-- What `OnEarlyDropFuture` does: the inner answers; any of them completes its guard, and a response's body gets one.
use Rattle.std.specs.Prelude.{◌≡◌, ℕ, Bool, ◌⊎◌, Some, None, Result, Ok, Err, IsSomeAnd, if◌then◌else◌}
use Rattle.life_core.specs.Calls.{Polls, Abandons}
use Rattle.life_core.specs.Life.{life_begun}
use Rattle.life_core.specs.Moment.{Moment}
use Rattle.life_core.specs.Recorded.{Recorded}
use Rattle.life_core.specs.declared.message.Response.{Response}
use Rattle.life_core.specs.declared.message.ResponseHead.{ResponseHead}
use Rattle.life_core.specs.declared.poll.Poll.TheVariants.{Ready, Pending}
use Rattle.life_core.specs.declared.recorder.NoMemory.{NoMemory}
use Rattle.life_drop.specs.declared.on_early_drop.body.OnEarlyDropBody.{OnEarlyDropBody}
use Rattle.life_drop.specs.declared.on_early_drop.future.OnEarlyDropFuture.{OnEarlyDropFuture}
use Rattle.life_drop.specs.EarlyBody.{AbandonsThenFires}
use Rattle.life_drop.specs.Guard.{Drops, GuardMay, IsArmed, IsDisarmed, callback_of}

-- the inner future under a guard with this callback, and what its response's body will need
pub record IsWatched {F C H I Q : Type 0} (inner : F) (callback : C) (on_body_drop : H) (intermediate : I) (called : ℕ) (made : OnEarlyDropFuture F C H I Q) : Type 0 where
  pub inner_is : made.inner ≡ inner
  pub armed : IsArmed callback made.guard
  pub hook : made.on_body_drop ≡ on_body_drop
  pub begun : made.intermediate ≡ Some intermediate
  pub called_at : made.called ≡ called

-- the inner future, the guard's callback and the body's hook may be called
abbrev pub EarlyFutureMay : {F C H I Q : Type 0} → (F → Type 0) → (C → Type 0) → (H → Type 0) → OnEarlyDropFuture F C H I Q → Type 0
EarlyFutureMay may callback_may hook_may f = may f.inner × GuardMay callback_may f.guard × hook_may f.on_body_drop

-- the inner future may be polled, and the hook may be asked at the response
abbrev pub EarlyFutureLive : {F C H I Q : Type 0} → (F → Type 0) → (I → Type 0) → OnEarlyDropFuture F C H I Q → Type 0
EarlyFutureLive live may_respond f = live f.inner × IsSomeAnd f.intermediate may_respond

-- the inner future is abandoned, and then the guard fires
abbrev pub EarlyAbandons : {F C H I Q : Type 0} → Abandons F → Drops C → Abandons (OnEarlyDropFuture F C H I Q)
EarlyAbandons abandons drops f = AbandonsThenFires abandons drops f.inner f.guard

-- what a body hook does at the response
abbrev pub MakesAtResponse : Type 0 → Type 0 → Type 0 → Type 0 → Type 1
MakesAtResponse H I X C = H → I → ResponseHead X → Result C NoMemory → H → Type 0

module _ {F C H I Q K B X E : Type 0} (polls : Polls F (Result (Response B X) E)) (responds : MakesAtResponse H I X K)
    (ends : B → Bool) (abandons : Abandons B) where
  -- the watch of the future is over, and the hook is asked for the body's callback
  pub record Asks (old : OnEarlyDropFuture F C H I Q) (head : ResponseHead X) (made : Result K NoMemory)
      (new : OnEarlyDropFuture F C H I Q) : Type 0 where
    pub guard : IsDisarmed new.guard
    pub taken : new.intermediate ≡ None
    pub hook : IsSomeAnd old.intermediate (λ i. responds old.on_body_drop i head made new.on_body_drop)

  -- the inner response, its body under a guard with the hook's callback, or with none where the body is at its end; its life
  -- begins
  pub record Gives (old : OnEarlyDropFuture F C H I Q) (was : Recorded) (m : Moment) (r : Response (OnEarlyDropBody B K) X)
      (new : OnEarlyDropFuture F C H I Q) (now : Recorded) : Type 0 where
    pub inner : polls old.inner was m (Ok (Ready (Ok (record { head = r.head; body = r.body.inner })))) new.inner now
    pub callback : (made : K) × Asks old r.head (Ok made) new
        × (callback_of r.body.guard ≡ (if ends r.body.inner then None else Some made))
    pub life : r.body.life ≡ life_begun old.called m.now (ends r.body.inner)

  -- the hook finds no memory: the body is abandoned
  pub record Refuses (old : OnEarlyDropFuture F C H I Q) (was : Recorded) (m : Moment) (e : NoMemory)
      (new : OnEarlyDropFuture F C H I Q) (now : Recorded) : Type 0 where
    pub response : Response B X
    pub between : Recorded
    pub abandoned : Result Unit NoMemory
    pub inner : polls old.inner was m (Ok (Ready (Ok response))) new.inner between
    pub asks : Asks old response.head (Err e) new
    pub abandoning : abandons response.body between m abandoned now

  -- the inner answer; one that is not pending completes the guard, and a response's body gets its own
  abbrev pub EarlyPolls : Polls (OnEarlyDropFuture F C H I Q) (Result (Response (OnEarlyDropBody B K) X) E)
  EarlyPolls old was m (Ok Pending) new now =
      polls old.inner was m (Ok Pending) new.inner now × (new ≡ record old { inner = new.inner })
  EarlyPolls old was m (Ok (Ready (Err e))) new now =
      polls old.inner was m (Ok (Ready (Err e))) new.inner now
      × (new ≡ record old { inner = new.inner; guard = record { callback = None } })
  EarlyPolls old was m (Ok (Ready (Ok r))) new now = Gives old was m r new now
  EarlyPolls old was m (Err e) new now =
      (polls old.inner was m (Err e) new.inner now × (new ≡ record old { inner = new.inner })) ⊎ Refuses old was m e new now
