-- A deadline that is over stays over, however the body is polled.
use Rattle.std.proofs.Common.{◌≡◌, ℕ, ◌≤◌, Bool, true, false, List, [], ◌∷◌, refl, ap, ◌∙◌, subst, sym}
use Rattle.std.specs.List.{All}
use Rattle.std.proofs.lemmas.List.Elements.{All-nil, All-cons}
use Rattle.life_core.specs.Calls.{Frames, Answer}
use Rattle.life_core.specs.FramePolls.{FramePoll, PolledFrom}
use Rattle.life_core.specs.Moment.{Moment}
use Rattle.life_core.specs.Recorded.{Recorded}
use Rattle.life_core.specs.Timer.{due}
use Rattle.life_core.specs.declared.body.BodyError.{BodyError}
use Rattle.life_core.specs.declared.clock.Timer.{Timer}
use Rattle.life_core.proofs.Timers.{due_later}
use Rattle.life_time.specs.DeadlineBody.{DeadlineFrames, IsElapsed, StaysElapsed}
use Rattle.life_time.specs.declared.timeout.deadline_body.DeadlineBody.{DeadlineBody}

module _ {B D E : Type 0} (frames : Frames B D E) where
  abbrev is_due : DeadlineBody B → ℕ → Bool
  is_due b now = due b.timer.start b.timer.length now

  abbrev Polled : DeadlineBody B → Recorded → Moment → Answer D (BodyError E) → DeadlineBody B → Recorded → Type 0
  Polled = DeadlineFrames {D = D} frames

  -- a poll keeps the timer
  keeps_timer : (b : DeadlineBody B) (was : Recorded) (m : Moment) (a : Answer D (BodyError E)) (new : DeadlineBody B) (now : Recorded) → Polled b was m a new now → new.timer ≡ b.timer
  keeps_timer b was m a new now d = by_test (is_due b m.now) refl
    where
      by_test : (x : Bool) → is_due b m.now ≡ x → new.timer ≡ b.timer
      by_test true e = ap (λ b. b.timer) (d.on_due e).same
      by_test false e = ap (λ b. b.timer) (d.in_time e).same

  still_due : (time : ℕ) (timer later : Timer) → later ≡ timer → due timer.start timer.length time ≡ true → due later.start later.length time ≡ true
  still_due time timer later same is = ap (λ (x : Timer). due x.start x.length time) same ∙ is

  abbrev Says : ℕ → FramePoll (DeadlineBody B) D (BodyError E) → Type 0
  Says time p = time ≤ p.moment.now → IsElapsed p.answer

  -- whoever is due answers so at every later poll
  pub due_stays : (time : ℕ) (b : DeadlineBody B) (polls : List (FramePoll (DeadlineBody B) D (BodyError E))) → is_due b time ≡ true → PolledFrom Polled b polls →
      All (Says time) polls
  due_stays time b [] is polled = All-nil (Says time)
  due_stays time b (p ∷ polls) is polled =
      All-cons (Says time) p polls (λ later. (polled.0.on_due (due_later b.timer.start b.timer.length time p.moment.now later is)).answer_is)
      (due_stays time p.after polls (still_due time b.timer p.after.timer (keeps_timer b p.was p.moment p.answer p.after p.now polled.0) is) polled.1)

  -- a body that told so was due, since no inner fault is told so
  pub told_due : (b : DeadlineBody B) (was : Recorded) (m : Moment) (a : Answer D (BodyError E)) (new : DeadlineBody B) (now : Recorded) →
      Polled b was m a new now → IsElapsed a → StaysElapsed Polled m.now new
  told_due b was m a new now d told polls polled = due_stays m.now new polls (still_due m.now b.timer new.timer (keeps_timer b was m a new now d) (by_test (is_due b m.now) refl)) polled
    where
      by_test : (x : Bool) → is_due b m.now ≡ x → is_due b m.now ≡ true
      by_test true e = e
      by_test false e = absurd (subst (λ a. Polled b was m a new now → ⊥) (sym told) (λ d. (d.in_time e).inner) d)
