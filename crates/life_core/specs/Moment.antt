-- When a call is made, and what it leaves of its context.
use Rattle.std.specs.Prelude.{◌≡◌, ℕ, List, Option}
use base.Fml.{GName}
use Rattle.life_core.specs.declared.span.Span.{Span}
use Rattle.life_core.specs.declared.context.Cx.{Cx}

-- when a call is made, and in which span
pub record Moment : Type 0 where
  pub now : ℕ
  pub span : Option Span

-- when a call with this context is made
abbrev pub moment_of : {L : Type 0} → Cx L → Moment
moment_of cx = record { now = cx.now; span = cx.span.now }

-- the same time, in this span
abbrev pub in_span : Moment → Option Span → Moment
in_span m span = record { now = m.now; span = span }

-- the context is as it was, but for what stands behind its recorder
pub record SameContext {L : Type 0} (place_of : L → List GName) (old new : Cx L) : Type 0 where
  pub now : new.now ≡ old.now
  pub span : new.span ≡ old.span
  pub moment : moment_of new ≡ moment_of old
  pub recorder : new.rec.ghost_name ≡ old.rec.ghost_name
  pub place : place_of new.rec.now ≡ place_of old.rec.now
