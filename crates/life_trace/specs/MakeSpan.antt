-- What a span does that stands for the maker of spans.
use Rattle.std.specs.Prelude.{◌≡◌, IfOk}
use Rattle.life_core.specs.declared.span.Span.{Span}
use Rattle.life_trace.specs.Hooks.{MakesSpan}

-- it gives its twin, and stays
abbrev pub MakesTwin : {B X : Type 0} → MakesSpan Span B X
MakesTwin old request answer new = IfOk answer (λ span. span ≡ old) × (new ≡ old)
