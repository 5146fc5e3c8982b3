use Rattle.std.proofs.Common.{◌↔◌}
use Rattle.std.specs.Prelude.{Any}
use Rattle.life_gate.specs.Accepting.{accepted, Offers}
use Rattle.life_gate.proofs.media.accepting.some_offers.Given as goal

-- what offers the media type is among the values to come
abbrev pub invariant-loop-value : goal.invariant-loop-value
invariant-loop-value l = Any (Offers l.wanted) (accepted l.headers) ↔ Any (Offers l.wanted) l.value-iterator
