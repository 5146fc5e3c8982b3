use Rattle.std.proofs.Common.{◌≡◌, take}
use Rattle.life_core.proofs.span.PairsTwin.twin.Given as goal

abbrev pub invariant-loop-key : goal.invariant-loop-key
invariant-loop-key l = l.items.items ≡ take l.key-index l.key-items
