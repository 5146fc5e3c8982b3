use Rattle.std.specs.List.{All}
use Rattle.std.specs.Vec.Iter.{into_iter_items, into_iter_len}
use Rattle.life_session.specs.Session.{May}
use Rattle.life_session.proofs.exchange.exchanges.abandon_all.Given as goal

abbrev pub invariant-loop-exchange : goal.invariant-loop-exchange
invariant-loop-exchange g l = All (May g.D.Driven.meaning) (into_iter_items l.rest)

abbrev pub decreases-loop-exchange : goal.decreases-loop-exchange
decreases-loop-exchange g l = into_iter_len l.rest
