use Rattle.life_session.proofs.PlaceLaws.{each_after_first, first_of_each}
use Rattle.life_session.specs.Session.{May}
use Rattle.life_session.proofs.exchange.exchanges.abandon_all.Goals as goal

pub loop-exchange-preserved : goal.loop-exchange-preserved
loop-exchange-preserved g c = each_after_first (May g.D.Driven.meaning) _ _ _ c.in-Some.ensures.items c.loop-exchange.invariant

pub abandon_at-requires : goal.abandon_at-requires
abandon_at-requires g c = first_of_each (May g.D.Driven.meaning) _ _ _ c.in-Some.ensures.items c.loop-exchange.invariant
