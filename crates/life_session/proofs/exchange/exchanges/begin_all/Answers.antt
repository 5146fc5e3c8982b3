use Rattle.std.proofs.Common.{subst, sym}
use Rattle.life_session.specs.Exchange.{IsFresh, MayGoOn}
use Rattle.life_session.specs.Session.{May}
use Rattle.life_session.proofs.PlaceLaws.{each_push, zip_next}
use Rattle.life_session.proofs.exchange.exchanges.begin_all.Goals as goal

pub loop-count-preserved : goal.loop-count-preserved
loop-count-preserved g c = record {
  may = each_push (May g.D.Driven.meaning) _ _ _ c.in_default.ensures.items c.loop-count.invariant.may (subst (λ l. MayGoOn g.D.Driven.meaning l) (sym c.in-Ok.ensures.fresh.live_is) tt);
  fresh = zip_next IsFresh c.args.counts.now _ _ c.loop-count.count-index _ c.in-Ok.exchange c.loop-count-test.true c.in_default.ensures.items c.loop-count.invariant.fresh c.in-Ok.ensures.fresh;
}
