use Rattle.std.proofs.Common.{take}
use Rattle.std.specs.List.{All, AllZip}
use Rattle.life_session.specs.Exchange.{IsFresh}
use Rattle.life_session.specs.Session.{May}
use Rattle.life_session.proofs.exchange.exchanges.begin_all.Given as goal

abbrev pub invariant-loop-count : goal.invariant-loop-count
invariant-loop-count g l = record {
  may : All (May g.D.Driven.meaning) l.exchanges.items;
  fresh : AllZip IsFresh (take l.count-index l.counts) l.exchanges.items;
}
