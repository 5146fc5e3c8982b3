use Rattle.std.proofs.Common.{◌≡◌, ◌≤◌, ◌++◌, List, length}
use Rattle.std.specs.List.{All, AllZip}
use Rattle.std.specs.Vec.Iter.{into_iter_items, into_iter_len}
use Rattle.life_session.specs.Session.{May, IsStoryOf}
use Rattle.life_session.specs.declared.exchange.Exchange.{Exchange}
use Rattle.life_session.proofs.exchange.exchanges.finish_exchanges.Given as goal

abbrev pub invariant-loop-exchange : goal.invariant-loop-exchange
invariant-loop-exchange g l = record {
  may : All (May g.D.Driven.meaning) (into_iter_items l.rest);
  count : into_iter_len l.rest ≡ length (into_iter_items l.rest);
  room : length (into_iter_items l.rest) ≤ l.told.spare;
  told : (es : List (Exchange _ _)) × (into_iter_items l.initial.rest ≡ es ++ into_iter_items l.rest) × AllZip (IsStoryOf g.D.Driven.meaning l.end) es l.told.items;
}

abbrev pub decreases-loop-exchange : goal.decreases-loop-exchange
decreases-loop-exchange g l = into_iter_len l.rest
