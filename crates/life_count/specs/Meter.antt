-- What a meter counts, and what its calls do.
use Rattle.std.specs.Prelude.{◌≡◌, ◌≢◌, ◌==◌, ℕ, ◌+◌, ◌-◌, Bool, true, false, Result, Ok, Err, List, []}
use Rattle.life_core.specs.Recorded.{Counted, Recorded}
use Rattle.life_core.specs.declared.event.Event.{Event}
use Rattle.life_count.specs.declared.meter.Full.{Full}

-- what a recorder has beside the numbers of its meter
pub record Aside : Type 0 where
  pub log : List Event
  pub spare : ℕ

-- no events and no room, of a meter that records nothing
abbrev pub nothing_aside : Aside
nothing_aside = record { log = []; spare = 0 }

-- what a recorder is seen as that has these beside these numbers
abbrev pub with_counts : Aside → Counted → Recorded
with_counts aside counts = record { log = aside.log; spare = aside.spare; rest = counts }

-- nothing is live, with this cap and no others
abbrev pub none_live : ℕ → Counted
none_live cap = record { live = 0; cap = cap; others = 0 }

-- as many requests are live as may be
abbrev pub is_full : Counted → Bool
is_full counts = counts.live == counts.cap

-- one more request is live
abbrev pub one_more : Counted → Counted
one_more counts = record counts { live = counts.live + 1 }

-- one request less is live
abbrev pub one_less : Counted → Counted
one_less counts = record counts { live = counts.live - 1 }

-- refused exactly where it is full, and then nothing changes; else one more request is live
abbrev pub Enters : Counted → Result Unit Full → Counted → Type 0
Enters old (Ok u) new = (old.live ≢ old.cap) × (new ≡ one_more old)
Enters old (Err e) new = (old.live ≡ old.cap) × (new ≡ old)

-- refused exactly where none is live, and then nothing changes; else one request less is live
abbrev pub Leaves : Counted → Bool → Counted → Type 0
Leaves old true new = (old.live ≢ 0) × (new ≡ one_less old)
Leaves old false new = (old.live ≡ 0) × (new ≡ old)
