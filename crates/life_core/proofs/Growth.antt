-- What a recorder grew by.
use Rattle.std.proofs.Common.{◌≡◌, List, [], ◌∷◌, ◌++◌, Ok, sym, ap, ◌∙◌, arith, append_assoc, append-nil, length-append}
use Rattle.life_core.specs.Recorded.{Notes, Recorded}
use Rattle.life_core.specs.declared.event.Event.{Event}
use Rattle.life_core.specs.History.{Adds}

pub adds_none : (was now : Recorded) → now ≡ was → Adds was now []
adds_none was now e = record { grew = record { log = ap (λ r. r.log) e ∙ sym (append-nil was.log); spare = omega (arith, ap (λ r. r.spare) e) }; numbers = ap (λ r. r.rest) e }

pub adds_one : (was now : Recorded) (e : Event) → Notes was e (Ok tt) now → Adds was now (e ∷ [])
adds_one was now e n = record { grew = record { log = n.0; spare = n.1 }; numbers = n.2 }

pub adds_then : (was mid now : Recorded) (es fs : List Event) → Adds was mid es → Adds mid now fs → Adds was now (es ++ fs)
adds_then was mid now es fs a b = record {
  grew = record {
    log = b.grew.log ∙ ap (λ l. l ++ fs) a.grew.log ∙ append_assoc was.log es fs;
    spare = rw length-append (omega (arith, a.grew.spare, b.grew.spare));
  };
  numbers = b.numbers ∙ a.numbers;
}
