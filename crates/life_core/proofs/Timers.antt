-- A timer that is due stays due.
use Rattle.std.proofs.Common.{◌≡◌, ℕ, ◌-◌, ◌≤◌, true, false, true≢false, sym, ◌∙◌, arith, ⊎_elim}
use Rattle.std.proofs.lemmas.Bool.{and_parts, and_from, leb-true, le-leb, cases_Bool}
use Rattle.life_core.specs.Timer.{due}

pub due_later : (start length earlier later : ℕ) → earlier ≤ later → due start length earlier ≡ true → due start length later ≡ true
due_later start length earlier later order is = let parts = and_parts _ _ is in
    let begun = leb-true start earlier parts.0 in let over = leb-true length (earlier - start) parts.1 in
    and_from _ _ (le-leb start later (omega (arith, begun))) (le-leb length (later - start) (omega (arith, begun, over)))

pub undue_before : (start length earlier later : ℕ) → earlier ≤ later → due start length later ≡ false → due start length earlier ≡ false
undue_before start length earlier later order not_due =
    ⊎_elim (λ (is : due start length earlier ≡ true). absurd (true≢false (sym (due_later start length earlier later order is) ∙ not_due))) (λ (is : due start length earlier ≡ false). is)
    (cases_Bool (due start length earlier))
