-- The table's least indices, one poll further.
use lib.Dec.{leb-suc-suc}
use Rattle.std.proofs.Common.{◌≡◌, ℕ, zero, suc, ◌<◌, ◌≤◌, List, [], ◌∷◌, ◌++◌, length, Bool, true, false, Option, Some, None, refl, sym, ap, ◌∙◌, arith, ⊎_elim, le-ltb}
use Rattle.std.specs.Prelude.{slice_get, nat_lt, nat_le, if◌then◌else◌}
use Rattle.std.proofs.lemmas.Bool.{ltb-true, ltb-false, leb-false, lt-ltb, le-leb, lt-leb, cases_Bool}
use Rattle.life_core.specs.Timer.{due}
use Rattle.http_header.specs.FieldValue.{FieldValue}
use Rattle.life_stack.specs.Table.Request.{Numbered, ident}
use Rattle.life_script.specs.Reply.{ReplyView}
use Rattle.life_script.specs.declared.scenario.Limits.{Limits}
use Rattle.life_script.specs.declared.scenario.PollItem.{PollItem}
use Rattle.life_script.specs.declared.scenario.Then.{Then}
use Rattle.life_script.specs.declared.scenario.Then.TheVariants as then_
use Rattle.life_stack.specs.Table.Story.{Failed, Outcome, Replied, counted, decided_outcome, due_reply, earlier, first_due, first_outcome, first_answer, here_or_later, later, next, outcome_in, ready_outcome, replied}
use Rattle.life_stack.specs.Table.Decision.{Decision, TooLarge, Forbidden, Panicked, Served, decision, forbidden_reply, panic_reply, too_large_reply}
use Rattle.life_core.specs.History.{Said, Waits, Gives, Fails, said_with}
use Rattle.life_stack.specs.Stack.Driven.{named, service_says}
use Rattle.life_stack.specs.Service.History.{BodyPlan, Head, reply_says}
use Rattle.life_stack.specs.Service.Caught.{then_says, item_says, decided_says}

-- the first answer that a poll with this index and this answer makes
abbrev pub first_answer_of : ℕ → Said Head BodyPlan (List ℕ) → Option (ℕ × Outcome)
first_answer_of k Waits = None
first_answer_of k (Gives head p) = Some (k, Replied (record { status = head.0; headers = head.1; body = p.items; tells = p.tells }))
first_answer_of k (Fails error) = Some (k, Failed error)

if_none : Option ℕ → Option ℕ → Option ℕ
if_none None x = x
if_none (Some k) x = Some k

first_due-push : (start len : ℕ) (ps : List ℕ) (t : ℕ) → first_due start len (ps ++ t ∷ []) ≡ if_none (first_due start len ps) (if due start len t then Some (length ps) else None)
unfolding if_none
first_due-push start len [] t = refl
first_due-push start len (p ∷ ps) t = go (due start len p) (due start len t) (first_due start len ps) (first_due start len (ps ++ t ∷ [])) (first_due-push start len ps t)
  where
    go : (b c : Bool) (o n : Option ℕ) → n ≡ if_none o (if c then Some (length ps) else None) → (if b then Some 0 else next n) ≡ if_none (if b then Some 0 else next o) (if c then Some (suc (length ps)) else None)
    go true c o n e = refl
    go false true None n e = ap next e
    go false false None n e = ap next e
    go false c (Some k) n e = ap next e

some≢none : {A : Type 0} {x : A} → Some x ≡ None → ⊥
some≢none e = cc

first_due_below : (start len : ℕ) (ps : List ℕ) (k : ℕ) → first_due start len ps ≡ Some k → k < length ps
first_due_below start len [] k e = absurd (some≢none (sym e))
first_due_below start len (p ∷ ps) k e = go (due start len p) (first_due start len ps) (first_due_below start len ps) e
  where
    go : (b : Bool) (o : Option ℕ) → ((j : ℕ) → o ≡ Some j → j < length ps) → (if b then Some 0 else next o) ≡ Some k → k < suc (length ps)
    go true o h e' = let z : 0 ≡ k = cc in omega (arith, z)
    go false None h e' = absurd (some≢none (sym e'))
    go false (Some j) h e' = let z : suc j ≡ k = cc in omega (arith, z, h j refl)

counted_below : (n k : ℕ) (r : Outcome) → k < n → counted n (Some (k, r)) ≡ Some (k, r)
counted_below n k r l = rw (lt-ltb k n l)

counted_above : (n k : ℕ) (r : Outcome) → n ≤ k → counted n (Some (k, r)) ≡ None
counted_above n k r l = rw (le-ltb k n l)

-- where it counts, or does not
below_of : (n k : ℕ) (r : Outcome) (x : ℕ × Outcome) → counted n (Some (k, r)) ≡ Some x → k < n
below_of n k r x e = ⊎_elim (λ (t : nat_lt k n ≡ true). ltb-true k n t) (λ (f : nat_lt k n ≡ false). absurd (some≢none (sym e ∙ counted_above n k r (ltb-false k n f)))) (cases_Bool (nat_lt k n))

above_of : (n k : ℕ) (r : Outcome) → counted n (Some (k, r)) ≡ None → n ≤ k
above_of n k r e = ⊎_elim (λ (t : nat_lt k n ≡ true). absurd (some≢none (sym (counted_below n k r (ltb-true k n t)) ∙ e))) (λ (f : nat_lt k n ≡ false). ltb-false k n f) (cases_Bool (nat_lt k n))

pub counted_kept : (n m : ℕ) (o : Option (ℕ × Outcome)) (x : ℕ × Outcome) → n ≤ m → counted n o ≡ Some x → counted m o ≡ Some x
counted_kept n m None x l e = absurd (some≢none (sym e))
counted_kept n m (Some (k, r)) x l e = let b = below_of n k r x e in counted_below m k r (omega arith) ∙ sym (counted_below n k r b) ∙ e

counted_earlier_none : (n : ℕ) (u : Option ℕ) (a : Option (ℕ × Outcome)) (late : Outcome) → ((k : ℕ) → u ≡ Some k → k < n) → counted n (earlier u a late) ≡ None → (u ≡ None) × (counted n a ≡ None)
counted_earlier_none n None a late h e = (refl, e)
counted_earlier_none n (Some k) None late h e = absurd (some≢none (sym (counted_below n k late (h k refl)) ∙ e))
counted_earlier_none n (Some k) (Some (r, reply)) late h e = absurd (go (nat_le k r) refl)
  where
    go : (b : Bool) → nat_le k r ≡ b → ⊥
    go true t = some≢none (sym (counted_below n k late (h k refl)) ∙ sym (ap (λ b. counted n (if b then Some (k, late) else Some (r, reply))) t) ∙ e)
    go false f = some≢none (sym (counted_below n r reply (let one = h k refl in let two = leb-false k r f in omega (arith, one, two))) ∙ sym (ap (λ b. counted n (if b then Some (k, late) else Some (r, reply))) f) ∙ e)

-- no due poll so far, and no item that answers below this index
pub none_answered : (limits : Limits) (request : Numbered) (t0 : ℕ) (ps : List ℕ) → first_answer limits request t0 ps ≡ None →
    (first_due t0 limits.timeout ps ≡ None) × (counted (length ps) (ready_outcome limits request) ≡ None)
none_answered limits request t0 ps e = counted_earlier_none (length ps) (first_due t0 limits.timeout ps) (ready_outcome limits request) (Replied (due_reply limits)) (first_due_below t0 limits.timeout ps) e

counted-later : (m : ℕ) (o : Option (ℕ × Outcome)) → counted (suc m) (later o) ≡ later (counted m o)
counted-later m None = refl
counted-later m (Some (k, r)) = rw (leb-suc-suc (suc k) m) (go (nat_lt k m))
  where
    go : (b : Bool) → (if b then Some (suc k, r) else None) ≡ later (if b then Some (k, r) else None)
    go true = refl
    go false = refl

later_none : (o : Option (ℕ × Outcome)) → later o ≡ None → o ≡ None
later_none None e = refl
later_none (Some (k, r)) e = absurd (some≢none e)

first_answer_of-later : (m : ℕ) (s : Said Head BodyPlan (List ℕ)) → later (first_answer_of m s) ≡ first_answer_of (suc m) s
first_answer_of-later m Waits = refl
first_answer_of-later m (Gives head p) = refl
first_answer_of-later m (Fails x) = refl

-- what the item at an index says, of a list with this item at its front
abbrev says_at : FieldValue → ℕ → Then → List PollItem → Said Head BodyPlan (List ℕ)
says_at id zero t items = said_with (named id) (then_says t)
says_at id (suc n) t items = said_with (named id) (item_says (slice_get items n))

none_below : (o : Option (ℕ × Outcome)) → counted zero o ≡ None
none_below None = refl
none_below (Some (k, r)) = counted_above 0 k r (omega arith)

outcome_step : (id : FieldValue) (n : ℕ) (t : Then) (items : List PollItem) →
    ((m : ℕ) → counted m (first_outcome id items) ≡ None → counted (suc m) (first_outcome id items) ≡ first_answer_of m (said_with (named id) (item_says (slice_get items m)))) →
    counted n (here_or_later (outcome_in id t) (first_outcome id items)) ≡ None → counted (suc n) (here_or_later (outcome_in id t) (first_outcome id items)) ≡ first_answer_of n (says_at id n t items)
outcome_step id zero then_.Pending items ih e = counted-later zero (first_outcome id items) ∙ ap later (none_below (first_outcome id items))
outcome_step id (suc n) then_.Pending items ih e =
    counted-later (suc n) (first_outcome id items)
    ∙ ap later (ih n (later_none _ (sym (counted-later n (first_outcome id items)) ∙ e)))
    ∙ first_answer_of-later n (said_with (named id) (item_says (slice_get items n)))
outcome_step id zero (then_.Panic text) items ih e = counted_below 1 0 (Replied (replied id panic_reply)) (omega arith)
outcome_step id (suc n) (then_.Panic text) items ih e = absurd (some≢none (sym (counted_below (suc n) 0 (Replied (replied id panic_reply)) (omega arith)) ∙ e))
outcome_step id zero (then_.Fail error) items ih e = counted_below 1 0 (Failed error) (omega arith)
outcome_step id (suc n) (then_.Fail error) items ih e = absurd (some≢none (sym (counted_below (suc n) 0 (Failed error) (omega arith)) ∙ e))
outcome_step id zero (then_.Respond r) items ih e = counted_below 1 0 (Replied (replied id r)) (omega arith)
outcome_step id (suc n) (then_.Respond r) items ih e = absurd (some≢none (sym (counted_below (suc n) 0 (Replied (replied id r)) (omega arith)) ∙ e))

first_outcome_at : (id : FieldValue) (n : ℕ) (items : List PollItem) → counted n (first_outcome id items) ≡ None → counted (suc n) (first_outcome id items) ≡ first_answer_of n (said_with (named id) (item_says (slice_get items n)))
first_outcome_at id n [] e = refl
first_outcome_at id zero (item ∷ items) e = outcome_step id zero item.then items (λ m. first_outcome_at id m items) e
first_outcome_at id (suc n) (item ∷ items) e = outcome_step id (suc n) item.then items (λ m. first_outcome_at id m items) e

-- an answer in the service's place is given at once
at_once : (id : FieldValue) (n : ℕ) (r : ReplyView) → counted n (Some (0, Replied (replied id r))) ≡ None → counted (suc n) (Some (0, Replied (replied id r))) ≡ first_answer_of n (said_with (named id) (reply_says r))
at_once id zero r e = counted_below 1 0 (Replied (replied id r)) (omega arith)
at_once id (suc n) r e = absurd (some≢none (sym (counted_below (suc n) 0 (Replied (replied id r)) (omega arith)) ∙ e))

decided_at : (what : Decision) (request : Numbered) (n : ℕ) → counted n (decided_outcome what request) ≡ None → counted (suc n) (decided_outcome what request) ≡ first_answer_of n (said_with (named (ident request)) (decided_says what request.script.polls n))
decided_at TooLarge request n e = at_once (ident request) n too_large_reply e
decided_at Forbidden request n e = at_once (ident request) n forbidden_reply e
decided_at (Panicked text) request n e = at_once (ident request) n panic_reply e
decided_at Served request n e = first_outcome_at (ident request) n request.script.polls e

ready_at : (limits : Limits) (request : Numbered) (n : ℕ) → counted n (ready_outcome limits request) ≡ None → counted (suc n) (ready_outcome limits request) ≡ first_answer_of n (said_with (named (ident request)) (service_says limits request n))
ready_at limits request n e = decided_at (decision limits request) request n e

pub length_push : {A : Type 0} (xs : List A) (x : A) → length (xs ++ x ∷ []) ≡ suc (length xs)
length_push [] x = refl
length_push (y ∷ xs) x = ap suc (length_push xs x)

-- the first poll that answers, where none did so far
pub first_answer_more : (limits : Limits) (request : Numbered) (t0 : ℕ) (ps : List ℕ) (t : ℕ) → first_answer limits request t0 ps ≡ None →
    first_answer limits request t0 (ps ++ t ∷ []) ≡ (if due t0 limits.timeout t then Some (length ps, Replied (due_reply limits)) else first_answer_of (length ps) (said_with (named (ident request)) (service_says limits request (length ps))))
unfolding if_none
first_answer_more limits request t0 ps t e = let was = none_answered limits request t0 ps e in
    rw (length_push ps t, first_due-push t0 limits.timeout ps t, was.0) (go (due t0 limits.timeout t) (ready_outcome limits request) was.1 (ready_at limits request (length ps) was.1))
  where
    go : (b : Bool) (a : Option (ℕ × Outcome)) → counted (length ps) a ≡ None → counted (suc (length ps)) a ≡ first_answer_of (length ps) (said_with (named (ident request)) (service_says limits request (length ps))) →
        counted (suc (length ps)) (earlier (if b then Some (length ps) else None) a (Replied (due_reply limits))) ≡ (if b then Some (length ps, Replied (due_reply limits)) else first_answer_of (length ps) (said_with (named (ident request)) (service_says limits request (length ps))))
    go false a n f = f
    go true None n f = counted_below (suc (length ps)) (length ps) (Replied (due_reply limits)) (omega arith)
    go true (Some (r, reply)) n f = rw (le-leb (length ps) r (above_of (length ps) r reply n)) (counted_below (suc (length ps)) (length ps) (Replied (due_reply limits)) (omega arith))

earlier_kept : (n : ℕ) (u : Option ℕ) (a : Option (ℕ × Outcome)) (late : Outcome) (b : Bool) (x : ℕ × Outcome) → counted n (earlier u a late) ≡ Some x →
    counted (suc n) (earlier (if_none u (if b then Some n else None)) a late) ≡ Some x
unfolding if_none
earlier_kept n (Some k) a late b x e = counted_kept n (suc n) (earlier (Some k) a late) x (omega arith) e
earlier_kept n None a late false x e = counted_kept n (suc n) a x (omega arith) e
earlier_kept n None None late true x e = absurd (some≢none (sym e))
earlier_kept n None (Some (r, reply)) late true x e = rw (lt-leb n r (below_of n r reply x e)) (counted_kept n (suc n) (Some (r, reply)) x (omega arith) e)

-- once a poll answered, it stays the first
pub first_answer_kept : (limits : Limits) (request : Numbered) (t0 : ℕ) (ps : List ℕ) (t : ℕ) (x : ℕ × Outcome) → first_answer limits request t0 ps ≡ Some x → first_answer limits request t0 (ps ++ t ∷ []) ≡ Some x
first_answer_kept limits request t0 ps t x e = rw (length_push ps t, first_due-push t0 limits.timeout ps t)
    (earlier_kept (length ps) (first_due t0 limits.timeout ps) (ready_outcome limits request) (Replied (due_reply limits)) (due t0 limits.timeout t) x e)

-- no poll, no first answer
none_counted : (o : Option (ℕ × Outcome)) → counted 0 o ≡ None
none_counted None = refl
none_counted (Some (k, r)) = counted_above 0 k r (omega arith)

pub no_first_answer : (limits : Limits) (request : Numbered) (t0 : ℕ) → first_answer limits request t0 [] ≡ None
no_first_answer limits request t0 = none_counted (earlier (first_due t0 limits.timeout []) (ready_outcome limits request) (Replied (due_reply limits)))

-- the first answer is that of one of the polls
pub first_answer_below : (limits : Limits) (request : Numbered) (t0 : ℕ) (ps : List ℕ) (h : ℕ) (o : Outcome) → first_answer limits request t0 ps ≡ Some (h, o) → h < length ps
first_answer_below limits request t0 ps h o e = go (earlier (first_due t0 limits.timeout ps) (ready_outcome limits request) (Replied (due_reply limits))) e
  where
    go : (x : Option (ℕ × Outcome)) → counted (length ps) x ≡ Some (h, o) → h < length ps
    go None e' = absurd (some≢none (sym e'))
    go (Some (k, r)) e' =
        let below = below_of (length ps) k r (h, o) e' in
        let same : k ≡ h = ap (λ (x : Option (ℕ × Outcome)). index_of x) (sym (counted_below (length ps) k r below) ∙ e') in
        omega (arith, below, same)
      where
        index_of : Option (ℕ × Outcome) → ℕ
        index_of None = 0
        index_of (Some (k, r)) = k
