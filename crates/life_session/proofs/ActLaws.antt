-- The own acts of the steps and their numbers, one step further.
use Rattle.std.proofs.Common.{◌≡◌, ◌≢◌, ℕ, zero, suc, ◌+◌, ◌<◌, ◌≤◌, List, [], ◌∷◌, ◌++◌, length, take, get_or, Bool, true, false, Option, Some, None, inl, inr, refl, sym, ap, ◌∙◌, subst, arith, eqb}
use Rattle.std.proofs.lemmas.Bool.{eq-eqb, ne_eqb}
use Rattle.std.proofs.lemmas.Bool.Decides.{eqb_tells}
use Rattle.std.proofs.lemmas.List.{get_or-set_same, get_or-set_other}
use Rattle.std.proofs.lemmas.List.Sums.{count_by_more_yes, count_by_more_no}
use Rattle.std.proofs.Math.ListN.{set}
use Rattle.std.specs.Prelude.{slice_get, if◌then◌else◌, ◌==◌}
use Rattle.life_script.specs.declared.scenario.Step.{Step}
use Rattle.life_session.specs.Acts.{NotBefore, Own, own, steps_of}

pub some_is : {A : Type 0} {a b : A} → ◌≡◌ {A = Option A} (Some a) (Some b) → a ≡ b
some_is e = cc

-- the own acts of the steps up to one of the request
own_step : (b : Bool) (x : Own) (acts more : List Own) (y : Own) → more ≡ acts ++ y ∷ [] → (if b then x ∷ more else more) ≡ (if b then x ∷ acts else acts) ++ y ∷ []
own_step true x acts more y e = ap (λ l. x ∷ l) e
own_step false x acts more y e = e

pub own_more : (steps : List Step) (i r : ℕ) (s : Step) → slice_get steps i ≡ Some s → s.request ≡ r → own (take (suc i) steps) r ≡ own (take i steps) r ++ (s.at, s.act) ∷ []
own_more [] i r s e q = absurd (some≢none e)
  where
    some≢none : None ≡ Some s → ⊥
    some≢none e = cc
own_more (x ∷ steps) zero r s e q =
    let same : x ≡ s = some_is e in
    let is : eqb x.request r ≡ true = eq-eqb x.request r (ap (λ (z : Step). z.request) same ∙ q) in
    ap (λ (b : Bool). if b then (x.at, x.act) ∷ [] else []) is ∙ ap (λ (z : Step). (z.at, z.act) ∷ []) same
own_more (x ∷ steps) (suc i) r s e q = own_step (x.request == r) (x.at, x.act) (own (take i steps) r) (own (take (suc i) steps) r) (s.at, s.act) (own_more steps i r s e q)

-- no own act is after a time that no step is after
not_before_step : (b : Bool) (t : ℕ) (x : Own) (acts : List Own) → x.0 ≤ t → NotBefore t acts → NotBefore t (if b then x ∷ acts else acts)
not_before_step true t x acts l n = (l, n)
not_before_step false t x acts l n = n

pub not_before_own : (steps : List Step) (n r t : ℕ) → ((j : ℕ) (x : Step) → j < n → slice_get steps j ≡ Some x → x.at ≤ t) → NotBefore t (own (take n steps) r)
not_before_own [] zero r t h = tt
not_before_own [] (suc n) r t h = tt
not_before_own (x ∷ steps) zero r t h = tt
not_before_own (x ∷ steps) (suc n) r t h =
    not_before_step (x.request == r) t (x.at, x.act) (own (take n steps) r) (h 0 x (omega arith) refl) (not_before_own steps n r t (λ j y l e. h (suc j) y (omega arith) e))

-- with one more act
pub not_before_push : (t : ℕ) (before : List Own) (x : Own) → NotBefore t (before ++ x ∷ []) → NotBefore t before × (x.0 ≤ t)
not_before_push t [] x h = (tt, h.0)
not_before_push t (y ∷ before) x h = let r = not_before_push t before x h.1 in ((h.0, r.0), r.1)

-- a step of another request leaves the own acts
own_left : (b : Bool) (x : Own) (acts more : List Own) → more ≡ acts → (if b then x ∷ more else more) ≡ (if b then x ∷ acts else acts)
own_left true x acts more e = ap (λ l. x ∷ l) e
own_left false x acts more e = e

pub own_other : (steps : List Step) (i r : ℕ) (s : Step) → slice_get steps i ≡ Some s → s.request ≢ r → own (take (suc i) steps) r ≡ own (take i steps) r
own_other [] i r s e q = absurd (cc)
own_other (x ∷ steps) zero r s e q =
    let same : x ≡ s = some_is e in
    let isnt : eqb x.request r ≡ false = ne_eqb x.request r (λ z. q (ap (λ (y : Step). y.request) (sym same) ∙ z)) in
    ap (λ (b : Bool). if b then (x.at, x.act) ∷ [] else []) isnt
own_other (x ∷ steps) (suc i) r s e q = own_left (x.request == r) (x.at, x.act) (own (take i steps) r) (own (take (suc i) steps) r) (own_other steps i r s e q)

-- the steps of a request among the first k + 1, where step k is one of them, and where it is not
pub count_same : (xs : List Step) (k : ℕ) (d : Step) → k < length xs → steps_of (get_or xs k d).request (take (k + 1) xs) ≡ steps_of (get_or xs k d).request (take k xs) + 1
count_same xs k d lt = count_by_more_yes (λ (x : Step). x.request == (get_or xs k d).request) xs k d lt (eq-eqb (get_or xs k d).request (get_or xs k d).request refl)

pub count_other : (xs : List Step) (k i : ℕ) (d : Step) → k < length xs → ((get_or xs k d).request == i) ≡ false → steps_of i (take (k + 1) xs) ≡ steps_of i (take k xs)
count_other xs k i d lt other = count_by_more_no (λ (x : Step). x.request == i) xs k d lt other

-- the counts stand for one step more
pub counted_next : (xs : List Step) (k m n : ℕ) (d : Step) (made : List ℕ) → k < length xs → length made ≡ m
    → ((i : ℕ) → i < m → get_or made i 0 ≡ steps_of i (take k xs)) → n ≡ steps_of (get_or xs k d).request (take k xs) → (i : ℕ) → i < m
    → get_or (set made (get_or xs k d).request (n + 1)) i 0 ≡ steps_of i (take (k + 1) xs)
counted_next xs k m n d made lt same counted count i within =
    elim (eqb_tells (get_or xs k d).request i) [
      | inl e ↦
          let within_made : (get_or xs k d).request < length made = (let f = e.1 in omega arith) in
          subst (λ (j : ℕ). get_or (set made (get_or xs k d).request (n + 1)) j 0 ≡ steps_of j (take (k + 1) xs)) e.1
          (get_or-set_same made (get_or xs k d).request (n + 1) 0 within_made ∙ (ap (λ (c : ℕ). c + 1) count ∙ sym (count_same xs k d lt)))
      | inr e ↦
          get_or-set_other made (get_or xs k d).request i (n + 1) 0 (λ q. e.1 (sym q)) ∙ (counted i within ∙ sym (count_other xs k i d lt e.0))
    ]
