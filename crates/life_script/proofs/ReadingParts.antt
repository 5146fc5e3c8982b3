-- How the values of an array are read.
use Rattle.std.proofs.Common.{◌≡◌, ℕ, suc, ◌+◌, ◌<◌, ◌⊎◌, inl, inr, List, [], ◌∷◌, ◌++◌, length, map, take, get_or, zero, Option, Some, None, sym, refl, ap, ◌∙◌, subst, arith, add-one}
use Rattle.std.proofs.lemmas.List.{length-map, map-append}
use Rattle.std.proofs.Math.Seq.{take-suc}
use Rattle.serde_json.specs.Data.{Data, Items}
use Rattle.serde_json.specs.Find.{as_array}
use Rattle.serde_json.specs.View.{view, items_of}
use Rattle.serde_json.specs.declared.value.Value.{Value}
use Rattle.life_script.specs.Reading.{Read, Bad, Good, read_both, all_of, list_of, step_from, step_of, ◌>>=◌}

-- the items of an array are those that its value was made of
pub list-items : (xs : List Data) → list_of (items_of xs) ≡ xs
list-items [] = refl
list-items (x ∷ xs) = ap (λ ys. x ∷ ys) (list-items xs)

no_step_from : (ds : List Data) → (length ds < 3) ⊎ (3 < length ds) → step_from ds ≡ None
no_step_from [] h = refl
no_step_from (a ∷ []) h = refl
no_step_from (a ∷ b ∷ []) h = refl
no_step_from (a ∷ b ∷ c ∷ []) (inl h) = absurd (omega arith)
no_step_from (a ∷ b ∷ c ∷ []) (inr h) = absurd (omega arith)
no_step_from (a ∷ b ∷ c ∷ d ∷ ds) h = refl

-- an array of another length is no step
pub no_step : (d : Data) (xs : List Value) → Some (items_of (map view xs)) ≡ as_array d → (length xs < 3) ⊎ (3 < length xs) → None ≡ step_of d
no_step d xs e h =
    let n = length-map xs view in
    let h' : (length (map view xs) < 3) ⊎ (3 < length (map view xs)) = subst (λ (k : ℕ). (k < 3) ⊎ (3 < k)) (sym n) h in
    sym (ap (λ (o : Option Items). o >>= λ ds. step_from (list_of ds)) (sym e) ∙ (ap step_from (list-items (map view xs)) ∙ no_step_from (map view xs) h'))

-- ---- the values of a list

bad_second : {A B C : Type 0} (f : A → B → C) (r : Read A) → read_both f r Bad ≡ Bad
bad_second f Bad = refl
bad_second f (Good a) = refl

bad_at : {A : Type 0} (f : Data → Read A) (xs : List Value) (k : ℕ) (x : Value) → k < length xs → f (view (get_or xs k x)) ≡ Bad → all_of f (map view xs) ≡ Bad
unfolding all_of
bad_at f [] k x lt e = absurd (omega arith)
bad_at f (y ∷ ys) zero x lt e = ap (λ r. read_both (λ y ys. y ∷ ys) r (all_of f (map view ys))) e
bad_at f (y ∷ ys) (suc k) x lt e = ap (λ r. read_both (λ y ys. y ∷ ys) (f (view y)) r) (bad_at f ys k x (omega arith) e) ∙ bad_second (λ y ys. y ∷ ys) (f (view y))

-- a bad value makes the list bad
pub all_of-bad : {A : Type 0} (f : Data → Read A) (xs : List Value) (k : ℕ) (x : Value) → k < length xs → x ≡ get_or xs k x → f (view x) ≡ Bad → all_of f (map view xs) ≡ Bad
all_of-bad f xs k x lt is e = bad_at f xs k x lt (ap (λ (y : Value). f (view y)) (sym is) ∙ e)

-- the last of a list joins those before it
abbrev join_last : {A : Type 0} → Read (List A) → Read A → Read (List A)
join_last = read_both (λ xs x. xs ++ x ∷ [])

first_joins : {A : Type 0} (first : Read A) (rest : Read (List A)) (last : Read A)
    → read_both (λ x xs. x ∷ xs) first (join_last rest last) ≡ join_last (read_both (λ x xs. x ∷ xs) first rest) last
first_joins Bad rest last = refl
first_joins (Good y) Bad last = refl
first_joins (Good y) (Good xs) Bad = refl
first_joins (Good y) (Good xs) (Good x) = refl

only_last : {A : Type 0} (last : Read A) → read_both (λ x xs. x ∷ xs) last (Good []) ≡ join_last (Good []) last
only_last Bad = refl
only_last (Good x) = refl

all_of-last : {A : Type 0} (f : Data → Read A) (ds : List Data) (d : Data) → all_of f (ds ++ d ∷ []) ≡ join_last (all_of f ds) (f d)
unfolding all_of
all_of-last f [] d = only_last (f d)
all_of-last f (e ∷ ds) d = ap (λ r. read_both (λ x xs. x ∷ xs) (f e) r) (all_of-last f ds d) ∙ first_joins (f e) (all_of f ds) (f d)

-- one value more
pub one_more : (xs : List Value) (k : ℕ) (x : Value) → k < length xs → x ≡ get_or xs k x → map view (take (k + 1) xs) ≡ map view (take k xs) ++ view x ∷ []
one_more xs k x lt is =
    let more : take (k + 1) xs ≡ take k xs ++ x ∷ [] = rw add-one (take-suc xs k x lt ∙ ap (λ (y : Value). take k xs ++ y ∷ []) (sym is)) in
    ap (λ (ys : List Value). map view ys) more ∙ map-append view (take k xs) (x ∷ [])

pub next_good : {A : Type 0} (f : Data → Read A) (xs : List Value) (k : ℕ) (x : Value) (done : List A) (part : A) → k < length xs → x ≡ get_or xs k x
    → all_of f (map view (take k xs)) ≡ Good done → f (view x) ≡ Good part → all_of f (map view (take (k + 1) xs)) ≡ Good (done ++ part ∷ [])
next_good f xs k x done part lt is before e =
    ap (all_of f) (one_more xs k x lt is)
    ∙ (all_of-last f (map view (take k xs)) (view x) ∙ (ap (λ r. join_last r (f (view x))) before ∙ ap (join_last (Good done)) e))
