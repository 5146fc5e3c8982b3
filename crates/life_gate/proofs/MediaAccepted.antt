-- The values of a header, one after another.
use Rattle.std.proofs.Common.{◌≡◌, suc, zero, List, [], ◌∷◌, None, refl, sym, subst, arith, ◌↔◌}
use Rattle.std.specs.Prelude.{Any, slice_get}

-- some element passes: the first, or one behind it
any_rest : {X : Type 0} (P : X → Type 0) (x : X) (xs : List X) → ¬ (P x) → Any P (x ∷ xs) → Any P xs
any_rest P x xs fails (zero, y, within, at, p) = absurd (fails (subst P (sym at) p))
any_rest P x xs fails (suc k, y, within, at, p) = (k, y, omega arith, at, p)

any_more : {X : Type 0} (P : X → Type 0) (x : X) (xs : List X) → Any P xs → Any P (x ∷ xs)
any_more P x xs (k, y, within, at, p) = (suc k, y, omega arith, at, p)

-- the first of those to come does not pass
pub any_step : {X : Type 0} (P : X → Type 0) (x : X) (all left rest : List X) → Any P all ↔ Any P left → left ≡ x ∷ rest → ¬ (P x) → Any P all ↔ Any P rest
any_step P x all left rest so_far e fails =
    (λ a. any_rest P x rest fails (subst (Any P) e (so_far.0 a)), λ a. so_far.1 (subst (Any P) (sym e) (any_more P x rest a)))

-- where there is no first element, there is none
pub no_first : {X : Type 0} (xs : List X) → None ≡ slice_get xs 0 → xs ≡ []
no_first [] e = refl
no_first (x ∷ xs) e = cc
