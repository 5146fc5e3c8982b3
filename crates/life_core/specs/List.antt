-- What a list is seen as.
use Rattle.std.specs.Prelude.{ℕ, List, refl}
use Rattle.std.specs.Coded.{Coded, code_by, coded×, coded_ℕ, coded_list}

-- its items, and how many more it takes with no memory
pub record Listed (T : Type 0) : Type 0 where
  pub items : List T
  pub spare : ℕ

-- such a list is coded as its items and its spare
abbrev pub listed_coded : {T : Type 0} → Coded T → Coded (Listed T)
listed_coded {T} c =
    code_by (List T × ℕ) (coded× (coded_list c) coded_ℕ) (λ l. (l.items, l.spare)) (λ p. record { items = p.0; spare = p.1 }) (λ _. refl)
