-- What the fields of headers are: sorted by name, with the values of each name.
use Rattle.std.proofs.Common.{◌≡◌, ℕ, Bool, true, false, cond, ◌||◌, ◌&&◌, List, [], ◌∷◌, ◌++◌, map, Some, None, sym, refl, ap, ◌∙◌, subst}
use lib.Dec.{T}
use Rattle.std.specs.Prelude.{Option}
use Rattle.std.specs.List.{list_any, AllByRecursion}
use Rattle.std.specs.List.Sorted.{IsStrictlySortedBy}
use Rattle.std.specs.FinMap.{find, is_sorted, slice_cmp-IsAntisymmetric, nat_cmp-IsAntisymmetric}
use Rattle.std.specs.FinMap.Entries.{below_all, same_entries}
use Rattle.std.specs.Cmp.{Equal-is}
use Rattle.std.specs.Ordering.{is_eq, is_lt, eq_by_cmp, ordering_reverse}
use Rattle.std.proofs.lemmas.Cmp.{nat_list_cmp_total}
use Rattle.std.proofs.lemmas.List.Elements.{recursion_from_All, filter_passes}
use Rattle.std.proofs.lemmas.List.Folds.{list_any-append}
use Rattle.std.proofs.lemmas.List.Kept.{IsStrictlySortedBy-filter}
use Rattle.std.proofs.lemmas.Map.Views.{any-filter_same}
use Rattle.std.specs.declared.cmp.Ordering.{Ordering}
use Rattle.std.specs.declared.cmp.Ordering.TheVariants.{Less, Equal, Greater}
use Rattle.http_header.specs.HeaderMap.{Entries, keys}
use Rattle.http_header.specs.FieldValue.{FieldValue}
use Rattle.life_core.specs.declared.fields.Shown.{Shown}
use Rattle.life_core.specs.Fields.{name_cmp, lower, higher, among, in_order, values_of, entry_of, fields, shown_under, IsSorted}

-- names whose bytes compare as equal are one
pub same_name : (q name : List ℕ) → eq_by_cmp name_cmp q name ≡ true → q ≡ name
same_name q name is = slice_cmp-IsAntisymmetric nat_cmp-IsAntisymmetric q name ((Equal-is _).0 is)

-- ---- the names, sorted

is_less : (r : Ordering) → is_lt r ≡ true → r ≡ Less
is_less Less h = refl
is_less Equal h = absurd (cc)
is_less Greater h = absurd (cc)

all_less : (f : List ℕ → Ordering) (names : List (List ℕ)) → AllByRecursion (λ n. is_lt (f n) ≡ true) names → AllByRecursion (λ n. f n ≡ Less) names
all_less f [] h = tt
all_less f (n ∷ names) h = (is_less (f n) h.0, all_less f names h.1)

-- those after a later name stand after an earlier one too
all_after : (first second : List ℕ) (names : List (List ℕ)) → name_cmp first second ≡ Less → AllByRecursion (λ n. name_cmp second n ≡ Less) names
    → AllByRecursion (λ n. name_cmp first n ≡ Less) names
all_after first second [] is h = tt
all_after first second (n ∷ names) is h = (nat_list_cmp_total.trans first second n is h.0, all_after first second names is h.1)

all_append : (P : List ℕ → Type 0) (xs ys : List (List ℕ)) → AllByRecursion P xs → AllByRecursion P ys → AllByRecursion P (xs ++ ys)
all_append P [] ys h k = k
all_append P (x ∷ xs) ys h k = (h.0, all_append P xs ys h.1 k)

joined : (name : List ℕ) (xs ys : List (List ℕ)) → IsStrictlySortedBy name_cmp xs → IsStrictlySortedBy name_cmp ys
    → AllByRecursion (λ x. name_cmp x name ≡ Less) xs → AllByRecursion (λ y. name_cmp name y ≡ Less) ys → IsStrictlySortedBy name_cmp (xs ++ name ∷ ys)
unfolding IsStrictlySortedBy
joined name [] ys h k before after = (after, k)
joined name (x ∷ xs) ys h k before after =
    (all_append (λ y. name_cmp x y ≡ Less) xs (name ∷ ys) h.0 (before.0, all_after x name ys before.0 after), joined name xs ys h.1 k before.1 after)

among_sorted : (name : List ℕ) (names : List (List ℕ)) → IsStrictlySortedBy name_cmp names → IsStrictlySortedBy name_cmp (among name names)
among_sorted name names h =
    let is_lower : List ℕ → Bool = λ n. is_lt (name_cmp n name) in
    let is_higher : List ℕ → Bool = λ n. is_lt (name_cmp name n) in
    let lows = recursion_from_All (λ n. is_lower n ≡ true) (lower name names) (filter_passes is_lower names) in
    let highs = recursion_from_All (λ n. is_higher n ≡ true) (higher name names) (filter_passes is_higher names) in
    joined name (lower name names) (higher name names)
    (IsStrictlySortedBy-filter name_cmp is_lower names h) (IsStrictlySortedBy-filter name_cmp is_higher names h)
    (all_less (λ n. name_cmp n name) (lower name names) lows) (all_less (name_cmp name) (higher name names) highs)

-- names in order rise
in_order_sorted : (names : List (List ℕ)) → IsStrictlySortedBy name_cmp (in_order names)
unfolding IsStrictlySortedBy
in_order_sorted [] = tt
in_order_sorted (name ∷ names) = among_sorted name (in_order names) (in_order_sorted names)

below : (name : List ℕ) (es : Entries Shown) → AllByRecursion (λ n. name_cmp name n ≡ Less) (keys es) → below_all name_cmp name es ≡ true
below name [] h = refl
below name (e ∷ es) h = ap (λ r. is_lt r && below_all name_cmp name es) h.0 ∙ below name es h.1

-- entries are sorted where their names rise
pub sorted_by_names : (es : Entries Shown) → IsStrictlySortedBy name_cmp (keys es) → IsSorted es
unfolding IsStrictlySortedBy
sorted_by_names [] h = refl
sorted_by_names (e ∷ es) h = ap (λ b. b && is_sorted name_cmp es) (below e.0 es h.0) ∙ sorted_by_names es h.1

-- ---- the names, found

-- a name that is looked for stands before, at or after the one put among others
found_by_order : (r : Ordering) (rest : Bool) → ((is_lt r && rest) || (is_eq r || (is_lt (ordering_reverse r) && rest))) ≡ (is_eq r || rest)
found_by_order Less true = refl
found_by_order Less false = refl
found_by_order Equal true = refl
found_by_order Equal false = refl
found_by_order Greater true = refl
found_by_order Greater false = refl

any_among : (q name : List ℕ) (names : List (List ℕ))
    → list_any (eq_by_cmp name_cmp q) (among name names) ≡ (eq_by_cmp name_cmp q name || list_any (eq_by_cmp name_cmp q) names)
any_among q name names =
    let test = eq_by_cmp name_cmp q in
    let is_lower : List ℕ → Bool = λ n. is_lt (name_cmp n name) in
    let is_higher : List ℕ → Bool = λ n. is_lt (name_cmp name n) in
    let rest = list_any test names in
    let lows = any-filter_same test is_lower (is_lower q) (λ n is. ap is_lower (sym (same_name q n is))) names in
    let highs = any-filter_same test is_higher (is_higher q) (λ n is. ap is_higher (sym (same_name q n is))) names in
    list_any-append test (lower name names) (name ∷ higher name names)
    ∙ (ap (λ b. b || (test name || list_any test (higher name names))) lows
    ∙ (ap (λ b. (is_lower q && rest) || (test name || b)) highs
    ∙ (ap (λ r. (is_lower q && rest) || (test name || (is_lt r && rest))) (nat_list_cmp_total.antisymm name q)
    ∙ found_by_order (name_cmp q name) rest)))

any_in_order : (q : List ℕ) (names : List (List ℕ)) → list_any (eq_by_cmp name_cmp q) (in_order names) ≡ list_any (eq_by_cmp name_cmp q) names
any_in_order q [] = refl
any_in_order q (name ∷ names) = any_among q name (in_order names) ∙ ap (λ b. eq_by_cmp name_cmp q name || b) (any_in_order q names)

module _ (headers : Entries FieldValue) where
  -- entries that are made of names have these names
  pub names_of : (names : List (List ℕ)) → keys (map (entry_of headers) names) ≡ names
  names_of [] = refl
  names_of (name ∷ names) = ap (λ l. name ∷ l) (names_of names)

  -- the fields of headers are sorted by name, each name once
  pub fields_sorted : IsSorted (fields headers)
  fields_sorted = sorted_by_names (fields headers) (subst (IsStrictlySortedBy name_cmp) (sym (names_of (in_order (keys headers)))) (in_order_sorted (keys headers)))

  -- one name's values, of those that were made
  same_values : (q name : List ℕ) (b : Bool) → eq_by_cmp name_cmp q name ≡ b → (rest : Option (List Shown))
      → cond b (Some (values_of headers name)) rest ≡ cond b (Some (values_of headers q)) rest
  same_values q name true is rest = ap (λ k. Some (values_of headers k)) (sym (same_name q name is))
  same_values q name false is rest = refl

  either : {A : Type 0} (a b : Bool) (x y : A) → cond b x (cond a x y) ≡ cond (b || a) x y
  either a true x y = refl
  either a false x y = refl

  -- what is found among entries that are made of names
  pub find_made : (q : List ℕ) (names : List (List ℕ))
      → find name_cmp q (map (entry_of headers) names) ≡ cond (list_any (eq_by_cmp name_cmp q) names) (Some (values_of headers q)) None
  find_made q [] = refl
  find_made q (name ∷ names) =
      let here = eq_by_cmp name_cmp q name in
      ap (cond here (Some (values_of headers name))) (find_made q names)
      ∙ (same_values q name here refl (cond (list_any (eq_by_cmp name_cmp q) names) (Some (values_of headers q)) None)
      ∙ either (list_any (eq_by_cmp name_cmp q) names) here (Some (values_of headers q)) None)

  -- the fields show, of each name that the headers have, its values, and of no other name any
  pub fields_find : (name : List ℕ) → find name_cmp name (fields headers) ≡ shown_under headers name
  fields_find name = find_made name (in_order (keys headers)) ∙ ap (λ b. cond b (Some (values_of headers name)) None) (any_in_order name (keys headers))

  -- and no other sorted entries show the same
  pub fields_only : (es : Entries Shown) → IsSorted es → ((name : List ℕ) → find name_cmp name es ≡ shown_under headers name) → es ≡ fields headers
  fields_only es sorted shows =
      same_entries name_cmp nat_list_cmp_total (slice_cmp-IsAntisymmetric nat_cmp-IsAntisymmetric) es (fields headers)
      (subst T (sym sorted) tt) (subst T (sym fields_sorted) tt) (λ q. shows q ∙ sym (fields_find q))

-- what holds of the fields of any headers
pub ruleset fields_laws = (fields_sorted, fields_find)
