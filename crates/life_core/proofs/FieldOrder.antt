-- Entries that are made of the names of headers, and then sorted.
use Rattle.std.proofs.Common.{◌≡◌, ℕ, ◌+◌, ◌<◌, Bool, true, false, List, [], ◌∷◌, map, length, get_or, Some, None, cond, sym, refl, ap, ◌∙◌, subst, arith, true≢false}
use Rattle.std.specs.List.{list_any, AllByRecursion, IsDistinct}
use Rattle.std.specs.List.Sorted.{IsPermutation, IsSortedByKey, IsStrictlySortedBy}
use Rattle.std.specs.FinMap.{find}
use Rattle.std.specs.Cmp.{eq_by_cmp_equiv}
use Rattle.std.specs.Ordering.{is_eq, is_lt, eq_by_cmp, ordering_reverse}
use Rattle.std.proofs.lemmas.Cmp.{nat_list_cmp_total}
use Rattle.std.proofs.lemmas.List.{length-map, get_or-map}
use Rattle.std.proofs.lemmas.List.Elements.{recursion_from_All, All-from_recursion}
use Rattle.std.proofs.lemmas.List.Sorted.{IsPermutation-map, All-permutation, list_any-IsPermutation}
use Rattle.std.proofs.lemmas.Map.Keys.{IsDistinct-from_apart, IsDistinct-IsPermutation, apart_from_distinct, sorted_from_all_adjacent}
use Rattle.std.specs.declared.cmp.Ordering.{Ordering}
use Rattle.std.specs.declared.cmp.Ordering.TheVariants.{Less, Equal, Greater}
use Rattle.http_header.specs.HeaderMap.{Entry, Entries, keys, IsHeaderMap}
use Rattle.http_header.specs.FieldValue.{FieldValue}
use Rattle.life_core.specs.declared.fields.Shown.{Shown}
use Rattle.life_core.specs.Fields.{name_cmp, values_of, entry_of, fields}
use Rattle.life_core.proofs.FieldLaws.{same_name, sorted_by_names, names_of, find_made, fields_only}

false_from : (b : Bool) → (b ≡ true → ⊥) → b ≡ false
false_from true h = absurd (h refl)
false_from false h = refl

-- what is neither equal nor greater is less
less_from : (r : Ordering) → is_eq r ≡ false → is_lt (ordering_reverse r) ≡ false → r ≡ Less
less_from Less e g = refl
less_from Equal e g = absurd (true≢false e)
less_from Greater e g = absurd (true≢false g)

-- the names of a header map are distinct
distinct_names : {X : Type 0} (m : Entries X) → IsHeaderMap m → IsDistinct (eq_by_cmp name_cmp) (keys m)
distinct_names m valid =
    IsDistinct-from_apart (eq_by_cmp name_cmp) (keys m) (λ i j d below_j below_end. false_from _ (λ is.
    let size = length-map m (λ e. e.0) in
    let i_in : i < length m = omega arith in
    let j_in : j < length m = omega arith in
    let at_i = get_or-map (λ e. e.0) m i ([], []) d i_in in
    let at_j = get_or-map (λ e. e.0) m j ([], []) d j_in in
    let same = sym at_i ∙ (same_name _ _ is ∙ at_j) in
    let one : i ≡ j = valid.unique i j i_in j_in same in
    omega arith))

-- sorted entries of distinct names rise
rising : (es : Entries Shown) → IsSortedByKey (λ (e : Entry Shown). e.0) name_cmp es → IsDistinct (eq_by_cmp name_cmp) (keys es) → IsStrictlySortedBy name_cmp (keys es)
rising es sorted distinct =
    sorted_from_all_adjacent nat_list_cmp_total (keys es) [] (λ k within.
    let size = length-map es (λ e. e.0) in
    let first_in : k < length es = omega arith in
    let next_in : k + 1 < length es = omega arith in
    let at_k = get_or-map (λ e. e.0) es k ([], []) [] first_in in
    let at_next = get_or-map (λ e. e.0) es (k + 1) ([], []) [] next_in in
    let a = get_or (keys es) k [] in
    let b = get_or (keys es) (k + 1) [] in
    let not_back : is_lt (name_cmp b a) ≡ false = rw (at_k, at_next) (sorted k ([], []) (omega arith) next_in) in
    let apart : is_eq (name_cmp a b) ≡ false = apart_from_distinct (eq_by_cmp name_cmp) (keys es) k (k + 1) [] distinct (omega arith) within in
    less_from (name_cmp a b) apart (ap is_lt (sym (nat_list_cmp_total.antisymm b a)) ∙ not_back))

module _ (headers : Entries FieldValue) where
  -- an entry has the values that are shown of its name
  abbrev Told : Entry Shown → Type 0
  Told e = e.1 ≡ values_of headers e.0

  told : (names : List (List ℕ)) → AllByRecursion Told (map (entry_of headers) names)
  told [] = tt
  told (name ∷ names) = (refl, told names)

  remade : (es : Entries Shown) → AllByRecursion Told es → map (entry_of headers) (keys es) ≡ es
  remade [] h = refl
  remade (e ∷ es) h = λ i. (e.0, sym h.0 i) ∷ remade es h.1 i

  -- the entries of all names, sorted, are the fields of the headers
  pub fields_from_sort : (es fs : Entries Shown) → es ≡ map (entry_of headers) (keys headers) → IsPermutation es fs
      → IsSortedByKey (λ (e : Entry Shown). e.0) name_cmp fs → IsHeaderMap headers → fs ≡ fields headers
  fields_from_sort es fs made moved sorted valid =
      let names_are : keys es ≡ keys headers = ap keys made ∙ names_of headers (keys headers) in
      let moved_names : IsPermutation (keys es) (keys fs) = IsPermutation-map (λ e. e.0) es fs moved in
      let distinct : IsDistinct (eq_by_cmp name_cmp) (keys es) = subst (IsDistinct (eq_by_cmp name_cmp)) (sym names_are) (distinct_names headers valid) in
      let still_distinct = IsDistinct-IsPermutation (eq_by_cmp name_cmp) ((eq_by_cmp_equiv nat_list_cmp_total).symm) (keys es) (keys fs) moved_names distinct in
      let all_told : AllByRecursion Told es = subst (AllByRecursion Told) (sym made) (told (keys headers)) in
      let still_told = recursion_from_All Told fs (All-permutation Told es fs moved (All-from_recursion Told es all_told)) in
      fields_only headers fs (sorted_by_names fs (rising fs sorted still_distinct)) (λ name.
      let test = eq_by_cmp name_cmp name in
      let has : list_any test (keys fs) ≡ list_any test (keys headers) = sym (list_any-IsPermutation test (keys es) (keys fs) moved_names) ∙ ap (list_any test) names_are in
      ap (find name_cmp name) (sym (remade fs still_told))
      ∙ (find_made headers name (keys fs) ∙ ap (λ b. cond b (Some (values_of headers name)) None) has))
