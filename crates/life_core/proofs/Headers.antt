-- A value that is put into headers: where they have room it is inserted, else they stay.
use Rattle.std.proofs.Common.{◌≡◌, ℕ, ◌+◌, ◌^◌, List, [], ◌∷◌, length, slice_get, ◌≢◌, Bool, true, false, nat_le, true≢false, Option, Some, None, MatchOption, refl, sym, ap, inl, inr, ⊎_elim}
use Rattle.std.specs.Prelude.{is_none, if◌then◌else◌}
use Rattle.std.proofs.lemmas.Bool.{and_parts, or_left, or_right, or_cases, leb-true, le-leb, cases_Bool}
use Rattle.http_header.specs.FieldValue.{FieldValue}
use Rattle.std.specs.List.{AllZip}
use Rattle.http_header.specs.HeaderMap.{Entries, IsMapClone, index_of, get, get_all, insert, value_count, ContainsKey, RefusesInsert, IsFullOfNames}
use Rattle.http_header.proofs.HeaderMapLemmas.{get_all-insert_same, get_all-insert_other}
use Rattle.http_header.specs.Places.{IsAt, IsAbsent}
use Rattle.http_header.proofs.PlacesLemmas.{index_of_cases}
use Rattle.life_core.specs.Header.{has_no_room, is_full_for, put_in}

no_room : (m : Entries FieldValue) → IsFullOfNames m → has_no_room m ≡ true
no_room m full = ⊎_elim
    (λ names. or_left (nat_le 24576 (length m)) (nat_le (2 ^ 64) (value_count m + 1)) (le-leb 24576 (length m) names))
    (λ values. or_right (nat_le 24576 (length m)) (nat_le (2 ^ 64) (value_count m + 1)) (le-leb (2 ^ 64) (value_count m + 1) values)) full

full_where : (m : Entries FieldValue) → has_no_room m ≡ true → IsFullOfNames m
full_where m e = elim (or_cases (nat_le 24576 (length m)) (nat_le (2 ^ 64) (value_count m + 1)) e) [
  | inl names ↦ inl (leb-true 24576 (length m) names)
  | inr values ↦ inr (leb-true (2 ^ 64) (value_count m + 1) values)
]

module _ (m : Entries FieldValue) (name : List ℕ) where
  absent : (o : Option ℕ) → MatchOption o (IsAbsent m name) (IsAt m name) → ¬ (ContainsKey m name) → is_none o ≡ true
  absent None a none = refl
  absent (Some i) a none = absurd (none a.contains)

  missing : (o : Option ℕ) → MatchOption o (IsAbsent m name) (IsAt m name) → is_none o ≡ true → ¬ (ContainsKey m name)
  missing None a e = a.absent
  missing (Some i) a e = absurd (true≢false (sym e))

  full_is : RefusesInsert m name → is_full_for m name ≡ true
  full_is r = rw (absent (index_of m name) (index_of_cases m name) r.0) (no_room m r.1)

  refuses_is : is_full_for m name ≡ true → RefusesInsert m name
  refuses_is e = let parts = and_parts _ _ e in (missing (index_of m name) (index_of_cases m name) parts.0, full_where m parts.1)

  room_is : ¬ (RefusesInsert m name) → is_full_for m name ≡ false
  room_is room = elim (cases_Bool (is_full_for m name)) [ inl full ↦ absurd (room (refuses_is full)) | inr free ↦ free ]

  pub put_where_full : (v : FieldValue) → RefusesInsert m name → m ≡ put_in m name v
  put_where_full v r = rw (full_is r) refl

  pub put_where_room : (v : FieldValue) → ¬ (RefusesInsert m name) → insert m name v ≡ put_in m name v
  put_where_room v r = rw (room_is r) refl

-- what is there after a value was put in
pub get_put : (m : Entries FieldValue) (name : List ℕ) (v : FieldValue) → is_full_for m name ≡ false → get (put_in m name v) name ≡ Some v
get_put m name v room = rw room (ap (λ values. slice_get values 0) (get_all-insert_same m name v))

other_by : (full : Bool) (m : Entries FieldValue) (name other : List ℕ) (v : FieldValue) → name ≢ other → get_all (if full then m else insert m name v) other ≡ get_all m other
other_by true m name other v differ = refl
other_by false m name other v differ = get_all-insert_other m name other v differ

pub get_all_put_other : (m : Entries FieldValue) (name other : List ℕ) (v : FieldValue) → name ≢ other → get_all (put_in m name v) other ≡ get_all m other
get_all_put_other m name other v differ = other_by (is_full_for m name) m name other v differ

zip_same : {X : Type 0} (xs ys : List X) → AllZip (λ x y. y ≡ x) xs ys → ys ≡ xs
zip_same [] [] z = refl
zip_same [] (y ∷ ys) z = absurd z
zip_same (x ∷ xs) [] z = absurd z
zip_same (x ∷ xs) (y ∷ ys) z = rw (z.0, zip_same xs ys z.1) refl

-- a map whose clone has equal values is its clone
pub map_same : (m n : Entries FieldValue) → IsMapClone (λ v copy. copy ≡ v) m n → n ≡ m
map_same [] [] z = refl
map_same [] (f ∷ n) z = absurd z
map_same (e ∷ m) [] z = absurd z
map_same ((k, v) ∷ m) ((j, w) ∷ n) z = rw (z.0.0, zip_same v w z.0.1, map_same m n z.1) refl
