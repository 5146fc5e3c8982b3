-- The map that header fields make: what it has under a name, that it has room, and a field put into it where there is none of its name.
use Rattle.std.proofs.Common.{◌≡◌, ◌≢◌, ℕ, suc, ◌+◌, ◌^◌, ◌≤◌, Bool, true, false, nat_le, List, [], ◌∷◌, ◌++◌, length, take, bytes_eq, slice_get, Option, Some, None, refl, sym, ap, ◌∙◌, arith, inl, inr}
use Rattle.std.specs.Prelude.{is_none, if◌then◌else◌}
use Rattle.std.proofs.Math.Nat.{min-le_right}
use Rattle.std.proofs.lemmas.Bool.{cases_Bool, false≢true, lt-leb, or_from, and_right}
use Rattle.std.proofs.lemmas.List.{length-append, length-take}
use Rattle.std.proofs.lemmas.List.Sums.{fold-append, sum_by-cons}
use Rattle.std.proofs.lemmas.Slice.Eq.{bytes_eq-Decides}
use Rattle.http_header.specs.FieldValue.{FieldValue}
use Rattle.http_header.specs.HeaderMap.{Entry, Entries, index_of, get, get_all, update, insert, append, append_all, value_count, RefusesAppend}
use Rattle.http_header.proofs.HeaderMapLemmas.{get_all-append_same, get_all-append_other}
use Rattle.life_core.specs.Header.{has_no_room, is_full_for, put_in}
use Rattle.life_script.specs.Headers.{Headers, map_of, first_value}

-- ---- what the map has under a name

-- the first that is there
first_there : Option FieldValue → Option FieldValue → Option FieldValue
first_there (Some v) o = Some v
first_there None o = o

first_alone : (o : Option FieldValue) → o ≡ first_there o None
unfolding first_there
first_alone (Some v) = refl
first_alone None = refl

-- a value after those under the name comes first where there is none of them
first_after : (values : List FieldValue) (v : FieldValue) (o : Option FieldValue) → first_there (slice_get (values ++ v ∷ []) 0) o ≡ first_there (slice_get values 0) (Some v)
unfolding first_there
first_after [] v o = refl
first_after (x ∷ values) v o = refl

-- one field appended
get_append : (m : Entries FieldValue) (key name : List ℕ) (v : FieldValue) (o : Option FieldValue)
    → first_there (get (append m key v) name) o ≡ first_there (get m name) (if bytes_eq key name then Some v else o)
get_append m key name v o =
    elim (cases_Bool (bytes_eq key name)) [
      | inl t ↦
          let same : key ≡ name = (bytes_eq-Decides key name).0 t in
          rw t (rw same (rw (get_all-append_same m name v) (first_after (get_all m name) v o)))
      | inr n ↦
          let differ : key ≢ name = (λ e. false≢true (sym n ∙ (bytes_eq-Decides key name).1 e)) in
          rw n (ap (λ values. first_there (slice_get values 0) o) (get_all-append_other m key name v differ))
    ]

-- fields appended to a map
get_from : (m : Entries FieldValue) (name : List ℕ) (headers : Headers) → get (append_all m headers) name ≡ first_there (get m name) (first_value name headers)
get_from m name [] = first_alone (get m name)
get_from m name (item ∷ headers) = get_from (append m item.0 item.1) name headers ∙ get_append m item.0 name item.1 (first_value name headers)

pub get_map : (name : List ℕ) (headers : Headers) → get (map_of headers) name ≡ first_value name headers
unfolding first_there
get_map name headers = get_from [] name headers

-- ---- that it has room

length-append_value : (m : Entries FieldValue) (name : List ℕ) (v : FieldValue) → length (append m name v) ≤ suc (length m)
length-append_value [] name v = omega arith
length-append_value (e ∷ m) name v =
    let later = length-append_value m name v in
    elim (cases_Bool (bytes_eq e.0 name)) [ inl t ↦ rw t (omega arith) | inr n ↦ rw n (omega arith) ]

count_cons : (e : Entry FieldValue) (m : Entries FieldValue) → value_count (e ∷ m) ≡ length e.1 + value_count m
count_cons e m = sum_by-cons (λ (x : Entry FieldValue). length x.1) e m

count_append : (m : Entries FieldValue) (name : List ℕ) (v : FieldValue) → value_count (append m name v) ≡ suc (value_count m)
count_append [] name v = refl
count_append (e ∷ m) name v =
    let later = count_append m name v in
    let before = count_cons e m in
    elim (cases_Bool (bytes_eq e.0 name)) [
      | inl t ↦
          let here = count_cons (e.0, e.1 ++ v ∷ []) m in
          let more = length-append e.1 (v ∷ []) in
          rw t (omega arith)
      | inr n ↦
          let here = count_cons e (append m name v) in
          rw n (omega arith)
    ]

length_from : (m : Entries FieldValue) (headers : Headers) → length (append_all m headers) ≤ length m + length headers
length_from m [] = omega arith
length_from m (item ∷ headers) =
    let one = length-append_value m item.0 item.1 in
    let rest = length_from (append m item.0 item.1) headers in
    omega arith

count_from : (m : Entries FieldValue) (headers : Headers) → value_count (append_all m headers) ≡ value_count m + length headers
count_from m [] = omega arith
count_from m (item ∷ headers) =
    let one = count_append m item.0 item.1 in
    let rest = count_from (append m item.0 item.1) headers in
    omega arith

room : (m : Entries FieldValue) → length m ≤ 1000 → value_count m ≤ 1000 → has_no_room m ≡ false
room m names values = or_from (nat_le 24576 (length m)) (nat_le (2 ^ 64) (value_count m + 1)) (lt-leb 24576 (length m) (omega arith)) (lt-leb (2 ^ 64) (value_count m + 1) (omega arith))

-- nor is there want of a place while they are put, whatever the name of the next
pub never_full : (name : List ℕ) (k : ℕ) (headers : Headers) → length headers ≤ 1000 → RefusesAppend (map_of (take k headers)) name → ⊥
never_full name k headers few refused =
    let put = length-take k headers in
    let least = min-le_right k (length headers) in
    let names = length_from [] (take k headers) in
    let values = count_from [] (take k headers) in
    elim refused [ inl full ↦ omega (arith, full) | inr both ↦ elim both.1 [ inl full ↦ omega (arith, full) | inr full ↦ omega (arith, full) ] ]

pub map_has_room : (name : List ℕ) (headers : Headers) → length headers ≤ 1000 → is_full_for (map_of headers) name ≡ false
map_has_room name headers few =
    let names = length_from [] headers in
    let values = count_from [] headers in
    and_right (is_none (index_of (map_of headers) name)) (has_no_room (map_of headers)) (room (map_of headers) (omega arith) (omega arith))

-- ---- a field put into it where there is none of its name

update_alike : (m : Entries FieldValue) (name : List ℕ) (f g : List FieldValue → List FieldValue) → f (get_all m name) ≡ g (get_all m name) → update m name f ≡ update m name g
update_alike [] name f g h = ap (λ (values : List FieldValue). (name, values) ∷ []) h
update_alike (e ∷ m) name f g h =
    elim (cases_Bool (bytes_eq e.0 name)) [
      | inl t ↦ let here = rw t at h in rw t (ap (λ (values : List FieldValue). (e.0, values) ∷ m) here)
      | inr n ↦ let later = rw n at h in rw n (ap (λ (rest : Entries FieldValue). e ∷ rest) (update_alike m name f g later))
    ]

no_values : (values : List FieldValue) → slice_get values 0 ≡ None → values ≡ []
no_values [] h = refl
no_values (v ∷ values) h = absurd (cc)

insert_missing : (m : Entries FieldValue) (name : List ℕ) (v : FieldValue) → get m name ≡ None → insert m name v ≡ append m name v
insert_missing m name v h = update_alike m name (λ values. v ∷ []) (λ values. values ++ v ∷ []) (ap (λ values. values ++ v ∷ []) (sym (no_values (get_all m name) h)))

map_of_push : (headers : Headers) (name : List ℕ) (v : FieldValue) → map_of (headers ++ (name, v) ∷ []) ≡ append (map_of headers) name v
map_of_push headers name v = fold-append (λ (n : Entries FieldValue) (item : List ℕ × FieldValue). append n item.0 item.1) [] headers ((name, v) ∷ [])

put_with_room : (full : Bool) (m n : Entries FieldValue) → full ≡ false → (if full then m else n) ≡ n
put_with_room true m n h = absurd (false≢true (sym h))
put_with_room false m n h = refl

pub put_missing : (name : List ℕ) (value : FieldValue) (headers : Headers) → length headers ≤ 1000 → first_value name headers ≡ None
    → put_in (map_of headers) name value ≡ map_of (headers ++ (name, value) ∷ [])
put_missing name value headers few missing =
    put_with_room (is_full_for (map_of headers) name) (map_of headers) (insert (map_of headers) name value) (map_has_room name headers few)
    ∙ (insert_missing (map_of headers) name value (get_map name headers ∙ missing) ∙ sym (map_of_push headers name value))
