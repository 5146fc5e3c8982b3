-- The headers of a message as they are shown: each name once, with its values in order, sorted by name.
use Rattle.std.specs.Prelude.{ℕ, List, [], ◌∷◌, ◌++◌, map, Bool, Option, Some, None, IsTrue, if◌then◌else◌}
use Rattle.std.specs.FinMap.{is_sorted}
use Rattle.std.specs.List.{filter, list_any}
use Rattle.std.specs.Ordering.{eq_by_cmp, is_lt, nat_cmp}
use Rattle.std.specs.declared.cmp.Ordering.{Ordering}
use Rattle.std.specs.Cmp.Lexicographic.{slice_cmp}
use Rattle.http_header.specs.FieldValue.{FieldValue}
use Rattle.http_header.specs.HeaderMap.{Entry, Entries, keys, get_all}
use Rattle.life_core.specs.declared.fields.Shown.{Shown}
use Rattle.life_core.specs.declared.fields.Shown.TheVariants.{Plain}

-- a value: nothing is marked yet
abbrev pub as_shown : FieldValue → Shown
as_shown value = Plain value.bytes

-- the bytes of names, in order
abbrev pub name_cmp : List ℕ → List ℕ → Ordering
name_cmp = slice_cmp nat_cmp

-- those of the names that stand before a name
abbrev pub lower : List ℕ → List (List ℕ) → List (List ℕ)
lower name names = filter (λ n. is_lt (name_cmp n name)) names

-- those of the names that stand after a name
abbrev pub higher : List ℕ → List (List ℕ) → List (List ℕ)
higher name names = filter (λ n. is_lt (name_cmp name n)) names

-- a name in its place among other names, once
abbrev pub among : List ℕ → List (List ℕ) → List (List ℕ)
among name names = lower name names ++ name ∷ higher name names

-- the names sorted by their bytes, each once
abbrev pub in_order : List (List ℕ) → List (List ℕ)
in_order [] = []
in_order (name ∷ names) = among name (in_order names)

-- the values of a name, in order
abbrev pub values_of : Entries FieldValue → List ℕ → List Shown
values_of headers name = map as_shown (get_all headers name)

-- a name with its values
abbrev pub entry_of : Entries FieldValue → List ℕ → Entry Shown
entry_of headers name = (name, values_of headers name)

-- the headers as they are shown: their names, sorted, each once, with its values in order
abbrev pub fields : Entries FieldValue → Entries Shown
fields headers = map (entry_of headers) (in_order (keys headers))

-- the headers have a name
abbrev pub has_name : Entries FieldValue → List ℕ → Bool
has_name headers name = list_any (eq_by_cmp name_cmp name) (keys headers)

-- what is shown under a name: its values, where the headers have it
abbrev pub shown_under : Entries FieldValue → List ℕ → Option (List Shown)
shown_under headers name = if has_name headers name then Some (values_of headers name) else None

-- no two entries are of one name, and each stands before those of greater names
abbrev pub IsSorted : Entries Shown → Type 0
IsSorted entries = IsTrue (is_sorted name_cmp entries)
