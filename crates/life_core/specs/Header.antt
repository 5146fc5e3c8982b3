-- What is put into headers.
use Rattle.std.specs.Prelude.{ℕ, ◌+◌, ◌^◌, List, length, Bool, ◌&&◌, ◌||◌, nat_le, is_none, if◌then◌else◌}
use Rattle.http_header.specs.FieldValue.{FieldValue}
use Rattle.http_header.specs.HeaderMap.{Entries, index_of, insert, value_count}

-- one more name or value would pass the greatest count
abbrev pub has_no_room : Entries FieldValue → Bool
has_no_room m = nat_le 24576 (length m) || nat_le (2 ^ 64) (value_count m + 1)

-- the name is new and there is no room for it
abbrev pub is_full_for : Entries FieldValue → List ℕ → Bool
is_full_for m name = is_none (index_of m name) && has_no_room m

-- the value in place of all those under the name, unless the map is full
abbrev pub put_in : Entries FieldValue → List ℕ → FieldValue → Entries FieldValue
put_in m name value = if is_full_for m name then m else insert m name value
