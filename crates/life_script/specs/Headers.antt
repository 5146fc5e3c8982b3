-- Header fields in the order in which they are written, and the map that they make.
use Rattle.std.specs.Prelude.{ℕ, List, [], ◌∷◌, ◌++◌, Option, Some, None, bytes_eq, if◌then◌else◌}
use Rattle.http_header.specs.FieldValue.{FieldValue}
use Rattle.http_header.specs.HeaderMap.{Entries, append_all}

-- names, each with one value
abbrev pub Headers : Type 0
Headers = List (List ℕ × FieldValue)

-- each value put after those of its name
abbrev pub map_of : Headers → Entries FieldValue
map_of headers = append_all [] headers

-- the first value under a name
abbrev pub first_value : List ℕ → Headers → Option FieldValue
first_value name [] = None
first_value name (item ∷ headers) = if bytes_eq item.0 name then Some item.1 else first_value name headers

-- the fields with this one at the end, where no value of its name was found
abbrev pub added_to : Option FieldValue → List ℕ → FieldValue → Headers → Headers
added_to (Some there) name value headers = headers
added_to None name value headers = headers ++ (name, value) ∷ []

-- the fields with this one at the end, where none of its name is there
abbrev pub with_missing : List ℕ → FieldValue → Headers → Headers
with_missing name value headers = added_to (first_value name headers) name value headers
