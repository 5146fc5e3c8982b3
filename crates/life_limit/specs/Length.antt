-- The length that a request tells of its body (RFC 9110, section 8.6), read as Rust reads a `u64`.
use Rattle.std.specs.Prelude.{ℕ, ◌^◌, nat_lt, Bool, ◌&&◌, ◌==◌, List, [], ◌∷◌, length, Option, Some, None, codes, if◌then◌else◌}
use Rattle.std.specs.Str.{all_ascii_digits}
use Rattle.std.specs.Str.Parse.{digits_value}
use Rattle.http_header.specs.FieldValue.{FieldValue}
use Rattle.http_header.specs.HeaderMap.{Entries, get}

-- the bytes after an optional plus
abbrev pub after_plus : List ℕ → List ℕ
after_plus [] = []
after_plus (byte ∷ bytes) = if byte == 43 then bytes else byte ∷ bytes

-- at least one digit, nothing else, and a number below 2 ^ 64
abbrev pub is_length : List ℕ → Bool
is_length digits = nat_lt 0 (length digits) && all_ascii_digits digits && nat_lt (digits_value 10 digits) (2 ^ 64)

-- the length that a value tells, if any
abbrev pub length_in : List ℕ → Option ℕ
length_in value = if is_length (after_plus value) then Some (digits_value 10 (after_plus value)) else None

-- the length that this value tells, if it is there
abbrev pub length_told : Option FieldValue → Option ℕ
length_told (Some value) = length_in value.bytes
length_told None = None

-- the length that the first Content-Length tells, if any
abbrev pub declared : Entries FieldValue → Option ℕ
declared headers = length_told (get headers (codes "content-length"))
