-- The number that a header value tells, read as Rust reads an `i32`. A value that is no text has bytes that are no
-- digits, so it tells none.
use Rattle.std.specs.Prelude.{ℕ, ℤ, pos, neg_ℤ, ◌-◌, ◌^◌, nat_lt, nat_le, Bool, false, ◌&&◌, ◌||◌, ◌==◌, List, [], ◌∷◌, length, Option, Some, None, if◌then◌else◌}
use Rattle.std.specs.Str.{all_ascii_digits}
use Rattle.std.specs.Str.Parse.{digits_value}

-- whether the first byte is a minus
abbrev pub is_negative : List ℕ → Bool
is_negative [] = false
is_negative (byte ∷ bytes) = byte == 45

-- the bytes after an optional plus or minus
abbrev pub after_sign : List ℕ → List ℕ
after_sign [] = []
after_sign (byte ∷ bytes) = if byte == 45 || byte == 43 then bytes else byte ∷ bytes

-- the greatest number after a minus, or without one
abbrev pub greatest : Bool → ℕ
greatest negative = if negative then 2 ^ 31 else 2 ^ 31 - 1

-- at least one digit, nothing else, and a number that is not too great
abbrev pub is_number : Bool → List ℕ → Bool
is_number negative digits =
    nat_lt 0 (length digits) && all_ascii_digits digits && nat_le (digits_value 10 digits) (greatest negative)

-- the number, below zero after a minus
abbrev pub signed : Bool → ℕ → ℤ
signed negative n = if negative then neg_ℤ (pos n) else pos n

-- the number that such digits write
abbrev pub signed_number : Bool → List ℕ → Option ℤ
signed_number negative digits = if is_number negative digits then Some (signed negative (digits_value 10 digits)) else None

-- the number that a value tells, if any
abbrev pub number_in : List ℕ → Option ℤ
number_in value = signed_number (is_negative value) (after_sign value)
