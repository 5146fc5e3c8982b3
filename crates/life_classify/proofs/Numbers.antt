-- What `parse` reads of a header value is the number that the value tells.
use Rattle.std.proofs.Common.{◌≡◌, ◌≢◌, ℕ, ℤ, pos, neg_ℤ, ◌<◌, ◌≤◌, List, [], ◌∷◌, length, get_or, Bool, true, false, cond, Some, None, Ok, Err, Result, refl, sym, ap, ◌∙◌, subst, arith, rules}
use Rattle.std.specs.Prelude.{FitsSigned, nat_lt, nat_le, ◌&&◌, ◌||◌, ◌==◌}
use Rattle.std.specs.Int.{w32}
use Rattle.std.proofs.lemmas.Int.{to_z-of_z}
use mir.Val.{to_z, of_z}
use Rattle.std.specs.List.{list_all}
use Rattle.std.specs.Result.{result_ok, OkIff}
use Rattle.std.specs.Str.{all_ascii_digits}
use Rattle.std.specs.Str.Parse.{ParsesSigned, digits_value}
use Rattle.std.proofs.lemmas.Bool.{and_parts, and_from, true≢false, eq-eqb, ltb-true, lt-ltb, leb-true, le-leb, eqb-true}
use Rattle.std.proofs.lemmas.List.Sums.{AllPass-from_list_all}
use Rattle.std.proofs.lemmas.Str.Parse.{IsNumeralModel, numerals_by_value, tells_all_ascii_digits, parse_signed_plain, parse_signed_plus, parse_signed_minus}
use Rattle.http_header.specs.FieldValue.{IsVisibleAscii}
use Rattle.http_header.specs.Token.{is_visible_or_blank}
use Rattle.life_core.proofs.Digits.{digits_visible}
use Rattle.life_classify.specs.Number.{is_negative, after_sign, greatest, is_number, signed, number_in}

own : IsNumeralModel (λ digits. all_ascii_digits digits ≡ true) (digits_value 10)
own = numerals_by_value _ tells_all_ascii_digits

-- the digits of a number that is at most m
abbrev IsAtMost : ℕ → List ℕ → Type 0
IsAtMost m digits = (all_ascii_digits digits ≡ true) × (0 < length digits) × (digits_value 10 digits ≤ m)

-- the test says it
to_test : (negative : Bool) (digits : List ℕ) → IsAtMost (greatest negative) digits → is_number negative digits ≡ true
to_test negative digits p =
    and_from _ _ (and_from _ _ (lt-ltb 0 (length digits) p.1) p.0) (le-leb (digits_value 10 digits) (greatest negative) p.2)

from_test : (negative : Bool) (digits : List ℕ) → is_number negative digits ≡ true → IsAtMost (greatest negative) digits
from_test negative digits e =
    let a = and_parts (nat_lt 0 (length digits) && all_ascii_digits digits) (nat_le (digits_value 10 digits) (greatest negative)) e in
    let b = and_parts (nat_lt 0 (length digits)) (all_ascii_digits digits) a.0 in
    (b.1, ltb-true 0 (length digits) b.0, leb-true (digits_value 10 digits) (greatest negative) a.1)

-- what is read exactly where a test holds
by_test : {E : Type 0} (r : Result ℤ E) (P : Type 0) (n : ℤ) (test : Bool) → OkIff r P n → (P → test ≡ true) → (test ≡ true → P) → result_ok r ≡ cond test (Some n) None
by_test (Ok x) P n test p to from = ap (λ n. Some n) p.1 ∙ sym (ap (λ (x : Bool). cond x (Some n) None) (to p.0))
by_test {E} (Err e) P n true p to from = absurd (p (from refl))
by_test {E} (Err e) P n false p to from = refl

-- the three forms of a text
minus_read : {E : Type 0} (bytes : List ℕ) (r : Result ℤ E) → ParsesSigned w32 10 (45 ∷ bytes) r →
    result_ok r ≡ cond (is_number true bytes) (Some (neg_ℤ (pos (digits_value 10 bytes)))) None
minus_read bytes r p =
    by_test r _ _ (is_number true bytes) (parse_signed_minus own w32 (45 ∷ bytes) r p refl)
    (λ q. to_test true bytes q) (λ e. from_test true bytes e)

plus_read : {E : Type 0} (bytes : List ℕ) (r : Result ℤ E) → ParsesSigned w32 10 (43 ∷ bytes) r →
    result_ok r ≡ cond (is_number false bytes) (Some (pos (digits_value 10 bytes))) None
plus_read bytes r p =
    by_test r _ _ (is_number false bytes) (parse_signed_plus own w32 (43 ∷ bytes) r p refl)
    (λ q. to_test false bytes (q.0, q.1, omega arith))
    (λ e. let q = from_test false bytes e in (q.0, q.1, omega arith))

plain_read : {E : Type 0} (text : List ℕ) (r : Result ℤ E) → ParsesSigned w32 10 text r → get_or text 0 0 ≢ 43 → get_or text 0 0 ≢ 45 →
    result_ok r ≡ cond (is_number false text) (Some (pos (digits_value 10 text))) None
plain_read text r p no_plus no_minus =
    by_test r _ _ (is_number false text) (parse_signed_plain own w32 text r p no_plus no_minus)
    (λ q. to_test false text (q.0, q.1, omega arith))
    (λ e. let q = from_test false text e in (q.0, q.1, omega arith))

not_byte : (b n : ℕ) → (b == n) ≡ false → b ≢ n
not_byte b n e same = absurd (true≢false (sym (eq-eqb b n same) ∙ e))

-- what is read as an `i32` is the number
pub number_read : {E : Type 0} (value : List ℕ) (r : Result ℤ E) → ParsesSigned w32 10 value r → result_ok r ≡ number_in value
number_read [] r p = plain_read [] r p (λ e. search rules) (λ e. search rules)
number_read {E} (b ∷ bs) r p = by_byte (b == 45) (b == 43) refl refl
  where
    by_byte : (x y : Bool) → (b == 45) ≡ x → (b == 43) ≡ y → result_ok r ≡ number_in (b ∷ bs)
    by_byte true y t u =
        let e = eqb-true b 45 t in
        subst (λ n. ParsesSigned w32 10 (n ∷ bs) r → result_ok r ≡ number_in (n ∷ bs)) (sym e) (minus_read bs r) p
    by_byte false true t u =
        let e = eqb-true b 43 u in
        subst (λ n. ParsesSigned w32 10 (n ∷ bs) r → result_ok r ≡ number_in (n ∷ bs)) (sym e) (plus_read bs r) p
    by_byte false false t u = rw (t, u) (plain_read (b ∷ bs) r p (not_byte b 43 u) (not_byte b 45 t))

-- digits, and a sign before them, are text
value_visible : (value : List ℕ) → all_ascii_digits (after_sign value) ≡ true → list_all is_visible_or_blank value ≡ true
value_visible [] e = refl
value_visible (b ∷ bs) e = by_byte (b == 45) (b == 43) refl refl e
  where
    by_byte : (x y : Bool) → (b == 45) ≡ x → (b == 43) ≡ y → all_ascii_digits (cond (x || y) bs (b ∷ bs)) ≡ true → list_all is_visible_or_blank (b ∷ bs) ≡ true
    by_byte true y t u e = and_from _ _ (ap is_visible_or_blank (eqb-true b 45 t)) (digits_visible bs e)
    by_byte false true t u e = and_from _ _ (ap is_visible_or_blank (eqb-true b 43 u)) (digits_visible bs e)
    by_byte false false t u e = digits_visible (b ∷ bs) e

-- what is no text tells no number
pub no_number : (value : List ℕ) → (IsVisibleAscii value → ⊥) → None ≡ number_in value
no_number value hidden = by_case (is_number (is_negative value) (after_sign value)) refl
  where
    by_case : (x : Bool) → is_number (is_negative value) (after_sign value) ≡ x → None ≡ number_in value
    by_case true t =
        absurd (hidden (AllPass-from_list_all is_visible_or_blank value (value_visible value (from_test (is_negative value) (after_sign value) t).0)))
    by_case false t = sym (ap (λ (x : Bool). cond x (Some (signed (is_negative value) (digits_value 10 (after_sign value)))) None) t)

-- a number that was read fits
pub number_fits : (number value : ℤ) → FitsSigned w32 value → number ≡ value → to_z w32 (of_z w32 number) ≡ number
number_fits number value fits same = to_z-of_z w32 number (subst (λ n. FitsSigned w32 n) (sym same) fits)
