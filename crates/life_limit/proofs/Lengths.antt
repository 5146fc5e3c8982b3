-- What `parse` reads of a header value is the length that the value tells.
use Rattle.std.proofs.Common.{◌≡◌, ℕ, ◌^◌, ◌<◌, List, [], ◌∷◌, length, drop, Bool, true, false, cond, Some, None, Ok, Err, Result, refl, sym, ap, ◌∙◌, subst}
use Rattle.std.specs.Prelude.{nat_lt, ◌&&◌, ◌==◌}
use Rattle.std.specs.List.{list_all}
use Rattle.std.specs.Result.{result_ok}
use Rattle.std.specs.Str.{all_ascii_digits}
use Rattle.std.specs.Str.Parse.{ParsesUnsigned, IsNumeral, digits_value, without_leading_plus}
use Rattle.std.proofs.lemmas.Bool.{and_parts, and_from, ltb-true, lt-ltb, eqb-true}
use Rattle.std.proofs.lemmas.List.Sums.{AllPass-from_list_all}
use Rattle.std.proofs.lemmas.Str.Parse.{IsNumeralModel, numerals_by_value, tells_all_ascii_digits}
use Rattle.http_header.specs.FieldValue.{IsVisibleAscii}
use Rattle.http_header.specs.Token.{is_visible_or_blank}
use Rattle.life_core.proofs.Digits.{digits_visible}
use Rattle.life_limit.specs.Length.{after_plus, is_length, length_in}

own : IsNumeralModel (λ digits. all_ascii_digits digits ≡ true) (digits_value 10)
own = numerals_by_value _ tells_all_ascii_digits

plus_is : (value : List ℕ) → without_leading_plus value ≡ after_plus value
plus_is [] = refl
plus_is (b ∷ bs) = by_test (b == 43)
  where
    by_test : (x : Bool) → drop (cond x 1 0) (b ∷ bs) ≡ cond x bs (b ∷ bs)
    by_test true = refl
    by_test false = refl

-- the parts of the test
numeral : (digits : List ℕ) → is_length digits ≡ true → IsNumeral 10 digits × (digits_value 10 digits < 2 ^ 64)
numeral digits e =
    let a = and_parts (nat_lt 0 (length digits) && all_ascii_digits digits) (nat_lt (digits_value 10 digits) (2 ^ 64)) e in
    let b = and_parts (nat_lt 0 (length digits)) (all_ascii_digits digits) a.0 in
    let all = own.to digits b.1 in
    ((ltb-true 0 (length digits) b.0, all), subst (λ n. n < 2 ^ 64) (own.same digits all) (ltb-true (digits_value 10 digits) (2 ^ 64) a.1))

test : (digits : List ℕ) → IsNumeral 10 digits → digits_value 10 digits < 2 ^ 64 → is_length digits ≡ true
test digits n small =
    and_from _ _ (and_from _ _ (lt-ltb 0 (length digits) n.0) (own.from digits n.1))
    (lt-ltb (digits_value 10 digits) (2 ^ 64) (subst (λ n. n < 2 ^ 64) (sym (own.same digits n.1)) small))

-- what is read as a `u64` is the length
read_by : {E : Type 0} (digits value : List ℕ) (r : Result ℕ E) → without_leading_plus value ≡ digits → ParsesUnsigned 64 10 value r → result_ok r ≡ cond (is_length digits) (Some (digits_value 10 digits)) None
read_by digits value (Ok n) e p =
    let q = subst (λ ds. IsNumeral 10 ds × (digits_value 10 ds < 2 ^ 64)) e p.0 in
    ap (λ n. Some n) (p.1 ∙ ap (λ ds. digits_value 10 ds) e ∙ sym (own.same digits q.0.1))
    ∙ sym (ap (λ (x : Bool). cond x (Some (digits_value 10 digits)) None) (test digits q.0 q.1))
read_by digits value (Err x) e p = by_test (is_length digits) refl
  where
    by_test : (x : Bool) → is_length digits ≡ x → None ≡ cond (is_length digits) (Some (digits_value 10 digits)) None
    by_test true t = absurd (p (subst (λ ds. IsNumeral 10 ds × (digits_value 10 ds < 2 ^ 64)) (sym e) (numeral digits t)))
    by_test false t = sym (ap (λ (x : Bool). cond x (Some (digits_value 10 digits)) None) t)

pub length_read : {E : Type 0} (value : List ℕ) (r : Result ℕ E) → ParsesUnsigned 64 10 value r → result_ok r ≡ length_in value
length_read value r p = read_by (after_plus value) value r (plus_is value) p

-- digits, and a plus before them, are text
value_visible : (value : List ℕ) → all_ascii_digits (after_plus value) ≡ true → list_all is_visible_or_blank value ≡ true
value_visible [] e = refl
value_visible (b ∷ bs) e = by_test (b == 43) refl e
  where
    by_test : (x : Bool) → (b == 43) ≡ x → all_ascii_digits (cond x bs (b ∷ bs)) ≡ true → list_all is_visible_or_blank (b ∷ bs) ≡ true
    by_test true t e = and_from _ _ (ap is_visible_or_blank (eqb-true b 43 t)) (digits_visible bs e)
    by_test false t e = digits_visible (b ∷ bs) e

-- what is no text tells no length
pub no_length : (value : List ℕ) → (IsVisibleAscii value → ⊥) → None ≡ length_in value
no_length value hidden = by_test (is_length (after_plus value)) refl
  where
    by_test : (x : Bool) → is_length (after_plus value) ≡ x → None ≡ length_in value
    by_test true t =
        let a = and_parts _ _ t in let b = and_parts _ _ a.0 in
        absurd (hidden (AllPass-from_list_all is_visible_or_blank value (value_visible value b.1)))
    by_test false t = sym (ap (λ (x : Bool). cond x (Some (digits_value 10 (after_plus value))) None) t)
