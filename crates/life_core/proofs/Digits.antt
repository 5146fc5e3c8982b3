-- Decimal digits are text.
use Rattle.std.proofs.Common.{◌≡◌, ℕ, List, [], ◌∷◌, true, refl, arith}
use Rattle.std.specs.Prelude.{nat_le, ◌==◌}
use Rattle.std.specs.Char.{is_ascii_digit}
use Rattle.std.specs.List.{list_all}
use Rattle.std.specs.Str.{all_ascii_digits}
use Rattle.std.proofs.lemmas.Bool.{and_parts, and_from, or_right, lt-ltb, leb-true, le-leb}
use Rattle.http_header.specs.Token.{is_visible_or_blank}

digit_visible : (b : ℕ) → is_ascii_digit b ≡ true → is_visible_or_blank b ≡ true
digit_visible b e =
    let k = and_parts (nat_le 48 b) (nat_le b 57) e in
    let low = leb-true 48 b k.0 in let high = leb-true b 57 k.1 in
    or_right (b == 9) _ (and_from _ _ (le-leb 32 b (omega (arith, low))) (lt-ltb b 127 (omega (arith, high))))

pub digits_visible : (digits : List ℕ) → all_ascii_digits digits ≡ true → list_all is_visible_or_blank digits ≡ true
digits_visible [] e = refl
digits_visible (b ∷ bs) e = let k = and_parts (is_ascii_digit b) (all_ascii_digits bs) e in and_from _ _ (digit_visible b k.0) (digits_visible bs k.1)
