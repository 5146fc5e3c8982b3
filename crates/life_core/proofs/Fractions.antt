-- The digits of a fraction, as they are counted and as they are written.
use Rattle.std.proofs.Common.{◌≡◌, ℕ, zero, suc, ◌+◌, ◌-◌, ◌/◌, ◌%◌, ◌^◌, ◌<◌, ◌≤◌, ◌++◌, [], ◌∷◌, List, length, replicate, refl, sym, ap, ◌∙◌, arith, length-append, append_assoc, append-nil, ne_eqb, ⊎_elim, codes}
use Rattle.std.proofs.Math.Nat.{pow-suc}
use Rattle.std.specs.Char.{encode_utf8}
use Rattle.std.specs.Str.{encode_utf8_all}
use Rattle.std.proofs.lemmas.Fmt.{decimal_digit, decimal_step}
use Rattle.std.proofs.lemmas.List.{replicate_more}
use Rattle.std.proofs.lemmas.Bool.{cases_lt}
use Rattle.std.specs.Fmt.{digits, decimal, styled_decimal, padded_integral, char_count, format_spec}
use Rattle.life_core.specs.declared.latency.LatencyUnit.TheVariants.{Seconds, Millis, Micros}
use Rattle.life_core.specs.Texts.{last_digits, trimmed_digits, fraction_text, shown_in}

-- a number with a digit needs room for one
pub nonzero_width : (width number : ℕ) → 0 < number → number < 10 ^ width → 0 < width
nonzero_width zero number some fits = absurd (omega arith)
nonzero_width (suc width) number some fits = omega arith

-- a digit less needs room for one less
pub quotient-fits : (width number : ℕ) → number < 10 ^ suc width → number / 10 < 10 ^ width
quotient-fits width number fits = omega (arith, pow-suc 10 width)

-- a zero at the end is dropped, and what is left fits as well
pub shorter : (width number : ℕ) → 0 < number → number % 10 ≡ 0 → number < 10 ^ width
    → (trimmed_digits (width - 1) (number / 10) ≡ trimmed_digits width number) × (number / 10 < 10 ^ (width - 1))
unfolding trimmed_digits
shorter zero number some ends fits = absurd (omega arith)
shorter (suc width) number some ends fits =
    let one_less : suc width - 1 ≡ width = omega arith in
    (rw (one_less, ends), rw one_less (quotient-fits width number fits))

-- without one, all the digits stand
pub trimmed_digits-last : (width number : ℕ) → 0 < number % 10 → trimmed_digits width number ≡ last_digits width number
unfolding trimmed_digits
trimmed_digits-last zero number ends = refl
trimmed_digits-last (suc width) number ends =
    let other : number % 10 ≡ 0 → ⊥ = λ h. omega arith in rw (ne_eqb (number % 10) 0 other)

-- the digits of zero are zeros
last_digits-zero : (width : ℕ) → last_digits width 0 ≡ replicate width 48
last_digits-zero zero = refl
last_digits-zero (suc width) =
    let next : width + 1 ≡ suc width = omega arith in
    ap (λ (l : List ℕ). l ++ 48 ∷ []) (last_digits-zero width) ∙ replicate_more width 48 ∙ ap (λ (n : ℕ). replicate n 48) next

-- a number of one digit
one_digit : (width number : ℕ) → number < 10 → replicate (suc width - length (decimal number)) 48 ++ decimal number ≡ last_digits (suc width) number
one_digit width number one =
    let front : number / 10 ≡ 0 = omega arith in
    let last : number % 10 ≡ number = omega arith in
    let zeros : suc width - 1 ≡ width = omega arith in
    rw (decimal_digit number one, front, last, zeros, last_digits-zero width)

-- a digit after the last ones
digit_more : (width number : ℕ) → 10 ≤ number → number < 2 ^ 64
    → replicate (width - length (decimal (number / 10))) 48 ++ decimal (number / 10) ≡ last_digits width (number / 10)
    → replicate (suc width - length (decimal number)) 48 ++ decimal number ≡ last_digits (suc width) number
digit_more width number many small before =
    let front = decimal (number / 10) in
    let last = (48 + number % 10) ∷ [] in
    let zeros : suc width - length (front ++ last) ≡ width - length front = omega (arith, length-append front last) in
    rw (decimal_step number many small, zeros, ← append_assoc) (ap (λ (l : List ℕ). l ++ last) before)

-- zeros in front of a number that fits make its last digits
zeros-decimal : (width number : ℕ) → number < 10 ^ suc width → number < 2 ^ 64
    → replicate (suc width - length (decimal number)) 48 ++ decimal number ≡ last_digits (suc width) number
zeros-decimal zero number fits small = one_digit zero number fits
zeros-decimal (suc width) number fits small =
    ⊎_elim
    (one_digit (suc width) number)
    (λ many. digit_more (suc width) number many small (zeros-decimal width (number / 10) (quotient-fits (suc width) number fits) (omega arith)))
    (cases_lt number 10)

-- what a format with zeros up to a width writes
padded-zeros : (width number : ℕ) → 0 < width → styled_decimal (format_spec 32 0 4 width (2 ^ 64 - 1)) number ≡ replicate (width - length (decimal number)) 48 ++ decimal number
unfolding padded_integral char_count
padded-zeros width number some =
    let other : width ≡ 0 → ⊥ = λ h. omega arith in
    let short : width - length (decimal number) - 0 - 0 ≡ width - length (decimal number) = omega arith in
    rw (ne_eqb width 0 other, short, append-nil (decimal number))

-- which of a number that fits are its last digits
pub styled_decimal-zeros : (width number : ℕ) → 0 < width → number < 10 ^ width → number < 2 ^ 64 → styled_decimal (format_spec 32 0 4 width (2 ^ 64 - 1)) number ≡ last_digits width number
styled_decimal-zeros zero number some fits small = absurd (omega arith)
styled_decimal-zeros (suc width) number some fits small = padded-zeros (suc width) number some ∙ zeros-decimal width number fits small

-- where something is over, a point and its digits
pub fraction_text-some : (nanos : ℕ) (digits : List ℕ) → (nanos % 1000000000 ≡ 0 → ⊥) → trimmed_digits 9 (nanos % 1000000000) ≡ digits → fraction_text nanos ≡ 46 ∷ digits
fraction_text-some nanos digits over same = rw (ne_eqb (nanos % 1000000000) 0 over, same)

-- seconds as they are written, digit by digit, are as they are shown
pub seconds_text : (nanos number width : ℕ) → number < 10 ^ width → 0 < width → number < 2 ^ 64 → fraction_text nanos ≡ 46 ∷ last_digits width number
    → decimal (nanos / 1000000000) ++ 46 ∷ (styled_decimal (format_spec 32 0 4 width (2 ^ 64 - 1)) number ++ codes " s") ≡ shown_in Seconds nanos
seconds_text nanos number width fits some small text =
    rw (styled_decimal-zeros width number some fits small, text) (sym (append_assoc (decimal (nanos / 1000000000)) (46 ∷ last_digits width number) (codes " s")))

-- The texts of latencies that are written out compute.
halves : shown_in Seconds 1500000000 ≡ codes "1.5 s"
unfolding trimmed_digits digits
halves = refl

whole : shown_in Seconds 2000000000 ≡ codes "2 s"
unfolding digits
whole = refl

least : shown_in Seconds 1 ≡ codes "0.000000001 s"
unfolding trimmed_digits digits
least = refl

rounded_down : shown_in Millis 1999999 ≡ codes "1 ms"
unfolding digits
rounded_down = refl

micros : shown_in Micros 1500000000 ≡ encode_utf8_all (codes "1500000 μs")
unfolding digits encode_utf8
micros = refl
