-- A value that is read as text is one that may match.
use Rattle.std.proofs.Common.{◌≡◌, ℕ, List, Bool, true, false, Some, refl, sym, ap}
use Rattle.std.specs.Prelude.{◌&&◌, bytes_eq}
use Rattle.std.proofs.lemmas.List.Sums.{AllPass-from_list_all, list_all-from_AllPass}
use Rattle.http_header.specs.FieldValue.{FieldValue, IsVisibleAscii, is_visible_text}
use Rattle.http_header.specs.Token.{is_visible_or_blank}
use Rattle.life_gate.specs.Required.{matches_first}

pub text_matches : (expected : List ℕ) (value : FieldValue) → IsVisibleAscii value.bytes → bytes_eq value.bytes expected ≡ matches_first expected (Some value)
text_matches expected value v = sym (ap (λ (x : Bool). x && bytes_eq value.bytes expected) (list_all-from_AllPass is_visible_or_blank value.bytes v))

pub no_text_matches : (expected : List ℕ) (value : FieldValue) → (IsVisibleAscii value.bytes → ⊥) → false ≡ matches_first expected (Some value)
no_text_matches expected value hidden = by_test (is_visible_text value.bytes) refl
  where
    by_test : (x : Bool) → is_visible_text value.bytes ≡ x → false ≡ matches_first expected (Some value)
    by_test true t = absurd (hidden (AllPass-from_list_all is_visible_or_blank value.bytes t))
    by_test false t = sym (ap (λ (x : Bool). x && bytes_eq value.bytes expected) t)
