-- When a text is a header name, and when it is a value.
use Rattle.std.proofs.Common.{◌≡◌, ℕ, Bool, true, false, cond, List, Some, None, refl, sym, ap, ◌∙◌, arith}
use Rattle.std.proofs.lemmas.List.Sums.{list_all-from_AllPass}
use Rattle.std.proofs.lemmas.Bool.Decides.{nat_tests}
use Rattle.std.proofs.lemmas.Bool.{false≢true}
use Rattle.std.specs.List.{list_all}
use Rattle.http_header.specs.Token.{token_test, is_token_byte, is_value_byte, lowercase}
use Rattle.http_header.specs.FieldName.{is_field_name, IsFieldName}
use Rattle.http_header.specs.FieldValue.{FieldValue, IsFieldValue, plain_value}
use Rattle.http_header.proofs.TokenLemmas.{IsFieldName-from_test}
use Rattle.life_script.specs.Reading.{as_name, as_value}

-- a name passes the test
test_from : (text : List ℕ) → IsFieldName text → is_field_name text ≡ true
unfolding is_token_byte
test_from text h = let tokens = list_all-from_AllPass token_test text h.0.1 in let some = h.0.0 in let short = h.1 in grind (arith, nat_tests, tokens)

pub name_good : (text name : List ℕ) → ((IsFieldName text → ⊥) → ⊥) → name ≡ lowercase text → as_name text ≡ Some name
name_good text name not_not e = by_test (is_field_name text) refl
  where
    by_test : (b : Bool) → is_field_name text ≡ b → as_name text ≡ Some name
    by_test true t = ap (λ (b : Bool). cond b (Some (lowercase text)) None) t ∙ ap (λ (n : List ℕ). Some n) (sym e)
    by_test false t = absurd (not_not (λ h. false≢true (sym t ∙ test_from text h)))

pub name_bad : (text : List ℕ) → (IsFieldName text → ⊥) → as_name text ≡ None
name_bad text h = by_test (is_field_name text) refl
  where
    by_test : (b : Bool) → is_field_name text ≡ b → as_name text ≡ None
    by_test true e = absurd (h (IsFieldName-from_test text e))
    by_test false e = ap (λ (b : Bool). cond b (Some (lowercase text)) None) e

pub value_good : (text : List ℕ) (value : FieldValue) → ((IsFieldValue text → ⊥) → ⊥) → value ≡ plain_value text → as_value text ≡ Some value
value_good text value not_not e = by_test (list_all is_value_byte text) refl
  where
    by_test : (b : Bool) → list_all is_value_byte text ≡ b → as_value text ≡ Some value
    by_test true t = ap (λ (b : Bool). cond b (Some (plain_value text)) None) t ∙ ap (λ (v : FieldValue). Some v) (sym e)
    by_test false t = absurd (not_not (λ h. false≢true (sym t ∙ list_all-from_AllPass is_value_byte text h)))
