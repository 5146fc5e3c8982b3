-- What `RequiredHeaderValue` asks of a request: one value under one name.
use Rattle.std.specs.Prelude.{◌≡◌, ℕ, List, Bool, true, false, ◌&&◌, not, Option, Some, None, IsOk, bytes_eq}
use Rattle.http_header.specs.FieldValue.{FieldValue, is_visible_text}
use Rattle.http_header.specs.HeaderMap.{Entries, get}
use Rattle.life_core.specs.declared.message.Request.{Request}
use Rattle.life_gate.specs.Judged.{Judged, IsBareRefusal, Verdict}
use Rattle.life_gate.specs.declared.validate_request.required.RequiredHeaderValue.{RequiredHeaderValue}

-- a validator that asks for this value under this name
abbrev pub required_of : {R : Type 0} → List ℕ → List ℕ → RequiredHeaderValue R
required_of name value = record { name = name; value = value; refusal = record {} }

-- a value that is visible ASCII, spaces and tabs, and has these very bytes
abbrev pub matches_first : List ℕ → Option FieldValue → Bool
matches_first expected (Some value) = is_visible_text value.bytes && bytes_eq value.bytes expected
matches_first expected None = false

-- the first value under the name is not the expected one, or there is none
abbrev pub is_refused : List ℕ → List ℕ → Entries FieldValue → Bool
is_refused name value headers = not (matches_first value (get headers name))

-- a bare 403 where the request is refused; no memory is asked for, and validator and request stay as they were
pub record RequiredValidates {R B X : Type 0} (is_body : R → Type 0) (is_ext : X → Type 0) (old : RequiredHeaderValue R) (req : Request B X)
    (answer : Verdict R X) (new : RequiredHeaderValue R) (seen : Request B X) : Type 0 where
  pub judged : Judged (is_refused old.name old.value req.head.parts.headers ≡ false) (is_refused old.name old.value req.head.parts.headers ≡ true) (IsBareRefusal is_body is_ext 403) answer
  pub answered : IsOk answer
  pub same : new ≡ old
  pub kept : seen ≡ req
