-- Media types (RFC 9110, section 8.3.1). Blanks may stand round them, and parameters are not looked at.
use Rattle.std.specs.Prelude.{◌≡◌, ℕ, Bool, ◌||◌, ◌==◌, List, [], ◌∷◌, ◌++◌, drop, Option, Some, MatchOption, if◌then◌else◌}
use Rattle.std.specs.List.{AllPass, list_any, before_last}
use Rattle.http_header.specs.Token.{IsToken, lowercase, space, tab}
use Rattle.life_gate.specs.declared.media.types.MediaType.{MediaType}

-- b'+'
abbrev pub plus : ℕ
plus = 43

-- b'/'
abbrev pub slash : ℕ
slash = 47

-- b';'
abbrev pub semicolon : ℕ
semicolon = 59

-- a space or a tab
abbrev pub is_blank : ℕ → Bool
is_blank b = b == space || b == tab

-- whether the byte is a plus
abbrev pub is_plus : ℕ → Bool
is_plus b = b == plus

-- blanks, the token kind and a slash, and the rest after it
pub record HasKind (text kind rest : List ℕ) : Type 0 where
  pub before : List ℕ
  pub whole : text ≡ before ++ (kind ++ slash ∷ rest)
  pub blanks : AllPass is_blank before
  pub token : IsToken kind

-- no token with a slash after it stands at the front, nor with blanks before it
abbrev pub HasNoKind : List ℕ → Type 0
HasNoKind text = (kind rest : List ℕ) → ¬ (HasKind text kind rest)

-- nothing, or a semicolon and anything
abbrev pub AreParameters : List ℕ → Type 0
AreParameters [] = Unit {0}
AreParameters (b ∷ _) = b ≡ semicolon

-- the token sub, blanks, and parameters
pub record HasSub (text sub : List ℕ) : Type 0 where
  pub after : List ℕ
  pub parameters : List ℕ
  pub whole : text ≡ sub ++ (after ++ parameters)
  pub token : IsToken sub
  pub blanks : AllPass is_blank after
  pub rest : AreParameters parameters

-- the text is no token with only blanks and parameters after it
abbrev pub HasNoSub : List ℕ → Type 0
HasNoSub text = (sub : List ℕ) → ¬ (HasSub text sub)

-- a token up to its last plus that is not its first byte, or the whole where there is none
abbrev pub without_suffix : List ℕ → List ℕ
without_suffix token = if list_any is_plus (drop 1 token) then before_last is_plus token else token

-- two tokens stand for a media type: both in lower case, the second without its suffix
abbrev pub media_of : List ℕ → List ℕ → MediaType
media_of kind sub = record { kind = lowercase kind; sub = lowercase (without_suffix sub) }

-- the text is this media type
pub record IsMediaType (text : List ℕ) (media : MediaType) : Type 0 where
  pub kind : List ℕ
  pub sub : List ℕ
  pub after_slash : List ℕ
  pub has_kind : HasKind text kind after_slash
  pub has_sub : HasSub after_slash sub
  pub is : media ≡ media_of kind sub

-- the text is no media type
abbrev pub IsNoMediaType : List ℕ → Type 0
IsNoMediaType text = (media : MediaType) → ¬ (IsMediaType text media)

-- the text is the media type, or no media type where there is none
abbrev pub IsReadAs : List ℕ → Option MediaType → Type 0
IsReadAs text found = MatchOption found (IsNoMediaType text) (λ media. IsMediaType text media)

-- each media type that the text is, is this one
abbrev pub IsOnlyMediaType : List ℕ → Option MediaType → Type 0
IsOnlyMediaType text found = (media : MediaType) → IsMediaType text media → found ≡ Some media
