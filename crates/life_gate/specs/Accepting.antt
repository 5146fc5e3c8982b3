-- What the `Accept` headers of a request let a media type pass by.
use Rattle.std.specs.Prelude.{◌≡◌, ℕ, ◌⊎◌, List, [], codes, Any}
use Rattle.http_header.specs.FieldValue.{FieldValue, IsVisibleAscii}
use Rattle.http_header.specs.HeaderMap.{Entries, get_all}
use Rattle.life_gate.specs.declared.media.types.MediaItem.{MediaItem}
use Rattle.life_gate.specs.declared.media.types.MediaItem.TheVariants.{Good, Bad}
use Rattle.life_gate.specs.declared.media.types.MediaType.{MediaType}
use Rattle.life_gate.specs.MediaList.{IsMediaList}

-- what stands for any kind or sub
abbrev pub star : List ℕ
star = codes "*"

-- the offered media type is the wanted one, has its kind and any sub, or is any media type
abbrev pub IsMatch : MediaType → MediaType → Type 0
IsMatch wanted offered =
    ((offered.kind ≡ wanted.kind) × (offered.sub ≡ wanted.sub))
    ⊎ (((offered.kind ≡ wanted.kind) × (offered.sub ≡ star)) ⊎ ((offered.kind ≡ star) × (offered.sub ≡ star)))

-- a bad item never matches
abbrev pub Matches : MediaType → MediaItem → Type 0
Matches wanted (Good offered) = IsMatch wanted offered
Matches wanted Bad = ⊥

-- the value is a list with an item that matches; one with a byte that is no visible ASCII, space or tab is not read
pub record Offers (wanted : MediaType) (value : FieldValue) : Type 0 where
  pub items : List MediaItem
  pub visible : IsVisibleAscii value.bytes
  pub list : IsMediaList value.bytes items
  pub matching : Any (Matches wanted) items

-- the values of the `Accept` headers, in order
abbrev pub accepted : Entries FieldValue → List FieldValue
accepted headers = get_all headers (codes "accept")

-- some value of the `Accept` headers offers the media type
abbrev pub IsOffered : Entries FieldValue → MediaType → Type 0
IsOffered headers wanted = Any (Offers wanted) (accepted headers)

-- no header says what is accepted, or some value offers it
abbrev pub IsAcceptable : Entries FieldValue → MediaType → Type 0
IsAcceptable headers wanted = (accepted headers ≡ []) ⊎ IsOffered headers wanted
