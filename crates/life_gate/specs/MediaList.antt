-- Lists of media types: pieces with commas between them, where no comma in a quoted part counts.
use Rattle.std.specs.Prelude.{◌≡◌, ◌≢◌, ℕ, List, [], ◌∷◌, ◌++◌}
use Rattle.life_gate.specs.declared.media.types.MediaItem.{MediaItem}
use Rattle.life_gate.specs.declared.media.types.MediaItem.TheVariants.{Good, Bad}
use Rattle.life_gate.specs.MediaType.{IsMediaType, IsNoMediaType}

-- b'"'
abbrev pub quote : ℕ
quote = 34

-- b','
abbrev pub comma : ℕ
comma = 44

-- b'\\'
abbrev pub backslash : ℕ
backslash = 92

-- what stands between two quotes, where a backslash takes the next byte with it
pub data IsInQuotes : List ℕ → Type 0 where
  no_more : IsInQuotes []
  byte : {b : ℕ} {rest : List ℕ} → b ≢ quote → b ≢ backslash → IsInQuotes rest → IsInQuotes (b ∷ rest)
  escaped : {b : ℕ} {rest : List ℕ} → IsInQuotes rest → IsInQuotes (backslash ∷ b ∷ rest)

-- a piece: bytes that are no quotes and no commas, and quoted parts
pub data IsPiece : List ℕ → Type 0 where
  nothing : IsPiece []
  plain : {b : ℕ} {rest : List ℕ} → b ≢ quote → b ≢ comma → IsPiece rest → IsPiece (b ∷ rest)
  quoted : {inside rest : List ℕ} → IsInQuotes inside → IsPiece rest → IsPiece (quote ∷ (inside ++ quote ∷ rest))

-- what stands behind a quote up to the end of the text, perhaps with a backslash last
pub data IsUnclosed : List ℕ → Type 0 where
  whole : {inside : List ℕ} → IsInQuotes inside → IsUnclosed inside
  escaping : {inside : List ℕ} → IsInQuotes inside → IsUnclosed (inside ++ backslash ∷ [])

-- the last piece, whose last quoted part need not be closed
pub data IsLastPiece : List ℕ → Type 0 where
  closed : {piece : List ℕ} → IsPiece piece → IsLastPiece piece
  unclosed : {front inside : List ℕ} → IsPiece front → IsUnclosed inside → IsLastPiece (front ++ quote ∷ inside)

-- a piece is its media type, or a bad item where it is none
abbrev pub IsItem : List ℕ → MediaItem → Type 0
IsItem piece (Good media) = IsMediaType piece media
IsItem piece Bad = IsNoMediaType piece

-- the items of the text's pieces, in order
pub data IsMediaList : List ℕ → List MediaItem → Type 0 where
  last : {piece : List ℕ} {item : MediaItem} → IsLastPiece piece → IsItem piece item → IsMediaList piece (item ∷ [])
  more : {piece rest : List ℕ} {item : MediaItem} {items : List MediaItem}
      → IsPiece piece → IsItem piece item → IsMediaList rest items → IsMediaList (piece ++ comma ∷ rest) (item ∷ items)

-- the text has no other items than these
abbrev pub IsOnlyMediaList : List ℕ → List MediaItem → Type 0
IsOnlyMediaList text items = (others : List MediaItem) → IsMediaList text others → items ≡ others
