-- What the readers find byte by byte. No contract of a public call speaks of it.
use Rattle.std.specs.Prelude.{◌≡◌, ◌≢◌, ℕ, ◌+◌, ◌<◌, ◌≤◌, Bool, true, false, ◌==◌, List, [], ◌∷◌, length, slice_index, if◌then◌else◌}
use Rattle.life_gate.specs.declared.media.pieces.Place.{Place}
use Rattle.life_gate.specs.declared.media.pieces.Place.TheVariants.{Outside, Quoted, Escaped}
use Rattle.life_gate.specs.MediaList.{quote, comma, backslash}
use Rattle.life_gate.specs.MediaType.{plus, slash, is_plus}

-- n bytes at the front pass the test, and the byte after them, if there is one, does not
pub record IsFrontLen (test : ℕ → Bool) (bytes : List ℕ) (n : ℕ) : Type 0 where
  pub within : n ≤ length bytes
  pub passes : (k : ℕ) → k < n → test (slice_index bytes k) ≡ true
  pub stops : n < length bytes → test (slice_index bytes n) ≡ false

-- the first byte, if there is one, is no slash
abbrev pub BeginsWithNoSlash : List ℕ → Type 0
BeginsWithNoSlash text = (rest : List ℕ) → text ≢ slash ∷ rest

-- no byte is a plus
abbrev pub HasNoPlus : List ℕ → Type 0
HasNoPlus token = (k : ℕ) → k < length token → is_plus (slice_index token k) ≡ false

-- the last plus stands at this index
abbrev pub IsLastPlus : List ℕ → ℕ → Type 0
IsLastPlus token i =
    (i < length token) × (slice_index token i ≡ plus)
    × ((k : ℕ) → i < k → k < length token → is_plus (slice_index token k) ≡ false)

-- whether the byte ends a piece at this place
abbrev pub ends : Place → ℕ → Bool
ends Outside byte = byte == comma
ends Quoted byte = false
ends Escaped byte = false

-- the place after the byte
abbrev pub after : Place → ℕ → Place
after Outside byte = if byte == quote then Quoted else Outside
after Quoted byte = if byte == quote then Outside else if byte == backslash then Escaped else Quoted
after Escaped byte = Quoted

-- how many bytes the piece has from this place on
abbrev pub piece_len : Place → List ℕ → ℕ
piece_len place [] = 0
piece_len place (byte ∷ bytes) = if ends place byte then 0 else 1 + piece_len (after place byte) bytes
