-- What is read of a list is in the grammar, and what is in the grammar is read.
use Rattle.std.proofs.Common.{◌≡◌, ◌≢◌, ℕ, ◌+◌, ◌<◌, ◌≤◌, false, List, [], ◌∷◌, ◌++◌, ◌⊎◌, inl, inr, length, take, drop, refl, sym, ap, ◌∙◌, subst, append_assoc, arith}
use Rattle.std.specs.Prelude.{◌==◌}
use Rattle.std.proofs.lemmas.Bool.{cases_Bool, cases_eq, eqb-true}
use Rattle.std.proofs.lemmas.List.{append-nil, take_at, drop_at, length-append, length-drop}
use Rattle.life_gate.specs.declared.media.pieces.Place.TheVariants.{Outside, Quoted}
use Rattle.life_gate.specs.declared.media.types.MediaItem.{MediaItem}
use Rattle.life_gate.specs.declared.media.types.MediaItem.TheVariants.{Good, Bad}
use Rattle.life_gate.specs.declared.media.types.MediaType.{MediaType}
use Rattle.life_gate.specs.MediaList.{quote, comma, backslash, IsInQuotes, no_more, byte, escaped, IsPiece, nothing, plain, quoted, IsUnclosed, whole, escaping, IsLastPiece, closed, unclosed, IsItem, IsMediaList, last, more}
use Rattle.life_gate.specs.Scanning.{after, piece_len}
use Rattle.life_gate.proofs.MediaTypes.{media_once}

-- tests at bytes that are others
other : (b c : ℕ) → b ≢ c → (b == c) ≡ false
other b c n = elim (cases_Bool (b == c)) [ inl t ↦ absurd (n (eqb-true b c t)) | inr f ↦ f ]

-- the reader goes over what stands in quotes
past_quotes : {inside : List ℕ} → IsInQuotes inside → (tail : List ℕ) → piece_len Quoted (inside ++ tail) ≡ length inside + piece_len Quoted tail
past_quotes no_more tail = omega arith
past_quotes (byte {b} {rest} q s r) tail =
    let step = past_quotes r tail in
    rw (other b quote q, other b backslash s) (omega (arith, step))
past_quotes (escaped {b} {rest} r) tail = let step = past_quotes r tail in omega (arith, step)

past_piece : {piece : List ℕ} → IsPiece piece → (tail : List ℕ) → piece_len Outside (piece ++ tail) ≡ length piece + piece_len Outside tail
past_piece nothing tail = omega arith
past_piece (plain {b} {rest} q c r) tail =
    let step = past_piece r tail in
    rw (other b comma c, other b quote q) (omega (arith, step))
past_piece (quoted {inside} {rest} i r) tail =
    let step = past_piece r tail in
    let inner = past_quotes i (quote ∷ (rest ++ tail)) in
    let join : (inside ++ quote ∷ rest) ++ tail ≡ inside ++ quote ∷ (rest ++ tail) = append_assoc inside (quote ∷ rest) tail in
    rw join (omega (arith, step, inner, length-append inside (quote ∷ rest)))

-- where a piece and a comma stand in front, the reader stops at the comma
pub piece_before : (piece rest : List ℕ) → IsPiece piece → piece_len Outside (piece ++ comma ∷ rest) ≡ length piece
piece_before piece rest p = past_piece p (comma ∷ rest) ∙ omega arith

past_unclosed : {inside : List ℕ} → IsUnclosed inside → piece_len Quoted inside ≡ length inside
past_unclosed (whole {inside} q) = ap (piece_len Quoted) (sym (append-nil inside)) ∙ past_quotes q [] ∙ omega arith
past_unclosed (escaping {inside} q) = past_quotes q (backslash ∷ []) ∙ omega (arith, length-append inside (backslash ∷ []))

-- and in the last piece it comes to the end
pub last_whole : {piece : List ℕ} → IsLastPiece piece → piece_len Outside piece ≡ length piece
last_whole (closed {piece} p) = ap (piece_len Outside) (sym (append-nil piece)) ∙ past_piece p [] ∙ omega arith
last_whole (unclosed {front} {inside} p u) =
    let tail = past_unclosed u in
    past_piece p (quote ∷ inside) ∙ omega (arith, tail, length-append front (quote ∷ inside))

-- a text is one last piece, or begins with a piece and a comma
abbrev IsCut : List ℕ → Type 0
IsCut text = IsLastPiece text ⊎ ((piece : List ℕ) × (rest : List ℕ) × IsPiece piece × (text ≡ piece ++ comma ∷ rest))

-- a text behind a quote is not closed, or closed and cut after that
abbrev IsCutQuoted : List ℕ → Type 0
IsCutQuoted text = IsUnclosed text ⊎ ((inside : List ℕ) × (rest : List ℕ) × IsInQuotes inside × (text ≡ inside ++ quote ∷ rest) × IsCut rest)

-- the same from the byte after the next on
abbrev IsCutEscaped : List ℕ → Type 0
IsCutEscaped [] = Unit {0}
IsCutEscaped (_ ∷ text) = IsCutQuoted text

last_after_byte : (b : ℕ) → b ≢ quote → b ≢ comma → {text : List ℕ} → IsLastPiece text → IsLastPiece (b ∷ text)
last_after_byte b q c (closed p) = closed (plain q c p)
last_after_byte b q c (unclosed p u) = unclosed (plain q c p) u

cut_after_byte : (b : ℕ) → b ≢ quote → b ≢ comma → (text : List ℕ) → IsCut text → IsCut (b ∷ text)
cut_after_byte b q c text (inl l) = inl (last_after_byte b q c l)
cut_after_byte b q c text (inr (piece, rest, p, e)) = inr (b ∷ piece, rest, plain q c p, ap (λ t. b ∷ t) e)

last_after_quotes : (inside : List ℕ) → IsInQuotes inside → {text : List ℕ} → IsLastPiece text → IsLastPiece (quote ∷ (inside ++ quote ∷ text))
last_after_quotes inside i (closed p) = closed (quoted i p)
last_after_quotes inside i (unclosed {front} {inside = behind} p u) =
    subst (λ t. IsLastPiece (quote ∷ t)) (append_assoc inside (quote ∷ front) (quote ∷ behind)) (unclosed (quoted i p) u)

cut_after_quote : (text : List ℕ) → IsCutQuoted text → IsCut (quote ∷ text)
cut_after_quote text (inl u) = inl (unclosed nothing u)
cut_after_quote text (inr (inside, tail, i, e, inl l)) = rw e (inl (last_after_quotes inside i l))
cut_after_quote text (inr (inside, tail, i, e, inr (piece, rest, p, f))) =
    inr (
      quote ∷ (inside ++ quote ∷ piece),
      rest,
      quoted i p,
      ap (λ t. quote ∷ t) (e ∙ ap (λ t. inside ++ quote ∷ t) f ∙ sym (append_assoc inside (quote ∷ piece) (comma ∷ rest))),
    )

quoted_after_byte : (b : ℕ) → b ≢ quote → b ≢ backslash → (text : List ℕ) → IsCutQuoted text → IsCutQuoted (b ∷ text)
quoted_after_byte b q s text (inl (whole i)) = inl (whole (byte q s i))
quoted_after_byte b q s text (inl (escaping i)) = inl (escaping (byte q s i))
quoted_after_byte b q s text (inr (inside, rest, i, e, cut)) = inr (b ∷ inside, rest, byte q s i, ap (λ t. b ∷ t) e, cut)

quoted_after_backslash : (text : List ℕ) → IsCutEscaped text → IsCutQuoted (backslash ∷ text)
quoted_after_backslash [] cut = inl (escaping no_more)
quoted_after_backslash (b ∷ text) (inl (whole i)) = inl (whole (escaped i))
quoted_after_backslash (b ∷ text) (inl (escaping i)) = inl (escaping (escaped i))
quoted_after_backslash (b ∷ text) (inr (inside, rest, i, e, cut)) = inr (backslash ∷ b ∷ inside, rest, escaped i, ap (λ t. backslash ∷ b ∷ t) e, cut)

cut_more : (b : ℕ) (text : List ℕ) → IsCut text → IsCutQuoted text → IsCut (b ∷ text)
cut_more b text outside behind = elim (cases_eq b comma) [
  | inl e ↦ inr ([], text, nothing, ap (λ c. c ∷ text) e)
  | inr no_comma ↦ elim (cases_eq b quote) [
    | inl e ↦ rw e (cut_after_quote text behind)
    | inr no_quote ↦ cut_after_byte b no_quote no_comma text outside
  ]
]

quoted_more : (b : ℕ) (text : List ℕ) → IsCut text → IsCutQuoted text → IsCutEscaped text → IsCutQuoted (b ∷ text)
quoted_more b text outside behind skipped = elim (cases_eq b quote) [
  | inl e ↦ inr ([], text, no_more, ap (λ c. c ∷ text) e, outside)
  | inr no_quote ↦ elim (cases_eq b backslash) [
    | inl e ↦ rw e (quoted_after_backslash text skipped)
    | inr no_backslash ↦ quoted_after_byte b no_quote no_backslash text behind
  ]
]

cuts : (text : List ℕ) → IsCut text × IsCutQuoted text × IsCutEscaped text
cuts [] = (inl (closed nothing), inl (whole no_more), tt)
cuts (b ∷ text) = let c = cuts text in (cut_more b text c.0 c.1, quoted_more b text c.0 c.1 c.2, c.1)

-- what the reader finds of a text: n is how many bytes stand before the comma
pub len_within : (text : List ℕ) → piece_len Outside text ≤ length text
len_within text = elim (cuts text).0 [
  | inl l ↦ omega (arith, last_whole l)
  | inr (piece, rest, p, e) ↦ rw e (omega (arith, piece_before piece rest p, length-append piece (comma ∷ rest)))
]

pub last_found : (text : List ℕ) (n : ℕ) → n ≡ piece_len Outside text → length (drop n text) < 1 → IsLastPiece text
last_found text n at short = elim (cuts text).0 [
  | inl l ↦ l
  | inr (piece, rest, p, e) ↦ absurd (omega (arith, piece_before piece rest p, ap (piece_len Outside) e, ap length e, length-append piece (comma ∷ rest), length-drop n text))
]

pub piece_found : (text : List ℕ) (n : ℕ) → n ≡ piece_len Outside text → 1 ≤ length (drop n text) → IsPiece (take n text) × (text ≡ take n text ++ comma ∷ drop 1 (drop n text))
piece_found text n at some = elim (cuts text).0 [
  | inl l ↦ absurd (omega (arith, last_whole l, length-drop n text))
  | inr (piece, rest, p, e) ↦
      let len : length piece ≡ n = sym (at ∙ ap (piece_len Outside) e ∙ piece_before piece rest p) in
      let front : take n text ≡ piece = ap (take n) e ∙ take_at piece (comma ∷ rest) n len in
      let tail : drop n text ≡ comma ∷ rest = ap (drop n) e ∙ drop_at piece (comma ∷ rest) n len in
      (subst IsPiece (sym front) p, rw (front, tail) e)
]

-- a piece is one item
item_once : (piece : List ℕ) (item item' : MediaItem) → IsItem piece item → IsItem piece item' → item ≡ item'
item_once piece (Good media) (Good media') i j = ap (λ (m : MediaType). Good m) (media_once piece media media' i j)
item_once piece (Good media) Bad i j = absurd (j media i)
item_once piece Bad (Good media) i j = absurd (i media j)
item_once piece Bad Bad i j = refl

-- no last piece has a comma behind a piece
last_apart : (piece rest : List ℕ) → IsPiece piece → IsLastPiece (piece ++ comma ∷ rest) → ⊥
last_apart piece rest p l = omega (arith, piece_before piece rest p, last_whole l, length-append piece (comma ∷ rest))

last_alone : {text : List ℕ} {items : List MediaItem} → IsMediaList text items → IsLastPiece text → (item : MediaItem) → IsItem text item → item ∷ [] ≡ items
last_alone (last {piece} {item = other} l j) p item i = ap (λ (x : MediaItem). x ∷ []) (item_once piece item other i j)
last_alone (more {piece} {rest} q j m) p item i = absurd (last_apart piece rest q p)

same_piece : (piece rest piece' rest' : List ℕ) → IsPiece piece → IsPiece piece' → piece' ++ comma ∷ rest' ≡ piece ++ comma ∷ rest → (piece ≡ piece') × (rest ≡ rest')
same_piece piece rest piece' rest' p q e =
    let len : length piece' ≡ length piece = sym (piece_before piece' rest' q) ∙ ap (piece_len Outside) e ∙ piece_before piece rest p in
    let fronts : piece ≡ piece' =
    sym (take_at piece (comma ∷ rest) (length piece) refl) ∙ ap (take (length piece)) (sym e) ∙ take_at piece' (comma ∷ rest') (length piece) len in
    let tails : comma ∷ rest ≡ comma ∷ rest' =
    sym (drop_at piece (comma ∷ rest) (length piece) refl) ∙ ap (drop (length piece)) (sym e) ∙ drop_at piece' (comma ∷ rest') (length piece) len in
    (fronts, cc)

first_same : {text : List ℕ} {found : List MediaItem} → IsMediaList text found → (piece rest : List ℕ) (item : MediaItem) (items : List MediaItem) → IsPiece piece → IsItem piece item → text ≡ piece ++ comma ∷ rest → ((others : List MediaItem) → IsMediaList rest others → items ≡ others) → item ∷ items ≡ found
first_same (last {piece = whole_text} l j) piece rest item items p i e same = absurd (last_apart piece rest p (subst IsLastPiece e l))
first_same (more {piece = piece'} {rest = rest'} {item = item'} {items = items'} q j m) piece rest item items p i e same =
    let parts = same_piece piece rest piece' rest' p q e in
    let first : item ≡ item' = item_once piece item item' i (subst (λ t. IsItem t item') (sym parts.0) j) in
    let others : items ≡ items' = same items' (subst (λ t. IsMediaList t items') (sym parts.1) m) in
    cc

-- a text is one list of items
pub list_once : {text : List ℕ} {items : List MediaItem} → IsMediaList text items → (others : List MediaItem) → IsMediaList text others → items ≡ others
list_once (last {piece} {item} l i) others m = last_alone m l item i
list_once (more {piece} {rest} {item} {items} p i l) others m = first_same m piece rest item items p i refl (λ zs z. list_once l zs z)

-- one piece more is read
pub list_step : (text rest piece after : List ℕ) (item : MediaItem) (items items' : List MediaItem) → ((others : List MediaItem) → IsMediaList rest others → IsMediaList text (items ++ others)) → IsPiece piece → rest ≡ piece ++ comma ∷ after → IsItem piece item → items' ≡ items ++ item ∷ [] → (others : List MediaItem) → IsMediaList after others → IsMediaList text (items' ++ others)
list_step text rest piece after item items items' so_far p e i pushed others m =
    rw pushed (rw append_assoc (so_far (item ∷ others) (subst (λ t. IsMediaList t (item ∷ others)) (sym e) (more p i m))))

-- and the last one
pub list_end : (text rest : List ℕ) (item : MediaItem) (items items' : List MediaItem) → ((others : List MediaItem) → IsMediaList rest others → IsMediaList text (items ++ others)) → IsLastPiece rest → IsItem rest item → items' ≡ items ++ item ∷ [] → IsMediaList text items'
list_end text rest item items items' so_far l i pushed = rw pushed (so_far (item ∷ []) (last l i))
