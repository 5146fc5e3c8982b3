-- What is read of a media type is in the grammar, and what is in the grammar is read.
use Rattle.std.proofs.Common.{◌≡◌, ℕ, ◌+◌, ◌-◌, ◌<◌, Bool, true, false, cond, not, true≢false, List, [], ◌∷◌, ◌++◌, length, take, drop, get_or, Some, Ok, Err, Result, refl, sym, ap, ◌∙◌, subst, inl, inr, add-zero, arith}
use Rattle.std.specs.Prelude.{OnErr}
use Rattle.std.specs.List.{AllPass, prefix_len, list_any, before_last, suffix_len}
use Rattle.std.specs.Str.{IsUtf8}
use Rattle.std.proofs.lemmas.Bool.{cases_Bool}
use Rattle.std.proofs.lemmas.Bool.Decides.{nat_tests}
use Rattle.std.proofs.lemmas.List.{take-append-drop, get_or-take, length-take-le, length-drop, get_or_default, take_at, drop_at, get_or-drop}
use Rattle.std.proofs.lemmas.List.Elements.{All-head, All-tail, All-take, All-weaker}
use Rattle.std.proofs.lemmas.List.Folds.{list_any_at, list_any_none}
use Rattle.std.proofs.lemmas.List.Sums.{suffix_len_is}
use Rattle.std.proofs.lemmas.Str.{IsUtf8-from_ascii}
use Rattle.std.proofs.lemmas.Str.Ascii.{IsAscii-from_all}
use Rattle.http_header.specs.Token.{is_token_byte, IsToken}
use Rattle.http_header.proofs.TokenLemmas.{token_byte_range}
use Rattle.life_gate.specs.declared.media.types.MediaType.{MediaType}
use Rattle.life_gate.specs.Scanning.{IsFrontLen}
use Rattle.life_gate.specs.MediaType.{plus, slash, semicolon, is_blank, is_plus, HasKind, AreParameters, HasSub, without_suffix, media_of, IsMediaType}

-- the test stops at the front of the bytes
abbrev Stops : (ℕ → Bool) → List ℕ → Type 0
Stops test [] = Unit {0}
Stops test (b ∷ _) = test b ≡ false

-- front is what passes of the bytes up to the first byte that does not
pub record IsSplit (test : ℕ → Bool) (bytes front rest : List ℕ) : Type 0 where
  pub whole : bytes ≡ front ++ rest
  pub passes : AllPass test front
  pub stops : Stops test rest

module _ (test : ℕ → Bool) where
  stops_len : (rest : List ℕ) → Stops test rest → prefix_len test rest ≡ 0
  stops_len [] s = refl
  stops_len (b ∷ bs) s = rw s refl

  front_len : (front rest : List ℕ) → AllPass test front → Stops test rest → prefix_len test (front ++ rest) ≡ length front
  front_len [] rest p s = stops_len rest s
  front_len (b ∷ bs) rest p s =
      let here = All-head (λ x. test x ≡ true) b bs p in
      let more = front_len bs rest (All-tail (λ x. test x ≡ true) b bs p) s in
      rw here (rw more (omega arith))

  split_len : (bytes front rest : List ℕ) → IsSplit test bytes front rest → prefix_len test bytes ≡ length front
  split_len bytes front rest s = rw s.whole (front_len front rest s.passes s.stops)

  -- there is one split
  pub split_once : (bytes front rest front' rest' : List ℕ) → IsSplit test bytes front rest → IsSplit test bytes front' rest' → (front ≡ front') × (rest ≡ rest')
  split_once bytes front rest front' rest' s t =
      let same : length front' ≡ length front = sym (split_len bytes front' rest' t) ∙ split_len bytes front rest s in (
        sym (take_at front rest (length front) refl) ∙ ap (take (length front)) (sym s.whole ∙ t.whole) ∙ take_at front' rest' (length front) same,
        sym (drop_at front rest (length front) refl) ∙ ap (drop (length front)) (sym s.whole ∙ t.whole) ∙ drop_at front' rest' (length front) same,
      )

  stops_at : (rest : List ℕ) → (0 < length rest → test (get_or rest 0 0) ≡ false) → Stops test rest
  stops_at [] h = tt
  stops_at (b ∷ bs) h = h (omega arith)

  front_passes : (bytes : List ℕ) (n : ℕ) → IsFrontLen test bytes n → AllPass test (take n bytes)
  front_passes bytes n f k d l =
      let lt : k < n = omega (arith, length-take-le n bytes f.within) in
      let within : k < length bytes = omega (arith, f.within) in
      rw (get_or-take n bytes k d) (rw (get_or_default bytes k d 0 within) (f.passes k lt))

  pub split_from : (bytes front rest : List ℕ) (n : ℕ) → IsFrontLen test bytes n → front ≡ take n bytes → rest ≡ drop n bytes → IsSplit test bytes front rest
  split_from bytes front rest n f e g = rw (e, g) record {
    whole = sym (take-append-drop n bytes);
    passes = front_passes bytes n f;
    stops = stops_at (drop n bytes) (λ l. rw (get_or-drop n bytes 0 0, add-zero) (f.stops (omega (arith, length-drop n bytes))));
  }

-- a byte of a token is no blank
token_not_blank : (b : ℕ) → is_token_byte b ≡ true → is_blank b ≡ false
token_not_blank b t = let r = token_byte_range b t in grind (arith, nat_tests)

blank_not_token : (b : ℕ) → is_blank b ≡ true → is_token_byte b ≡ false
blank_not_token b e = elim (cases_Bool (is_token_byte b)) [
  | inl t ↦ absurd (true≢false (sym e ∙ token_not_blank b t))
  | inr f ↦ f
]

slash_no_token : is_token_byte slash ≡ false
unfolding is_token_byte
slash_no_token = refl

semicolon_no_token : is_token_byte semicolon ≡ false
unfolding is_token_byte
semicolon_no_token = refl

token_starts : (token rest : List ℕ) → IsToken token → Stops is_blank (token ++ rest)
token_starts [] rest t = absurd (omega (arith, t.0))
token_starts (b ∷ bs) rest t = token_not_blank b (All-head (λ x. is_token_byte x ≡ true) b bs t.1)

parameters_start : (parameters : List ℕ) → AreParameters parameters → Stops is_blank parameters
parameters_start [] p = tt
parameters_start (b ∷ bs) p = rw p refl

blanks_start : (after parameters : List ℕ) → AllPass is_blank after → AreParameters parameters → Stops is_token_byte (after ++ parameters)
blanks_start [] [] a p = tt
blanks_start [] (b ∷ bs) a p = rw p semicolon_no_token
blanks_start (b ∷ bs) parameters a p = blank_not_token b (All-head (λ x. is_blank x ≡ true) b bs a)

-- the kind that the text begins with is what the reader takes
pub kind_is : (text before tail kind more kind' rest' : List ℕ) → IsSplit is_blank text before tail → IsSplit is_token_byte tail kind more → HasKind text kind' rest' → (kind ≡ kind') × (more ≡ slash ∷ rest')
kind_is text before tail kind more kind' rest' s t h =
    let blanks = split_once is_blank text before tail h.before (kind' ++ slash ∷ rest') s
    record { whole = h.whole; passes = h.blanks; stops = token_starts kind' (slash ∷ rest') h.token } in
    split_once is_token_byte tail kind more kind' (slash ∷ rest') t
    record { whole = blanks.1; passes = h.token.1; stops = slash_no_token }

pub kind_once : (text kind rest kind' rest' : List ℕ) → HasKind text kind rest → HasKind text kind' rest' → (kind ≡ kind') × (rest ≡ rest')
kind_once text kind rest kind' rest' h h' =
    let same = kind_is text h.before (kind ++ slash ∷ rest) kind (slash ∷ rest) kind' rest'
    record { whole = h.whole; passes = h.blanks; stops = token_starts kind (slash ∷ rest) h.token }
    record { whole = refl; passes = h.token.1; stops = slash_no_token } h' in
    (same.0, let e = same.1 in cc)

-- the same of the token that follows, and of what comes after it
pub sub_is : (text sub tail after more sub' : List ℕ) → IsSplit is_token_byte text sub tail → IsSplit is_blank tail after more → HasSub text sub' → (sub ≡ sub') × AreParameters more
sub_is text sub tail after more sub' s t h =
    let tokens = split_once is_token_byte text sub tail sub' (h.after ++ h.parameters) s
    record { whole = h.whole; passes = h.token.1; stops = blanks_start h.after h.parameters h.blanks h.rest } in
    let blanks = split_once is_blank tail after more h.after h.parameters t
    record { whole = tokens.1; passes = h.blanks; stops = parameters_start h.parameters h.rest } in
    (tokens.0, subst AreParameters (sym blanks.1) h.rest)

pub sub_once : (text sub sub' : List ℕ) → HasSub text sub → HasSub text sub' → sub ≡ sub'
sub_once text sub sub' h h' =
    (sub_is text sub (h.after ++ h.parameters) h.after h.parameters sub'
    record { whole = h.whole; passes = h.token.1; stops = blanks_start h.after h.parameters h.blanks h.rest }
    record { whole = refl; passes = h.blanks; stops = parameters_start h.parameters h.rest } h').0

-- a text is one media type at most
pub media_once : (text : List ℕ) (media media' : MediaType) → IsMediaType text media → IsMediaType text media' → media ≡ media'
media_once text media media' m m' =
    let kinds = kind_once text m.kind m.after_slash m'.kind m'.after_slash m.has_kind m'.has_kind in
    let subs = sub_once m.after_slash m.sub m'.sub m.has_sub (subst (λ t. HasSub t m'.sub) (sym kinds.1) m'.has_sub) in
    m.is ∙ ap (λ kind. media_of kind m.sub) kinds.0 ∙ ap (media_of m'.kind) subs ∙ sym m'.is

chosen : (token : List ℕ) (found : Bool) → list_any is_plus (drop 1 token) ≡ found → without_suffix token ≡ cond found (before_last is_plus token) token
chosen token found e = ap (λ (b : Bool). cond b (before_last is_plus token) token) e

-- the last plus, which is not the first byte, ends what stands before the suffix
pub suffix_found : (token : List ℕ) (i : ℕ) → 0 < i → i < length token → get_or token i 0 ≡ plus → ((k : ℕ) → i < k → k < length token → is_plus (get_or token k 0) ≡ false) → take i token ≡ without_suffix token
suffix_found token i some within here after =
    let at : get_or (drop 1 token) (i - 1) 0 ≡ plus = get_or-drop 1 token (i - 1) 0 ∙ ap (λ k. get_or token k 0) (omega arith) ∙ here in
    let found = list_any_at is_plus (drop 1 token) (i - 1) 0 (omega (arith, length-drop 1 token)) (rw at refl) in
    let index : (i + 1) - 1 ≡ i = omega arith in
    let len = suffix_len_is (λ b. not (is_plus b)) token (i + 1) 0 (omega arith) (λ k l m. ap not (after k (omega arith) m))
    (λ _. ap (λ k. not (is_plus (get_or token k 0))) index ∙ ap (λ b. not (is_plus b)) here) in
    ap (λ n. take n token) (omega (arith, len)) ∙ sym (chosen token true found)

pub suffix_none : (token : List ℕ) → ((k : ℕ) → 0 < k → k < length token → is_plus (get_or token k 0) ≡ false) → token ≡ without_suffix token
suffix_none token none =
    sym (chosen token false (list_any_none is_plus (drop 1 token) (λ k d l.
    let within : 1 + k < length token = omega (arith, length-drop 1 token) in
    rw (get_or-drop 1 token k d) (rw (get_or_default token (1 + k) d 0 within) (none (1 + k) (omega arith) within)))))

-- what is left of a token without its suffix is of a token's bytes
suffix_passes_by : (token : List ℕ) (found : Bool) → AllPass is_token_byte token → AllPass is_token_byte (cond found (before_last is_plus token) token)
suffix_passes_by token true t = All-take (λ b. is_token_byte b ≡ true) (length token - suffix_len (λ b. not (is_plus b)) token - 1) token t
suffix_passes_by token false t = t

pub suffix_passes : (token : List ℕ) → AllPass is_token_byte token → AllPass is_token_byte (without_suffix token)
suffix_passes token t = suffix_passes_by token (list_any is_plus (drop 1 token)) t

-- bytes of a token are text
pub token_utf8 : (token : List ℕ) → AllPass is_token_byte token → IsUtf8 token
token_utf8 token t = IsUtf8-from_ascii token (IsAscii-from_all token (All-weaker (λ b. is_token_byte b ≡ true) (λ b. b < 128) (λ b e. omega (arith, (token_byte_range b e).1)) token t))

-- a text with no token after its slash is no media type
pub no_sub : (text kind rest : List ℕ) → HasKind text kind rest → ((sub : List ℕ) → ¬ (HasSub rest sub)) → (media : MediaType) → ¬ (IsMediaType text media)
no_sub text kind rest h none media m =
    none m.sub (subst (λ t. HasSub t m.sub) (sym (kind_once text kind rest m.kind m.after_slash h m.has_kind).1) m.has_sub)

-- what was read is the one media type of the text
pub media_only : (text kind rest sub : List ℕ) (media : MediaType) → HasKind text kind rest → HasSub rest sub → media ≡ media_of kind sub → (other : MediaType) → IsMediaType text other → Some media ≡ Some other
media_only text kind rest sub media h s e other m =
    ap (λ (x : MediaType). Some x) (media_once text media other record { kind = kind; sub = sub; after_slash = rest; has_kind = h; has_sub = s; is = e } m)

-- a text with both parts is a media type, whatever was answered
pub media_there : {A E : Type 0} (answer : Result A E) (text kind rest sub : List ℕ) → HasKind text kind rest → HasSub rest sub → OnErr answer ((media : MediaType) × IsMediaType text media)
media_there (Ok x) text kind rest sub h s = tt
media_there (Err e) text kind rest sub h s = (media_of kind sub, record { kind = kind; sub = sub; after_slash = rest; has_kind = h; has_sub = s; is = refl })
