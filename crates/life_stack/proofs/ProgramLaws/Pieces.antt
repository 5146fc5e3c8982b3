-- How a sink takes a text piece by piece.
use Rattle.std.proofs.Common.{◌≡◌, ℕ, ◌+◌, ◌-◌, ◌≤◌, List, ◌++◌, length, take, drop, Option, sym, ap, ◌∙◌, arith, take-add, length-drop, subst}
use Rattle.std.proofs.lemmas.List.{take_all}
use Rattle.std.proofs.KnownBytes.{Appends-trans, Consumes-trans}
use Rattle.std.specs.Io.KnownBytes.{Appends, Consumes}

from_there : (text : List ℕ) (at : ℕ) → take (length text - at) (drop at text) ≡ drop at text
from_there text at = take_all (length text - at) (drop at text) (simp length-drop (omega arith))

pub rest_length : (text : List ℕ) (at : ℕ) → length (take (length text - at) (drop at text)) ≡ length text - at
rest_length text at = ap (λ (l : List ℕ). length l) (from_there text at) ∙ length-drop at text

-- one piece more was taken
pub one_more : (before held now : Option (List ℕ)) (text : List ℕ) (at n : ℕ) → at ≤ length text → n ≤ length (take (length text - at) (drop at text))
    → Appends before held (take at text) → Appends held now (take n (take (length text - at) (drop at text)))
    → (at + n ≤ length text) × Appends before now (take (at + n) text)
one_more before held now text at n le b h e =
    let size = rest_length text at in
    let piece : take n (take (length text - at) (drop at text)) ≡ take n (drop at text) = ap (λ (l : List ℕ). take n l) (from_there text at) in
    let joined : take at text ++ take n (take (length text - at) (drop at text)) ≡ take (at + n) text =
    ap (λ (l : List ℕ). take at text ++ l) piece ∙ sym (take-add at n text) in
    (omega arith, subst (λ (l : List ℕ). Appends before now l) joined (Appends-trans before held now _ _ h e))

pub room_past_piece : (P : ℕ → Type 0) (room at n : ℕ) → P (room - at - n) → P (room - (at + n))
room_past_piece P room at n p = let e : room - at - n ≡ room - (at + n) = omega arith in subst P e p

-- what was taken, and then a piece more
pub taken_more : (P : List ℕ → Type 0) (before left now : Option (List ℕ)) (bytes piece : List ℕ) → Consumes before left bytes → Consumes left now piece
    → P (bytes ++ piece) → (taken : List ℕ) × Consumes before now taken × P taken
taken_more P before left now bytes piece first more fact = (bytes ++ piece, Consumes-trans before left now bytes piece first more, fact)
