-- Bytes that are taken piece by piece.
use Rattle.std.proofs.Common.{◌≡◌, ℕ, ◌+◌, ◌-◌, ◌<◌, ◌≤◌, List, [], ◌++◌, length, take, drop, sym, ap, ◌∙◌, subst, arith, length-append}
use Rattle.std.proofs.Math.Seq.{take-append_seam}
use Rattle.std.proofs.lemmas.List.{take-append-drop, drop-drop, take_all, length-drop, length-take, drop_all}
use Rattle.std.specs.Prelude.{min}

-- the bytes from a place on, as a slice reads them
pub from_there : (bytes : List ℕ) (at : ℕ) → take (length bytes - at) (drop at bytes) ≡ drop at bytes
from_there bytes at = take_all (length bytes - at) (drop at bytes) (simp length-drop (omega arith))

module _ (bytes buf front : List ℕ) (at n most : ℕ) (is : front ≡ take n (drop at bytes)) (count : n ≡ min (min (length buf) most) (length (drop at bytes))) where
  front_length : length front ≡ n
  front_length = ap length is ∙ length-take n (drop at bytes) ∙ omega arith

  -- a piece that was copied to the front of a buffer, and what is left
  piece_taken : drop at bytes ≡ take n (front ++ drop n buf) ++ drop (at + n) bytes
  piece_taken =
      let whole : take n (front ++ drop n buf) ≡ front = subst (λ k. take k (front ++ drop n buf) ≡ front) front_length (take-append_seam front (drop n buf)) in
      sym (take-append-drop n (drop at bytes))
      ∙ ap (λ l. l ++ drop n (drop at bytes)) (sym is ∙ sym whole)
      ∙ ap (λ l. take n (front ++ drop n buf) ++ l) (drop-drop n at bytes)

  -- nothing could be taken into a buffer with room: nothing is left
  nothing_left : at ≤ length bytes → 1 ≤ most → n ≡ 0 → 0 < length (front ++ drop n buf) → drop (at + n) bytes ≡ []
  nothing_left within some none has_room =
      let a = length-append front (drop n buf) in let b = length-drop n buf in let d = length-drop at bytes in let f = front_length in
      drop_all (at + n) bytes (omega arith)

pub source_read : (bytes whole buf front : List ℕ) (at n room most : ℕ) → whole ≡ bytes →
    front ≡ take n (take (length whole - at) (drop at whole)) → n ≡ min room (length (take (length whole - at) (drop at whole))) → room ≡ min (length buf) most →
    at ≤ length bytes → 1 ≤ most →
    (drop at bytes ≡ take n (front ++ drop n buf) ++ drop (at + n) bytes) × (n ≡ 0 → 0 < length (front ++ drop n buf) → drop (at + n) bytes ≡ [])
source_read bytes whole buf front at n room most same is count room_is within some =
    let there = ap (λ l. take (length l - at) (drop at l)) same ∙ from_there bytes at in
    let is' = is ∙ ap (take n) there in
    let count' = count ∙ ap (λ l. min room (length l)) there ∙ ap (λ r. min r (length (drop at bytes))) room_is in
    (piece_taken bytes buf front at n most is' count', nothing_left bytes buf front at n most is' count' within some)
