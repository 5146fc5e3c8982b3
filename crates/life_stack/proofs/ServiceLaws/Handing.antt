-- What a service is handed, ask by ask: the items of the request's body in order, with the room that is left.
use lib.Dec.{leb-zero, leb-suc-suc}
use Rattle.std.proofs.Common.{◌≡◌, ℕ, zero, suc, ◌+◌, ◌-◌, List, [], ◌∷◌, ◌++◌, length, drop, Bool, true, false, Option, Some, None, Ok, Err, Result, IfOk, refl, sym, ap, ap₂, ◌∙◌, subst, arith}
use Rattle.life_core.specs.Calls.{NothingToAbandon}
use Rattle.std.proofs.lemmas.Bool.{le-leb, leb-false}
use Rattle.std.proofs.lemmas.List.{drop-drop}
use Rattle.std.specs.Prelude.{◌&&◌, nat_le, slice_get, if◌then◌else◌}
use Rattle.http_body.specs.declared.frame.Frame.{Frame}
use Rattle.http_body.specs.Frame.{data_frame, trailers_frame}
use Rattle.life_core.specs.History.{BodyFollows, Adds}
use Rattle.life_core.specs.Limited.{LimitedFrames, body_in, room_in}
use Rattle.life_core.specs.LimitedHistory.{room_after, within}
use Rattle.life_core.specs.Moment.{Moment}
use Rattle.life_core.specs.Recorded.{Notes, Recorded}
use Rattle.life_core.specs.declared.body.BodyError.{BodyError}
use Rattle.life_core.specs.declared.body.BodyError.TheVariants as body_error
use Rattle.life_core.specs.declared.body.limited.Limited.{Limited}
use Rattle.life_core.specs.declared.event.Event.TheVariants as event
use Rattle.life_core.specs.declared.event.Handed.{Handed}
use Rattle.life_core.specs.declared.event.Handed.TheVariants as handed
use Rattle.life_core.specs.declared.poll.Poll.{Poll}
use Rattle.life_core.specs.declared.recorder.NoMemory.{NoMemory}
use Rattle.life_core.specs.declared.poll.Poll.TheVariants.{Ready}
use Rattle.life_core.proofs.Bodies.{limited_follows}
use Rattle.life_core.proofs.Growth.{adds_none, adds_one, adds_then}
use Rattle.life_script.specs.Headers.{map_of}
use Rattle.life_script.specs.declared.answer.Seen.TheVariants as seen
use Rattle.life_script.specs.declared.scenario.BodyItem.{BodyItem}
use Rattle.life_script.specs.declared.scenario.BodyItem.TheVariants as body_item
use Rattle.life_script.specs.declared.scenario.PollItem.{PollItem}
use Rattle.life_stack.specs.Service.History.{BodyPlan, ScriptBodyStands, script_body_history}
use Rattle.life_stack.specs.Table.Handed.{asked_before, asks_of, handed_at, handed_by, handed_from, room_before, room_past}
use Rattle.life_stack.specs.Table.Request.{shown_headers}
use Rattle.life_stack.specs.Service.Script.{Asked, ScriptFrames, asked_of, item_frame, items_of, tells_end}
use Rattle.life_stack.specs.Service.Handing.{IsHandedAs}
use Rattle.life_stack.specs.declared.service.body.ScriptBody.{ScriptBody}

-- LISTS.

-- the first of what is left is the next item
pub first_left : {A : Type 0} (xs : List A) (n : ℕ) → slice_get (drop n xs) 0 ≡ slice_get xs n
first_left [] zero = refl
first_left [] (suc n) = refl
first_left (x ∷ xs) zero = refl
first_left (x ∷ xs) (suc n) = first_left xs n

pub one_less : {A : Type 0} (xs : List A) (n : ℕ) → drop 1 (drop n xs) ≡ drop (suc n) xs
one_less xs n = let more : n + 1 ≡ suc n = omega arith in drop-drop 1 n xs ∙ ap (λ k. drop k xs) more

used_up : (k : ℕ) (xs : List BodyItem) → nat_le (length (drop k xs)) 0 ≡ nat_le (length xs) k
used_up zero xs = refl
used_up (suc k) [] = leb-zero zero ∙ sym (leb-zero (suc k))
used_up (suc k) (x ∷ xs) = used_up k xs ∙ sym (leb-suc-suc (length xs) k)

none_left : {A : Type 0} (n : ℕ) → ◌≡◌ {A = List A} (drop n []) []
none_left zero = refl
none_left (suc n) = refl

pub no_item : {A : Type 0} (n : ℕ) → ◌≡◌ {A = Option A} (slice_get [] n) None
no_item zero = refl
no_item (suc n) = refl

-- A SCRIPTED BODY.

pub script_body_follows : BodyFollows ScriptFrames NothingToAbandon tells_end ScriptBodyStands script_body_history
script_body_follows = record {
  tells = λ p b past s. ap (λ x. x && nat_le (length (items_of b)) 0) s.tells ∙ ap (λ l. p.tells && nat_le (length l) 0) s.items ∙ ap (λ e. p.tells && e) (used_up (length past) p.items);
  frame = λ p past b was m a new now s f. record {
    answer = f.0.answer_is ∙ ap (λ l. item_frame (slice_get l 0)) s.items ∙ ap item_frame (first_left p.items (length past));
    adds = adds_none was now f.1;
    stands = record { items = f.0.rest ∙ ap (drop 1) s.items ∙ one_less p.items (length past); tells = f.0.tells ∙ s.tells };
  };
  abandoned = λ p past b was m u now s f. adds_none was now f.1;
  refused = λ p past b was m e now s f. absurd (cc f.0);
}

-- THE ROOM.

pub room_none : (left n : ℕ) → room_before left [] n ≡ left
room_none left zero = refl
room_none left (suc n) = refl

room_more : (left : ℕ) (items : List BodyItem) (j i : ℕ) → room_before (room_before left items j) (drop j items) i ≡ room_before left items (j + i)
room_more left items zero i = let same : i ≡ 0 + i = omega arith in ap (room_before left items) same
room_more left [] (suc j) i = room_none left i ∙ sym (room_none left (suc j + i))
room_more left (item ∷ items) (suc j) i = let next : suc (j + i) ≡ suc j + i = omega arith in
    room_more (room_past left item) items j i ∙ ap (λ k. room_before left (item ∷ items) k) next

-- one ask further, of what is left after one
handed_next : (left : ℕ) (items : List BodyItem) (j : ℕ) → handed_at left items (suc j) ≡ handed_at (room_before left items 1) (drop 1 items) j
handed_next left [] j = sym (ap₂ handed_by (room_none left j) (no_item j))
handed_next left (item ∷ items) j = refl

from_next : (left : ℕ) (items : List BodyItem) (j n : ℕ) → handed_from left items (suc j) n ≡ handed_from (room_before left items 1) (drop 1 items) j n
from_next left items j zero = refl
from_next left items j (suc n) = ap₂ (λ got rest. event.Handed got ∷ rest) (handed_next left items j) (from_next left items (suc j) n)

-- what is handed after j asks
pub from_there : (left : ℕ) (items : List BodyItem) (j n : ℕ) → handed_from (room_before left items j) (drop j items) 0 n ≡ handed_from left items j n
from_there left items zero n = refl
from_there left [] (suc j) n = ap₂ (λ room l. handed_from room l 0 n) (sym (room_none left j)) (sym (none_left j)) ∙ (from_there left [] j n ∙ sym (from_next left [] j n))
from_there left (item ∷ items) (suc j) n = from_there (room_past left item) items j n ∙ sym (from_next left (item ∷ items) j n)

-- the asks of one poll more
pub asked_more : (polls : List PollItem) (k : ℕ) → asked_before polls (suc k) ≡ asked_before polls k + asks_of (slice_get polls k)
asked_more [] zero = refl
asked_more [] (suc k) = refl
asked_more (item ∷ items) zero = omega arith
asked_more (item ∷ items) (suc k) = let rest = asked_more items k in omega (arith, rest)

pub room_there : (left : ℕ) (items : List BodyItem) (polls : List PollItem) (k : ℕ) → room_before (room_before left items (asked_before polls k)) (drop (asked_before polls k) items) (asks_of (slice_get polls k)) ≡ room_before left items (asked_before polls (suc k))
room_there left items polls k = room_more left items (asked_before polls k) (asks_of (slice_get polls k)) ∙ ap (room_before left items) (sym (asked_more polls k))

pub items_there : (items : List BodyItem) (polls : List PollItem) (k : ℕ) → drop (asks_of (slice_get polls k)) (drop (asked_before polls k) items) ≡ drop (asked_before polls (suc k)) items
items_there items polls k = drop-drop (asks_of (slice_get polls k)) (asked_before polls k) items ∙ ap (λ n. drop n items) (sym (asked_more polls k))

-- ONE ASK.

less_none : (n : ℕ) → n - 0 ≡ n
less_none n = omega arith

room_by : (left n : ℕ) (b : Bool) → nat_le n left ≡ b → (if b then left - n else 0) ≡ left - n
room_by left n true e = refl
room_by left n false e = let long = leb-false n left e in omega (arith, long)

-- the room after an item, or none
abbrev room_with : ℕ → Option BodyItem → ℕ
room_with left None = left
room_with left (Some item) = room_past left item

room_is : (left : ℕ) (o : Option BodyItem) → room_after left (item_frame o) ≡ room_with left o
room_is left None = refl
room_is left (Some body_item.Pending) = refl
room_is left (Some (body_item.Chunk bytes)) = room_by left (length bytes) (nat_le (length bytes) left) refl
room_is left (Some (body_item.Trailers trailers)) = room_by left 0 (nat_le 0 left) refl ∙ less_none left
room_is left (Some (body_item.Fault fault)) = refl

room_first : (left : ℕ) (items : List BodyItem) → room_with left (slice_get items 0) ≡ room_before left items 1
room_first left [] = refl
room_first left (item ∷ items) = refl

chunk_handed : (bytes : List ℕ) (b : Bool) (got : Handed) → IsHandedAs (if b then Ready (Some (Ok (data_frame bytes))) else Ready (Some (Err body_error.LengthLimit))) got →
    got ≡ (if b then handed.Chunk bytes else handed.LengthLimit)
chunk_handed bytes true got is = is (seen.Chunk bytes) refl
chunk_handed bytes false got is = is

trailers_handed : (item : Frame (List ℕ)) (want : Handed) (b : Bool) (got : Handed) → b ≡ true → (IsHandedAs (Ready (Some (Ok item))) got → got ≡ want) →
    IsHandedAs (if b then Ready (Some (Ok item)) else Ready (Some (Err body_error.LengthLimit))) got → got ≡ want
trailers_handed item want true got e go is = go is
trailers_handed item want false got e go is = absurd (cc e)

handed_is : (left : ℕ) (o : Option BodyItem) (got : Handed) → IsHandedAs (within left (item_frame o)) got → got ≡ handed_by left o
handed_is left None got is = is
handed_is left (Some body_item.Pending) got is = is
handed_is left (Some (body_item.Chunk bytes)) got is = chunk_handed bytes (nat_le (length bytes) left) got is
handed_is left (Some (body_item.Trailers trailers)) got is =
    trailers_handed (trailers_frame (map_of trailers)) (handed.Trailers (shown_headers trailers)) (nat_le 0 left) got (le-leb 0 left (omega arith)) (λ i. i (seen.Trailers (shown_headers trailers)) (map_of trailers, refl, refl)) is
handed_is left (Some (body_item.Fault fault)) got is = is

-- the body answered, and what was handed was noted
pub asked_one : (old new : Limited ScriptBody) (was mid now : Recorded) (m : Moment) (a : Poll (Option (Result (Frame (List ℕ)) (BodyError (List ℕ))))) (got : Handed) →
    LimitedFrames ScriptFrames old was m (Ok a) new mid → IsHandedAs a got → Notes mid (event.Handed got) (Ok tt) now → Asked 1 old was new now
asked_one old new was mid now m a got f h n =
    let plan : BodyPlan = record { items = asked_of old; tells = (body_in old).tells } in
    let i = (limited_follows ScriptFrames NothingToAbandon tells_end ScriptBodyStands script_body_history script_body_follows).frame (room_in old, plan) [] old was m a new mid
    (record { room_is = refl; inner = record { items = refl; tells = refl } }) f in
    let is : got ≡ handed_by (room_in old) (slice_get (asked_of old) 0) = handed_is (room_in old) (slice_get (asked_of old) 0) got (subst (λ x. IsHandedAs x got) i.answer h) in
    record {
      adds = subst (λ (x : Handed). Adds was now (event.Handed x ∷ [])) is (adds_then was mid now [] (event.Handed got ∷ []) i.adds (adds_one mid now (event.Handed got) n));
      room = (i.stands).room_is ∙ room_is (room_in old) (slice_get (asked_of old) 0) ∙ room_first (room_in old) (asked_of old);
      rest = ((i.stands).inner).items;
    }

pub asked_noted : (old new : Limited ScriptBody) (was mid now : Recorded) (m : Moment) (a : Poll (Option (Result (Frame (List ℕ)) (BodyError (List ℕ))))) (got : Handed) (noted : Result Unit NoMemory) →
    LimitedFrames ScriptFrames old was m (Ok a) new mid → IsHandedAs a got → Notes mid (event.Handed got) noted now → IfOk noted (λ done. Asked 1 old was new now)
asked_noted old new was mid now m a got (Ok u) f h n = asked_one old new was mid now m a got f h n
asked_noted old new was mid now m a got (Err e) f h n = tt

-- nothing is asked
pub asked_none : (old : Limited ScriptBody) (was : Recorded) → Asked 0 old was old was
asked_none old was = record { adds = adds_none was was refl; room = refl; rest = refl }

-- n asks from ask j on, and then the next one
from_last : (left : ℕ) (items : List BodyItem) (j n : ℕ) → handed_from left items j n ++ handed_from left items (j + n) 1 ≡ handed_from left items j (suc n)
from_last left items j zero = let same : j + 0 ≡ j = omega arith in ap (λ k. handed_from left items k 1) same
from_last left items j (suc n) = let same : j + suc n ≡ suc j + n = omega arith in
    ap (λ es. event.Handed (handed_at left items j) ∷ es) (ap (λ k. handed_from left items (suc j) n ++ handed_from left items k 1) same ∙ from_last left items (suc j) n)

-- n times, and then once more
pub asked_further : (n : ℕ) (old mid new : Limited ScriptBody) (was between now : Recorded) → Asked n old was mid between → Asked 1 mid between new now → Asked (n + 1) old was new now
asked_further n old mid new was between now a b =
    let first = handed_from (room_in old) (asked_of old) 0 n in
    let one : suc n ≡ n + 1 = omega arith in
    let from_start : n ≡ 0 + n = omega arith in
    let same : handed_from (room_in mid) (asked_of mid) 0 1 ≡ handed_from (room_in old) (asked_of old) n 1 =
    ap₂ (λ room items. handed_from room items 0 1) a.room a.rest ∙ from_there (room_in old) (asked_of old) n 1 in
    let whole : first ++ handed_from (room_in mid) (asked_of mid) 0 1 ≡ handed_from (room_in old) (asked_of old) 0 (n + 1) =
    ap (λ es. first ++ es) same ∙ ap (λ k. first ++ handed_from (room_in old) (asked_of old) k 1) from_start
    ∙ from_last (room_in old) (asked_of old) 0 n ∙ ap (handed_from (room_in old) (asked_of old) 0) one in
    record {
      adds = subst (λ es. Adds was now es) whole (adds_then was between now first _ a.adds b.adds);
      room = b.room ∙ ap₂ (λ room items. room_before room items 1) a.room a.rest ∙ room_more (room_in old) (asked_of old) n 1;
      rest = b.rest ∙ ap (drop 1) a.rest ∙ one_less (asked_of old) n ∙ ap (λ k. drop k (asked_of old)) one;
    }
