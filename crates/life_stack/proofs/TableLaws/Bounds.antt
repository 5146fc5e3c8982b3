-- No service is handed more bytes of its request's body than there is room for.
use Rattle.std.proofs.Common.{◌≡◌, ◌≤◌, ℕ, zero, suc, ◌+◌, ◌-◌, List, [], ◌∷◌, ◌++◌, length, Bool, true, false, Option, Some, None, refl, ap, ◌∙◌, arith}
use Rattle.std.proofs.lemmas.Bool.{leb-true}
use Rattle.std.specs.Prelude.{◌==◌, drop, nat_le, slice_get, slice_index, if◌then◌else◌}
use Rattle.life_core.specs.Timer.{due, since}
use Rattle.life_core.specs.declared.event.DropKind.TheVariants as drop_kind
use Rattle.life_core.specs.declared.event.Event.{Event}
use Rattle.life_core.specs.declared.event.Event.TheVariants as event
use Rattle.life_core.specs.declared.event.Handed.TheVariants as handed
use Rattle.life_core.specs.declared.latency.LatencyUnit.TheVariants.{Nanos}
use Rattle.life_script.specs.declared.answer.Answer.{Answer}
use Rattle.life_script.specs.declared.answer.Answer.TheVariants as ans
use Rattle.life_script.specs.declared.scenario.Act.TheVariants as act
use Rattle.life_script.specs.declared.scenario.BodyItem.{BodyItem}
use Rattle.life_script.specs.declared.scenario.BodyItem.TheVariants as body_item
use Rattle.life_script.specs.declared.scenario.Limits.{Limits}
use Rattle.life_script.specs.declared.scenario.PollItem.{PollItem}
use Rattle.life_script.specs.declared.scenario.Then.{Then}
use Rattle.life_script.specs.declared.scenario.Then.TheVariants as then_
use Rattle.life_stack.specs.Table.Decision.{Decision, TooLarge, Forbidden, Panicked, Served, decision}
use Rattle.life_stack.specs.Table.Handed.{asked_before, asks_of, bytes_of, decided_events, handed_at, handed_by, handed_bytes, handed_from, panic_at, panic_event, panic_in, room, room_before, room_past}
use Rattle.life_stack.specs.Table.Request.{Numbered}
use Rattle.life_session.specs.Acts.{Own}
use Rattle.life_session.specs.Moments.{called_at, dropped_at, polls, polls_before_drop}
use Rattle.life_session.specs.Table.{turns_by}
use Rattle.life_stack.specs.Table.Story.{Outcome, answer, answers, any_ending, body_bytes, drop_events, drops, drops_at, events, first_answer, kind_of, on_call_events, on_poll_events, outcome_events, poll_events, story, story_table, turns_bytes, undue_events, unless_dropped}
use Rattle.life_session.proofs.MomentLaws.{after_same, polls_after_call, polls_after_drop, polls_after_dropped, polls_after_poll}
use Rattle.life_stack.proofs.ServiceLaws.Handing.{asked_more, no_item, room_none}
use Rattle.life_stack.proofs.TableLaws.FirstAnswers.{length_push}
use Rattle.life_stack.proofs.TableLaws.Quiet.{bytes_append, call_quiet, later_quiet, outcome_quiet}

-- ONE ASK takes from the room what it hands.

chunk_taken : (left n : ℕ) (bytes : List ℕ) (b : Bool) → nat_le n left ≡ b → n ≡ length bytes → bytes_of (if b then handed.Chunk bytes else handed.LengthLimit) + (left - n) ≤ left
chunk_taken left n bytes true e same = let fits = leb-true n left e in omega (arith, fits, same)
chunk_taken left n bytes false e same = omega arith

item_taken : (left : ℕ) (item : BodyItem) → bytes_of (handed_by left (Some item)) + room_past left item ≤ left
item_taken left (body_item.Chunk bytes) = chunk_taken left (length bytes) bytes (nat_le (length bytes) left) refl refl
item_taken left (body_item.Trailers trailers) = omega arith
item_taken left body_item.Pending = omega arith
item_taken left (body_item.Fault fault) = omega arith

none_taken : (left room : ℕ) (o : Option BodyItem) → o ≡ None → room ≡ left → bytes_of (handed_by room o) + left ≤ room
none_taken left room None e same = omega (arith, same)
none_taken left room (Some item) e same = absurd (cc)

one_taken : (left : ℕ) (items : List BodyItem) (j : ℕ) → bytes_of (handed_at left items j) + room_before left items (suc j) ≤ room_before left items j
one_taken left [] j = none_taken left (room_before left [] j) (slice_get [] j) (no_item j) (room_none left j)
one_taken left (item ∷ items) zero = item_taken left item
one_taken left (item ∷ items) (suc j) = one_taken (room_past left item) items j

all_taken : (left : ℕ) (items : List BodyItem) (j n : ℕ) → handed_bytes (handed_from left items j n) + room_before left items (j + n) ≤ room_before left items j
all_taken left items j zero = let here : j + 0 ≡ j = omega arith in let same = ap (room_before left items) here in omega (arith, same)
all_taken left items j (suc n) =
    let one = one_taken left items j in
    let rest = all_taken left items (suc j) n in
    let next : j + suc n ≡ suc j + n = omega arith in
    let same = ap (room_before left items) next in
    omega (arith, one, rest, same)

panic_bytes : (o : Option PollItem) → handed_bytes (panic_at o) ≡ 0
panic_bytes None = refl
panic_bytes (Some item) = go item.then
  where
    go : (t : Then) → handed_bytes (panic_in t) ≡ 0
    go then_.Pending = refl
    go (then_.Panic text) = refl
    go (then_.Fail error) = refl
    go (then_.Respond reply) = refl

-- the drop of an act hands nothing
dropped_bytes : (o : Option ℕ) (given : List Answer) (d : ℕ) → handed_bytes (drops_at o given d) ≡ 0
dropped_bytes None given d = refl
dropped_bytes (Some t0) given d = go (any_ending given)
  where
    go : (b : Bool) → handed_bytes (if b then [] else event.Dropped (kind_of drop_kind.Future given) (record { unit = Nanos; nanos = d - t0 }) ∷ []) ≡ 0
    go true = refl
    go false = refl

drop_bytes : (a : Answer) (es : List Event) → handed_bytes es ≡ 0 → handed_bytes (drop_events a es) ≡ 0
drop_bytes ans.Called es e = refl
drop_bytes ans.Idle es e = refl
drop_bytes ans.Pending es e = refl
drop_bytes (ans.Response status headers ended) es e = refl
drop_bytes (ans.ServiceError error) es e = refl
drop_bytes (ans.Frame frame ended) es e = refl
drop_bytes ans.End es e = refl
drop_bytes (ans.Fault fault) es e = refl
drop_bytes ans.Dropped es e = e

module _ (limits : Limits) (request : Numbered) where
  -- the room that is left before poll k
  abbrev left_at : ℕ → ℕ
  left_at k = room_before (room limits request.script) request.script.body (asked_before request.script.polls k)

  abbrev Takes : List Event → ℕ → Type 0
  Takes es k = handed_bytes es + left_at (suc k) ≤ left_at k

  served_takes : (k : ℕ) → handed_bytes (handed_from (room limits request.script) request.script.body (asked_before request.script.polls k) (asks_of (slice_get request.script.polls k))) + left_at (suc k) ≤ left_at k
  served_takes k =
      let all = all_taken (room limits request.script) request.script.body (asked_before request.script.polls k) (asks_of (slice_get request.script.polls k)) in
      let same = ap (room_before (room limits request.script) request.script.body) (asked_more request.script.polls k) in
      omega (arith, all, same)

  none_takes : (es : List Event) (k : ℕ) → handed_bytes es ≡ 0 → Takes es k
  none_takes es k e = let all = served_takes k in omega (arith, all, e)

  decided_takes : (what : Decision) (k : ℕ) → Takes (decided_events what (room limits request.script) request.script k) k
  decided_takes TooLarge k = none_takes [] k refl
  decided_takes Forbidden k = none_takes [] k refl
  decided_takes (Panicked text) k = none_takes (panic_event text ∷ []) k refl
  decided_takes Served k =
      let item = slice_get request.script.polls k in
      let both = bytes_append (handed_from (room limits request.script) request.script.body (asked_before request.script.polls k) (asks_of item)) (panic_at item) in
      let none = panic_bytes item in
      let all = served_takes k in
      omega (arith, both, none, all)

  choice_takes : (b : Bool) (es fs : List Event) (k : ℕ) → Takes es k → Takes fs k → Takes (if b then es else fs) k
  choice_takes true es fs k e f = e
  choice_takes false es fs k e f = f

  undue_takes : (t0 k t : ℕ) → Takes (undue_events limits request t0 k t) k
  undue_takes t0 k t = choice_takes (due t0 limits.timeout t) [] _ k (none_takes [] k refl) (decided_takes (decision limits request) k)

  -- what is traced takes nothing
  answered_takes : (t0 k t : ℕ) (o : Outcome) (l : ℕ) → Takes (undue_events limits request t0 k t ++ outcome_events limits o l) k
  answered_takes t0 k t o l =
      let both = bytes_append (undue_events limits request t0 k t) (outcome_events limits o l) in
      let told = outcome_quiet limits o l in
      let none = told.1 in
      let all = undue_takes t0 k t in
      omega (arith, both, none, all)

  poll_takes : (t0 : ℕ) (ps : List ℕ) (t : ℕ) (o : Option (ℕ × Outcome)) → Takes (poll_events limits request t0 ps t o) (length ps)
  poll_takes t0 ps t None = undue_takes t0 (length ps) t
  poll_takes t0 ps t (Some (h, o)) =
      let later = later_quiet limits o t0 (slice_index ps h) (drop (suc h) ps) t in
      choice_takes (length ps == h) _ _ (length ps) (answered_takes t0 (length ps) t o (since t0 t)) (none_takes _ (length ps) later.1)

  -- one act takes from the room that was left before it
  abbrev Within : List Own → Own → Type 0
  Within before x = handed_bytes (events limits request before x) + left_at (length (polls (before ++ x ∷ []))) ≤ left_at (length (polls before))

  nothing : (before : List Own) (x : Own) → polls (before ++ x ∷ []) ≡ polls before → handed_bytes (events limits request before x) ≡ 0 → Within before x
  nothing before x p e = let same = ap (λ l. left_at (length l)) p in omega (arith, same, e)

  drop_nothing : (before : List Own) (t : ℕ) → handed_bytes (events limits request before (t, act.Drop)) ≡ 0
  drop_nothing before t = drop_bytes (answer limits request before (t, act.Drop)) _ (dropped_bytes (called_at (before ++ (t, act.Drop) ∷ [])) (answers limits request (before ++ (t, act.Drop) ∷ [])) t)

  call_nothing : (before : List Own) → handed_bytes (on_call_events limits request (called_at before)) ≡ 0
  call_nothing before = let told = call_quiet limits request (called_at before) in told.1

  polled : (before : List Own) (t t0 : ℕ) → called_at before ≡ Some t0 → dropped_at before ≡ None → Within before (t, act.Poll)
  polled before t t0 c d =
      let k = length (polls before) in
      let more : length (polls (before ++ (t, act.Poll) ∷ [])) ≡ suc k = ap length (polls_after_poll before t0 c t d) ∙ length_push (polls before) t in
      let made : events limits request before (t, act.Poll) ≡ poll_events limits request t0 (polls before) t (first_answer limits request t0 (polls before ++ t ∷ [])) =
      ap (λ o. on_poll_events limits request o (dropped_at before) (polls before) t) c ∙ ap (λ o. on_poll_events limits request (Some t0) o (polls before) t) d in
      let takes = poll_takes t0 (polls before) t (first_answer limits request t0 (polls before ++ t ∷ [])) in
      let same = ap left_at more in
      let bytes = ap handed_bytes made in
      omega (arith, takes, same, bytes)

  step : (before : List Own) (x : Own) (c d : Option ℕ) → called_at before ≡ c → dropped_at before ≡ d → Within before x
  step before (t, act.Call) None d c e = nothing before (t, act.Call) (ap polls_before_drop (after_same before c (t, act.Call))) (call_nothing before)
  step before (t, act.Poll) None d c e = nothing before (t, act.Poll) (ap polls_before_drop (after_same before c (t, act.Poll)))
      (ap (λ o. handed_bytes (on_poll_events limits request o (dropped_at before) (polls before) t)) c)
  step before (t, act.Drop) None d c e = nothing before (t, act.Drop) (ap polls_before_drop (after_same before c (t, act.Drop))) (drop_nothing before t)
  step before (t, act.Call) (Some t0) d c e = nothing before (t, act.Call) (polls_after_call before t0 c t) (call_nothing before)
  step before (t, act.Drop) (Some t0) d c e = nothing before (t, act.Drop) (polls_after_drop before t0 c t) (drop_nothing before t)
  step before (t, act.Poll) (Some t0) (Some d) c e = nothing before (t, act.Poll) (polls_after_dropped before t0 c (t, act.Poll) d e)
      (ap (λ o. handed_bytes (on_poll_events limits request o (dropped_at before) (polls before) t)) c
      ∙ ap (λ o. handed_bytes (on_poll_events limits request (Some t0) o (polls before) t)) e)
  step before (t, act.Poll) (Some t0) None c e = polled before t t0 c e

  turns_within : (acts before : List Own) → turns_bytes (turns_by (story_table limits request) before acts) ≤ left_at (length (polls before))
  turns_within [] before = omega arith
  turns_within (x ∷ acts) before =
      let here = step before x (called_at before) (dropped_at before) refl refl in
      let rest = turns_within acts (before ++ x ∷ []) in
      omega (arith, here, rest)

  end_bytes : (o : Option ℕ) (es : List Event) → handed_bytes es ≡ 0 → handed_bytes (unless_dropped o es) ≡ 0
  end_bytes None es e = e
  end_bytes (Some d) es e = refl

  pub story_bounded : (acts : List Own) (end : ℕ) → body_bytes (story limits request acts end) ≤ room limits request.script
  story_bounded acts end =
      let turns = turns_within acts [] in
      let none = end_bytes (dropped_at acts) (drops limits request acts end) (dropped_bytes (called_at acts) (answers limits request acts) end) in
      omega (arith, turns, none)
