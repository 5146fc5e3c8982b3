-- The early drops of a whole story are those of the table.
use Rattle.std.proofs.Common.{◌≡◌, ℕ, zero, suc, ◌-◌, List, [], ◌∷◌, ◌++◌, length, flat_map, Bool, true, false, Option, Some, None, refl, sym, ap, ◌∙◌, append-nil, append_assoc}
use Rattle.std.specs.Prelude.{◌==◌, drop, slice_get, slice_index, if◌then◌else◌}
use Rattle.life_core.specs.Timer.{due, since}
use Rattle.life_core.specs.declared.event.DropKind.TheVariants as drop_kind
use Rattle.life_core.specs.declared.event.Event.{Event}
use Rattle.life_core.specs.declared.event.Event.TheVariants as event
use Rattle.life_stack.specs.Table.Request.{Numbered}
use Rattle.life_script.specs.declared.answer.Answer.{Answer}
use Rattle.life_script.specs.declared.answer.Answer.TheVariants as ans
use Rattle.life_script.specs.declared.scenario.Act.TheVariants as act
use Rattle.life_script.specs.declared.scenario.BodyItem.{BodyItem}
use Rattle.life_script.specs.declared.scenario.PollItem.{PollItem}
use Rattle.life_script.specs.declared.scenario.Then.{Then}
use Rattle.life_script.specs.declared.scenario.Then.TheVariants as then_
use Rattle.life_script.specs.declared.scenario.Limits.{Limits}
use Rattle.life_session.specs.Acts.{Own}
use Rattle.life_session.specs.Moments.{called_at, drop_time, dropped_at, first_drop, polls}
use Rattle.life_session.specs.Table.{turns_by}
use Rattle.life_stack.specs.Table.Story.{Failed, Outcome, Replied, answer, answers, any_ending, at_end, drop_answer, drop_events, drop_records, dropped_in, drops, drops_at, events, first_answer, kind_of, on_call, on_drop, on_poll_events, outcome_events, poll_events, story, story_table, undue_events, unless_dropped}
use Rattle.life_stack.specs.Table.Decision.{Decision, TooLarge, Forbidden, Panicked, Served, decision}
use Rattle.life_stack.specs.Table.Handed.{asked_before, asks_of, decided_events, handed_from, panic_at, panic_in, room}
use Rattle.life_core.specs.declared.latency.LatencyUnit.TheVariants.{Nanos}
use Rattle.life_script.specs.Told.{TurnView}
use Rattle.life_stack.proofs.TableLaws.Failing.{Marked, ended_none, marked_none, marked_step}
use Rattle.life_stack.proofs.TableLaws.Acts.{any_next, kind_next, or_false}
use Rattle.life_stack.proofs.TableLaws.Quiet.{call_quiet, dropped_append, later_quiet, outcome_quiet}
use Rattle.life_session.proofs.MomentLaws.{called_kept, after_same, dropped_after_poll, dropped_after_call, dropped_now, dropped_kept}

-- the early drops of the turns from some act on
abbrev told_drops : Limits → Numbered → List Own → List Own → List Event
told_drops limits request before acts = flat_map (λ (made : TurnView). dropped_in made.events) (turns_by (story_table limits request) before acts)

module _ (limits : Limits) (request : Numbered) where
  -- after the Drop all is idle
  idle_after : (acts : List Own) (x : Own) (t0 d : ℕ) → called_at acts ≡ Some t0 → dropped_at acts ≡ Some d → answer limits request acts x ≡ ans.Idle
  idle_after acts (t, act.Call) t0 d c e = ap on_call c
  idle_after acts (t, act.Poll) t0 d c e = rw (c, e)
  idle_after acts (t, act.Drop) t0 d c e = rw (c, e)

  -- so the records of the acts up to the Drop are those of all
  drops_kept : (before acts : List Own) (t0 d : ℕ) (t : ℕ) → called_at before ≡ Some t0 → dropped_at before ≡ Some d → drops limits request (before ++ acts) t ≡ drops limits request before t
  drops_kept before [] t0 d t c e = rw append-nil
  drops_kept before (x ∷ acts) t0 d t c e =
      let more = called_kept before t0 c x in let still = dropped_kept before t0 c x d e in
      ap (λ l. drops limits request l t) (sym (append_assoc before (x ∷ []) acts)) ∙ drops_kept (before ++ x ∷ []) acts t0 d t more still ∙ same
    where
      same : drops limits request (before ++ x ∷ []) t ≡ drops limits request before t
      same = let a = idle_after before x t0 d c e in rw (called_kept before t0 c x, c, any_next limits request before x ans.Idle a ∙ or_false _, kind_next limits request before x ans.Idle a) refl

  dropped_all : (before acts : List Own) (t0 d : ℕ) → called_at before ≡ Some t0 → dropped_at before ≡ Some d → dropped_at (before ++ acts) ≡ Some d
  dropped_all before [] t0 d c e = rw append-nil e
  dropped_all before (x ∷ acts) t0 d c e = ap dropped_at (sym (append_assoc before (x ∷ []) acts)) ∙ dropped_all (before ++ x ∷ []) acts t0 d (called_kept before t0 c x) (dropped_kept before t0 c x d e)

  -- a poll records no early drop
  handed_quiet : (left : ℕ) (items : List BodyItem) (j n : ℕ) (es : List Event) → dropped_in (handed_from left items j n ++ es) ≡ dropped_in es
  handed_quiet left items j zero es = refl
  handed_quiet left items j (suc n) es = handed_quiet left items (suc j) n es

  panic_quiet : (o : Option PollItem) → dropped_in (panic_at o) ≡ []
  panic_quiet None = refl
  panic_quiet (Some item) = go item.then
    where
      go : (t : Then) → dropped_in (panic_in t) ≡ []
      go then_.Pending = refl
      go (then_.Panic text) = refl
      go (then_.Fail error) = refl
      go (then_.Respond reply) = refl

  decided_quiet : (what : Decision) (left k : ℕ) → dropped_in (decided_events what left request.script k) ≡ []
  decided_quiet TooLarge left k = refl
  decided_quiet Forbidden left k = refl
  decided_quiet (Panicked text) left k = refl
  decided_quiet Served left k =
      let item = slice_get request.script.polls k in
      handed_quiet left request.script.body (asked_before request.script.polls k) (asks_of item) (panic_at item) ∙ panic_quiet item

  choice_quiet : (b : Bool) (es fs : List Event) → dropped_in es ≡ [] → dropped_in fs ≡ [] → dropped_in (if b then es else fs) ≡ []
  choice_quiet true es fs e f = e
  choice_quiet false es fs e f = f

  undue_quiet : (t0 k t : ℕ) → dropped_in (undue_events limits request t0 k t) ≡ []
  undue_quiet t0 k t = choice_quiet (due t0 limits.timeout t) [] _ refl (decided_quiet (decision limits request) (room limits request.script) k)

  -- nor does the poll that answers first, nor a later one
  answered_quiet : (t0 k t : ℕ) (o : Outcome) (l : ℕ) → dropped_in (undue_events limits request t0 k t ++ outcome_events limits o l) ≡ []
  answered_quiet t0 k t o l =
      let first = undue_events limits request t0 k t in let last = outcome_events limits o l in let told = outcome_quiet limits o l in
      dropped_append first last ∙ ap (λ es. es ++ dropped_in last) (undue_quiet t0 k t) ∙ told.0

  poll_quiet : (t0 : ℕ) (ps : List ℕ) (t : ℕ) (o : Option (ℕ × Outcome)) → dropped_in (poll_events limits request t0 ps t o) ≡ []
  poll_quiet t0 ps t None = undue_quiet t0 (length ps) t
  poll_quiet t0 ps t (Some (h, o)) =
      let later = later_quiet limits o t0 (slice_index ps h) (drop (suc h) ps) t in
      choice_quiet (length ps == h) _ _ (answered_quiet t0 (length ps) t o (since t0 t)) later.0

  -- after the Drop nothing is recorded
  idle_quiet : (acts : List Own) (x : Own) (t0 d : ℕ) → called_at acts ≡ Some t0 → dropped_at acts ≡ Some d → dropped_in (events limits request acts x) ≡ []
  idle_quiet acts (t, act.Call) t0 d c e = let told = call_quiet limits request (called_at acts) in told.0
  idle_quiet acts (t, act.Poll) t0 d c e = ap (λ o. dropped_in (on_poll_events limits request o (dropped_at acts) (polls acts) t)) c
      ∙ ap (λ o. dropped_in (on_poll_events limits request (Some t0) o (polls acts) t)) e
  idle_quiet acts (t, act.Drop) t0 d c e = ap (λ a. dropped_in (drop_events a (drops limits request (acts ++ (t, act.Drop) ∷ []) t))) (idle_after acts (t, act.Drop) t0 d c e)

  -- an early drop is one
  drops_at_in : (o : Option ℕ) (given : List Answer) (d : ℕ) → dropped_in (drops_at o given d) ≡ drops_at o given d
  drops_at_in None given d = refl
  drops_at_in (Some t0) given d = go (any_ending given)
    where
      go : (b : Bool) → dropped_in (if b then [] else event.Dropped (kind_of drop_kind.Future given) (record { unit = Nanos; nanos = d - t0 }) ∷ [])
          ≡ (if b then [] else event.Dropped (kind_of drop_kind.Future given) (record { unit = Nanos; nanos = d - t0 }) ∷ [])
      go true = refl
      go false = refl

  drops_in : (acts : List Own) (d : ℕ) → dropped_in (drops limits request acts d) ≡ drops limits request acts d
  drops_in acts d = drops_at_in (called_at acts) (answers limits request acts) d

  -- the records from some act on
  abbrev Records : List Own → List Own → ℕ → Type 0
  Records before acts end = (told_drops limits request before acts) ++ at_end limits request (before ++ acts) end
      ≡ unless_dropped (dropped_at before) (drops limits request (before ++ acts) (drop_time (dropped_at (before ++ acts)) end))

  quiet_step : (x : Own) (before acts : List Own) (end : ℕ) → dropped_in (events limits request before x) ≡ [] →
      dropped_at (before ++ x ∷ []) ≡ dropped_at before → Records (before ++ x ∷ []) acts end → Records before (x ∷ acts) end
  quiet_step x before acts end q d ih =
      ap (λ es. es ++ (told_drops limits request (before ++ x ∷ []) acts) ++ at_end limits request (before ++ x ∷ acts) end) q
      ∙ ap (λ l. (told_drops limits request (before ++ x ∷ []) acts) ++ at_end limits request l end) (sym (append_assoc before (x ∷ []) acts))
      ∙ ih
      ∙ ap (λ o. unless_dropped o (drops limits request (before ++ x ∷ [] ++ acts) (drop_time (dropped_at (before ++ x ∷ [] ++ acts)) end))) d
      ∙ ap (λ l. unless_dropped (dropped_at before) (drops limits request l (drop_time (dropped_at l) end))) (append_assoc before (x ∷ []) acts)

  drop_step : (t : ℕ) (before acts : List Own) (end t0 : ℕ) → called_at before ≡ Some t0 → dropped_at before ≡ None → drop_answer (first_answer limits request t0 (polls before)) ≡ ans.Dropped → Records (before ++ (t, act.Drop) ∷ []) acts end → Records before ((t, act.Drop) ∷ acts) end
  drop_step t before acts end t0 c d n ih =
      let next = before ++ (t, act.Drop) ∷ [] in
      let now = dropped_now before t0 c t d in
      let called = called_kept before t0 c (t, act.Drop) in
      let rest : (told_drops limits request next acts) ++ at_end limits request (next ++ acts) end ≡ [] =
      ih ∙ ap (λ o. unless_dropped o (drops limits request (next ++ acts) (drop_time (dropped_at (next ++ acts)) end))) now in
      let joined = append_assoc before ((t, act.Drop) ∷ []) acts in
      let last = dropped_all next acts t0 t called now in
      ap (λ es. es ++ (told_drops limits request next acts) ++ at_end limits request (before ++ (t, act.Drop) ∷ acts) end) (ap (λ a. dropped_in (drop_events a (drops limits request next t))) (ap (λ o. on_drop limits request o (dropped_at before) (polls before)) c ∙ ap (λ o. on_drop limits request (Some t0) o (polls before)) d ∙ n) ∙ drops_in next t)
      ∙ append_assoc (drops limits request next t) _ _
      ∙ ap (λ l. drops limits request next t ++ ((told_drops limits request next acts) ++ at_end limits request l end)) (sym joined)
      ∙ ap (λ es. drops limits request next t ++ es) rest
      ∙ append-nil (drops limits request next t)
      ∙ sym (drops_kept next acts t0 t t called now)
      ∙ ap (λ o. drops limits request (next ++ acts) (drop_time o end)) (sym last)
      ∙ ap (λ l. drops limits request l (drop_time (dropped_at l) end)) joined
      ∙ ap (λ o. unless_dropped o (drops limits request (before ++ (t, act.Drop) ∷ acts) (drop_time (dropped_at (before ++ (t, act.Drop) ∷ acts)) end))) (sym d)

  -- a Drop after a service error
  failed_step : (t : ℕ) (before acts : List Own) (end t0 : ℕ) → called_at before ≡ Some t0 → dropped_at before ≡ None → drop_answer (first_answer limits request t0 (polls before)) ≡ ans.Idle →
      any_ending (answers limits request before) ≡ true → Records (before ++ (t, act.Drop) ∷ []) acts end → Records before ((t, act.Drop) ∷ acts) end
  failed_step t before acts end t0 c d n e ih =
      let next = before ++ (t, act.Drop) ∷ [] in
      let a : answer limits request before (t, act.Drop) ≡ ans.Idle = ap (λ o. on_drop limits request o (dropped_at before) (polls before)) c ∙ ap (λ o. on_drop limits request (Some t0) o (polls before)) d ∙ n in
      ap (λ x. dropped_in (drop_events x (drops limits request next t)) ++ (told_drops limits request next acts) ++ at_end limits request (before ++ (t, act.Drop) ∷ acts) end) a
      ∙ ap (λ l. (told_drops limits request next acts) ++ at_end limits request l end) (sym (append_assoc before ((t, act.Drop) ∷ []) acts))
      ∙ ih
      ∙ ap (λ o. unless_dropped o (drops limits request (next ++ acts) (drop_time (dropped_at (next ++ acts)) end))) (dropped_now before t0 c t d)
      ∙ sym (ended_none limits request before ((t, act.Drop) ∷ acts) (drop_time (dropped_at (before ++ (t, act.Drop) ∷ acts)) end) e)
      ∙ ap (λ o. unless_dropped o (drops limits request (before ++ (t, act.Drop) ∷ acts) (drop_time (dropped_at (before ++ (t, act.Drop) ∷ acts)) end))) (sym d)

  -- a Drop of what is live, or after a service error
  any_drop : (t : ℕ) (before acts : List Own) (end t0 : ℕ) (o : Option (ℕ × Outcome)) → Marked limits request before → called_at before ≡ Some t0 → dropped_at before ≡ None → first_answer limits request t0 (polls before) ≡ o →
      Records (before ++ (t, act.Drop) ∷ []) acts end → Records before ((t, act.Drop) ∷ acts) end
  any_drop t before acts end t0 None m c d h ih = drop_step t before acts end t0 c d (ap drop_answer h) ih
  any_drop t before acts end t0 (Some (k, Replied r)) m c d h ih = drop_step t before acts end t0 c d (ap drop_answer h) ih
  any_drop t before acts end t0 (Some (k, Failed error)) m c d h ih = failed_step t before acts end t0 c d (ap drop_answer h) (m t0 k error c h) ih

  step : (x : Own) (before acts : List Own) (end : ℕ) (c d : Option ℕ) → Marked limits request before → called_at before ≡ c → dropped_at before ≡ d → Records (before ++ x ∷ []) acts end → Records before (x ∷ acts) end
  step (t, act.Call) before acts end None d m c e ih = let told = call_quiet limits request (called_at before) in quiet_step (t, act.Call) before acts end told.0
      (ap first_drop (after_same before c (t, act.Call))) ih
  step (t, act.Poll) before acts end None d m c e ih = quiet_step (t, act.Poll) before acts end (ap (λ o. dropped_in (on_poll_events limits request o (dropped_at before) (polls before) t)) c)
      (ap first_drop (after_same before c (t, act.Poll))) ih
  step (t, act.Drop) before acts end None d m c e ih = quiet_step (t, act.Drop) before acts end (ap (λ o. dropped_in (drop_events (on_drop limits request o (dropped_at before) (polls before)) (drops limits request (before ++ (t, act.Drop) ∷ []) t))) c)
      (ap first_drop (after_same before c (t, act.Drop))) ih
  step x before acts end (Some t0) (Some d) m c e ih = quiet_step x before acts end (idle_quiet before x t0 d c e) (dropped_kept before t0 c x d e ∙ sym e) ih
  step (t, act.Call) before acts end (Some t0) None m c e ih = let told = call_quiet limits request (called_at before) in quiet_step (t, act.Call) before acts end told.0 (dropped_after_call before t0 c t) ih
  step (t, act.Poll) before acts end (Some t0) None m c e ih = quiet_step (t, act.Poll) before acts end
      (rw (c, e) (poll_quiet t0 (polls before) t (first_answer limits request t0 (polls before ++ t ∷ [])))) (dropped_after_poll before t0 c t) ih
  step (t, act.Drop) before acts end (Some t0) None m c e ih = any_drop t before acts end t0 (first_answer limits request t0 (polls before)) m c e refl ih

  records : (acts before : List Own) (end : ℕ) → Marked limits request before → Records before acts end
  records [] before end m = rw append-nil (none (dropped_at before))
    where
      none : (d : Option ℕ) → unless_dropped d (drops limits request before end) ≡ unless_dropped d (drops limits request before (drop_time d end))
      none None = refl
      none (Some d) = refl
  records (x ∷ acts) before end m = step x before acts end (called_at before) (dropped_at before) m refl refl (records acts (before ++ x ∷ []) end (marked_step limits request before x m))

-- the records of a story: none, or one at the Drop or at the end
pub drops_once : (limits : Limits) (request : Numbered) (acts : List Own) (end : ℕ) → drop_records (story limits request acts end) ≡ drops limits request acts (drop_time (dropped_at acts) end)
drops_once limits request acts end = ap (λ es. told_drops limits request [] acts ++ es) (by_drop (dropped_at acts)) ∙ records limits request acts [] end (marked_none limits request)
  where
    by_drop : (o : Option ℕ) → dropped_in (unless_dropped o (drops limits request acts end)) ≡ unless_dropped o (drops limits request acts end)
    by_drop None = drops_in limits request acts end
    by_drop (Some d) = refl
