-- The story's table answers and records each act by the course of its request.
use Rattle.std.proofs.Common.{inl, inr, ◌≡◌, ℕ, suc, ◌-◌, ◌<◌, List, [], ◌∷◌, ◌++◌, length, drop, reverse, Bool, true, false, Option, Some, None, Ok, refl, sym, ap, ◌∙◌, arith, drop_of_length-le, subst}
use Rattle.std.specs.Prelude.{slice_index, if◌then◌else◌, ◌||◌}
use Rattle.std.proofs.lemmas.List.{length-reverse, reverse-append, drop-append-le}
use Rattle.life_core.specs.History.{Latest, Said, Waits, Gives, Fails, said_under}
use Rattle.life_core.specs.declared.event.Event.{Event}
use Rattle.life_drop.specs.History.{ended, unless_ended}
use Rattle.life_script.specs.Reply.{ReplyView}
use Rattle.life_script.specs.declared.answer.Answer.{Answer}
use Rattle.life_script.specs.declared.answer.Answer.TheVariants as ans
use Rattle.life_script.specs.declared.scenario.Act.TheVariants as act
use Rattle.life_script.specs.declared.scenario.Limits.{Limits}
use Rattle.life_session.specs.Acts.{Own}
use Rattle.life_session.specs.Course.{Course, Fresh, Awaited, Streamed, Turns, after_answer, frame_told, told, Over}
use Rattle.life_stack.specs.Stack.Course.{AwaitedAfter, FreshAfter, LifeIs, OverAfter, StoryAfter, StreamedAfter, reply_of, signs, IsGone}
use Rattle.life_stack.specs.Stack.Driven.{Plan, WatchedPlan, timed_body_history, watched_body_history}
use Rattle.life_stack.specs.Stack.Tracing.{drive_classes, drive_events, head_class}
use Rattle.life_core.specs.Life.{life_begun, life_on}
use Rattle.life_core.specs.Timer.{since}
use Rattle.life_trace.specs.History.{life_at, said_told}
use Rattle.life_stack.specs.Service.History.{BodyPlan, Head}
use Rattle.life_stack.specs.Stack.Keeping.{drive_histories, drive_table}
use Rattle.life_stack.specs.Table.Request.{Numbered, shown_headers}
use Rattle.life_session.specs.Moments.{called_at, dropped_at, first_drop, polls, polls_before_drop}
use Rattle.life_stack.specs.Table.Story.{Failed, Outcome, Replied, answer, body_answer, body_answers, body_events, by_first_answer, drop_answer, drop_events, drops, events, first_answer, is_ending, later_events, on_call, on_call_events, on_drop, on_poll, on_poll_events, poll_events, tells_after, undue_events}
use Rattle.life_stack.proofs.TableLaws.Acts.{any_next, kind_next, or_false}
use Rattle.life_session.proofs.MomentLaws.{called_kept, called_next, none_after_next, polls_after_call, polls_after_poll, dropped_after_call, dropped_after_poll, dropped_now, dropped_kept}
use Rattle.life_stack.proofs.TableLaws.Answering.{timed_says, first_answer_said, answer_at_first, answer_above_first, last_poll, earlier_poll, ending_told, kind_told, body_table, frame_events, later_on, up_to_now, watched_said}
use Rattle.life_stack.proofs.TableLaws.Traces.{body_answers_push, body_traced, life_pushed, life_told, told as told_of}
use Rattle.life_stack.proofs.TableLaws.FirstAnswers.{first_answer_of, first_answer_kept, length_push, no_first_answer, first_answer_below}

module _ (limits : Limits) (request : Numbered) (before : List Own) where
  abbrev pub Turn : Course Plan → Own → Type 0
  Turn c x = Turns drive_histories drive_table StoryAfter (limits, request) before c x

  -- an idle Drop records nothing
  pub drop_idle : (t : ℕ) → answer limits request before (t, act.Drop) ≡ ans.Idle → events limits request before (t, act.Drop) ≡ []
  drop_idle t a = ap (λ y. drop_events y (drops limits request (before ++ (t, act.Drop) ∷ []) t)) a

  -- NOT CALLED.

  module _ (at : FreshAfter (signs limits request before)) where
    pub fresh_called : (t : ℕ) → Turn Fresh (t, act.Call)
    fresh_called t =
        let a : answer limits request before (t, act.Call) ≡ ans.Called = ap on_call at.uncalled in
        let no_polls : polls (before ++ (t, act.Call) ∷ []) ≡ [] = ap polls_before_drop (none_after_next before at.uncalled (t, act.Call)) in record {
          answer = a;
          events = ap (on_call_events limits request) at.uncalled;
          course = record {
            called = called_next before at.uncalled (t, act.Call);
            undropped = ap first_drop (none_after_next before at.uncalled (t, act.Call));
            past_is = ap reverse (sym no_polls);
            polled = ap length (sym no_polls);
            unanswered = ap (first_answer limits request t) no_polls ∙ no_first_answer limits request t;
            no_ending = any_next limits request before (t, act.Call) ans.Called a ∙ or_false _ ∙ at.no_ending;
            kind = kind_next limits request before (t, act.Call) ans.Called a ∙ at.kind;
          };
        }

    fresh_more : (x : Own) → answer limits request before x ≡ ans.Idle → called_at (before ++ x ∷ []) ≡ None → FreshAfter (signs limits request (before ++ x ∷ []))
    fresh_more x a c = record {
      uncalled = c;
      no_ending = any_next limits request before x ans.Idle a ∙ or_false _ ∙ at.no_ending;
      kind = kind_next limits request before x ans.Idle a ∙ at.kind;
    }

    pub fresh_polled : (t : ℕ) → Turn Fresh (t, act.Poll)
    fresh_polled t = let a = ap (λ c. on_poll limits request c (dropped_at before) (polls before ++ t ∷ []) (length (polls before))) at.uncalled in record {
      answer = a;
      events = ap (λ c. on_poll_events limits request c (dropped_at before) (polls before) t) at.uncalled;
      course = fresh_more (t, act.Poll) a (called_next before at.uncalled (t, act.Poll));
    }

    pub fresh_dropped : (t : ℕ) → Turn Fresh (t, act.Drop)
    fresh_dropped t = let a = ap (λ c. on_drop limits request c (dropped_at before) (polls before)) at.uncalled in record {
      answer = a;
      events = drop_idle t a;
      course = fresh_more (t, act.Drop) a (called_next before at.uncalled (t, act.Drop));
    }

  -- CALLED, and not dropped.

  -- a second Call is not seen
  call_unseen : (t0 : ℕ) → called_at before ≡ Some t0 → (t : ℕ) → signs limits request (before ++ (t, act.Call) ∷ []) ≡ signs limits request before
  call_unseen t0 c t =
      let a : answer limits request before (t, act.Call) ≡ ans.Idle = ap on_call c in
      rw (called_kept before t0 c (t, act.Call), c, dropped_after_call before t0 c t, polls_after_call before t0 c t, any_next limits request before (t, act.Call) ans.Idle a ∙ or_false _, kind_next limits request before (t, act.Call) ans.Idle a) refl

  module _ (t0 : ℕ) (called : called_at before ≡ Some t0) (undropped : dropped_at before ≡ None) where
    poll_answer : (t : ℕ) (o : Option (ℕ × Outcome)) → first_answer limits request t0 (polls before ++ t ∷ []) ≡ o → answer limits request before (t, act.Poll) ≡ by_first_answer limits (polls before ++ t ∷ []) (length (polls before)) o
    poll_answer t o e =
        ap (λ c. on_poll limits request c (dropped_at before) (polls before ++ t ∷ []) (length (polls before))) called
        ∙ ap (λ d. on_poll limits request (Some t0) d (polls before ++ t ∷ []) (length (polls before))) undropped
        ∙ ap (by_first_answer limits (polls before ++ t ∷ []) (length (polls before))) e

    poll_records : (t : ℕ) (o : Option (ℕ × Outcome)) → first_answer limits request t0 (polls before ++ t ∷ []) ≡ o → events limits request before (t, act.Poll) ≡ poll_events limits request t0 (polls before) t o
    poll_records t o e =
        ap (λ c. on_poll_events limits request c (dropped_at before) (polls before) t) called
        ∙ ap (λ d. on_poll_events limits request (Some t0) d (polls before) t) undropped
        ∙ ap (poll_events limits request t0 (polls before) t) e

    polled_more : (t : ℕ) → polls (before ++ (t, act.Poll) ∷ []) ≡ polls before ++ t ∷ []
    polled_more t = polls_after_poll before t0 called t undropped

    -- a Drop changes nothing in the early drop of a time
    drops_pushed : (t d : ℕ) → answer limits request before (t, act.Drop) ≡ ans.Dropped → drops limits request (before ++ (t, act.Drop) ∷ []) d ≡ drops limits request before d
    drops_pushed t d a = rw (called_kept before t0 called (t, act.Drop), called, any_next limits request before (t, act.Drop) ans.Dropped a ∙ or_false _, kind_next limits request before (t, act.Drop) ans.Dropped a) refl

    -- to abandon what is live records its early drop
    dropped : (c : Course Plan) (t : ℕ) (es : List Event) → drop_answer (first_answer limits request t0 (polls before)) ≡ ans.Dropped → drops limits request before t ≡ es →
        (answer limits request before (t, act.Drop) ≡ ans.Dropped) × (events limits request before (t, act.Drop) ≡ es) × OverAfter limits request (signs limits request (before ++ (t, act.Drop) ∷ []))
    dropped c t es live e =
        let a : answer limits request before (t, act.Drop) ≡ ans.Dropped = ap (λ o. on_drop limits request o (dropped_at before) (polls before)) called ∙ ap (λ o. on_drop limits request (Some t0) o (polls before)) undropped ∙ live in (
          a,
          ap (λ x. drop_events x (drops limits request (before ++ (t, act.Drop) ∷ []) t)) a ∙ drops_pushed t t a ∙ e,
          record { t0 = t0; called = called_kept before t0 called (t, act.Drop); gone = inl (t, dropped_now before t0 called t undropped) },
        )

  -- AWAITED.

  -- what the stack says at a time by what the service says under the timer
  abbrev planned : ℕ → Said Head BodyPlan (List ℕ) → Said Head Plan (List ℕ)
  planned t said = said_under {P = WatchedPlan} {Q = Plan} (λ head p. record { head = head; responded = t; inner = p }) (watched_said t said)

  module _ (t0 : ℕ) (past : List ℕ) (at : AwaitedAfter limits request (signs limits request before) t0 past) where
    by_answer : (t : ℕ) (said : Said Head BodyPlan (List ℕ)) → first_answer limits request t0 (polls before ++ t ∷ []) ≡ first_answer_of (length (polls before)) said →
        (answer limits request before (t, act.Poll) ≡ told drive_histories (limits, request) t0 (planned t said)) × StoryAfter (limits, request) (before ++ (t, act.Poll) ∷ []) (after_answer drive_histories (limits, request) t0 past t (planned t said))
    by_answer t Waits e =
        let a : answer limits request before (t, act.Poll) ≡ ans.Pending = poll_answer t0 at.called at.undropped t None e in (
          a,
          record {
            called = called_kept before t0 at.called (t, act.Poll);
            undropped = dropped_after_poll before t0 at.called t ∙ at.undropped;
            past_is = ap (λ l. t ∷ l) at.past_is ∙ sym (reverse-append (polls before) (t ∷ [])) ∙ ap reverse (sym (polled_more t0 at.called at.undropped t));
            polled = ap suc at.polled ∙ sym (ap length (polled_more t0 at.called at.undropped t) ∙ length_push (polls before) t);
            unanswered = ap (first_answer limits request t0) (polled_more t0 at.called at.undropped t) ∙ e;
            no_ending = any_next limits request before (t, act.Poll) ans.Pending a ∙ or_false _ ∙ at.no_ending;
            kind = kind_next limits request before (t, act.Poll) ans.Pending a ∙ at.kind;
          },
        )
    by_answer t (Gives said p) e =
        let k = length (polls before) in
        let more = polled_more t0 at.called at.undropped t in
        let r : ReplyView = record { status = said.0; headers = said.1; body = p.items; tells = p.tells } in
        let none_since : drop (suc k) (polls (before ++ (t, act.Poll) ∷ [])) ≡ [] =
        ap (drop (suc k)) more ∙ drop_of_length-le (polls before ++ t ∷ []) {i = suc k} (omega (arith, length_push (polls before) t)) in
        let given : Answer = ans.Response r.status (shown_headers r.headers) (tells_after r 0) in
        let a : answer limits request before (t, act.Poll) ≡ given = poll_answer t0 at.called at.undropped t (Some (k, Replied r)) e ∙ answer_at_first limits (polls before ++ t ∷ []) k (Replied r) in (
          a,
          record {
            h = k;
            called = called_kept before t0 at.called (t, act.Poll);
            undropped = dropped_after_poll before t0 at.called t ∙ at.undropped;
            first_answer_is = ap (first_answer limits request t0) more ∙ e;
            at_first_answer = ap (λ ps. slice_index ps k) more ∙ last_poll (polls before) t;
            past_is = ap reverse (sym none_since);
            polled = ap length more ∙ length_push (polls before) t ∙ omega arith;
            kind = kind_next limits request before (t, act.Poll) given a;
            ending = any_next limits request before (t, act.Poll) given a ∙ ap (λ b. b || tells_after r 0) at.no_ending;
            life = subst (λ qs. LifeIs t0 t (life_begun t0 t (tells_after r 0)) (body_answers limits.body_deadline r t 0 qs)) (sym none_since)
                (record { responded = refl; last = refl; closed = refl; faulted = refl });
          },
        )
    by_answer t (Fails error) e =
        let k = length (polls before) in (
          poll_answer t0 at.called at.undropped t (Some (k, Failed error)) e ∙ answer_at_first limits (polls before ++ t ∷ []) k (Failed error),
          record {
            t0 = t0;
            called = called_kept before t0 at.called (t, act.Poll);
            gone = inr (k, error, dropped_after_poll before t0 at.called t ∙ at.undropped, ap (first_answer limits request t0) (polled_more t0 at.called at.undropped t) ∙ e);
          },
        )

    pub awaited_polled : (t : ℕ) → Turn (Awaited t0 past) (t, act.Poll)
    awaited_polled t =
        let k = length (polls before) in
        let e = first_answer_said limits request t0 (polls before) t at.unanswered in
        let both = by_answer t (timed_says limits request t0 (length past) t) (e ∙ ap (λ n. first_answer_of k (timed_says limits request t0 n t)) (sym at.polled)) in record {
          answer = both.0;
          events = poll_records t0 at.called at.undropped t _ e ∙ up_to_now limits request t0 (polls before) t (timed_says limits request t0 k t)
              ∙ ap (λ n. undue_events limits request t0 n t ++ said_told drive_events (drive_classes limits.classifier) (watched_said t (timed_says limits request t0 n t)) (since t0 t)) (sym at.polled);
          course = both.1;
        }

    pub awaited_called : (t : ℕ) → Turn (Awaited t0 past) (t, act.Call)
    awaited_called t = record { answer = ap on_call at.called; events = ap (on_call_events limits request) at.called; course = subst (λ s. AwaitedAfter limits request s t0 past) (sym (call_unseen t0 at.called t)) at }

    pub awaited_drops : (t : ℕ) → drops limits request before t ≡ (drive_histories.future (limits, request) t0).abandoned past t
    awaited_drops t = rw (at.called, at.no_ending, at.kind) refl

    pub awaited_dropped : (t : ℕ) → Turn (Awaited t0 past) (t, act.Drop)
    awaited_dropped t = let d = dropped t0 at.called at.undropped (Awaited t0 past) t _ (ap drop_answer at.unanswered) (awaited_drops t) in record { answer = d.0; events = d.1; course = d.2 }

  -- STREAMED.

  module _ (t0 : ℕ) (plan : Plan) (past : List ℕ) (at : StreamedAfter limits request (signs limits request before) t0 plan past) where
    pub streamed_polled : (t : ℕ) → Latest t past → Turn (Streamed t0 plan past) (t, act.Poll)
    streamed_polled t latest =
        let hist = timed_body_history limits.body_deadline plan.inner.1 in
        let reply = reply_of plan in
        let ps = polls before in
        let k = length ps in
        let more = polled_more t0 at.called at.undropped t in
        let kept = first_answer_kept limits request t0 ps t (at.h, Replied reply) at.first_answer_is in
        let below : at.h < k = omega (arith, at.polled) in
        let place : k - suc at.h ≡ length past = omega (arith, at.polled) in
        let table : answer limits request before (t, act.Poll) ≡ body_answer limits.body_deadline reply plan.inner.1.0 t (length past) =
        poll_answer t0 at.called at.undropped t _ kept
        ∙ answer_above_first limits (ps ++ t ∷ []) k at.h (Replied reply) below
        ∙ ap (λ y. body_answer limits.body_deadline reply y (slice_index (ps ++ t ∷ []) k) (k - suc at.h)) (earlier_poll ps t at.h below ∙ at.at_first_answer)
        ∙ ap (λ y. body_answer limits.body_deadline reply plan.inner.1.0 y (k - suc at.h)) (last_poll ps t)
        ∙ ap (body_answer limits.body_deadline reply plan.inner.1.0 t) place in
        let ph = plan.inner.1.0 in
        let qs = drop (suc at.h) ps in
        let given = body_answers limits.body_deadline reply ph 0 qs in
        let life = life_at t0 plan.responded (watched_body_history limits t0 plan.inner) past in
        let since_is : length past ≡ length qs = ap length at.past_is ∙ length-reverse qs in
        let one_more : given ++ (t, frame_told (hist.frame past t) (hist.ends (t ∷ past))) ∷ [] ≡ body_answers limits.body_deadline reply ph 0 (drop (suc at.h) (polls (before ++ (t, act.Poll) ∷ []))) =
        ap (λ a. given ++ (t, a) ∷ []) (body_table limits.body_deadline ph reply past t latest)
        ∙ ap (λ n. given ++ (t, body_answer limits.body_deadline reply ph t n) ∷ []) (omega (arith, since_is))
        ∙ sym (body_answers_push limits.body_deadline reply ph 0 qs t)
        ∙ ap (body_answers limits.body_deadline reply ph 0) (sym (drop-append-le (suc at.h) ps (t ∷ []) below))
        ∙ ap (λ l. body_answers limits.body_deadline reply ph 0 (drop (suc at.h) l)) (sym more) in
        let said : answer limits request before (t, act.Poll) ≡ frame_told (hist.frame past t) (hist.ends (t ∷ past)) = table ∙ sym (body_table limits.body_deadline plan.inner.1.0 reply past t latest) in
        record {
          answer = said;
          events = poll_records t0 at.called at.undropped t _ kept
              ∙ later_on limits request t0 ps t at.h (Replied reply) below
              ∙ ap (λ y. later_events limits (Replied reply) t0 y qs t) at.at_first_answer
              ∙ ap (body_events limits reply t0 ph given t) (sym since_is)
              ∙ body_traced limits reply t0 ph given past t latest
              ∙ life_told limits.classifier (head_class limits.classifier plan.head) t0 ph life given t (hist.frame past t) (hist.ends (t ∷ past)) at.life
              ∙ ap (λ es. es ++ told_of limits.classifier (since life.last t) (since life.responded t) (head_class limits.classifier plan.head) life.closed life.faulted (hist.frame past t) (hist.ends (t ∷ past)))
              (sym (frame_events limits.body_deadline ph plan.inner.1.1 past t));
          course = record {
            h = at.h;
            called = called_kept before t0 at.called (t, act.Poll);
            undropped = dropped_after_poll before t0 at.called t ∙ at.undropped;
            first_answer_is = ap (first_answer limits request t0) more ∙ kept;
            at_first_answer = ap (λ qs. slice_index qs at.h) more ∙ earlier_poll ps t at.h below ∙ at.at_first_answer;
            past_is = ap (λ l. t ∷ l) at.past_is ∙ sym (reverse-append (drop (suc at.h) ps) (t ∷ [])) ∙ ap reverse (sym (drop-append-le (suc at.h) ps (t ∷ []) below)) ∙ ap (λ qs. reverse (drop (suc at.h) qs)) (sym more);
            polled = ap length more ∙ length_push ps t ∙ omega (arith, at.polled);
            kind = kind_next limits request before (t, act.Poll) _ said ∙ kind_told (hist.frame past t) (hist.ends (t ∷ past)) _ ∙ at.kind;
            ending = any_next limits request before (t, act.Poll) _ said ∙ ap (λ y. y || is_ending (frame_told (hist.frame past t) (hist.ends (t ∷ past)))) at.ending
                ∙ ap (λ y. ended hist past || y) (ending_told (hist.frame past t) (hist.ends (t ∷ past)));
            life = subst (LifeIs t0 ph (life_on life t (Ok (hist.frame past t)) (hist.ends (t ∷ past)))) one_more (life_pushed t0 ph life given t at.life (hist.frame past t) (hist.ends (t ∷ past)));
          };
        }

    pub streamed_called : (t : ℕ) → Turn (Streamed t0 plan past) (t, act.Call)
    streamed_called t = record { answer = ap on_call at.called; events = ap (on_call_events limits request) at.called; course = subst (λ s. StreamedAfter limits request s t0 plan past) (sym (call_unseen t0 at.called t)) at }

    unless_is : (x : Bool) (es : List Event) → (if x then [] else es) ≡ unless_ended x es
    unless_is true es = refl
    unless_is false es = refl

    pub streamed_drops : (t : ℕ) → drops limits request before t ≡ (drive_histories.body (limits, request) t0 plan).abandoned past t
    streamed_drops t = rw (at.called, at.ending, at.kind) (unless_is (ended (timed_body_history limits.body_deadline plan.inner.1) past) _)

    pub streamed_dropped : (t : ℕ) → Turn (Streamed t0 plan past) (t, act.Drop)
    streamed_dropped t = let d = dropped t0 at.called at.undropped (Streamed t0 plan past) t _ (ap drop_answer at.first_answer_is) (streamed_drops t) in record { answer = d.0; events = d.1; course = d.2 }

  -- OVER: nothing is answered or recorded.

  gone_answer : (x : Own) (t0 : ℕ) → called_at before ≡ Some t0 → IsGone limits request t0 (signs limits request before) → answer limits request before x ≡ ans.Idle
  gone_answer (t, act.Call) t0 c g = ap on_call c
  gone_answer (t, act.Poll) t0 c (inl g) = ap (λ o. on_poll limits request o (dropped_at before) (polls before ++ t ∷ []) (length (polls before))) c
      ∙ ap (λ o. on_poll limits request (Some t0) o (polls before ++ t ∷ []) (length (polls before))) g.1
  gone_answer (t, act.Poll) t0 c (inr g) = ap (λ o. on_poll limits request o (dropped_at before) (polls before ++ t ∷ []) (length (polls before))) c
      ∙ ap (λ o. on_poll limits request (Some t0) o (polls before ++ t ∷ []) (length (polls before))) g.2
      ∙ ap (by_first_answer limits (polls before ++ t ∷ []) (length (polls before))) (first_answer_kept limits request t0 (polls before) t (g.0, Failed g.1) g.3)
      ∙ answer_above_first limits (polls before ++ t ∷ []) (length (polls before)) g.0 (Failed g.1) (first_answer_below limits request t0 (polls before) g.0 (Failed g.1) g.3)
  gone_answer (t, act.Drop) t0 c (inl g) = ap (λ o. on_drop limits request o (dropped_at before) (polls before)) c ∙ ap (λ o. on_drop limits request (Some t0) o (polls before)) g.1
  gone_answer (t, act.Drop) t0 c (inr g) = ap (λ o. on_drop limits request o (dropped_at before) (polls before)) c ∙ ap (λ o. on_drop limits request (Some t0) o (polls before)) g.2
      ∙ ap drop_answer g.3

  gone_events : (x : Own) (t0 : ℕ) → called_at before ≡ Some t0 → IsGone limits request t0 (signs limits request before) → events limits request before x ≡ []
  gone_events (t, act.Call) t0 c g = ap (on_call_events limits request) c
  gone_events (t, act.Poll) t0 c (inl g) = ap (λ o. on_poll_events limits request o (dropped_at before) (polls before) t) c
      ∙ ap (λ o. on_poll_events limits request (Some t0) o (polls before) t) g.1
  gone_events (t, act.Poll) t0 c (inr g) = ap (λ o. on_poll_events limits request o (dropped_at before) (polls before) t) c
      ∙ ap (λ o. on_poll_events limits request (Some t0) o (polls before) t) g.2
      ∙ ap (poll_events limits request t0 (polls before) t) (first_answer_kept limits request t0 (polls before) t (g.0, Failed g.1) g.3)
      ∙ later_on limits request t0 (polls before) t g.0 (Failed g.1) (first_answer_below limits request t0 (polls before) g.0 (Failed g.1) g.3)
  gone_events (t, act.Drop) t0 c g = drop_idle t (gone_answer (t, act.Drop) t0 c g)

  gone_more : (x : Own) (t0 : ℕ) → called_at before ≡ Some t0 → IsGone limits request t0 (signs limits request before) → IsGone limits request t0 (signs limits request (before ++ x ∷ []))
  gone_more x t0 c (inl g) = inl (g.0, dropped_kept before t0 c x g.0 g.1)
  gone_more (t, act.Call) t0 c (inr g) = inr (g.0, g.1, dropped_after_call before t0 c t ∙ g.2, ap (first_answer limits request t0) (polls_after_call before t0 c t) ∙ g.3)
  gone_more (t, act.Poll) t0 c (inr g) = inr (g.0, g.1, dropped_after_poll before t0 c t ∙ g.2, ap (first_answer limits request t0) (polls_after_poll before t0 c t g.2) ∙ first_answer_kept limits request t0 (polls before) t (g.0, Failed g.1) g.3)
  gone_more (t, act.Drop) t0 c (inr g) = inl (t, dropped_now before t0 c t g.2)

  pub over_idle : (x : Own) → OverAfter limits request (signs limits request before) → Turn Over x
  over_idle x at = record {
    answer = gone_answer x at.t0 at.called at.gone;
    events = gone_events x at.t0 at.called at.gone;
    course = record { t0 = at.t0; called = called_kept before at.t0 at.called x; gone = gone_more x at.t0 at.called at.gone };
  }
