-- After a service error a request has ended, so no early drop is recorded of it.
use Rattle.std.proofs.Common.{inl, inr, ◌≡◌, ℕ, List, [], ◌∷◌, ◌++◌, length, Bool, true, false, Option, Some, None, refl, sym, ap, ◌∙◌, subst, append-nil, append_assoc}
use Rattle.std.specs.Prelude.{◌||◌}
use Rattle.life_core.specs.History.{Said, Waits, Gives, Fails}
use Rattle.life_stack.specs.Table.Request.{Numbered}
use Rattle.life_script.specs.Reply.{ReplyView}
use Rattle.life_script.specs.declared.answer.Answer.{Answer}
use Rattle.life_script.specs.declared.answer.Answer.TheVariants as ans
use Rattle.life_script.specs.declared.scenario.Act.TheVariants as act
use Rattle.life_script.specs.declared.scenario.Limits.{Limits}
use Rattle.life_stack.specs.Service.History.{BodyPlan, Head}
use Rattle.life_session.specs.Acts.{Own}
use Rattle.life_session.specs.Moments.{called_at, dropped_at, polls, polls_before_drop}
use Rattle.life_stack.specs.Stack.Course.{IsGone, signs}
use Rattle.life_stack.specs.Table.Story.{Failed, Outcome, Replied, answer, answers, any_ending, at_end, by_first_answer, drops, drops_at, first_answer, is_ending, on_poll, unless_dropped}
use Rattle.life_stack.proofs.TableLaws.Acts.{any_next}
use Rattle.life_session.proofs.MomentLaws.{none≢some, called_kept, none_after_next, called_next, polls_after_call, polls_after_poll, polls_after_drop, polls_after_dropped}
use Rattle.life_stack.proofs.TableLaws.Answering.{answer_at_first, first_answer_said, timed_says}
use Rattle.life_stack.proofs.TableLaws.FirstAnswers.{first_answer_kept, first_answer_of, no_first_answer}
use Rattle.life_session.proofs.ActLaws.{some_is}

apart : (r : ReplyView) (error : List ℕ) → Replied r ≡ Failed error → ⊥
apart r error e = cc

module _ (limits : Limits) (request : Numbered) where
  -- where a poll failed, an ending answer was given
  abbrev pub Marked : List Own → Type 0
  Marked before = (t0 h : ℕ) (error : List ℕ) → called_at before ≡ Some t0 → first_answer limits request t0 (polls before) ≡ Some (h, Failed error) → any_ending (answers limits request before) ≡ true

  or_yes : (b : Bool) → (b || true) ≡ true
  or_yes true = refl
  or_yes false = refl

  ended_before : (before : List Own) (x : Own) → any_ending (answers limits request before) ≡ true → any_ending (answers limits request (before ++ x ∷ [])) ≡ true
  ended_before before x e = any_next limits request before x _ refl ∙ ap (λ b. b || is_ending (answer limits request before x)) e

  ended_now : (before : List Own) (x : Own) → is_ending (answer limits request before x) ≡ true → any_ending (answers limits request (before ++ x ∷ [])) ≡ true
  ended_now before x e = any_next limits request before x _ refl ∙ ap (λ b. any_ending (answers limits request before) || b) e ∙ or_yes (any_ending (answers limits request before))

  -- the failure of a poll stands at its own index
  own_index : (k h : ℕ) (error : List ℕ) (said : Said Head BodyPlan (List ℕ)) → first_answer_of k said ≡ Some (h, Failed error) → h ≡ k
  own_index k h error Waits e = absurd (none≢some e)
  own_index k h error (Gives g r) e = absurd (apart _ error (ap (λ p. p.1) (some_is e)))
  own_index k h error (Fails x) e = sym (ap (λ p. p.0) (some_is e))

  -- the poll that fails
  marked_now : (before : List Own) (t t0 h : ℕ) (error : List ℕ) → called_at before ≡ Some t0 → dropped_at before ≡ None → first_answer limits request t0 (polls before) ≡ None →
      first_answer limits request t0 (polls before ++ t ∷ []) ≡ Some (h, Failed error) → any_ending (answers limits request (before ++ (t, act.Poll) ∷ [])) ≡ true
  marked_now before t t0 h error c d none now =
      let k = length (polls before) in
      let at : h ≡ k = own_index k h error (timed_says limits request t0 k t) (sym (first_answer_said limits request t0 (polls before) t none) ∙ now) in
      let a : answer limits request before (t, act.Poll) ≡ ans.ServiceError error =
      ap (λ o. on_poll limits request o (dropped_at before) (polls before ++ t ∷ []) k) c
      ∙ ap (λ o. on_poll limits request (Some t0) o (polls before ++ t ∷ []) k) d
      ∙ ap (by_first_answer limits (polls before ++ t ∷ []) k) (now ∙ ap (λ n. Some (n, Failed error)) at)
      ∙ answer_at_first limits (polls before ++ t ∷ []) k (Failed error) in
      ended_now before (t, act.Poll) (ap is_ending a)

  -- one act more, where the polls stay
  marked_kept : (before : List Own) (x : Own) (u t0 h : ℕ) (error : List ℕ) → Marked before → called_at before ≡ Some u → called_at (before ++ x ∷ []) ≡ Some t0 → polls (before ++ x ∷ []) ≡ polls before →
      first_answer limits request t0 (polls (before ++ x ∷ [])) ≡ Some (h, Failed error) → any_ending (answers limits request (before ++ x ∷ [])) ≡ true
  marked_kept before x u t0 h error m c c' same hd =
      let t : u ≡ t0 = some_is (sym (called_kept before u c x) ∙ c') in
      ended_before before x (m t0 h error (c ∙ ap (λ n. Some n) t) (ap (first_answer limits request t0) (sym same) ∙ hd))

  -- a poll of what is live
  marked_polled : (before : List Own) (t u t0 h : ℕ) (error : List ℕ) (o : Option (ℕ × Outcome)) → Marked before → called_at before ≡ Some u → dropped_at before ≡ None → called_at (before ++ (t, act.Poll) ∷ []) ≡ Some t0 →
      first_answer limits request t0 (polls before) ≡ o → first_answer limits request t0 (polls (before ++ (t, act.Poll) ∷ [])) ≡ Some (h, Failed error) → any_ending (answers limits request (before ++ (t, act.Poll) ∷ [])) ≡ true
  marked_polled before t u t0 h error None m c d c' was hd =
      let same : u ≡ t0 = some_is (sym (called_kept before u c (t, act.Poll)) ∙ c') in
      marked_now before t t0 h error (c ∙ ap (λ n. Some n) same) d was (ap (first_answer limits request t0) (sym (polls_after_poll before u c t d)) ∙ hd)
  marked_polled before t u t0 h error (Some y) m c d c' was hd =
      let same : u ≡ t0 = some_is (sym (called_kept before u c (t, act.Poll)) ∙ c') in
      let more = ap (first_answer limits request t0) (polls_after_poll before u c t d) ∙ first_answer_kept limits request t0 (polls before) t y was in
      ended_before before (t, act.Poll) (m t0 h error (c ∙ ap (λ n. Some n) same) (was ∙ (sym more ∙ hd)))

  step : (before : List Own) (x : Own) (c d : Option ℕ) → Marked before → called_at before ≡ c → dropped_at before ≡ d → Marked (before ++ x ∷ [])
  step before (t, act.Call) None d m c e = λ t0 h error c' hd. absurd (none≢some (sym (ap (first_answer limits request t0) (ap polls_before_drop (none_after_next before c (t, act.Call))) ∙ no_first_answer limits request t0) ∙ hd))
  step before (t, act.Poll) None d m c e = λ t0 h error c' hd. absurd (none≢some (sym (called_next before c (t, act.Poll)) ∙ c'))
  step before (t, act.Drop) None d m c e = λ t0 h error c' hd. absurd (none≢some (sym (called_next before c (t, act.Drop)) ∙ c'))
  step before (t, act.Call) (Some u) d m c e = λ t0 h error c' hd. marked_kept before (t, act.Call) u t0 h error m c c' (polls_after_call before u c t) hd
  step before (t, act.Drop) (Some u) d m c e = λ t0 h error c' hd. marked_kept before (t, act.Drop) u t0 h error m c c' (polls_after_drop before u c t) hd
  step before (t, act.Poll) (Some u) (Some d) m c e = λ t0 h error c' hd. marked_kept before (t, act.Poll) u t0 h error m c c' (polls_after_dropped before u c (t, act.Poll) d e) hd
  step before (t, act.Poll) (Some u) None m c e = λ t0 h error c' hd. marked_polled before t u t0 h error (first_answer limits request t0 (polls before)) m c e c' refl hd

  pub marked_none : Marked []
  marked_none t0 h error c hd = absurd (none≢some c)

  pub marked_step : (before : List Own) (x : Own) → Marked before → Marked (before ++ x ∷ [])
  marked_step before x m = step before x (called_at before) (dropped_at before) m refl refl

  -- after an ending answer no early drop is recorded
  still_ended : (before acts : List Own) → any_ending (answers limits request before) ≡ true → any_ending (answers limits request (before ++ acts)) ≡ true
  still_ended before [] e = rw append-nil e
  still_ended before (x ∷ acts) e = ap (λ l. any_ending (answers limits request l)) (sym (append_assoc before (x ∷ []) acts)) ∙ still_ended (before ++ x ∷ []) acts (ended_before before x e)

  none_dropped : (o : Option ℕ) (given : List Answer) (d : ℕ) → any_ending given ≡ true → drops_at o given d ≡ []
  none_dropped None given d e = refl
  none_dropped (Some t0) given d e = rw e refl

  pub ended_none : (before acts : List Own) (d : ℕ) → any_ending (answers limits request before) ≡ true → drops limits request (before ++ acts) d ≡ []
  ended_none before acts d e = none_dropped (called_at (before ++ acts)) (answers limits request (before ++ acts)) d (still_ended before acts e)

  marked_more : (before acts : List Own) → Marked before → Marked (before ++ acts)
  marked_more before [] m = subst Marked (sym (append-nil before)) m
  marked_more before (x ∷ acts) m = subst Marked (append_assoc before (x ∷ []) acts) (marked_more (before ++ x ∷ []) acts (marked_step before x m))

  -- where nothing is live after a call, nothing is recorded at the end
  pub gone_end : (acts : List Own) (t0 end : ℕ) → called_at acts ≡ Some t0 → IsGone limits request t0 (signs limits request acts) → at_end limits request acts end ≡ []
  gone_end acts t0 end c (inl g) = ap (λ o. unless_dropped o (drops limits request acts end)) g.1
  gone_end acts t0 end c (inr g) = ap (λ o. unless_dropped o (drops limits request acts end)) g.2
      ∙ none_dropped (called_at acts) (answers limits request acts) end (marked_more [] acts marked_none t0 g.0 g.1 c g.3)
