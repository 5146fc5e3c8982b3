-- The composed histories give the answers of the table.
use Rattle.std.proofs.Common.{◌≡◌, ℕ, suc, ◌-◌, ◌<◌, List, [], ◌∷◌, ◌++◌, length, drop, Bool, true, false, Option, Some, None, Ok, Err, Result, refl, sym, ap, ◌∙◌, arith, le-ltb, append-nil}
use Rattle.std.specs.Prelude.{slice_get, slice_index, if◌then◌else◌}
use Rattle.std.proofs.lemmas.Bool.{eq-eqb, ne_eqb}
use Rattle.std.proofs.lemmas.List.{get_or_at, get_or_append_left}
use Rattle.http_body.specs.declared.frame.Frame.{Frame}
use Rattle.life_core.specs.declared.body.BodyError.{BodyError}
use Rattle.life_core.specs.declared.body.BodyError.TheVariants.{Elapsed}
use Rattle.life_core.specs.declared.poll.Poll.{Poll}
use Rattle.life_core.specs.declared.poll.Poll.TheVariants.{Ready, Pending}
use Rattle.life_core.specs.History.{Latest, Said, Waits, Gives, Fails, said_under, said_with}
use Rattle.life_drop.specs.EarlyBody.{is_ending_frame}
use Rattle.life_time.specs.History.{undue, wrapped}
use Rattle.life_time.proofs.DeadlineFollows.{undue_all}
use Rattle.life_core.specs.Timer.{due, since}
use Rattle.life_core.specs.declared.event.DropKind.{DropKind}
use Rattle.life_core.specs.declared.event.Event.{Event}
use Rattle.life_stack.specs.Table.Request.{Numbered, ident}
use Rattle.life_script.specs.Reply.{ReplyView}
use Rattle.life_script.specs.declared.answer.Answer.TheVariants as ans
use Rattle.life_script.specs.declared.scenario.BodyItem.{BodyItem}
use Rattle.life_script.specs.declared.scenario.BodyItem.TheVariants as body_item
use Rattle.life_script.specs.declared.scenario.Limits.{Limits}
use Rattle.life_stack.specs.Table.Story.{Outcome, Replied, body_answer, by_first_answer, due_reply, first_answer, outcome_answer, is_ending, item_answer, kind_after, later_answer, later_events, poll_events, tells_after, undue_events}
use Rattle.life_stack.specs.Stack.Driven.{WatchedPlan, named, service_says, timed_body_history}
use Rattle.life_stack.specs.Stack.Tracing.{drive_classes, drive_events}
use Rattle.life_trace.specs.History.{said_told}
use Rattle.life_stack.specs.Service.History.{BodyPlan, Head, body_plan}
use Rattle.life_stack.specs.Service.Script.{item_frame}
use Rattle.life_session.specs.Course.{frame_told}
use Rattle.life_stack.proofs.TableLaws.FirstAnswers.{first_answer_of, first_answer_more}
use Rattle.life_stack.proofs.TableLaws.Traces.{error_traced, response_traced}

-- what the service says under the timer
abbrev pub timed_says : Limits → Numbered → ℕ → ℕ → ℕ → Said Head BodyPlan (List ℕ)
timed_says limits request t0 k t = if due t0 limits.timeout t then Gives (limits.timeout_status, []) (body_plan (due_reply limits)) else said_with (named (ident request)) (service_says limits request k)

pub first_answer_said : (limits : Limits) (request : Numbered) (t0 : ℕ) (ps : List ℕ) (t : ℕ) → first_answer limits request t0 ps ≡ None →
    first_answer limits request t0 (ps ++ t ∷ []) ≡ first_answer_of (length ps) (timed_says limits request t0 (length ps) t)
first_answer_said limits request t0 ps t e = first_answer_more limits request t0 ps t e ∙ go (due t0 limits.timeout t)
  where
    go : (b : Bool) → (if b then Some (length ps, Replied (due_reply limits)) else first_answer_of (length ps) (said_with (named (ident request)) (service_says limits request (length ps))))
        ≡ first_answer_of (length ps) (if b then Gives (limits.timeout_status, []) (body_plan (due_reply limits)) else said_with (named (ident request)) (service_says limits request (length ps)))
    go true = refl
    go false = refl

-- at h
pub answer_at_first : (limits : Limits) (ps : List ℕ) (k : ℕ) (o : Outcome) → by_first_answer limits ps k (Some (k, o)) ≡ outcome_answer o
answer_at_first limits ps k o = rw (le-ltb k k (omega arith), eq-eqb k k refl)

-- above h
pub answer_above_first : (limits : Limits) (ps : List ℕ) (k h : ℕ) (o : Outcome) → h < k → by_first_answer limits ps k (Some (h, o)) ≡ later_answer limits o (slice_index ps h) (slice_index ps k) (k - suc h)
answer_above_first limits ps k h o l = rw (le-ltb k h (omega arith), ne_eqb k h (λ e. omega (arith, l, e)))

pub last_poll : (ps : List ℕ) (t : ℕ) → slice_index (ps ++ t ∷ []) (length ps) ≡ t
last_poll ps t = get_or_at ps t [] 0 (length ps) refl

pub earlier_poll : (ps : List ℕ) (t h : ℕ) → h < length ps → slice_index (ps ++ t ∷ []) h ≡ slice_index ps h
earlier_poll ps t h l = get_or_append_left ps (t ∷ []) 0 h l

-- what an answer of a body tells: whether it ends, and that it is the body that would be dropped
pub kind_told : (x : Poll (Option (Result (Frame (List ℕ)) (BodyError (List ℕ))))) (e : Bool) (what : DropKind) → kind_after what (frame_told x e) ≡ what
kind_told Pending e what = refl
kind_told (Ready None) e what = refl
kind_told (Ready (Some (Ok f))) e what = refl
kind_told (Ready (Some (Err x))) e what = refl

pub ending_told : (x : Poll (Option (Result (Frame (List ℕ)) (BodyError (List ℕ))))) (e : Bool) → is_ending (frame_told x e) ≡ is_ending_frame x e
ending_told Pending e = refl
ending_told (Ready None) e = refl
ending_told (Ready (Some (Ok f))) e = refl
ending_told (Ready (Some (Err x))) e = refl

pub item_table : (r : ReplyView) (k : ℕ) (o : Option BodyItem) → frame_told (wrapped (item_frame o)) (tells_after r (suc k)) ≡ item_answer r k o
item_table r k None = refl
item_table r k (Some body_item.Pending) = refl
item_table r k (Some (body_item.Chunk bytes)) = refl
item_table r k (Some (body_item.Trailers trailers)) = refl
item_table r k (Some (body_item.Fault fault)) = refl

pub body_table : (deadline ph : ℕ) (r : ReplyView) (past : List ℕ) (q : ℕ) → Latest q past →
    frame_told ((timed_body_history deadline (ph, body_plan r)).frame past q) ((timed_body_history deadline (ph, body_plan r)).ends (q ∷ past)) ≡ body_answer deadline r ph q (length past)
body_table deadline ph r past q l = go (due ph deadline q) refl
  where
    go : (b : Bool) → due ph deadline q ≡ b →
        frame_told (if b then Ready (Some (Err Elapsed)) else wrapped (item_frame (slice_get r.body (length (undue ph deadline past))))) (tells_after r (length (if b then undue ph deadline past else q ∷ undue ph deadline past)))
        ≡ (if b then ans.Fault Elapsed else item_answer r (length past) (slice_get r.body (length past)))
    go true e = refl
    go false e = rw (undue_all ph deadline q past l e) (item_table r (length past) (slice_get r.body (length past)))

-- what the layers below the trace say at a time by what the service says under the timer
abbrev pub watched_said : ℕ → Said Head BodyPlan (List ℕ) → Said Head WatchedPlan (List ℕ)
watched_said t said = said_under {P = ℕ × BodyPlan} {Q = WatchedPlan} (λ head p. (head, p)) (said_under {P = BodyPlan} {Q = ℕ × BodyPlan} (λ head p. (t, p)) said)

-- up to the first answer, and after it
pub up_to_now : (limits : Limits) (request : Numbered) (t0 : ℕ) (ps : List ℕ) (t : ℕ) (said : Said Head BodyPlan (List ℕ)) →
    poll_events limits request t0 ps t (first_answer_of (length ps) said)
    ≡ undue_events limits request t0 (length ps) t ++ said_told drive_events (drive_classes limits.classifier) (watched_said t said) (since t0 t)
up_to_now limits request t0 ps t Waits = sym (append-nil (undue_events limits request t0 (length ps) t))
up_to_now limits request t0 ps t (Gives h p) = rw (eq-eqb (length ps) (length ps) refl)
    (ap (λ es. undue_events limits request t0 (length ps) t ++ es) (response_traced limits (record { status = h.0; headers = h.1; body = p.items; tells = p.tells }) WatchedPlan (h, (t, p)) (since t0 t)))
up_to_now limits request t0 ps t (Fails x) = rw (eq-eqb (length ps) (length ps) refl)
    (ap (λ es. undue_events limits request t0 (length ps) t ++ es) (error_traced limits x WatchedPlan (since t0 t)))

pub later_on : (limits : Limits) (request : Numbered) (t0 : ℕ) (ps : List ℕ) (t h : ℕ) (o : Outcome) → h < length ps →
    poll_events limits request t0 ps t (Some (h, o)) ≡ later_events limits o t0 (slice_index ps h) (drop (suc h) ps) t
later_on limits request t0 ps t h o below = rw (ne_eqb (length ps) h (λ e. omega (arith, below, e))) refl

-- A poll of a body records nothing.
no_events : (b : Bool) → ◌≡◌ {A = List Event} (if b then [] else []) []
no_events true = refl
no_events false = refl

pub frame_events : (deadline ph : ℕ) (p : BodyPlan) (past : List ℕ) (q : ℕ) → (timed_body_history deadline (ph, p)).events past q ≡ []
frame_events deadline ph p past q = no_events (due ph deadline q)
