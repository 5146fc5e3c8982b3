-- The story of one request: what each of its acts answers and records, as a table over the finished list of its acts.
use Rattle.std.specs.Prelude.{ℕ, suc, ◌+◌, ◌-◌, List, [], ◌∷◌, ◌++◌, length, drop, slice_get, slice_index, Bool, true, false, ◌&&◌, ◌||◌, if◌then◌else◌, nat_le, nat_lt, ◌==◌, Option, Some, None, flat_map}
use Rattle.life_core.specs.Timer.{due, since}
use Rattle.life_core.specs.declared.event.Event.{Event}
use Rattle.life_core.specs.declared.event.Event.TheVariants as event
use Rattle.life_core.specs.declared.event.DropKind.{DropKind}
use Rattle.life_core.specs.declared.event.DropKind.TheVariants as drop_kind
use Rattle.life_core.specs.declared.latency.LatencyUnit.TheVariants.{Nanos}
use Rattle.life_core.specs.declared.body.BodyError.TheVariants.{Elapsed, Inner}
use Rattle.http_header.specs.FieldValue.{FieldValue}
use Rattle.life_stack.specs.Table.Decision.{Decision, TooLarge, Forbidden, Panicked, Served, bare_reply, decision, forbidden_reply, panic_reply, too_large_reply}
use Rattle.life_stack.specs.Table.Handed.{handed_bytes, service_events}
use Rattle.life_stack.specs.Table.Request.{shown_headers, Numbered, ident, identified}
use Rattle.life_stack.specs.Table.Traced.{Class, Given, at_once, chunked, class_of, elapsed_text, end_once, failed, failed_if, finished, latency, span_of, started, trailers_failure, while_open}
use Rattle.life_classify.specs.Status.{error_class_text}
use Rattle.life_script.specs.Told.{ToldView, TurnView}
use Rattle.life_script.specs.Reply.{ReplyView}
use Rattle.life_script.specs.declared.answer.Answer.{Answer}
use Rattle.life_script.specs.declared.answer.Answer.TheVariants as ans
use Rattle.life_script.specs.declared.answer.Seen.TheVariants as seen
use Rattle.life_script.specs.declared.scenario.Act.TheVariants as act
use Rattle.life_script.specs.declared.scenario.BodyItem.{BodyItem}
use Rattle.life_script.specs.declared.scenario.BodyItem.TheVariants as body_item
use Rattle.life_script.specs.declared.scenario.Limits.{Limits}
use Rattle.life_script.specs.declared.scenario.PollItem.{PollItem}
use Rattle.life_script.specs.declared.scenario.Then.{Then}
use Rattle.life_script.specs.declared.scenario.Then.TheVariants as then_
use Rattle.life_session.specs.Acts.{Own}
use Rattle.life_session.specs.Table.{Table, story_by}
use Rattle.life_session.specs.Moments.{called_at, dropped_at, polls}

-- THE FIRST ANSWER: the first poll that answers otherwise than Pending, and what it gives.

-- one place further
abbrev pub next : Option ℕ → Option ℕ
next None = None
next (Some k) = Some (suc k)

-- the least index of a poll at which the timer is due
abbrev pub first_due : ℕ → ℕ → List ℕ → Option ℕ
first_due start length [] = None
first_due start length (p ∷ ps) = if due start length p then Some 0 else next (first_due start length ps)

-- what a poll that answers gives: a response by a reply, or a service error
pub data Outcome : Type 0 where
  Replied : ReplyView → Outcome
  Failed : List ℕ → Outcome

-- the same one place further
abbrev pub later : Option (ℕ × Outcome) → Option (ℕ × Outcome)
later None = None
later (Some (r, o)) = Some (suc r, o)

-- the reply with the id where it has none
abbrev pub replied : FieldValue → ReplyView → ReplyView
replied id reply = record reply { headers = identified id reply.headers }

-- what an item gives that answers
abbrev pub outcome_in : FieldValue → Then → Option Outcome
outcome_in id then_.Pending = None
outcome_in id (then_.Panic text) = Some (Replied (replied id panic_reply))
outcome_in id (then_.Fail error) = Some (Failed error)
outcome_in id (then_.Respond reply) = Some (Replied (replied id reply))

-- what this item gives, or else what a later one does
abbrev pub here_or_later : Option Outcome → Option (ℕ × Outcome) → Option (ℕ × Outcome)
here_or_later (Some o) rest = Some (0, o)
here_or_later None rest = later rest

-- the least index of a poll item that panics, responds or fails, with what it gives
abbrev pub first_outcome : FieldValue → List PollItem → Option (ℕ × Outcome)
first_outcome id [] = None
first_outcome id (item ∷ items) = here_or_later (outcome_in id item.then) (first_outcome id items)

-- the least index of a poll at which the service answers, were it asked at each: the first where the decision is not to serve
abbrev pub decided_outcome : Decision → Numbered → Option (ℕ × Outcome)
decided_outcome TooLarge request = Some (0, Replied (replied (ident request) too_large_reply))
decided_outcome Forbidden request = Some (0, Replied (replied (ident request) forbidden_reply))
decided_outcome (Panicked text) request = Some (0, Replied (replied (ident request) panic_reply))
decided_outcome Served request = first_outcome (ident request) request.script.polls

-- the same by the decision for the request
abbrev pub ready_outcome : Limits → Numbered → Option (ℕ × Outcome)
ready_outcome limits request = decided_outcome (decision limits request) request

-- the lesser of the two; the due case wins a tie
abbrev pub earlier : Option ℕ → Option (ℕ × Outcome) → Outcome → Option (ℕ × Outcome)
earlier None ready late = ready
earlier (Some u) None late = Some (u, late)
earlier (Some u) (Some (r, o)) late = if nat_le u r then Some (u, late) else Some (r, o)

-- it counts only where there is such a poll
abbrev pub counted : ℕ → Option (ℕ × Outcome) → Option (ℕ × Outcome)
counted n None = None
counted n (Some (k, o)) = if nat_lt k n then Some (k, o) else None

-- what a due poll answers: the timeout's status alone
abbrev pub due_reply : Limits → ReplyView
due_reply limits = bare_reply limits.timeout_status

-- the first of these polls that answers, and what it gives
abbrev pub first_answer : Limits → Numbered → ℕ → List ℕ → Option (ℕ × Outcome)
first_answer limits request t0 ps = counted (length ps) (earlier (first_due t0 limits.timeout ps) (ready_outcome limits request) (Replied (due_reply limits)))

-- THE BODY of a reply.

-- whether it tells its end after m items
abbrev pub tells_after : ReplyView → ℕ → Bool
tells_after reply m = reply.tells && nat_le (length reply.body) m

-- what item k answers, or none
abbrev pub item_answer : ReplyView → ℕ → Option BodyItem → Answer
item_answer reply k None = ans.End
item_answer reply k (Some body_item.Pending) = ans.Pending
item_answer reply k (Some (body_item.Trailers trailers)) = ans.Frame (seen.Trailers (shown_headers trailers)) (tells_after reply (suc k))
item_answer reply k (Some (body_item.Fault fault)) = ans.Fault (Inner fault)
item_answer reply k (Some (body_item.Chunk bytes)) = ans.Frame (seen.Chunk bytes) (tells_after reply (suc k))

-- the k-th poll of the body, at time q; the response was given at ph
abbrev pub body_answer : ℕ → ReplyView → ℕ → ℕ → ℕ → Answer
body_answer deadline reply ph q k = if due ph deadline q then ans.Fault Elapsed else item_answer reply k (slice_get reply.body k)

-- THE ANSWER of each act.

-- what the poll that answers first tells
abbrev pub outcome_answer : Outcome → Answer
outcome_answer (Replied reply) = ans.Response reply.status (shown_headers reply.headers) (tells_after reply 0)
outcome_answer (Failed error) = ans.ServiceError error

-- the answer of a poll at q, the k-th after the first answer, which was at ph; after a service error nothing is live
abbrev pub later_answer : Limits → Outcome → ℕ → ℕ → ℕ → Answer
later_answer limits (Replied reply) ph q k = body_answer limits.body_deadline reply ph q k
later_answer limits (Failed error) ph q k = ans.Idle

-- poll k, by the first answer
abbrev pub by_first_answer : Limits → List ℕ → ℕ → Option (ℕ × Outcome) → Answer
by_first_answer limits ps k None = ans.Pending
by_first_answer limits ps k (Some (h, o)) =
    if nat_lt k h then ans.Pending
    else (if k == h then outcome_answer o
    else later_answer limits o (slice_index ps h) (slice_index ps k) (k - suc h))

-- what poll k answers, of these polls
abbrev pub poll_answer : Limits → Numbered → ℕ → List ℕ → ℕ → Answer
poll_answer limits request t0 ps k = by_first_answer limits ps k (first_answer limits request t0 ps)

-- by the time of the first Call before the act, and of the first Drop after that
abbrev pub on_call : Option ℕ → Answer
on_call None = ans.Called
on_call (Some t0) = ans.Idle

-- what poll k answers, of these polls, by the same two times
abbrev pub on_poll : Limits → Numbered → Option ℕ → Option ℕ → List ℕ → ℕ → Answer
on_poll limits request None d ps k = ans.Idle
on_poll limits request (Some t0) (Some d) ps k = ans.Idle
on_poll limits request (Some t0) None ps k = poll_answer limits request t0 ps k

-- what a Drop does, by the first answer so far
abbrev pub drop_answer : Option (ℕ × Outcome) → Answer
drop_answer None = ans.Dropped
drop_answer (Some (h, Replied reply)) = ans.Dropped
drop_answer (Some (h, Failed error)) = ans.Idle

-- what a Drop answers, by the same two times
abbrev pub on_drop : Limits → Numbered → Option ℕ → Option ℕ → List ℕ → Answer
on_drop limits request None d ps = ans.Idle
on_drop limits request (Some t0) (Some d) ps = ans.Idle
on_drop limits request (Some t0) None ps = drop_answer (first_answer limits request t0 ps)

-- the answer to an act depends on the acts up to it alone
abbrev pub answer : Limits → Numbered → List Own → Own → Answer
answer limits request before (t, act.Call) = on_call (called_at before)
answer limits request before (t, act.Poll) = on_poll limits request (called_at before) (dropped_at before) (polls before ++ t ∷ []) (length (polls before))
answer limits request before (t, act.Drop) = on_drop limits request (called_at before) (dropped_at before) (polls before)

-- the answers of these acts, in order, behind the acts before them
abbrev pub answers_after : Limits → Numbered → List Own → List Own → List Answer
answers_after limits request before [] = []
answers_after limits request before (x ∷ acts) = answer limits request before x ∷ answers_after limits request (before ++ x ∷ []) acts

-- what the acts answer, one after another
abbrev pub answers : Limits → Numbered → List Own → List Answer
answers limits request acts = answers_after limits request [] acts

-- EARLY DROPS.

-- the ending answers
abbrev pub is_ending : Answer → Bool
is_ending ans.Called = false
is_ending ans.Idle = false
is_ending ans.Pending = false
is_ending (ans.Response status headers ended) = ended
is_ending (ans.ServiceError error) = true
is_ending (ans.Frame frame ended) = ended
is_ending ans.End = true
is_ending (ans.Fault fault) = true
is_ending ans.Dropped = false

-- whether one of these is an ending answer
abbrev pub any_ending : List Answer → Bool
any_ending [] = false
any_ending (a ∷ rest) = is_ending a || any_ending rest

-- what is dropped: a body where a response was answered, with its status; else the future
abbrev pub kind_after : DropKind → Answer → DropKind
kind_after what ans.Called = what
kind_after what ans.Idle = what
kind_after what ans.Pending = what
kind_after what (ans.Response status headers ended) = drop_kind.Body status
kind_after what (ans.ServiceError error) = what
kind_after what (ans.Frame frame ended) = what
kind_after what ans.End = what
kind_after what (ans.Fault fault) = what
kind_after what ans.Dropped = what

-- the same after all of these answers
abbrev pub kind_of : DropKind → List Answer → DropKind
kind_of what [] = what
kind_of what (a ∷ rest) = kind_of (kind_after what a) rest

-- none where the request was never called or an ending answer came; else one, d being the time of the drop
abbrev pub drops_at : Option ℕ → List Answer → ℕ → List Event
drops_at None given d = []
drops_at (Some t0) given d = if any_ending given then [] else event.Dropped (kind_of drop_kind.Future given) (record { unit = Nanos; nanos = since t0 d }) ∷ []

-- the early drops of a request with these acts, dropped at d: one at most
abbrev pub drops : Limits → Numbered → List Own → ℕ → List Event
drops limits request acts d = drops_at (called_at acts) (answers limits request acts) d

-- THE STORY.

-- a request is traced from its first Call on
abbrev pub on_call_events : Limits → Numbered → Option ℕ → List Event
on_call_events limits request None = started (span_of limits request) ∷ []
on_call_events limits request (Some t0) = []

-- poll k at time t reaches the service where its timer is not due
abbrev pub undue_events : Limits → Numbered → ℕ → ℕ → ℕ → List Event
undue_events limits request t0 k t = if due t0 limits.timeout t then [] else service_events limits request k

-- the first answer is traced, so long after the call
abbrev pub outcome_events : Limits → Outcome → ℕ → List Event
outcome_events limits (Replied reply) latency = finished reply.status reply.headers latency ∷ failed_if (at_once (class_of limits.classifier reply)) latency
outcome_events limits (Failed error) latency = failed (error_class_text error) latency ∷ []

-- the answers of a body to polls at these times, the k-th and those after it, each with its time
abbrev pub body_answers : ℕ → ReplyView → ℕ → ℕ → List ℕ → Given
body_answers deadline reply ph k [] = []
body_answers deadline reply ph k (q ∷ qs) = (q, body_answer deadline reply ph q k) ∷ body_answers deadline reply ph (suc k) qs

-- item k, or none, is traced at q, behind the answers so far
abbrev pub item_events : Class → ReplyView → ℕ → ℕ → Given → ℕ → ℕ → Option BodyItem → List Event
item_events class reply t0 ph given q k None = end_once class t0 ph given q None
item_events class reply t0 ph given q k (Some body_item.Pending) = []
item_events class reply t0 ph given q k (Some (body_item.Trailers trailers)) = while_open class t0 ph given q (trailers_failure trailers) ++ end_once class t0 ph given q (Some trailers)
item_events class reply t0 ph given q k (Some (body_item.Fault fault)) = while_open class t0 ph given q (Some (error_class_text fault))
item_events class reply t0 ph given q k (Some (body_item.Chunk bytes)) =
    chunked (length bytes) (latency class t0 ph given q) ∷ (if tells_after reply (suc k) then end_once class t0 ph given q None else [])

-- the k-th poll of the body, at time q, is traced; once its deadline is due it faults
abbrev pub body_events : Limits → ReplyView → ℕ → ℕ → Given → ℕ → ℕ → List Event
body_events limits reply t0 ph given q k =
    if due ph limits.body_deadline q then while_open (class_of limits.classifier reply) t0 ph given q (Some (error_class_text elapsed_text))
    else item_events (class_of limits.classifier reply) reply t0 ph given q k (slice_get reply.body k)

-- a poll at q after the first answer, which was at ph, and after polls at these times since
abbrev pub later_events : Limits → Outcome → ℕ → ℕ → List ℕ → ℕ → List Event
later_events limits (Replied reply) t0 ph qs q = body_events limits reply t0 ph (body_answers limits.body_deadline reply ph 0 qs) q (length qs)
later_events limits (Failed error) t0 ph qs q = []

-- a poll at t after polls at these times, by the first answer
abbrev pub poll_events : Limits → Numbered → ℕ → List ℕ → ℕ → Option (ℕ × Outcome) → List Event
poll_events limits request t0 ps t None = undue_events limits request t0 (length ps) t
poll_events limits request t0 ps t (Some (h, o)) =
    if length ps == h then undue_events limits request t0 (length ps) t ++ outcome_events limits o (since t0 t)
    else later_events limits o t0 (slice_index ps h) (drop (suc h) ps) t

-- what is recorded by a poll at t after these polls, by the times of the first Call and the first Drop
abbrev pub on_poll_events : Limits → Numbered → Option ℕ → Option ℕ → List ℕ → ℕ → List Event
on_poll_events limits request None d ps t = []
on_poll_events limits request (Some t0) (Some d) ps t = []
on_poll_events limits request (Some t0) None ps t = poll_events limits request t0 ps t (first_answer limits request t0 (ps ++ t ∷ []))

-- the early drop stands in the turn of the Drop
abbrev pub drop_events : Answer → List Event → List Event
drop_events ans.Called es = []
drop_events ans.Idle es = []
drop_events ans.Pending es = []
drop_events (ans.Response status headers ended) es = []
drop_events (ans.ServiceError error) es = []
drop_events (ans.Frame frame ended) es = []
drop_events ans.End es = []
drop_events (ans.Fault fault) es = []
drop_events ans.Dropped es = es

-- what is recorded in the turn of an act
abbrev pub events : Limits → Numbered → List Own → Own → List Event
events limits request before (t, act.Call) = on_call_events limits request (called_at before)
events limits request before (t, act.Poll) = on_poll_events limits request (called_at before) (dropped_at before) (polls before) t
events limits request before (t, act.Drop) = drop_events (answer limits request before (t, act.Drop)) (drops limits request (before ++ (t, act.Drop) ∷ []) t)

-- at the end where no Drop came
abbrev pub unless_dropped : Option ℕ → List Event → List Event
unless_dropped None es = es
unless_dropped (Some d) es = []

-- what is recorded at the end of the scenario
abbrev pub at_end : Limits → Numbered → List Own → ℕ → List Event
at_end limits request acts end = unless_dropped (dropped_at acts) (drops limits request acts end)

-- THE STORY: the turns of all acts, and what is recorded at the end.

-- the table of a request: the answer and the records of each act, and the records at the end
abbrev pub story_table : Limits → Numbered → Table
story_table limits request = record { answer = answer limits request; events = events limits request; at_end = at_end limits request }

-- the story of a request with these acts, in a scenario that ends at this time
abbrev pub story : Limits → Numbered → List Own → ℕ → ToldView
story limits request acts end = story_by (story_table limits request) acts end

-- the early-drop records among what was told, in order
abbrev pub dropped_in : List Event → List Event
dropped_in [] = []
dropped_in (event.Dropped what latency ∷ es) = event.Dropped what latency ∷ dropped_in es
dropped_in (other ∷ es) = dropped_in es

-- the early drops that were told of a request
abbrev pub drop_records : ToldView → List Event
drop_records told = flat_map (λ (made : TurnView). dropped_in made.events) told.turns ++ dropped_in told.at_end

-- how many bytes of its request's body the service was handed
abbrev pub turns_bytes : List TurnView → ℕ
turns_bytes [] = 0
turns_bytes (made ∷ turns) = handed_bytes made.events + turns_bytes turns

-- how many bytes of a request's body the service was handed, by what is told of the request
abbrev pub body_bytes : ToldView → ℕ
body_bytes told = turns_bytes told.turns + handed_bytes told.at_end
