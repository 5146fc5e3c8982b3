-- The scripted service with its panics caught follows its histories.
use Rattle.std.proofs.Common.{◌≡◌, ℕ, suc, List, [], ◌∷◌, ◌++◌, length, Option, Some, None, Result, refl, sym, ap, subst, arith, append-nil}
use Rattle.std.proofs.lemmas.Bool.{le-leb}
use Rattle.std.specs.Prelude.{codes, slice_get, ⊤}
use Rattle.std.specs.declared.convert.Infallible.{Infallible}
use Rattle.life_core.specs.Full.{FullFrames, full_ends}
use Rattle.life_core.specs.History.{BodyFollows, FutureFollows, FutureHistory, Adds, IsSaid, ServiceFollows, Where, Waiting, Answered, abandoned_at}
use Rattle.life_core.specs.Calls.{Abandons, Polls, NothingToAbandon}
use Rattle.life_core.specs.Message.{IsText}
use Rattle.life_core.specs.OneChunk.{FullStands, TellsChunk}
use Rattle.life_core.specs.declared.body.limited.Limited.{Limited}
use Rattle.life_core.specs.declared.event.Event.{Event}
use Rattle.life_core.specs.declared.message.Request.{Request}
use Rattle.life_core.specs.declared.message.Response.{Response}
use Rattle.life_core.specs.declared.message.ResponseHead.{ResponseHead}
use Rattle.life_core.proofs.Bodies.{box_follows, full_never_faults}
use Rattle.life_limit.specs.History.{with_panic, caught}
use Rattle.life_limit.proofs.CatchFollows.{catch_follows, catch_keeps, catch_serves, panic_handler_follows}
use Rattle.life_script.specs.Scenario.{ScriptView}
use Rattle.life_script.specs.declared.scenario.CallItem.{CallItem}
use Rattle.life_script.specs.declared.scenario.CallItem.TheVariants as call_item
use Rattle.life_script.specs.declared.scenario.PollItem.{PollItem}
use Rattle.life_script.specs.declared.scenario.Then.{Then}
use Rattle.life_script.specs.declared.scenario.Then.TheVariants as then_
use Rattle.life_stack.specs.Service.History.{BodyPlan, Head, Heads, ScriptBodyStands, body_plan, call_hands, call_gives, item_gives, script_body_history}
use Rattle.life_stack.specs.Service.Caught.{CaughtStands, caught_abandons, decided_says, item_says, CaughtFuture, CaughtFutureStands, CaughtServes, caught_calls, caught_ends, caught_frames, caught_future_abandons, caught_history, caught_polls}
use Rattle.life_stack.specs.Table.Decision.{panic_reply, text_reply, called_by}
use Rattle.life_stack.specs.Table.Handed.{decided_events, panic_at, panic_event}
use Rattle.life_stack.specs.Service.Script.{AsksFor, IsDefaultExt, ScriptFrames, item_frame, tells_end}
use Rattle.life_stack.specs.declared.service.ext.Ext.{Ext}
use Rattle.life_stack.specs.declared.service.body.ScriptBody.{ScriptBody}
use Rattle.life_stack.proofs.ServiceLaws.Handing.{no_item, script_body_follows}
use Rattle.life_stack.proofs.ServiceLaws.ScriptFollows.{script_follows, script_keeps, script_serves}

-- one history in place of another that says the same
module _ {H P F B X E : Type 0} (polls : Polls F (Result (Response B X) E)) (abandons : Abandons F) (SaidHeads : H → ResponseHead X → Type 0) (Stands : F → Where → Type 0) (Bodies : P → B → List ℕ → Type 0) (h g : FutureHistory H P E)
    (says : (past : List ℕ) (t : ℕ) → h.says past t ≡ g.says past t) (events : (past : List ℕ) (t : ℕ) → h.events past t ≡ g.events past t) (left : (past : List ℕ) (t : ℕ) → h.abandoned past t ≡ g.abandoned past t)
    (inner : FutureFollows polls abandons SaidHeads Stands Bodies h) where
  left_is : (w : Where) (t : ℕ) → abandoned_at h.abandoned w t ≡ abandoned_at g.abandoned w t
  left_is (Waiting past) t = left past t
  left_is Answered t = refl

  pub follows_as : FutureFollows polls abandons SaidHeads Stands Bodies g
  follows_as = record {
    poll = λ past f was m a new now s p. let i = inner.poll past f was m a new now s p in record {
      answer = subst (λ x. IsSaid SaidHeads Bodies x a) (says past m.now) i.answer;
      adds = subst (λ es. Adds was now es) (events past m.now) i.adds;
      stands = i.stands;
    };
    abandoned = λ w f was m u now s l. subst (λ es. Adds was now es) (left_is w m.now) (inner.abandoned w f was m u now s l);
    refused = λ w f was m e now s l. rw (sym (left_is w m.now)) (inner.refused w f was m e now s l);
  }

-- ITS BODIES.

pub caught_body : BodyFollows caught_frames caught_abandons caught_ends CaughtStands script_body_history
caught_body = box_follows ScriptFrames NothingToAbandon tells_end ScriptBodyStands (FullFrames {E = Infallible}) NothingToAbandon full_ends (FullStands script_body_history) script_body_history script_body_follows (full_never_faults script_body_history)

-- the plan of one chunk
pub one_text : (status : ℕ) (text : List ℕ) → TellsChunk text (script_body_history (body_plan (text_reply status text)))
one_text status text = record {
  first = λ q. refl;
  later = λ p q past. ap item_frame (no_item (length past));
  untold = refl;
  ended = λ p past. le-leb 1 (suc (length past)) (omega arith);
  events = λ past q. refl;
  abandoned = λ past q. refl;
}

-- ITS ANSWERS.

-- the head of a plain text
pub plain : (status : ℕ) (text : List ℕ) (head : ResponseHead Ext) → IsText IsDefaultExt status head → Heads ((text_reply status text).status, (text_reply status text).headers) head
plain status text head t = (record { status_is = t.status_is; headers_are = t.headers_are }, omega arith)

abbrev panic_head : Head
panic_head = (panic_reply.status, panic_reply.headers)

item_caught : (o : Option PollItem) → caught panic_head (body_plan panic_reply) (item_gives o) ≡ item_says o
item_caught None = refl
item_caught (Some item) = go item.then
  where
    go : (t : Then) → caught panic_head (body_plan panic_reply) (item_gives (Some (record item { then = t }))) ≡ item_says (Some (record item { then = t }))
    go then_.Pending = refl
    go (then_.Panic text) = refl
    go (then_.Fail error) = refl
    go (then_.Respond reply) = refl

item_fired : (o : Option PollItem) (es : List Event) → with_panic {H = Head} {P = BodyPlan} {X = List ℕ} (λ text. panic_event text ∷ []) (item_gives o) es ≡ es ++ panic_at o
item_fired None es = sym (append-nil es)
item_fired (Some item) es = go item.then
  where
    go : (t : Then) → with_panic {H = Head} {P = BodyPlan} {X = List ℕ} (λ text. panic_event text ∷ []) (item_gives (Some (record item { then = t }))) es ≡ es ++ panic_at (Some (record item { then = t }))
    go then_.Pending = sym (append-nil es)
    go (then_.Panic text) = refl
    go (then_.Fail error) = sym (append-nil es)
    go (then_.Respond reply) = sym (append-nil es)

pub caught_follows : (left : ℕ) (script : ScriptView) → FutureFollows caught_polls caught_future_abandons Heads (CaughtFutureStands left script) CaughtStands (caught_history (called_by script.call) left script)
caught_follows left script = follows_as _ _ _ _ _ _ _ (λ past t. says script.call past) (λ past t. events script.call past) (λ past t. refl)
    (catch_follows _ _ _ (λ _. ⊤) Heads panic_head (body_plan panic_reply) (λ text. panic_event text ∷ []) _ _ _ script_body_history _
    (panic_handler_follows IsDefaultExt Heads panic_head (plain 500 (codes "Service panicked")) script_body_history (body_plan panic_reply) (one_text 500 (codes "Service panicked")))
    (script_follows left script))
  where
    says : (call : CallItem) (past : List ℕ) → caught panic_head (body_plan panic_reply) (call_gives call (slice_get script.polls (length past))) ≡ decided_says (called_by call) script.polls (length past)
    says call_item.Serve past = item_caught (slice_get script.polls (length past))
    says (call_item.Panic text) past = refl

    events : (call : CallItem) (past : List ℕ) → with_panic (λ text. panic_event text ∷ []) (call_gives call (slice_get script.polls (length past))) (call_hands call left script (length past)) ≡ decided_events (called_by call) left script (length past)
    events call_item.Serve past = item_fired (slice_get script.polls (length past)) (call_hands call_item.Serve left script (length past))
    events (call_item.Panic text) past = refl

-- THE SERVICE.

pub caught_serves : (left : ℕ) (script : ScriptView) (i : ℕ) → ServiceFollows caught_calls (AsksFor left script i) (CaughtServes script i) (λ t. CaughtFutureStands left script) []
caught_serves left script i = catch_serves _ NothingToAbandon _ (λ _. ⊤) _ _ _ (script_serves left script i)

pub caught_keeps : (script : ScriptView) (i : ℕ) → ServiceFollows {R = Request (Limited ScriptBody) Ext} caught_calls (λ r. ⊤) (CaughtServes script i) (λ t (f : CaughtFuture) (w : Where). ⊤) []
caught_keeps script i = catch_keeps _ NothingToAbandon (λ _. ⊤) _ _ _ (script_keeps script i)
