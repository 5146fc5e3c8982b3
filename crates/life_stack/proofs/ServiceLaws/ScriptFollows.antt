-- The scripted service answers by its items, and records what it was handed.
use Rattle.std.proofs.Common.{◌≡◌, ◌≤◌, ℕ, suc, List, [], ◌∷◌, length, drop, Option, Some, None, Ok, Err, refl, sym, ap, ap₂, ◌∙◌, subst}
use Rattle.life_core.specs.Calls.{NothingToAbandon}
use Rattle.std.specs.Prelude.{slice_get, ⊤}
use Rattle.life_core.specs.History.{FutureFollows, Adds, Waits, Fails, Where, Waiting, Answered, IsSaid, where_after, abandoned_at, ServiceFollows}
use Rattle.life_core.specs.Limited.{room_in}
use Rattle.life_core.specs.Recorded.{Recorded}
use Rattle.life_core.specs.declared.body.limited.Limited.{Limited}
use Rattle.life_core.specs.declared.fault.Fault.TheVariants as fault
use Rattle.life_core.specs.declared.message.Request.{Request}
use Rattle.life_core.specs.declared.poll.Poll.TheVariants.{Ready, Pending}
use Rattle.life_core.proofs.Growth.{adds_none}
use Rattle.life_head.specs.declared.request_id.number.Number.{Number}
use Rattle.life_script.specs.Scenario.{ScriptView}
use Rattle.life_script.specs.Valid.{ReplyFits, ScriptFits}
use Rattle.life_script.specs.Reply.{ReplyView}
use Rattle.life_script.specs.declared.checks.TheConstants.{MAX_HEADER_VALUES}
use Rattle.life_script.specs.declared.scenario.CallItem.{CallItem}
use Rattle.life_script.specs.declared.scenario.CallItem.TheVariants as call_item
use Rattle.life_script.specs.declared.scenario.PollItem.{PollItem}
use Rattle.life_script.specs.declared.scenario.Then.{Then}
use Rattle.life_script.specs.declared.scenario.Then.TheVariants as then_
use Rattle.life_stack.specs.Service.History.{Heads, ScriptStands, ScriptBodyStands, ServesOn, StandsBy, call_hands, call_gives, item_gives, script_history, then_gives}
use Rattle.life_stack.specs.Table.Handed.{asked_before, asks_of, handed_from, room_before}
use Rattle.life_stack.specs.Service.Script.{SharedScripts, AsksFor, Answers, Asked, Finds, PollsBy, Responds, ScriptAnswer, ScriptCalls, ScriptPolls, asked_of, panic_for, panic_of, polls_for, polls_of, script_for}
use Rattle.life_stack.specs.declared.service.ext.Ext.{Ext}
use Rattle.life_stack.specs.declared.service.body.ScriptBody.{ScriptBody}
use Rattle.life_stack.specs.declared.service.future.ScriptFuture.{ScriptFuture}
use Rattle.life_stack.proofs.ServiceLaws.Handing.{asked_none, first_left, from_there, items_there, one_less, room_there}

-- its headers are short enough for a map
abbrev IsShort : Then → Type 0
IsShort then_.Pending = Unit
IsShort (then_.Panic text) = Unit
IsShort (then_.Fail error) = Unit
IsShort (then_.Respond reply) = length reply.headers ≤ MAX_HEADER_VALUES

then_matches : (t : Then) (a : ScriptAnswer) → IsShort t → Answers t a → IsSaid Heads ScriptBodyStands (then_gives t) a
then_matches then_.Pending a short r = subst (λ x. IsSaid Heads ScriptBodyStands Waits x) (sym r) tt
then_matches (then_.Panic text) a short r = subst (λ x. IsSaid Heads ScriptBodyStands (then_gives (then_.Panic text)) x) (sym r) refl
then_matches (then_.Fail error) a short r = subst (λ x. IsSaid Heads ScriptBodyStands (then_gives (then_.Fail error)) x) (sym r) refl
then_matches (then_.Respond reply) (Ready (Ok s)) short r =
    ((record { status_is = (r.head).status_is; headers_are = (r.head).headers_are }, short), record { items = (r.body).items; tells = (r.body).tells })
then_matches (then_.Respond reply) (Ready (Err e)) short r = absurd r
then_matches (then_.Respond reply) Pending short r = absurd r

-- a script's items are
short_then : (polls : List PollItem) (k : ℕ) (item : PollItem) →
    ((k asks : ℕ) (reply : ReplyView) → slice_get polls k ≡ Some (record { asks = asks; then = then_.Respond reply }) → ReplyFits reply) → slice_get polls k ≡ Some item → IsShort item.then
short_then polls k item fits is = go item.then (is ∙ refl)
  where
    go : (t : Then) → slice_get polls k ≡ Some (record { asks = item.asks; then = t }) → IsShort t
    go then_.Pending e = tt
    go (then_.Panic text) e = tt
    go (then_.Fail error) e = tt
    go (then_.Respond reply) e = (fits k item.asks reply e).headers

abbrev IsShortItem : Option PollItem → Type 0
IsShortItem None = Unit
IsShortItem (Some item) = IsShort item.then

short_item : (script : ScriptView) (k : ℕ) (o : Option PollItem) → ScriptFits script → slice_get script.polls k ≡ o → IsShortItem o
short_item script k None fits is = tt
short_item script k (Some item) fits is = short_then script.polls k item fits.replies is

module _ (f : ScriptFuture) (was : Recorded) (a : ScriptAnswer) (new : ScriptFuture) (now : Recorded) where
  tells : (o : Option PollItem) → IsShortItem o → Responds o f was a new now → IsSaid Heads ScriptBodyStands (item_gives o) a
  tells None short r = subst (λ x. IsSaid Heads ScriptBodyStands Waits x) (sym r.0) tt
  tells (Some item) short r = then_matches item.then a short r.0

  -- the body was asked as often as the item says
  asked_by : (o : Option PollItem) → Responds o f was a new now → Asked (asks_of o) f.body was new.body now
  asked_by None r = subst (λ (b : Limited ScriptBody). Asked 0 f.body was b now) (sym r.1) (subst (λ (x : Recorded). Asked 0 f.body was f.body x) (sym r.2) (asked_none f.body was))
  asked_by (Some item) r = r.1

  module _ (left : ℕ) (script : ScriptView) (k : ℕ) (s : ServesOn left script f k) (x : Asked (asks_of (slice_get script.polls k)) f.body was new.body now) where
    abbrev n : ℕ
    n = asks_of (slice_get script.polls k)

    handed_here : Adds was now (handed_from left script.body (asked_before script.polls k) n)
    handed_here = subst (λ es. Adds was now es)
        (ap₂ (λ room items. handed_from room items 0 n) s.room s.items ∙ from_there left script.body (asked_before script.polls k) n) x.adds

    serves_next : polls_of new ≡ drop 1 (polls_of f) → ServesOn left script new (suc k)
    serves_next rest = record {
      polls = rest ∙ ap (drop 1) s.polls ∙ one_less script.polls k;
      room = x.room ∙ (ap₂ (λ room items. room_before room items n) s.room s.items ∙ room_there left script.body script.polls k);
      items = x.rest ∙ (ap (drop n) s.items ∙ items_there script.body script.polls k);
    }

stays : (call : CallItem) (left : ℕ) (script : ScriptView) (past : List ℕ) (t : ℕ) (new : ScriptFuture) (a : ScriptAnswer) →
    StandsBy call left script new (Waiting (t ∷ past)) → StandsBy call left script new (where_after past t a)
stays call left script past t new Pending e = e
stays call left script past t new (Ready a) e = tt

-- one poll, by what was said of the call
abbrev Steps : CallItem → ℕ → ScriptView → List ℕ → Recorded → ℕ → ScriptAnswer → ScriptFuture → Recorded → Type 0
Steps call left script past was t a new now =
    IsSaid Heads ScriptBodyStands (call_gives call (slice_get script.polls (length past))) a
    × Adds was now (call_hands call left script (length past))
    × StandsBy call left script new (where_after past t a)

by_call : (call : CallItem) (left : ℕ) (script : ScriptView) (past : List ℕ) (f : ScriptFuture) (was : Recorded) (t : ℕ) (a : ScriptAnswer) (new : ScriptFuture) (now : Recorded) →
    StandsBy call left script f (Waiting past) → PollsBy (panic_of call) f was a new now → Steps call left script past was t a new now
by_call call_item.Serve left script past f was t a new now s p =
    let k = length past in
    let o = slice_get script.polls k in
    let r : Responds o f was a new now = subst (λ i. Responds i f was a new now) (ap (λ l. slice_get l 0) (s.1).polls ∙ first_left script.polls k) p.responds in
    let x = asked_by f was a new now o r in (
      tells f was a new now o (short_item script k o s.2 refl) r,
      handed_here f was a new now left script k s.1 x,
      stays call_item.Serve left script past t new a (p.none, serves_next f was a new now left script k s.1 x p.rest, s.2),
    )
by_call (call_item.Panic text) left script past f was t a new now s p = (
  subst (λ x. IsSaid Heads ScriptBodyStands (Fails (fault.Panicked text)) x) (sym p.0) refl,
  adds_none was now p.1,
  subst (λ x. StandsBy (call_item.Panic text) left script new (where_after past t x)) (sym p.0) tt,
)

quiet : (w : Where) (t left : ℕ) (script : ScriptView) → abandoned_at (script_history left script).abandoned w t ≡ []
quiet (Waiting past) t left script = refl
quiet Answered t left script = refl

pub script_follows : (left : ℕ) (script : ScriptView) → FutureFollows ScriptPolls NothingToAbandon Heads (ScriptStands left script) ScriptBodyStands (script_history left script)
script_follows left script = record {
  poll = λ past f was m a new now s p.
      let i = by_call script.call left script past f was m.now a new now s (subst (λ o. PollsBy o f was a new now) s.0 p) in
      record { answer = i.0; adds = i.1; stands = i.2 };
  abandoned = λ w f was m u now s p. rw (quiet w m.now left script) (adds_none was now p.1);
  refused = λ w f was m e now s p. absurd (cc p.0);
}

-- it is served by the script that is found for it
found : (scripts : List ScriptView) (script : ScriptView) (i : ℕ) (number : Option Number) → number ≡ Some (record { 0 = i }) → slice_get scripts i ≡ Some script → script_for scripts number ≡ Some script
found scripts script i number n e = ap (script_for scripts) n ∙ e

pub script_serves : (left : ℕ) (script : ScriptView) (i : ℕ) → ServiceFollows ScriptCalls (AsksFor left script i) (Finds script i) (λ t. ScriptStands left script) []
script_serves left script i = record {
  call = λ s req was m f new now q e c.
      let is = found s script i req.head.ext.number q.numbered e.0 in (
        (ap (λ (x : SharedScripts). slice_get x i) c.same ∙ e.0, e.1),
        (
          (c.begun).panic ∙ ap panic_for is,
          record {
            polls = (c.begun).polls ∙ ap polls_for is;
            room = ap room_in (c.begun).body_is ∙ q.room;
            items = ap asked_of (c.begun).body_is ∙ q.items;
          },
          e.1,
        ),
        adds_none was now c.unrecorded,
      );
  refused = λ s req was m e new now k c. (ap (λ (x : SharedScripts). slice_get x i) c.same ∙ k.0, k.1);
}

-- whatever is asked, the service finds what it found
pub script_keeps : (script : ScriptView) (i : ℕ) → ServiceFollows {R = Request (Limited ScriptBody) Ext} ScriptCalls (λ r. ⊤) (Finds script i) (λ t (f : ScriptFuture) (w : Where). ⊤) []
script_keeps script i = record {
  call = λ s req was m f new now q e c. ((ap (λ (x : SharedScripts). slice_get x i) c.same ∙ e.0, e.1), tt, adds_none was now c.unrecorded);
  refused = λ s req was m e new now k c. (ap (λ (x : SharedScripts). slice_get x i) c.same ∙ k.0, k.1);
}
