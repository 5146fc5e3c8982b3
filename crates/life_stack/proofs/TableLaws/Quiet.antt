-- Lists of events among which there is no early drop, and which hand no bytes.
use Rattle.std.proofs.Common.{◌≡◌, ℕ, suc, ◌+◌, List, [], ◌∷◌, ◌++◌, length, Bool, true, false, Option, Some, None, refl, ap, ◌∙◌, arith}
use Rattle.std.specs.Prelude.{not, ◌&&◌, ◌||◌, slice_get, if◌then◌else◌}
use Rattle.life_classify.specs.Status.{error_class_text}
use Rattle.life_core.specs.Timer.{due, since}
use Rattle.life_core.specs.declared.event.Event.{Event}
use Rattle.life_core.specs.declared.event.Event.TheVariants as event
use Rattle.life_script.specs.Headers.{Headers}
use Rattle.life_script.specs.Reply.{ReplyView}
use Rattle.life_script.specs.declared.scenario.BodyItem.{BodyItem}
use Rattle.life_script.specs.declared.scenario.BodyItem.TheVariants as body_item
use Rattle.life_script.specs.declared.scenario.Limits.{Limits}
use Rattle.life_stack.specs.Table.Handed.{handed_bytes}
use Rattle.life_stack.specs.Table.Request.{Numbered}
use Rattle.life_stack.specs.Table.Story.{Failed, Outcome, Replied, body_answers, dropped_in, item_events, later_events, on_call_events, outcome_events, tells_after}
use Rattle.life_stack.specs.Table.Traced.{Class, Given, any_closes, any_faults, at_once, chunked, class_of, elapsed_text, end_once, ended, failed_if, finished, is_open, latency, trailers_failure, while_open}

-- no early drop, and no bytes
abbrev pub Quiet : List Event → Type 0
Quiet es = (dropped_in es ≡ []) × (handed_bytes es ≡ 0)

-- LISTS THAT ARE JOINED.

pub dropped_append : (es fs : List Event) → dropped_in (es ++ fs) ≡ dropped_in es ++ dropped_in fs
dropped_append [] fs = refl
dropped_append (event.Dropped what latency ∷ es) fs = ap (λ l. event.Dropped what latency ∷ l) (dropped_append es fs)
dropped_append (other ∷ es) fs = dropped_append es fs

pub bytes_append : (es fs : List Event) → handed_bytes (es ++ fs) ≡ handed_bytes es + handed_bytes fs
bytes_append [] fs = omega arith
bytes_append (e ∷ es) fs = let rest = bytes_append es fs in omega (arith, rest)

both_quiet : (es fs : List Event) → Quiet es → Quiet fs → Quiet (es ++ fs)
both_quiet es fs e f =
    let none = e.1 in let more = f.1 in let joined = bytes_append es fs in
    (dropped_append es fs ∙ ap (λ l. l ++ dropped_in fs) e.0 ∙ f.0, omega (arith, joined, none, more))

choice_quiet : (b : Bool) (es fs : List Event) → Quiet es → Quiet fs → Quiet (if b then es else fs)
choice_quiet true es fs e f = e
choice_quiet false es fs e f = f

-- WHAT IS TRACED.

-- of a Call, of the first answer, and of a poll after it
pub call_quiet : (limits : Limits) (request : Numbered) (o : Option ℕ) → Quiet (on_call_events limits request o)
call_quiet limits request None = (refl, refl)
call_quiet limits request (Some t0) = (refl, refl)

failure_quiet : (o : Option (List ℕ)) (t : ℕ) → Quiet (failed_if o t)
failure_quiet None t = (refl, refl)
failure_quiet (Some text) t = (refl, refl)

pub outcome_quiet : (limits : Limits) (o : Outcome) (t : ℕ) → Quiet (outcome_events limits o t)
outcome_quiet limits (Replied reply) t =
    let told = at_once (class_of limits.classifier reply) in
    both_quiet (finished reply.status reply.headers t ∷ []) (failed_if told t) (refl, refl) (failure_quiet told t)
outcome_quiet limits (Failed error) t = (refl, refl)

module _ (class : Class) (t0 ph : ℕ) (given : Given) (q : ℕ) where
  open_quiet : (text : Option (List ℕ)) → Quiet (while_open class t0 ph given q text)
  open_quiet text = choice_quiet (is_open class && not (any_closes given || any_faults given)) _ [] (failure_quiet text (latency class t0 ph given q)) (refl, refl)

  end_quiet : (trailers : Option Headers) → Quiet (end_once class t0 ph given q trailers)
  end_quiet trailers = choice_quiet (any_closes given) [] (ended trailers (since ph q) ∷ []) (refl, refl) (refl, refl)

  item_quiet : (reply : ReplyView) (k : ℕ) (o : Option BodyItem) → Quiet (item_events class reply t0 ph given q k o)
  item_quiet reply k None = end_quiet None
  item_quiet reply k (Some body_item.Pending) = (refl, refl)
  item_quiet reply k (Some (body_item.Trailers trailers)) = both_quiet _ _ (open_quiet (trailers_failure trailers)) (end_quiet (Some trailers))
  item_quiet reply k (Some (body_item.Fault fault)) = open_quiet (Some (error_class_text fault))
  item_quiet reply k (Some (body_item.Chunk bytes)) =
      let told = tells_after reply (suc k) in
      both_quiet (chunked (length bytes) (latency class t0 ph given q) ∷ []) _ (refl, refl) (choice_quiet told _ [] (end_quiet None) (refl, refl))

pub later_quiet : (limits : Limits) (o : Outcome) (t0 ph : ℕ) (qs : List ℕ) (q : ℕ) → Quiet (later_events limits o t0 ph qs q)
later_quiet limits (Replied reply) t0 ph qs q =
    let class = class_of limits.classifier reply in
    let given = body_answers limits.body_deadline reply ph 0 qs in
    let late = open_quiet class t0 ph given q (Some (error_class_text elapsed_text)) in
    choice_quiet (due ph limits.body_deadline q) _ _ late (item_quiet class t0 ph given q reply (length qs) (slice_get reply.body (length qs)))
later_quiet limits (Failed error) t0 ph qs q = (refl, refl)
