-- Which scenarios are valid.
use Rattle.std.specs.Prelude.{◌≡◌, ℕ, ◌+◌, ◌≤◌, ◌||◌, slice_get, Bool, false, List, position, [], ◌∷◌, length, Option, Some, None, Result, Ok, Err, nat_lt, if◌then◌else◌, ⊤}
use Rattle.std.specs.List.{list_any}
use Rattle.life_script.specs.Headers.{Headers}
use Rattle.life_script.specs.declared.checks.TheConstants.{MAX_HEADER_VALUES}
use Rattle.life_script.specs.declared.error.DriveError.{DriveError}
use Rattle.life_script.specs.declared.error.DriveError.TheVariants.{TooManyHeaders, ClockBack, NoRequest}
use Rattle.life_script.specs.declared.scenario.BodyItem.{BodyItem}
use Rattle.life_script.specs.declared.scenario.BodyItem.TheVariants.{Chunk, Trailers, Pending as PendingItem, Fault}
use Rattle.life_script.specs.declared.scenario.PollItem.{PollItem}
use Rattle.life_script.specs.declared.scenario.Step.{Step}
use Rattle.life_script.specs.declared.scenario.Then.{Then}
use Rattle.life_script.specs.declared.scenario.Then.TheVariants.{Pending, Panic, Fail, Respond}
use Rattle.life_script.specs.Scenario.{ScriptView, ScenarioView}
use Rattle.life_script.specs.Reply.{ReplyView}

-- ---- headers

-- whether a header list holds too many values
abbrev pub is_over : Headers → Bool
is_over headers = nat_lt MAX_HEADER_VALUES (length headers)

-- whether an item of a body is too many trailers
abbrev pub is_item_over : BodyItem → Bool
is_item_over (Chunk bytes) = false
is_item_over (Trailers headers) = is_over headers
is_item_over PendingItem = false
is_item_over (Fault text) = false

-- whether a request or a response of these headers and this body has too many headers, or too many trailers in one list
abbrev pub is_message_over : Headers → List BodyItem → Bool
is_message_over headers body = is_over headers || list_any is_item_over body

-- the same of a response
abbrev pub is_reply_over : ReplyView → Bool
is_reply_over reply = is_message_over reply.headers reply.body

-- the same of the response that is answered, if it is one
abbrev pub is_then_over : Then → Bool
is_then_over Pending = false
is_then_over (Panic text) = false
is_then_over (Fail text) = false
is_then_over (Respond reply) = is_reply_over reply

-- whether a request has too many headers or trailers, or one of its responses too many
abbrev pub is_script_over : ScriptView → Bool
is_script_over script = is_message_over script.headers script.body || list_any (λ item. is_then_over item.then) script.polls

-- ---- steps

-- whether a time is below an earlier one
abbrev pub is_back : Option ℕ → ℕ → Bool
is_back None now = false
is_back (Some earlier) now = nat_lt now earlier

-- what is first wrong with the steps from number k on, after a step at the earlier time, where there are n requests
unfoldable pub verdict_from : ℕ → ℕ → Option ℕ → List Step → ℕ → Result Unit DriveError
verdict_from n k earlier [] end = if is_back earlier end then Err (ClockBack k) else Ok tt
verdict_from n k earlier (x ∷ xs) end =
    if is_back earlier x.at then Err (ClockBack k)
    else (if nat_lt x.request n then verdict_from n (k + 1) (Some x.at) xs end else Err (NoRequest k))

-- ---- the whole

-- the first request with too many headers is wrong; where there is none, what is wrong with the rest
abbrev pub unless_over : Option ℕ → Result Unit DriveError → Result Unit DriveError
unless_over (Some i) rest = Err (TooManyHeaders i)
unless_over None rest = rest

-- what is first wrong with a scenario
abbrev pub verdict : ScenarioView → Result Unit DriveError
verdict s = unless_over (position is_script_over s.requests) (verdict_from (length s.requests) 0 None s.steps s.end)

-- nothing is wrong with it
abbrev pub IsValid : ScenarioView → Type 0
IsValid s = verdict s ≡ Ok tt

-- ---- what a valid scenario has

-- no header list of a body holds too many values
abbrev pub BodyFits : List BodyItem → Type 0
BodyFits body = (k : ℕ) (trailers : Headers) → slice_get body k ≡ Some (Trailers trailers) → length trailers ≤ MAX_HEADER_VALUES

-- no header list of a response does
pub record ReplyFits (reply : ReplyView) : Type 0 where
  pub headers : length reply.headers ≤ MAX_HEADER_VALUES
  pub body : BodyFits reply.body

-- no header list of the response that is answered does, if it is one
abbrev pub ThenFits : Then → Type 0
ThenFits Pending = ⊤
ThenFits (Panic text) = ⊤
ThenFits (Fail text) = ⊤
ThenFits (Respond reply) = ReplyFits reply

-- no header list of the responses among these items does
abbrev pub PollsFit : List PollItem → Type 0
PollsFit polls = (k asks : ℕ) (reply : ReplyView) → slice_get polls k ≡ Some (record { asks = asks; then = Respond reply }) → ReplyFits reply

-- no header list of a script does
pub record ScriptFits (script : ScriptView) : Type 0 where
  pub headers : length script.headers ≤ MAX_HEADER_VALUES
  pub body : BodyFits script.body
  pub replies : PollsFit script.polls

-- no header list of any of these scripts does
abbrev pub EachFits : List ScriptView → Type 0
EachFits scripts = (i : ℕ) (script : ScriptView) → slice_get scripts i ≡ Some script → ScriptFits script
