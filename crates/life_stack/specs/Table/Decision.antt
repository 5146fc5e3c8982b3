-- What is decided for a request before its script is asked.
use Rattle.std.specs.Prelude.{ℕ, List, [], ◌∷◌, Bool, true, false, not, Option, codes}
use Rattle.http_header.specs.FieldValue.{plain_value}
use Rattle.life_core.specs.declared.fault.PanicText.{PanicText}
use Rattle.life_gate.specs.Required.{matches_first}
use Rattle.life_limit.specs.Length.{length_told}
use Rattle.life_limit.specs.Limit.{is_above}
use Rattle.life_script.specs.Headers.{Headers, first_value}
use Rattle.life_script.specs.Scenario.{ScriptView}
use Rattle.life_script.specs.Reply.{ReplyView}
use Rattle.life_script.specs.declared.scenario.CallItem.{CallItem}
use Rattle.life_script.specs.declared.scenario.Limits.{Limits}
use Rattle.life_script.specs.declared.scenario.BodyItem.TheVariants as body_item
use Rattle.life_script.specs.declared.scenario.CallItem.TheVariants as call_item
use Rattle.life_stack.specs.Table.Request.{Numbered, ident, identified}

-- THE DECISION.

-- a request's body is told to be too large, the gate is shut to it, its service panics in the call, or it is served
pub data Decision : Type 0 where
  TooLarge : Decision
  Forbidden : Decision
  Panicked : PanicText → Decision
  Served : Decision

-- the length that the request tells of its body
abbrev pub declared_by : ScriptView → Option ℕ
declared_by script = length_told (first_value (codes "content-length") script.headers)

-- whether that length is above the limit
abbrev pub is_too_large : Limits → ScriptView → Bool
is_too_large limits script = is_above limits.byte_limit (declared_by script)

-- the headers that the layers under the one of ids see: with the request's id
abbrev pub seen_headers : Numbered → Headers
seen_headers request = identified (ident request) request.script.headers

-- the gate's header has no value, or its first one is not the expected one
abbrev pub is_shut : Limits → Numbered → Bool
is_shut limits request = not (matches_first limits.gate_value (first_value limits.gate_name (seen_headers request)))

-- what the call of the service decides
abbrev pub called_by : CallItem → Decision
called_by call_item.Serve = Served
called_by (call_item.Panic text) = Panicked text

-- the first that fits
abbrev pub decided : Bool → Bool → CallItem → Decision
decided true shut call = TooLarge
decided false true call = Forbidden
decided false false call = called_by call

-- what is decided for a request, in the order of the layers
abbrev pub decision : Limits → Numbered → Decision
decision limits request = decided (is_too_large limits request.script) (is_shut limits request) request.script.call

-- REPLIES that are not the script's.

-- a plain text of one chunk, which tells its end
abbrev pub text_reply : ℕ → List ℕ → ReplyView
text_reply status text = record {
  status = status;
  headers = (codes "content-type", plain_value (codes "text/plain; charset=utf-8")) ∷ [];
  body = body_item.Chunk text ∷ [];
  tells = true;
}

-- what answers a body that is told to be too large, and what tells a panic
abbrev pub too_large_reply : ReplyView
too_large_reply = text_reply 413 (codes "length limit exceeded")

-- the reply of a panic that was caught
abbrev pub panic_reply : ReplyView
panic_reply = text_reply 500 (codes "Service panicked")

-- a status alone: no headers, and a body without items that tells its end
abbrev pub bare_reply : ℕ → ReplyView
bare_reply status = record { status = status; headers = []; body = []; tells = true }

-- what answers a request that the gate is shut to
abbrev pub forbidden_reply : ReplyView
forbidden_reply = bare_reply 403
