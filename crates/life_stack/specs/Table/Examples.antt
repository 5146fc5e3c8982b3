-- Worked scenarios: the table of the story, computed on each.
use Rattle.std.specs.Prelude.{◌≡◌, refl, ℕ, pos, Some, None, List, [], ◌∷◌, Bool, false, true, codes, decimal}
use Rattle.http_header.specs.FieldValue.{plain_value}
use Rattle.http_uri.specs.Uri.{uri_text}
use Rattle.http_uri.specs.declared.uri.Uri.{Uri}
use Rattle.life_classify.specs.Status.{status_class_text}
use Rattle.life_classify.specs.declared.classify.drive_classifier.DriveClassifier.TheVariants.{Http, Grpc}
use Rattle.life_core.specs.declared.latency.Latency.{Latency}
use Rattle.http_header.specs.HeaderMap.{Entry}
use Rattle.life_core.specs.declared.fields.Shown.{Shown}
use Rattle.life_core.specs.declared.event.Event.{Event}
use Rattle.life_core.specs.declared.event.Event.TheVariants as event
use Rattle.life_core.specs.declared.body.BodyError.TheVariants.{Inner}
use Rattle.life_core.specs.declared.event.DropKind.TheVariants as drop_kind
use Rattle.life_core.specs.declared.event.Handed.{Handed}
use Rattle.life_core.specs.declared.event.Handed.TheVariants as handed
use Rattle.life_core.specs.declared.event.Level.TheVariants.{Debug, Error}
use Rattle.life_core.specs.declared.fault.PanicText.TheVariants.{Known, Unknown}
use Rattle.life_core.specs.declared.fields.Shown.TheVariants.{Plain}
use Rattle.life_core.specs.declared.latency.LatencyUnit.TheVariants.{Nanos}
use Rattle.life_script.specs.Headers.{Headers}
use Rattle.life_script.specs.Scenario.{ScriptView}
use Rattle.life_script.specs.Told.{TurnView}
use Rattle.life_script.specs.declared.answer.Answer.{Answer}
use Rattle.life_script.specs.declared.answer.Answer.TheVariants as ans
use Rattle.life_script.specs.declared.answer.Seen.TheVariants as seen
use Rattle.life_script.specs.declared.scenario.Act.TheVariants as act
use Rattle.life_script.specs.declared.scenario.BodyItem.{BodyItem}
use Rattle.life_script.specs.declared.scenario.BodyItem.TheVariants as body_item
use Rattle.life_script.specs.declared.scenario.CallItem.TheVariants as call_item
use Rattle.life_script.specs.declared.scenario.CallItem.TheVariants.{Serve}
use Rattle.life_script.specs.declared.scenario.Limits.{Limits}
use Rattle.life_script.specs.declared.scenario.PollItem.{PollItem}
use Rattle.life_script.specs.declared.scenario.Then.{Then}
use Rattle.life_script.specs.declared.scenario.Then.TheVariants as then_
use Rattle.life_stack.specs.Table.Request.{numbered, shown_headers}
use Rattle.life_stack.specs.Table.Story.{story}

-- whatever the target is
module _ (uri : Uri) where
  abbrev limits : Limits
  limits = record { timeout = 10; timeout_status = 408; body_deadline = 20; byte_limit = 5; gate_name = codes "x-gate"; gate_value = codes "open"; classifier = Http; span_headers = false }

  -- so many nanoseconds
  abbrev nanos : ℕ → Latency
  nanos n = record { unit = Nanos; nanos = n }

  -- a response of this status came, so long after the call
  abbrev finished : ℕ → ℕ → Event
  finished status latency = event.Finished Debug (nanos latency) (Some (pos status)) None

  -- and it was a server error
  abbrev server_error : ℕ → Event
  server_error latency = event.Failed Error (status_class_text 500) (nanos latency)

  -- a request is called, and its span has this target
  abbrev called : TurnView
  called = record {
    answer = ans.Called;
    events = event.Started Debug (record {
      level = Debug;
      name = codes "request";
      fields = (codes "method", codes "GET") ∷ (codes "uri", uri_text uri) ∷ (codes "version", codes "HTTP/1.1") ∷ [];
      headers = None;
    }) ∷ [];
  }

  -- these headers, behind the one that lets a request through
  abbrev let_through : Headers → Headers
  let_through headers = (codes "x-gate", plain_value (codes "open")) ∷ headers

  -- a script with these poll items, which brings no other header and no body
  abbrev scripted : List PollItem → ScriptView
  scripted polls = record { method = codes "GET"; uri = uri; headers = let_through []; body = []; call = Serve; polls = polls }

  -- an item that asks for nothing
  abbrev at_once : Then → PollItem
  at_once then = record { asks = 0; then = then }

  -- a response without headers
  abbrev reply : ℕ → List BodyItem → Bool → Then
  reply status items tells = then_.Respond (record { status = status; headers = []; body = items; tells = tells })

  -- a script that answers status 200 at its first poll
  abbrev ready : List BodyItem → ScriptView
  ready items = scripted (at_once (reply 200 items true) ∷ [])

  -- a script that never answers
  abbrev silent : ScriptView
  silent = scripted []

  -- a script that answers status 201, with a body that waits and does not tell its end
  abbrev waiting : ScriptView
  waiting = scripted (at_once (reply 201 (body_item.Pending ∷ []) false) ∷ [])

  -- the id of a request that has only its number
  abbrev own_id : ℕ → Entry Shown
  own_id number = (codes "x-request-id", Plain (decimal number) ∷ [])

  -- a turn in which nothing is recorded
  abbrev quiet : Answer → TurnView
  quiet a = record { answer = a; events = [] }

  -- a turn with its events
  abbrev recording : Answer → List Event → TurnView
  recording a es = record { answer = a; events = es }

  read_to_its_end : story limits (numbered 0 (ready (body_item.Chunk (104 ∷ 105 ∷ []) ∷ []))) ((0, act.Call) ∷ (3, act.Poll) ∷ (4, act.Poll) ∷ (5, act.Drop) ∷ []) 5
      ≡ record {
        turns = called ∷ recording (ans.Response 200 (own_id 0 ∷ []) false) (finished 200 3 ∷ []) ∷ recording (ans.Frame (seen.Chunk (104 ∷ 105 ∷ [])) true) (event.Chunk 2 (nanos 4) ∷ event.Ended Debug (nanos 1) None ∷ []) ∷ quiet ans.Dropped ∷ [];
        at_end = [];
      }
  read_to_its_end = refl

  timed_out : story limits (numbered 0 (ready [])) ((0, act.Call) ∷ (10, act.Poll) ∷ []) 10
      ≡ record { turns = called ∷ recording (ans.Response 408 [] true) (finished 408 10 ∷ []) ∷ []; at_end = [] }
  timed_out = refl

  never_answered : story limits (numbered 0 silent) ((7, act.Call) ∷ []) 9
      ≡ record {
        turns = called ∷ [];
        at_end = event.Dropped drop_kind.Future (record { unit = Nanos; nanos = 2 }) ∷ [];
      }
  never_answered = refl

  dropped_while_it_waits : story limits (numbered 0 waiting) ((0, act.Call) ∷ (1, act.Poll) ∷ (6, act.Drop) ∷ []) 6
      ≡ record {
        turns = called ∷ recording (ans.Response 201 (own_id 0 ∷ []) false) (finished 201 1 ∷ [])
            ∷ recording ans.Dropped (event.Dropped (drop_kind.Body 201) (record { unit = Nanos; nanos = 6 }) ∷ []) ∷ [];
        at_end = [];
      }
  dropped_while_it_waits = refl

  -- a script that fails at its first poll
  abbrev failing : ScriptView
  failing = scripted (at_once (then_.Fail (98 ∷ [])) ∷ [])

  failed : story limits (numbered 0 failing) ((0, act.Call) ∷ (1, act.Poll) ∷ (2, act.Drop) ∷ []) 2
      ≡ record { turns = called ∷ recording (ans.ServiceError (98 ∷ [])) (event.Failed Error (codes "Error: b") (nanos 1) ∷ []) ∷ quiet ans.Idle ∷ []; at_end = [] }
  failed = refl

  -- a script that answers with a header at its first poll, and a body of a fault
  abbrev faulty : ScriptView
  faulty = scripted (at_once (then_.Respond (record { status = 200; headers = (97 ∷ [], plain_value (49 ∷ [])) ∷ []; body = body_item.Fault (98 ∷ []) ∷ []; tells = false })) ∷ [])

  faults_once : story limits (numbered 0 faulty) ((0, act.Call) ∷ (1, act.Poll) ∷ (2, act.Poll) ∷ (3, act.Poll) ∷ (4, act.Drop) ∷ []) 4
      ≡ record {
        turns = called ∷ recording (ans.Response 200 ((97 ∷ [], Plain (49 ∷ []) ∷ []) ∷ own_id 0 ∷ []) false) (finished 200 1 ∷ []) ∷ quiet (ans.Fault (Inner (98 ∷ []))) ∷ recording ans.End (event.Ended Debug (nanos 2) None ∷ []) ∷ quiet ans.Dropped ∷ [];
        at_end = [];
      }
  faults_once = refl

  -- BODIES OF REQUESTS.

  -- a request that tells this length, or none
  abbrev telling_length : List ℕ → Headers
  telling_length digits = (codes "content-length", plain_value digits) ∷ []

  -- the headers of a plain text
  abbrev text_fields : List (Entry Shown)
  text_fields = (codes "content-type", Plain (codes "text/plain; charset=utf-8") ∷ []) ∷ own_id 0 ∷ []

  -- what was handed
  abbrev handing : Handed → Event
  handing got = event.Handed got

  -- a request that tells six bytes where five are allowed
  abbrev large : ScriptView
  large = record { method = codes "GET"; uri = uri; headers = let_through (telling_length (codes "6")); body = []; call = Serve; polls = [] }

  too_large : story limits (numbered 0 large) ((0, act.Call) ∷ (1, act.Poll) ∷ (2, act.Poll) ∷ []) 2
      ≡ record {
        turns = called ∷ recording (ans.Response 413 text_fields false) (finished 413 1 ∷ []) ∷ recording (ans.Frame (seen.Chunk (codes "length limit exceeded")) true) (event.Chunk 21 (nanos 2) ∷ event.Ended Debug (nanos 1) None ∷ []) ∷ [];
        at_end = [];
      }
  too_large = refl

  -- one that tells five, and brings six in three pieces
  abbrev longer : ScriptView
  longer = record {
    method = codes "GET";
    uri = uri;
    headers = let_through (telling_length (codes "+5"));
    body = body_item.Chunk (codes "abc") ∷ body_item.Chunk (codes "de") ∷ body_item.Chunk (codes "f") ∷ [];
    call = Serve;
    polls = record { asks = 3; then = reply 200 [] true } ∷ [];
  }

  longer_than_told : story limits (numbered 0 longer) ((0, act.Call) ∷ (1, act.Poll) ∷ []) 1
      ≡ record {
        turns = called
            ∷ recording (ans.Response 200 (own_id 0 ∷ []) true) (handing (handed.Chunk (codes "abc")) ∷ handing (handed.Chunk (codes "de")) ∷ handing handed.LengthLimit ∷ finished 200 1 ∷ []) ∷ [];
        at_end = [];
      }
  longer_than_told = refl

  -- one that tells nothing, and brings six in one piece
  abbrev in_one_piece : ScriptView
  in_one_piece = record { method = codes "GET"; uri = uri; headers = let_through []; body = body_item.Chunk (codes "abcdef") ∷ []; call = Serve; polls = record { asks = 2; then = then_.Pending } ∷ [] }

  longer_than_allowed : story limits (numbered 0 in_one_piece) ((0, act.Call) ∷ (1, act.Poll) ∷ []) 1
      ≡ record {
        turns = called ∷ recording ans.Pending (handing handed.LengthLimit ∷ handing handed.End ∷ []) ∷ [];
        at_end = event.Dropped drop_kind.Future (record { unit = Nanos; nanos = 1 }) ∷ [];
      }
  longer_than_allowed = refl

  -- one that tells two, and brings three in two pieces
  abbrev two_told : ScriptView
  two_told = record {
    method = codes "GET";
    uri = uri;
    headers = let_through (telling_length (codes "2"));
    body = body_item.Chunk (codes "ab") ∷ body_item.Chunk (codes "c") ∷ [];
    call = Serve;
    polls = record { asks = 2; then = then_.Pending } ∷ [];
  }

  length_told_is_the_room : story limits (numbered 0 two_told) ((0, act.Call) ∷ (1, act.Poll) ∷ []) 1
      ≡ record {
        turns = called ∷ recording ans.Pending (handing (handed.Chunk (codes "ab")) ∷ handing handed.LengthLimit ∷ []) ∷ [];
        at_end = event.Dropped drop_kind.Future (record { unit = Nanos; nanos = 1 }) ∷ [];
      }
  length_told_is_the_room = refl

  -- PANICS.

  -- a service that panics in the call
  abbrev panicking : ScriptView
  panicking = record { method = codes "GET"; uri = uri; headers = let_through []; body = []; call = call_item.Panic (Known (codes "boom")); polls = [] }

  panic_of_the_call : story limits (numbered 0 panicking) ((0, act.Call) ∷ (1, act.Poll) ∷ (2, act.Poll) ∷ []) 2
      ≡ record {
        turns = called ∷ recording (ans.Response 500 text_fields false) (event.Panic Error (Known (codes "boom")) ∷ finished 500 1 ∷ server_error 1 ∷ []) ∷ recording (ans.Frame (seen.Chunk (codes "Service panicked")) true) (event.Chunk 16 (nanos 2) ∷ event.Ended Debug (nanos 1) None ∷ []) ∷ [];
        at_end = [];
      }
  panic_of_the_call = refl

  -- one that panics at a poll, with no text
  panic_of_a_poll : story limits (numbered 0 (scripted (at_once (then_.Panic Unknown) ∷ []))) ((0, act.Call) ∷ (1, act.Poll) ∷ []) 1
      ≡ record {
        turns = called ∷ recording (ans.Response 500 text_fields false) (event.Panic Error Unknown ∷ finished 500 1 ∷ server_error 1 ∷ []) ∷ [];
        at_end = event.Dropped (drop_kind.Body 500) (record { unit = Nanos; nanos = 1 }) ∷ [];
      }
  panic_of_a_poll = refl

  -- THE GATE.

  -- a script that brings these headers, and answers status 200 at its first poll
  abbrev bringing : Headers → ScriptView
  bringing headers = record { method = codes "GET"; uri = uri; headers = headers; body = []; call = Serve; polls = at_once (reply 200 [] true) ∷ [] }

  -- what a request is told that is not let through
  abbrev told_forbidden : ℕ → List TurnView
  told_forbidden number = called ∷ recording (ans.Response 403 (own_id number ∷ []) true) (finished 403 1 ∷ []) ∷ []

  -- the first value decides
  shut_first : story limits (numbered 0 (bringing ((codes "x-gate", plain_value (codes "shut")) ∷ let_through []))) ((0, act.Call) ∷ (1, act.Poll) ∷ []) 1
      ≡ record { turns = told_forbidden 0; at_end = [] }
  shut_first = refl

  no_value : story limits (numbered 0 (bringing [])) ((0, act.Call) ∷ (1, act.Poll) ∷ []) 1
      ≡ record { turns = told_forbidden 0; at_end = [] }
  no_value = refl

  -- GRPC.

  -- the same limits, with the classifier of gRPC
  abbrev grpc_limits : Limits
  grpc_limits = record limits { classifier = Grpc }

  -- the headers of a response of gRPC, or its trailers
  abbrev grpc_type : Headers
  grpc_type = (codes "content-type", plain_value (codes "application/grpc")) ∷ []

  abbrev grpc_end : Headers
  grpc_end = (codes "grpc-status", plain_value (codes "16")) ∷ []

  -- a script that tells its status in its trailers
  abbrev in_trailers : ScriptView
  in_trailers = scripted (at_once (then_.Respond (record { status = 200; headers = grpc_type; body = body_item.Trailers grpc_end ∷ []; tells = false })) ∷ [])

  failure_told_by_trailers : story grpc_limits (numbered 0 in_trailers) ((0, act.Call) ∷ (1, act.Poll) ∷ (3, act.Poll) ∷ (4, act.Poll) ∷ []) 4
      ≡ record {
        turns = called
            ∷ recording (ans.Response 200 ((codes "content-type", Plain (codes "application/grpc") ∷ []) ∷ own_id 0 ∷ []) false) (event.Finished Debug (nanos 1) None None ∷ [])
            ∷ recording (ans.Frame (seen.Trailers (shown_headers grpc_end)) false) (event.Failed Error (codes "Status: Unauthenticated") (nanos 3) ∷ event.Ended Debug (nanos 2) (Some (pos 16)) ∷ [])
            ∷ quiet ans.End ∷ [];
        at_end = [];
      }
  failure_told_by_trailers = refl

  -- a fault while the class is open
  failure_told_by_a_fault : story grpc_limits (numbered 0 faulty) ((0, act.Call) ∷ (1, act.Poll) ∷ (3, act.Poll) ∷ []) 3
      ≡ record {
        turns = called ∷ recording (ans.Response 200 ((97 ∷ [], Plain (49 ∷ []) ∷ []) ∷ own_id 0 ∷ []) false) (finished 200 1 ∷ [])
            ∷ recording (ans.Fault (Inner (98 ∷ []))) (event.Failed Error (codes "Error: b") (nanos 3) ∷ []) ∷ [];
        at_end = [];
      }
  failure_told_by_a_fault = refl
