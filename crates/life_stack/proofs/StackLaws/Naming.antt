-- What the layers of ids make of a request and of a response's head.
use Rattle.std.proofs.Common.{true≢false, ◌≡◌, ◌≤◌, ℕ, List, [], ◌∷◌, length, Option, Some, None, Ok, refl, sym, ap, ◌∙◌, subst, decimal}
use Rattle.std.specs.Prelude.{bytes_eq, codes, not, slice_get, unwrap_or, ⊤}
use Rattle.http_header.specs.FieldValue.{FieldValue, plain_value}
use Rattle.http_header.specs.HeaderMap.{Entries, get}
use Rattle.life_core.specs.Header.{is_full_for, put_in}
use Rattle.life_core.specs.declared.body.limited.Limited.{Limited}
use Rattle.life_core.specs.declared.message.Request.{Request}
use Rattle.life_core.specs.declared.message.ResponseHead.{ResponseHead}
use Rattle.life_head.specs.Ids.{NumberMakes, id_of, id_of_number, marked, marked_by, or_else, tagged, tagged_by, x_request_id_name}
use Rattle.life_head.specs.Setting.{Tags}
use Rattle.life_head.specs.History.{AsksWith, first_of}
use Rattle.life_head.specs.declared.request_id.id.RequestId.{RequestId}
use Rattle.life_head.specs.declared.request_id.number.ByNumber.{ByNumber}
use Rattle.life_head.proofs.RequestIdFollows.{tagged_is, tagged_others, tagged_value}
use Rattle.life_gate.specs.Required.{is_refused, matches_first}
use Rattle.life_gate.specs.History.{AsksPast}
use Rattle.life_limit.specs.Length.{length_told}
use Rattle.life_limit.specs.Limit.{is_above, room_of}
use Rattle.life_limit.specs.History.{AsksBounded}
use Rattle.life_script.specs.Headers.{Headers, added_to, first_value, map_of}
use Rattle.life_script.specs.declared.scenario.Limits.{Limits}
use Rattle.life_script.specs.Valid.{ScriptFits}
use Rattle.life_script.specs.declared.checks.TheConstants.{MAX_HEADER_VALUES}
use Rattle.life_script.proofs.HeaderMaps.{get_map, map_has_room, put_missing}
use Rattle.http.specs.Uri.{uri_text}
use Rattle.http.specs.declared.request.Parts.{Parts}
use Rattle.http.specs.declared.version.TheConstants.Version.{HTTP_11}
use Rattle.http_uri.specs.declared.uri.Uri.{Uri}
use Rattle.life_trace.specs.DefaultMakeSpan.{request_span}
use Rattle.life_trace.specs.Headers.{headers_told}
use Rattle.life_trace.specs.declared.trace.make_span.DefaultMakeSpan.{DefaultMakeSpan}
use Rattle.life_stack.specs.Stack.Driven.{named}
use Rattle.life_stack.specs.Stack.Tracing.{drive_tracing}
use Rattle.life_stack.specs.Table.Traced.{span_of}
use Rattle.life_stack.specs.Service.History.{Head, Heads, IsHead}
use Rattle.life_stack.specs.Table.Decision.{is_shut, is_too_large, seen_headers}
use Rattle.life_stack.specs.Table.Handed.{room}
use Rattle.life_stack.specs.Table.Request.{Numbered, ident}
use Rattle.life_stack.specs.Service.Script.{AsksFor, IsNumbered, IsRequestOf, ext_id, ext_number, items_of, with_id}
use Rattle.life_stack.specs.declared.service.ext.Ext.{Ext}
use Rattle.life_stack.specs.declared.service.body.ScriptBody.{ScriptBody}

-- A response's head gets the id where it has none.

marked_case : (x : Option FieldValue) (id : FieldValue) (h : Head) (head : ResponseHead Ext) → length h.1 ≤ MAX_HEADER_VALUES → head.parts.status ≡ h.0 → head.parts.headers ≡ map_of h.1 →
    first_value x_request_id_name h.1 ≡ x → IsHead (h.0, added_to x x_request_id_name id h.1) (marked_by ext_id with_id x (Some id) x_request_id_name head)
marked_case (Some v) id h head short status headers is = record { status_is = status; headers_are = headers }
marked_case None id h head short status headers is = record {
  status_is = status;
  headers_are = ap (λ (m : Entries FieldValue). put_in m x_request_id_name id) headers ∙ put_missing x_request_id_name id h.1 short is;
}

pub head_named : (id : FieldValue) (h : Head) (head : ResponseHead Ext) → Heads h head → IsHead (named id h) (marked ext_id with_id x_request_id_name (Some id) head)
head_named id h head k =
    let found : get head.parts.headers x_request_id_name ≡ first_value x_request_id_name h.1 = ap (λ (m : Entries FieldValue). get m x_request_id_name) (k.0).headers_are ∙ get_map x_request_id_name h.1 in
    subst (λ x. IsHead (named id h) (marked_by ext_id with_id x (Some id) x_request_id_name head)) (sym found)
    (marked_case (first_value x_request_id_name h.1) id h head k.1 (k.0).status_is (k.0).headers_are refl)

-- A request gets an id where it brings none, and keeps its number.

adopted_number : (o : Option RequestId) (e : Ext) (id : RequestId) → (or_else o (with_id e id) e).number ≡ e.number
adopted_number None e id = refl
adopted_number (Some there) e id = refl

number_kept : (x : Option FieldValue) (given : Option RequestId) (req : Request ScriptBody Ext) → (tagged_by ext_id with_id x given x_request_id_name req).head.ext.number ≡ req.head.ext.number
number_kept (Some v) given req = adopted_number req.head.ext.id req.head.ext (id_of v)
number_kept None None req = refl
number_kept None (Some id) req = refl

first_is : (o : Option FieldValue) (v : FieldValue) → first_of o (Some v) ≡ Some (unwrap_or o v)
first_is (Some there) v = refl
first_is None v = refl

-- the maker gives the number in decimal
made_number : (i : ℕ) (maker new : ByNumber) (req : Request ScriptBody Ext) → IsNumbered i req → (made : Option RequestId) → NumberMakes ext_number maker req (Ok made) new → made ≡ Some (id_of (plain_value (decimal i)))
made_number i maker new req n made k = k.0 ∙ ap id_of_number n

body_kept : (x : Option FieldValue) (given : Option RequestId) (req : Request ScriptBody Ext) → (tagged_by ext_id with_id x given x_request_id_name req).body ≡ req.body
body_kept (Some v) given req = refl
body_kept None None req = refl
body_kept None (Some id) req = refl

differ : x_request_id_name ≡ codes "content-length" → ⊥
differ e = true≢false (ap (λ l. bytes_eq x_request_id_name l) e)

-- the length of the body is told as before
length_kept : (given : Option RequestId) (req : Request ScriptBody Ext) → get (tagged ext_id with_id x_request_id_name given req).head.parts.headers (codes "content-length") ≡ get req.head.parts.headers (codes "content-length")
length_kept given req = ap (λ values. slice_get values 0) (tagged_others ext_id with_id x_request_id_name given (codes "content-length") req differ)

-- the headers with the id
headers_by : (x : Option FieldValue) (i : ℕ) (req : Request ScriptBody Ext) (headers : Headers) → length headers ≤ MAX_HEADER_VALUES → req.head.parts.headers ≡ map_of headers → first_value x_request_id_name headers ≡ x →
    (tagged_by ext_id with_id x (Some (id_of (plain_value (decimal i)))) x_request_id_name req).head.parts.headers ≡ map_of (added_to x x_request_id_name (unwrap_or x (plain_value (decimal i))) headers)
headers_by (Some v) i req headers short are is = are
headers_by None i req headers short are is = ap (λ (m : Entries FieldValue). put_in m x_request_id_name (plain_value (decimal i))) are ∙ put_missing x_request_id_name (plain_value (decimal i)) headers short is

headers_tagged : (request : Numbered) (req : Request ScriptBody Ext) → IsRequestOf request.script request.number req → ScriptFits request.script →
    (tagged ext_id with_id x_request_id_name (Some (id_of (plain_value (decimal request.number)))) req).head.parts.headers ≡ map_of (seen_headers request)
headers_tagged request req q fits =
    let given : Option RequestId = Some (id_of (plain_value (decimal request.number))) in
    let found : get req.head.parts.headers x_request_id_name ≡ first_value x_request_id_name request.script.headers =
    ap (λ (m : Entries FieldValue). get m x_request_id_name) q.headers_are ∙ get_map x_request_id_name request.script.headers in
    ap (λ x. (tagged_by ext_id with_id x given x_request_id_name req).head.parts.headers) found
    ∙ headers_by (first_value x_request_id_name request.script.headers) request.number req request.script.headers fits.headers q.headers_are refl

-- what the layers round the service are asked: a request that is too large, one that is refused by the gate, or one that the service takes
abbrev pub AsksInner : Limits → Numbered → Request ScriptBody Ext → Type 0
AsksInner limits request = AsksBounded (is_too_large limits request.script) limits.byte_limit
    (AsksPast (is_shut limits request) (λ (req : Request (Limited ScriptBody) Ext). is_refused limits.gate_name limits.gate_value req.head.parts.headers)
    (AsksFor (room limits request.script) request.script request.number))

-- the request that the layers round the service are called with
pub request_named : (limits : Limits) (request : Numbered) (maker : ByNumber) (req : Request ScriptBody Ext) (maker_new : ByNumber) (new : Request ScriptBody Ext) → ⊤ → IsRequestOf request.script request.number req × ScriptFits request.script →
    Tags (NumberMakes ext_number) ext_id with_id x_request_id_name maker req (Ok tt) maker_new new →
    AsksWith x_request_id_name (Some (ident request)) (AsksInner limits request) new
request_named limits request maker req maker_new new keeps q t =
    let given : Option RequestId = Some (id_of (plain_value (decimal request.number))) in
    let new_is : new ≡ tagged ext_id with_id x_request_id_name given req =
    tagged_is (NumberMakes ext_number) ext_id with_id x_request_id_name maker req maker_new new given (made_number request.number maker maker_new req (q.0).numbered) t in
    let room_for : is_full_for req.head.parts.headers x_request_id_name ≡ _ = ap (λ (m : Entries FieldValue). is_full_for m x_request_id_name) (q.0).headers_are ∙ map_has_room x_request_id_name request.script.headers (q.1).headers in
    let found : get req.head.parts.headers x_request_id_name ≡ first_value x_request_id_name request.script.headers =
    ap (λ (m : Entries FieldValue). get m x_request_id_name) (q.0).headers_are ∙ get_map x_request_id_name request.script.headers in
    let told : get new.head.parts.headers (codes "content-length") ≡ first_value (codes "content-length") request.script.headers =
    ap (λ (r : Request ScriptBody Ext). get r.head.parts.headers (codes "content-length")) new_is ∙ (length_kept given req
    ∙ (ap (λ (m : Entries FieldValue). get m (codes "content-length")) (q.0).headers_are ∙ get_map (codes "content-length") request.script.headers)) in
    let seen : get new.head.parts.headers limits.gate_name ≡ first_value limits.gate_name (seen_headers request) =
    ap (λ (r : Request ScriptBody Ext). get r.head.parts.headers limits.gate_name) new_is
    ∙ (ap (λ (m : Entries FieldValue). get m limits.gate_name) (headers_tagged request req q.0 q.1) ∙ get_map limits.gate_name (seen_headers request)) in
    let body_is : new.body ≡ req.body = ap (λ (r : Request ScriptBody Ext). r.body) new_is ∙ body_kept (get req.head.parts.headers x_request_id_name) given req in
    let numbered : IsNumbered request.number new = ap (λ (r : Request ScriptBody Ext). r.head.ext.number) new_is ∙ number_kept (get req.head.parts.headers x_request_id_name) given req ∙ (q.0).numbered in (
      (
        ap (λ o. is_above limits.byte_limit (length_told o)) told,
        λ small. (
          ap (λ o. not (matches_first limits.gate_value o)) seen,
          λ open_to. record {
            numbered = numbered;
            room = ap (λ o. room_of limits.byte_limit (length_told o)) told;
            items = ap items_of body_is ∙ ((q.0).body).items_are;
          },
        ),
      ),
      ap (λ (r : Request ScriptBody Ext). get r.head.parts.headers x_request_id_name) new_is
          ∙ tagged_value ext_id with_id x_request_id_name given req room_for
          ∙ ap (λ o. first_of o (Some (plain_value (decimal request.number)))) found
          ∙ first_is (first_value x_request_id_name request.script.headers) (plain_value (decimal request.number)),
    )

-- what the trace is asked: such a request, of the script's method and target
pub record AsksTraced (limits : Limits) (request : Numbered) (req : Request ScriptBody Ext) : Type 0 where
  pub named : AsksWith x_request_id_name (Some (ident request)) (AsksInner limits request) req
  pub span_is : request_span (drive_tracing limits).make_span req.head.parts ≡ span_of limits request

-- an id changes neither the method nor the target nor the version
parts_kept : (x : Option FieldValue) (given : Option RequestId) (req : Request ScriptBody Ext) →
    (tagged_by ext_id with_id x given x_request_id_name req).head.parts ≡ record req.head.parts { headers = (tagged_by ext_id with_id x given x_request_id_name req).head.parts.headers }
parts_kept (Some v) given req = refl
parts_kept None None req = refl
parts_kept None (Some id) req = refl

-- the span by the parts of a request
span_by : (maker : DefaultMakeSpan) (parts : Parts) (method : List ℕ) (uri : Uri) (headers : Entries FieldValue) → parts.method ≡ method → parts.uri ≡ uri → parts.version ≡ HTTP_11 →
    request_span maker (record parts { headers = headers }) ≡ record { level = maker.level; name = codes "request"; fields = (codes "method", method) ∷ (codes "uri", uri_text uri) ∷ (codes "version", codes "HTTP/1.1") ∷ []; headers = headers_told maker.include_headers headers }
span_by maker parts method uri headers m u v = rw (m, u, v) refl

pub request_traced : (limits : Limits) (request : Numbered) (maker : ByNumber) (req : Request ScriptBody Ext) (maker_new : ByNumber) (new : Request ScriptBody Ext) → ⊤ → IsRequestOf request.script request.number req × ScriptFits request.script →
    Tags (NumberMakes ext_number) ext_id with_id x_request_id_name maker req (Ok tt) maker_new new → AsksTraced limits request new
request_traced limits request maker req maker_new new keeps q t =
    let given : Option RequestId = Some (id_of (plain_value (decimal request.number))) in
    let new_is : new ≡ tagged ext_id with_id x_request_id_name given req =
    tagged_is (NumberMakes ext_number) ext_id with_id x_request_id_name maker req maker_new new given (made_number request.number maker maker_new req (q.0).numbered) t in record {
      named = request_named limits request maker req maker_new new keeps q t;
      span_is = ap (λ (r : Request ScriptBody Ext). request_span (drive_tracing limits).make_span r.head.parts) new_is
          ∙ ap (request_span (drive_tracing limits).make_span) (parts_kept (get req.head.parts.headers x_request_id_name) given req
          ∙ ap (λ (m : Entries FieldValue). record req.head.parts { headers = m }) (headers_tagged request req q.0 q.1))
          ∙ span_by (drive_tracing limits).make_span req.head.parts request.script.method request.script.uri (map_of (seen_headers request)) ((q.0).head).method ((q.0).head).uri ((q.0).head).version;
    }
