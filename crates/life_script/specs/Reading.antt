-- What the bytes of a scenario say.
use Rattle.std.specs.Prelude.{◌≡◌, ◌⊎◌, ℕ, ◌==◌, ◌&&◌, List, [], ◌∷◌, Bool, false, cond, codes, bytes_eq, nat_le, is_some, unwrap_or, Option, Some, None, option_map, IsSomeAnd, IsTrue, Result, Err, IsUtf8, ⊤}
use Rattle.std.specs.List.{list_all}
use Rattle.http_header.specs.FieldName.{is_field_name}
use Rattle.http_header.specs.FieldValue.{FieldValue, plain_value}
use Rattle.http_header.specs.Token.{lowercase, is_value_byte, IsToken}
use Rattle.http_uri.specs.Uri.{Spells}
use Rattle.http_uri.specs.declared.uri.Uri.{Uri}
use Rattle.serde_json.specs.Data.{Data, Items, no_items, item}
use Rattle.serde_json.specs.Find.{get, as_null, as_number, as_u64, as_bool, as_str, as_array}
use Rattle.serde_json.specs.Read.{read as read_text}
use Rattle.life_classify.specs.declared.classify.drive_classifier.DriveClassifier.{DriveClassifier}
use Rattle.life_classify.specs.declared.classify.drive_classifier.DriveClassifier.TheVariants.{Http, Grpc}
use Rattle.life_core.specs.declared.fault.PanicText.{PanicText}
use Rattle.life_core.specs.declared.fault.PanicText.TheVariants.{Known, Unknown}
use Rattle.life_script.specs.declared.error.ReadError.{ReadError}
use Rattle.life_script.specs.declared.error.ReadError.TheVariants.{NoMemory}
use Rattle.life_script.specs.declared.scenario.Act.{Act}
use Rattle.life_script.specs.declared.scenario.Act.TheVariants.{Call, Poll, Drop}
use Rattle.life_script.specs.declared.scenario.BodyItem.{BodyItem}
use Rattle.life_script.specs.declared.scenario.BodyItem.TheVariants.{Chunk, Trailers, Pending as PendingItem, Fault}
use Rattle.life_script.specs.declared.scenario.CallItem.{CallItem}
use Rattle.life_script.specs.declared.scenario.CallItem.TheVariants.{Serve, Panic as PanicCall}
use Rattle.life_script.specs.declared.scenario.Limits.{Limits}
use Rattle.life_script.specs.declared.scenario.PollItem.{PollItem}
use Rattle.life_script.specs.declared.scenario.Step.{Step}
use Rattle.life_script.specs.declared.scenario.Then.{Then}
use Rattle.life_script.specs.declared.scenario.Then.TheVariants.{Pending, Panic, Fail, Respond}
use Rattle.life_script.specs.Headers.{Headers}
use Rattle.life_script.specs.Scenario.{ScriptView, ScenarioView}
use Rattle.life_script.specs.Reply.{ReplyView}

-- what a part says: it has not the shape, or it is good
pub data Read (A : Type 0) : Type 0 where
  Bad : Read A
  Good : A → Read A

-- ---- parts put together

-- what is found next, where this was found
infixl 10 ◌>>=◌
abbrev pub ◌>>=◌ : {A B : Type 0} → Option A → (A → Option B) → Option B
None >>= f = None
(Some a) >>= f = f a

-- a value that must be there, and what is read with it
abbrev pub needs : {A B : Type 0} → Option A → (A → Read B) → Read B
needs None f = Bad
needs (Some a) f = f a

-- a good part, made into another
abbrev pub read_map : {A B : Type 0} → (A → B) → Read A → Read B
read_map f Bad = Bad
read_map f (Good a) = Good (f a)

-- two parts, of which both must be good
abbrev pub read_both : {A B C : Type 0} → (A → B → C) → Read A → Read B → Read C
read_both f Bad b = Bad
read_both f (Good a) b = read_map (f a) b

-- the values of a list, each read by f
unfoldable pub all_of : {A : Type 0} → (Data → Read A) → List Data → Read (List A)
all_of f [] = Good []
all_of f (d ∷ ds) = read_both (λ a xs. a ∷ xs) (f d) (all_of f ds)

-- ---- values

-- whether an object has this key
abbrev pub has_key : List ℕ → Data → Bool
has_key key d = is_some (get key d)

-- a number
abbrev pub as_natural : Data → Option ℕ
as_natural d = as_number d >>= as_u64

-- the number at a key
abbrev pub number_at : List ℕ → Data → Option ℕ
number_at key d = get key d >>= as_natural

-- a status is a number of three digits
abbrev pub as_status : ℕ → Option ℕ
as_status n = cond (nat_le 100 n && nat_le n 999) (Some n) None

-- the status at a key
abbrev pub status_at : List ℕ → Data → Option ℕ
status_at key d = number_at key d >>= as_status

-- a number of asks is at most 16
abbrev pub as_asks : ℕ → Option ℕ
as_asks n = cond (nat_le n 16) (Some n) None

-- the number of asks at a key
abbrev pub asks_at : List ℕ → Data → Option ℕ
asks_at key d = number_at key d >>= as_asks

-- whether the value at a key is there, and is null
abbrev pub is_null_at : List ℕ → Data → Bool
is_null_at key d = unwrap_or (option_map (λ found. is_some (as_null found)) (get key d)) false

-- the items of an array
abbrev pub list_of : Items → List Data
list_of no_items = []
list_of (item d ds) = d ∷ list_of ds

-- the items of an array
abbrev pub items_in : Data → Option (List Data)
items_in d = option_map list_of (as_array d)

-- the items of the array at a key
abbrev pub items_at : List ℕ → Data → Option (List Data)
items_at key d = get key d >>= items_in

-- the items of the array at a key, each read by f
abbrev pub all_at : {A : Type 0} → (Data → Read A) → List ℕ → Data → Read (List A)
all_at f key d = needs (items_at key d) (all_of f)

-- whether it is this string
abbrev pub is_string : List ℕ → Data → Bool
is_string text d = unwrap_or (option_map (λ s. bytes_eq s text) (as_str d)) false

-- the text of the string at a key
abbrev pub string_at : List ℕ → Data → Option (List ℕ)
string_at key d = get key d >>= as_str

-- true or false, at a key
abbrev pub bool_at : List ℕ → Data → Option Bool
bool_at key d = get key d >>= as_bool

-- a header name, which is kept in lower case
abbrev pub as_name : List ℕ → Option (List ℕ)
as_name text = cond (is_field_name text) (Some (lowercase text)) None

-- ---- the layers

-- the header that lets a request through, and what its first value must be
abbrev pub gate_of : Data → Option (List ℕ × List ℕ)
gate_of d =
    string_at (codes "gate_name") d >>= as_name >>= λ name.
    string_at (codes "gate_value") d >>= λ value.
    Some (name, value)

-- the classifier of this name
abbrev pub as_classifier : List ℕ → Option DriveClassifier
as_classifier text = cond (bytes_eq text (codes "http")) (Some Http) (cond (bytes_eq text (codes "grpc")) (Some Grpc) None)

-- the classifier at a key
abbrev pub classifier_at : List ℕ → Data → Option DriveClassifier
classifier_at key d = string_at key d >>= as_classifier

-- how the layers are set, where the gate is set so
abbrev pub limits_with : Data → List ℕ × List ℕ → Option Limits
limits_with d gate =
    number_at (codes "timeout") d >>= λ timeout.
    status_at (codes "timeout_status") d >>= λ status.
    number_at (codes "body_deadline") d >>= λ deadline.
    number_at (codes "byte_limit") d >>= λ bytes.
    classifier_at (codes "classifier") d >>= λ classifier.
    bool_at (codes "span_headers") d >>= λ span_headers.
    Some (record { timeout = timeout; timeout_status = status; body_deadline = deadline; byte_limit = bytes; gate_name = gate.0; gate_value = gate.1; classifier = classifier; span_headers = span_headers })

-- how the layers are set
abbrev pub limits_of : Data → Option Limits
limits_of d = gate_of d >>= limits_with d

-- ---- the client

-- what is done with a request
abbrev pub act_of : List ℕ → Option Act
act_of text = cond (bytes_eq text (codes "call")) (Some Call) (cond (bytes_eq text (codes "poll")) (Some Poll) (cond (bytes_eq text (codes "drop")) (Some Drop) None))

-- the step of three values: its time, its request and its act
abbrev pub step_from : List Data → Option Step
step_from (a ∷ b ∷ c ∷ []) =
    as_natural a >>= λ at.
    as_natural b >>= λ request.
    as_str c >>= act_of >>= λ act.
    Some (record { at = at; request = request; act = act })
step_from _ = None

-- the step that an array is
abbrev pub step_of : Data → Option Step
step_of d = as_array d >>= λ ds. step_from (list_of ds)

-- a step
abbrev pub step_part : Data → Read Step
step_part d = needs (step_of d) Good

-- ---- header fields

-- a header value: each byte is a tab, or at least 32 and not 127
abbrev pub as_value : List ℕ → Option FieldValue
as_value text = cond (list_all is_value_byte text) (Some (plain_value text)) None

-- the texts of two strings
abbrev pub texts_from : List Data → Option (List ℕ × List ℕ)
texts_from (a ∷ b ∷ []) = as_str a >>= λ name. as_str b >>= λ value. Some (name, value)
texts_from _ = None

-- a name and a value
abbrev pub header_of : List ℕ × List ℕ → Option (List ℕ × FieldValue)
header_of texts = as_name texts.0 >>= λ name. as_value texts.1 >>= λ value. Some (name, value)

-- a name and a value, as two strings
abbrev pub pair_part : List Data → Read (List ℕ × FieldValue)
pair_part ds = needs (texts_from ds >>= header_of) Good

-- a header field: an array of its name and its value
abbrev pub header_part : Data → Read (List ℕ × FieldValue)
header_part d = needs (items_in d) pair_part

-- the header fields at a key
abbrev pub headers_at : List ℕ → Data → Read Headers
headers_at key d = all_at header_part key d

-- ---- the service

-- the text at a key
abbrev pub text_at : List ℕ → Data → Read (List ℕ)
text_at key d = needs (string_at key d) Good

-- a chunk of a body
abbrev pub chunk_part : Data → Read BodyItem
chunk_part d = read_map Chunk (text_at (codes "data") d)

-- an item of a body: the first of the three keys decides
abbrev pub body_item_part : Data → Read BodyItem
body_item_part d =
    cond (is_string (codes "pending") d) (Good PendingItem) (
    cond (has_key (codes "data") d) (chunk_part d) (
    cond (has_key (codes "trailers") d) (read_map Trailers (headers_at (codes "trailers") d)) (
    read_map Fault (text_at (codes "fault") d))))

-- the headers and the body of a request or a response
abbrev pub message_part : Data → Read (Headers × List BodyItem)
message_part d = read_both (λ headers body. (headers, body)) (headers_at (codes "headers") d) (all_at body_item_part (codes "body") d)

-- a response
abbrev pub reply_part : Data → Read ReplyView
reply_part d =
    needs (status_at (codes "status") d) (λ status.
    needs (bool_at (codes "tells") d) (λ tells.
    read_map (λ message. record { status = status; headers = message.0; body = message.1; tells = tells }) (message_part d)))

-- the text of a panic, where null stands for an unknown one
abbrev pub panic_part : Data → Read PanicText
panic_part d = cond (is_null_at (codes "panic") d) (Good Unknown) (read_map Known (text_at (codes "panic") d))

-- an answer: the first of the three keys decides
abbrev pub then_part : Data → Read Then
then_part d =
    cond (is_string (codes "pending") d) (Good Pending) (
    cond (has_key (codes "panic") d) (read_map Panic (panic_part d)) (
    cond (has_key (codes "fail") d) (read_map Fail (text_at (codes "fail") d)) (
    needs (get (codes "respond") d) (λ reply. read_map Respond (reply_part reply)))))

-- what is done at one poll
abbrev pub poll_item_part : Data → Read PollItem
poll_item_part d =
    needs (asks_at (codes "asks") d) (λ asks.
    needs (get (codes "then") d) (λ answer. read_map (λ t. record { asks = asks; then = t }) (then_part answer)))

-- what is done at the call
abbrev pub call_part : Data → Read CallItem
call_part d = cond (is_string (codes "serve") d) (Good Serve) (read_map PanicCall (panic_part d))

-- what the service does with a request: at the call, and poll by poll
abbrev pub service_part : Data → Read (CallItem × List PollItem)
service_part d =
    needs (get (codes "call") d) (λ call.
    read_both (λ item polls. (item, polls)) (call_part call) (all_at poll_item_part (codes "polls") d))

-- ---- the requests

-- the string at `method` is this method
abbrev pub HasMethod : Data → List ℕ → Type 0
HasMethod d method = (string_at (codes "method") d ≡ Some method) × IsToken method

-- the string at `uri` spells this target
abbrev pub HasTarget : Data → Uri → Type 0
HasTarget d uri = IsSomeAnd (string_at (codes "uri") d) (λ text. Spells text uri)

-- an object is a request with this script
abbrev pub IsScript : Data → ScriptView → Type 0
IsScript d script =
    HasMethod d script.method × HasTarget d script.uri
    × (message_part d ≡ Good (script.headers, script.body)) × (service_part d ≡ Good (script.call, script.polls))

-- the values of an array are requests with these scripts, one by one
unfoldable pub AreScripts : List Data → List ScriptView → Type 0
AreScripts [] [] = ⊤
AreScripts [] (script ∷ scripts) = ⊥
AreScripts (d ∷ ds) [] = ⊥
AreScripts (d ∷ ds) (script ∷ scripts) = IsScript d script × AreScripts ds scripts

-- ---- the whole

-- whether the version is the one that is read
abbrev pub is_version_1 : Data → Bool
is_version_1 d = unwrap_or (option_map (λ n. n == 1) (number_at (codes "version") d)) false

-- an object has these scripts, these steps and this end
abbrev pub HasScenario : Data → ScenarioView → Type 0
HasScenario d scenario =
    IsSomeAnd (items_at (codes "requests") d) (λ ds. AreScripts ds scenario.requests)
    × (all_at step_part (codes "steps") d ≡ Good scenario.steps) × (number_at (codes "end") d ≡ Some scenario.end)

-- the tree of a text says these limits and this scenario
abbrev pub IsScenario : Data → Limits → ScenarioView → Type 0
IsScenario d limits scenario =
    IsTrue (is_version_1 d) × (get (codes "limits") d >>= limits_of ≡ Some limits) × HasScenario d scenario

-- the bytes say these limits and this scenario
abbrev pub Reads : List ℕ → Limits → ScenarioView → Type 0
Reads bytes limits scenario = IsUtf8 bytes × ((d : Data) × (read_text bytes ≡ Some d) × IsScenario d limits scenario)

-- the bytes say none: they are not UTF-8, or have no reading as JSON, or the tree is no scenario
abbrev pub IsBadScenario : List ℕ → Type 0
IsBadScenario bytes = (limits : Limits) (scenario : ScenarioView) → ¬ (Reads bytes limits scenario)

-- this answer, or want of memory
abbrev pub OrNoMemory : {A : Type 0} → Result A ReadError → Result A ReadError → Type 0
OrNoMemory answer meant = (answer ≡ meant) ⊎ (answer ≡ Err NoMemory)
