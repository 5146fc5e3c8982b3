-- What ids are, and where they go.
use Rattle.std.specs.Prelude.{◌≡◌, ℕ, List, Option, Some, None, IsSome, Result, Ok, Err, decimal, codes}
use Rattle.http_header.specs.FieldValue.{FieldValue, plain_value}
use Rattle.http_header.specs.HeaderMap.{get}
use Rattle.life_core.specs.Header.{put_in}
use Rattle.life_core.specs.declared.message.Request.{Request}
use Rattle.life_core.specs.declared.message.ResponseHead.{ResponseHead}
use Rattle.life_core.specs.declared.recorder.NoMemory.{NoMemory}
use Rattle.life_head.specs.declared.request_id.id.RequestId.{RequestId}
use Rattle.life_head.specs.declared.request_id.number.Number.{Number}

-- a value as an id
abbrev pub id_of : FieldValue → RequestId
id_of v = record { 0 = v }

-- the value of an id
abbrev pub id_value : RequestId → FieldValue
id_value id = id.0

-- the name that the constructors without a name use
abbrev pub x_request_id_name : List ℕ
x_request_id_name = codes "x-request-id"

-- Maker before, request, answer, maker after.
abbrev pub Makes : Type 0 → Type 0 → Type 0 → Type 1
Makes M B X = M → Request B X → Result (Option RequestId) NoMemory → M → Type 0

-- the number as an id, in decimal
abbrev pub id_of_number : Option Number → Option RequestId
id_of_number None = None
id_of_number (Some n) = Some (id_of (plain_value (decimal n.0)))

-- one thing where there is no id yet, another where there is
abbrev pub or_else : {X : Type 0} → Option RequestId → X → X → X
or_else None missing there = missing
or_else (Some i) missing there = there

module _ {X : Type 0} (holds : X → Option RequestId) (after : X → RequestId → X) where
  -- the extension with this id where it had none
  abbrev pub adopted : X → FieldValue → X
  adopted ext v = or_else (holds ext) (after ext (id_of v)) ext

  -- by the first value of the header: it is the id of an extension that has none; else what is given, if any,
  -- goes into header and extension
  abbrev pub marked_by : Option FieldValue → Option FieldValue → List ℕ → ResponseHead X → ResponseHead X
  marked_by (Some v) given name head = record head { ext = adopted head.ext v }
  marked_by None None name head = head
  marked_by None (Some v) name head = record head { parts = record head.parts { headers = put_in head.parts.headers name v }; ext = after head.ext (id_of v) }

  -- a response's head once it has its id
  abbrev pub marked : List ℕ → Option FieldValue → ResponseHead X → ResponseHead X
  marked name given head = marked_by (get head.parts.headers name) given name head

  -- the same for a request, which an id is made for
  abbrev pub tagged_by : {B : Type 0} → Option FieldValue → Option RequestId → List ℕ → Request B X → Request B X
  tagged_by (Some v) given name req = record req { head = record req.head { ext = adopted req.head.ext v } }
  tagged_by None None name req = req
  tagged_by None (Some id) name req =
      record req { head = record req.head { parts = record req.head.parts { headers = put_in req.head.parts.headers name (id_value id) }; ext = after req.head.ext id } }

  -- a request once it has its id
  abbrev pub tagged : {B : Type 0} → List ℕ → Option RequestId → Request B X → Request B X
  tagged name given req = tagged_by (get req.head.parts.headers name) given name req

-- the number of the extension as an id; memory is asked for only where there is a number
abbrev pub NumberMakes : {M B X : Type 0} → (X → Option Number) → Makes M B X
NumberMakes number old request (Ok made) new = (made ≡ id_of_number (number request.head.ext)) × (new ≡ old)
NumberMakes number old request (Err e) new = IsSome (number request.head.ext) × (new ≡ old)
