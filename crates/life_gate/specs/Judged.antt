-- How a request is judged, and the refusal of this crate's validators.
use Rattle.std.specs.Prelude.{ℕ, Result, Ok, Err, ⊤}
use Rattle.life_core.specs.Message.{IsBare}
use Rattle.life_core.specs.declared.message.Response.{Response}
use Rattle.life_core.specs.declared.recorder.NoMemory.{NoMemory}

-- a validator's answer: the request passes, or is refused by a response; or memory was wanting
abbrev pub Verdict : Type 0 → Type 0 → Type 0
Verdict P X = Result (Result Unit (Response P X)) NoMemory

-- the request passes only where the first holds, and is refused only where the second does, by such a response
abbrev pub Judged : {P X : Type 0} → Type 0 → Type 0 → (Response P X → Type 0) → Verdict P X → Type 0
Judged Passes Fails IsRefusal (Ok (Ok u)) = Passes
Judged Passes Fails IsRefusal (Ok (Err r)) = Fails × IsRefusal r
Judged Passes Fails IsRefusal (Err e) = ⊤

-- this status, HTTP/1.1, no headers, a default extension and a default body
pub record IsBareRefusal {R X : Type 0} (is_body : R → Type 0) (is_ext : X → Type 0) (status : ℕ) (r : Response R X) : Type 0 where
  pub head : IsBare is_ext status r.head
  pub body : is_body r.body
