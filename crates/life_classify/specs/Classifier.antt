-- What the calls of a classifier, and of what makes one, mean.
use Rattle.std.specs.Prelude.{ℕ, List, Option, Result, ⊤}
use Rattle.http.specs.declared.response.Parts.{Parts}
use Rattle.http_header.specs.FieldValue.{FieldValue}
use Rattle.http_header.specs.HeaderMap.{Entries}
use Rattle.life_core.specs.declared.message.RequestHead.{RequestHead}
use Rattle.life_core.specs.declared.recorder.NoMemory.{NoMemory}
use Rattle.life_classify.specs.declared.classify.traits.ClassifiedResponse.{ClassifiedResponse}
use Rattle.life_classify.specs.declared.classify.traits.ClassifiedResponse.TheVariants.{Ready, RequiresEos}

-- The classifier, the head of the response, and the answer.
abbrev pub ClassifiesResponse : Type 0 → Type 0 → Type 0 → Type 1
ClassifiesResponse S C K = S → Parts → Result (ClassifiedResponse C K) NoMemory → Type 0

-- The classifier, the trailers, if any came, and the answer.
abbrev pub ClassifiesEos : Type 0 → Type 0 → Type 1
ClassifiesEos S C = S → Option (Entries FieldValue) → Result (Result Unit C) NoMemory → Type 0

-- The classifier, the text that the error shows, where that is told, and the answer.
abbrev pub ClassifiesError : Type 0 → Type 0 → Type 1
ClassifiesError S C = S → Option (List ℕ) → Result C NoMemory → Type 0

-- What makes a classifier, the head of the request, and the answer.
abbrev pub MakesClassifier : Type 0 → Type 0 → Type 0 → Type 1
MakesClassifier S X K = S → RequestHead X → Result K NoMemory → Type 0

-- a fact of what will classify the end of the stream, where that is open
abbrev pub IfOpen : {C K : Type 0} → ClassifiedResponse C K → (K → Type 0) → Type 0
IfOpen (Ready told) P = ⊤
IfOpen (RequiresEos eos) P = P eos
