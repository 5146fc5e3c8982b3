-- What `MapFailureClass` does: the inner classifier's answer, with another failure class.
use Rattle.std.specs.Prelude.{◌≡◌, Result, Ok, Err}
use Rattle.life_core.specs.declared.recorder.NoMemory.{NoMemory}
use Rattle.life_classify.specs.Classifier.{ClassifiesResponse, ClassifiesEos, ClassifiesError}
use Rattle.life_classify.specs.declared.classify.traits.ClassifiedResponse.{ClassifiedResponse}
use Rattle.life_classify.specs.declared.classify.traits.ClassifiedResponse.TheVariants.{Ready, RequiresEos}
use Rattle.life_classify.specs.declared.classify.map_failure_class.MapFailureClass.{MapFailureClass}

-- the classifier `inner` with its failure class changed by `f`
abbrev pub mapped : {C F : Type 0} → C → F → MapFailureClass C F
mapped inner f = record { inner = inner; f = f }

-- `becomes` tells what an inner class may become, and `inner` what the inner classifier may answer
module _ {C N : Type 0} (becomes : C → N → Type 0) where
  -- the class comes of one that the inner classifier gave
  abbrev pub ComesOf : (C → Type 0) → N → Type 0
  ComesOf inner class = (was : C) × inner was × becomes was class

  -- the answer at an error
  abbrev pub MapsError : (Result C NoMemory → Type 0) → Result N NoMemory → Type 0
  MapsError inner (Ok class) = ComesOf (λ was. inner (Ok was)) class
  MapsError inner (Err e) = inner (Err e)

  -- the answer at the end of a stream: only a failure is changed
  abbrev pub MapsEos : (Result (Result Unit C) NoMemory → Type 0) → Result (Result Unit N) NoMemory → Type 0
  MapsEos inner (Ok (Ok u)) = inner (Ok (Ok tt))
  MapsEos inner (Ok (Err class)) = ComesOf (λ was. inner (Ok (Err was))) class
  MapsEos inner (Err e) = inner (Err e)

-- the answer at a response; an end that stays open will be classified by the inner one and the same `f`
abbrev pub MapsResponse : {C N K F : Type 0} → F → (C → N → Type 0) → (Result (ClassifiedResponse C K) NoMemory → Type 0)
    → Result (ClassifiedResponse N (MapFailureClass K F)) NoMemory → Type 0
MapsResponse f becomes inner (Ok (Ready (Ok u))) = inner (Ok (Ready (Ok tt)))
MapsResponse f becomes inner (Ok (Ready (Err class))) = ComesOf becomes (λ was. inner (Ok (Ready (Err was)))) class
MapsResponse f becomes inner (Ok (RequiresEos eos)) = inner (Ok (RequiresEos eos.inner)) × (eos.f ≡ f)
MapsResponse f becomes inner (Err e) = inner (Err e)

-- What a call of the whole means: `post` tells what a call of `f` means, and `inner` what the same call of the inner
-- classifier does.
module _ {C F K N : Type 0} (post : F → K → N → Type 0) where
  -- at a response
  abbrev pub ResponseMapped : {E : Type 0} → ClassifiesResponse C K E → ClassifiesResponse (MapFailureClass C F) N (MapFailureClass E F)
  ResponseMapped inner whole parts answer = MapsResponse whole.f (post whole.f) (inner whole.inner parts) answer

  -- at the end of a stream
  abbrev pub EosMapped : ClassifiesEos C K → ClassifiesEos (MapFailureClass C F) N
  EosMapped inner whole trailers answer = MapsEos (post whole.f) (inner whole.inner trailers) answer

  -- at an error
  abbrev pub ErrorMapped : ClassifiesError C K → ClassifiesError (MapFailureClass C F) N
  ErrorMapped inner whole text answer = MapsError (post whole.f) (inner whole.inner text) answer
