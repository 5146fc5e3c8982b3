-- What `SharedClassifier` does: it gives each request a classifier equal to its own.
use Rattle.std.specs.Prelude.{◌≡◌, Result, IfOk}
use Rattle.life_core.specs.declared.message.RequestHead.{RequestHead}
use Rattle.life_core.specs.declared.recorder.NoMemory.{NoMemory}
use Rattle.life_classify.specs.declared.classify.shared_classifier.SharedClassifier.{SharedClassifier}

module _ {C : Type 0} where
  -- the maker of twins of this classifier
  abbrev pub shared : C → SharedClassifier C
  shared classifier = record { classifier = classifier }

  -- what is made equals the maker's own classifier
  abbrev pub MakesTwins : {X : Type 0} → SharedClassifier C → RequestHead X → Result C NoMemory → Type 0
  MakesTwins maker head answer = IfOk answer (λ made. made ≡ maker.classifier)
