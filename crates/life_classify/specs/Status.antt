-- Classifiers by status: which statuses fail, and what the failure classes hold and show.
use Rattle.std.specs.Prelude.{◌≡◌, ℕ, Bool, ◌&&◌, nat_le, nat_lt, List, ◌++◌, codes, Option, Some, None, Result, Ok, Err, IfOk, if◌then◌else◌}
use Rattle.std.specs.Range.{range_inclusive_start, range_inclusive_end, range_inclusive_exhausted}
use Rattle.std.specs.declared.ops.RangeInclusive.{RangeInclusive}
use Rattle.http.specs.StatusCode.{IsStatusCode, status_text}
use Rattle.http.specs.declared.response.Parts.{Parts}
use Rattle.life_core.specs.declared.recorder.NoMemory.{NoMemory}
use Rattle.life_classify.specs.declared.classify.traits.ClassifiedResponse.{ClassifiedResponse}
use Rattle.life_classify.specs.declared.classify.traits.ClassifiedResponse.TheVariants.{Ready}
use Rattle.life_classify.specs.declared.classify.server_errors_as_failures.ServerErrorsAsFailures.{ServerErrorsAsFailures}
use Rattle.life_classify.specs.declared.classify.server_errors_as_failures.ServerErrorsFailureClass.{ServerErrorsFailureClass}
use Rattle.life_classify.specs.declared.classify.server_errors_as_failures.ServerErrorsFailureClass.TheVariants as server
use Rattle.life_classify.specs.declared.classify.status_in_range_is_error.StatusInRangeAsFailures.{StatusInRangeAsFailures}
use Rattle.life_classify.specs.declared.classify.status_in_range_is_error.StatusInRangeFailureClass.{StatusInRangeFailureClass}
use Rattle.life_classify.specs.declared.classify.status_in_range_is_error.StatusInRangeFailureClass.TheVariants as ranged

-- from the first to the last
abbrev pub is_between : ℕ → ℕ → ℕ → Bool
is_between first last status = nat_le first status && nat_le status last

-- what Rust's `contains` says: a range that was iterated to its end has lost its last value
abbrev pub is_in : RangeInclusive ℕ → ℕ → Bool
is_in range status =
    nat_le (range_inclusive_start range) status
    && (if range_inclusive_exhausted range then nat_lt status (range_inclusive_end range) else nat_le status (range_inclusive_end range))

-- a status that fails makes a failure that holds it; each other one makes a success; and no memory is wanted
abbrev pub ByStatus : {C K : Type 0} → (ℕ → Bool) → (ℕ → C) → Parts → Result (ClassifiedResponse C K) NoMemory → Type 0
ByStatus fails class parts answer = answer ≡ Ok (Ready (if fails parts.status then Err (class parts.status) else Ok tt))

-- the failure holds the text that the error shows
abbrev pub ByText : {C : Type 0} → (List ℕ → C) → Option (List ℕ) → Result C NoMemory → Type 0
ByText class (Some text) answer = IfOk answer (λ c. c ≡ class text)
ByText class None answer = IfOk answer (λ c. (text : List ℕ) × (c ≡ class text))

-- the text of a failure by status
abbrev pub status_class_text : ℕ → List ℕ
status_class_text status = codes "Status code: " ++ status_text status

-- the text of a failure by an error that shows this text
abbrev pub error_class_text : List ℕ → List ℕ
error_class_text text = codes "Error: " ++ text

-- the text of a failure that `ServerErrorsAsFailures` told
abbrev pub server_class_text : ServerErrorsFailureClass → Option (List ℕ)
server_class_text (server.StatusCode status) = Some (status_class_text status)
server_class_text (server.Error text) = Some (error_class_text text)

-- the text of a failure that `StatusInRangeAsFailures` told
abbrev pub ranged_class_text : StatusInRangeFailureClass → Option (List ℕ)
ranged_class_text (ranged.StatusCode status) = Some (status_class_text status)
ranged_class_text (ranged.Error text) = Some (error_class_text text)

-- the one classifier of its kind
abbrev pub server_errors : ServerErrorsAsFailures
server_errors = record { _priv = tt }

-- both ends of the range are status codes: from 100 to 999
abbrev pub HasStatusEnds : RangeInclusive ℕ → Type 0
HasStatusEnds range = IsStatusCode (range_inclusive_start range) × IsStatusCode (range_inclusive_end range)

-- the classifier by this range
abbrev pub failures_in : RangeInclusive ℕ → StatusInRangeAsFailures
failures_in range = record { range = range }

-- the statuses that fail by such a classifier
abbrev pub fails : StatusInRangeAsFailures → ℕ → Bool
fails classifier = is_in classifier.range
