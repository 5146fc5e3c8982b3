-- What `DriveClassifier` tells: what the classifier that it names tells.
use Rattle.life_classify.specs.declared.classify.grpc_errors_as_failures.code.GrpcCode.{GrpcCode}
use Rattle.std.specs.Prelude.{◌≡◌, ℕ, List, Option, Some, None, Result, Ok, Err, IfOk}
use Rattle.http.specs.declared.response.Parts.{Parts}
use Rattle.http_header.specs.FieldValue.{FieldValue}
use Rattle.http_header.specs.HeaderMap.{Entries}
use Rattle.life_core.specs.declared.recorder.NoMemory.{NoMemory}
use Rattle.life_classify.specs.Code.{ok_alone}
use Rattle.life_classify.specs.Grpc.{grpc_parsed}
use Rattle.life_classify.specs.GrpcClasses.{headers_told, end_told, grpc_class_text}
use Rattle.life_classify.specs.Status.{ByStatus, ByText, is_between, server_class_text}
use Rattle.life_classify.specs.declared.classify.drive_classifier.DriveClassifier.{DriveClassifier}
use Rattle.life_classify.specs.declared.classify.drive_classifier.DriveClassifier.TheVariants as named
use Rattle.life_classify.specs.declared.classify.drive_classifier.DriveFailureClass.{DriveFailureClass}
use Rattle.life_classify.specs.declared.classify.drive_classifier.DriveFailureClass.TheVariants.{Http, Grpc}
use Rattle.life_classify.specs.declared.classify.drive_classifier.DriveClassifyEos.{DriveClassifyEos}
use Rattle.life_classify.specs.declared.classify.grpc_errors_as_failures.GrpcFailureClass.{GrpcFailureClass}
use Rattle.life_classify.specs.declared.classify.grpc_errors_as_failures.GrpcFailureClass.TheVariants as grpc
use Rattle.life_classify.specs.declared.classify.server_errors_as_failures.ServerErrorsFailureClass.TheVariants as server
use Rattle.life_classify.specs.declared.classify.traits.ClassifiedResponse.{ClassifiedResponse}
use Rattle.life_classify.specs.declared.classify.traits.ClassifiedResponse.TheVariants.{Ready, RequiresEos}

-- an answer of the classifier of gRPC
abbrev pub grpc_answer : Result Unit GrpcFailureClass → Result Unit DriveFailureClass
grpc_answer (Ok u) = Ok tt
grpc_answer (Err class) = Err (Grpc class)

-- what the classifier of gRPC tells of a response
abbrev pub grpc_told : ClassifiedResponse GrpcFailureClass (List GrpcCode) → ClassifiedResponse DriveFailureClass DriveClassifyEos
grpc_told (Ready answer) = Ready (grpc_answer answer)
grpc_told (RequiresEos successes) = RequiresEos (record { grpc = successes })

-- a response, as `ServerErrorsAsFailures` tells it
abbrev pub HttpResponse : Parts → Result (ClassifiedResponse DriveFailureClass DriveClassifyEos) NoMemory → Type 0
HttpResponse parts answer = ByStatus (is_between 500 599) (λ status. Http (server.StatusCode status)) parts answer

-- a response, as `GrpcErrorsAsFailures` tells it, where `Ok` is the one success
abbrev pub GrpcResponse : Parts → Result (ClassifiedResponse DriveFailureClass DriveClassifyEos) NoMemory → Type 0
GrpcResponse parts answer = IfOk answer (λ told. told ≡ grpc_told (headers_told ok_alone (grpc_parsed ok_alone parts.headers)))

-- a response, as the classifier that is named tells it
abbrev pub DriveResponse : DriveClassifier → Parts → Result (ClassifiedResponse DriveFailureClass DriveClassifyEos) NoMemory → Type 0
DriveResponse named.Http parts answer = HttpResponse parts answer
DriveResponse named.Grpc parts answer = GrpcResponse parts answer

-- an error: a failure of the classifier that is named, with the text that the error shows
abbrev pub DriveError : DriveClassifier → Option (List ℕ) → Result DriveFailureClass NoMemory → Type 0
DriveError named.Http text answer = ByText (λ shown. Http (server.Error shown)) text answer
DriveError named.Grpc text answer = ByText (λ shown. Grpc (grpc.Error shown)) text answer

-- the end of a stream, as gRPC tells it; where no trailers came, it is a success, and no memory is wanted
abbrev pub DriveTrailers : DriveClassifyEos → Option (Entries FieldValue) → Result (Result Unit DriveFailureClass) NoMemory → Type 0
DriveTrailers eos (Some trailers) answer = IfOk answer (λ told. told ≡ grpc_answer (end_told eos.grpc trailers))
DriveTrailers eos None answer = answer ≡ Ok (Ok tt)

-- an error in place of the end: a failure of gRPC, with the text that the error shows
abbrev pub DriveEosError : DriveClassifyEos → Option (List ℕ) → Result DriveFailureClass NoMemory → Type 0
DriveEosError eos text answer = ByText (λ shown. Grpc (grpc.Error shown)) text answer

-- the text of a failure: that of the class in it
abbrev pub drive_class_text : DriveFailureClass → Option (List ℕ)
drive_class_text (Http class) = server_class_text class
drive_class_text (Grpc class) = grpc_class_text class
