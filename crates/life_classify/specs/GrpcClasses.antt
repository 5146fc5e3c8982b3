-- How gRPC responses are classified by what their headers or trailers tell.
use Rattle.life_classify.specs.declared.classify.grpc_errors_as_failures.code.GrpcCode.{GrpcCode}
use Rattle.std.specs.Prelude.{◌≡◌, ℕ, List, ◌++◌, codes, Option, Some, None, Result, Ok, Err, IfOk}
use Rattle.http.specs.declared.response.Parts.{Parts}
use Rattle.http_header.specs.FieldValue.{FieldValue}
use Rattle.http_header.specs.HeaderMap.{Entries}
use Rattle.life_core.specs.declared.recorder.NoMemory.{NoMemory}
use Rattle.life_classify.specs.Grpc.{grpc_parsed, grpc_status_text}
use Rattle.life_classify.specs.Status.{error_class_text}
use Rattle.life_classify.specs.declared.classify.traits.ClassifiedResponse.{ClassifiedResponse}
use Rattle.life_classify.specs.declared.classify.traits.ClassifiedResponse.TheVariants.{Ready, RequiresEos}
use Rattle.life_classify.specs.declared.classify.grpc_errors_as_failures.GrpcFailureClass.{GrpcFailureClass}
use Rattle.life_classify.specs.declared.classify.grpc_errors_as_failures.GrpcFailureClass.TheVariants.{Status, Error}
use Rattle.life_classify.specs.declared.classify.grpc_errors_as_failures.status.ParsedGrpcStatus.{ParsedGrpcStatus}
use Rattle.life_classify.specs.declared.classify.grpc_errors_as_failures.status.ParsedGrpcStatus.TheVariants.{Success, NonSuccess, GrpcStatusHeaderMissing, HeaderNotGrpcCode}

-- a response: its end is asked only where `grpc-status` is missing, and then with the same set of successes
abbrev pub headers_told : List GrpcCode → ParsedGrpcStatus → ClassifiedResponse GrpcFailureClass (List GrpcCode)
headers_told successes Success = Ready (Ok tt)
headers_told successes (NonSuccess status) = Ready (Err (Status status))
headers_told successes GrpcStatusHeaderMissing = RequiresEos successes
headers_told successes HeaderNotGrpcCode = Ready (Ok tt)

-- trailers: what is missing at the end is a success
abbrev pub trailers_told : ParsedGrpcStatus → Result Unit GrpcFailureClass
trailers_told Success = Ok tt
trailers_told (NonSuccess status) = Err (Status status)
trailers_told GrpcStatusHeaderMissing = Ok tt
trailers_told HeaderNotGrpcCode = Ok tt

-- a response is told by its headers, where these codes are successes
abbrev pub ByHeaders : List GrpcCode → Parts → Result (ClassifiedResponse GrpcFailureClass (List GrpcCode)) NoMemory → Type 0
ByHeaders successes parts answer = IfOk answer (λ told. told ≡ headers_told successes (grpc_parsed successes parts.headers))

-- what the end of a stream tells by these trailers, where these codes are successes
abbrev pub end_told : List GrpcCode → Entries FieldValue → Result Unit GrpcFailureClass
end_told successes trailers = trailers_told (grpc_parsed successes trailers)

-- the end of a stream is told by its trailers; where none came, it is a success, and no memory is wanted
abbrev pub ByTrailers : List GrpcCode → Option (Entries FieldValue) → Result (Result Unit GrpcFailureClass) NoMemory → Type 0
ByTrailers successes (Some trailers) answer = IfOk answer (λ told. told ≡ end_told successes trailers)
ByTrailers successes None answer = answer ≡ Ok (Ok tt)

-- the text of a failure
abbrev pub grpc_class_text : GrpcFailureClass → Option (List ℕ)
grpc_class_text (Status status) = Some (codes "Status: " ++ grpc_status_text status)
grpc_class_text (Error text) = Some (error_class_text text)
