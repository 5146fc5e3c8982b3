-- What the headers or trailers of a gRPC response tell.
use Rattle.std.specs.Prelude.{ℕ, ℤ, Bool, false, List, ◌++◌, codes, Option, Some, None, option_map, if◌then◌else◌}
use Rattle.std.specs.Fmt.{signed_decimal}
use Rattle.std.specs.Str.Lossy.{utf8_lossy}
use Rattle.http_header.specs.FieldValue.{FieldValue}
use Rattle.http_header.specs.HeaderMap.{Entries, get}
use Rattle.percent_encoding.specs.Percent.{percent_decode}
use Rattle.life_classify.specs.Code.{has_code, code_name, code_numbered}
use Rattle.life_classify.specs.Number.{number_in}
use Rattle.life_classify.specs.declared.classify.grpc_errors_as_failures.code.GrpcCode.{GrpcCode}
use Rattle.life_classify.specs.declared.classify.grpc_errors_as_failures.status.GrpcStatus.{GrpcStatus}
use Rattle.life_classify.specs.declared.classify.grpc_errors_as_failures.status.ParsedGrpcStatus.{ParsedGrpcStatus}
use Rattle.life_classify.specs.declared.classify.grpc_errors_as_failures.status.ParsedGrpcStatus.TheVariants.{Success, NonSuccess, GrpcStatusHeaderMissing, HeaderNotGrpcCode}

-- percent-decoded, and read as UTF-8 with U+FFFD for what is none
abbrev pub decoded : List ℕ → List ℕ
decoded bytes = utf8_lossy (percent_decode bytes)

-- the first `grpc-message`, decoded
abbrev pub message_in : Entries FieldValue → Option (List ℕ)
message_in headers = option_map (λ value. decoded value.bytes) (get headers (codes "grpc-message"))

-- a code that is in the set of successes
abbrev pub is_success : List GrpcCode → Option GrpcCode → Bool
is_success successes (Some code) = has_code successes code
is_success successes None = false

-- the code is none where no code has the number
abbrev pub status_numbered : ℤ → Option (List ℕ) → GrpcStatus
status_numbered number message = record { code = code_numbered number; code_raw = number; message = message }

-- what is no number is no code; a code that counts as a success is one; each other number is a failure
abbrev pub number_parsed : List GrpcCode → Option ℤ → Option (List ℕ) → ParsedGrpcStatus
number_parsed successes None message = HeaderNotGrpcCode
number_parsed successes (Some number) message =
    if is_success successes (code_numbered number) then Success else NonSuccess (status_numbered number message)

-- the same of the first `grpc-status`, if there is one
abbrev pub value_parsed : List GrpcCode → Option FieldValue → Option (List ℕ) → ParsedGrpcStatus
value_parsed successes None message = GrpcStatusHeaderMissing
value_parsed successes (Some value) message = number_parsed successes (number_in value.bytes) message

-- what headers or trailers tell, by the first `grpc-status`
abbrev pub grpc_parsed : List GrpcCode → Entries FieldValue → ParsedGrpcStatus
grpc_parsed successes headers = value_parsed successes (get headers (codes "grpc-status")) (message_in headers)

-- the code's name, or `Code(..)` round the number
abbrev pub code_text : Option GrpcCode → ℤ → List ℕ
code_text (Some code) number = code_name code
code_text None number = codes "Code(" ++ signed_decimal number ++ codes ")"

-- a colon, a space and the message, or nothing
abbrev pub message_text : Option (List ℕ) → List ℕ
message_text (Some message) = codes ": " ++ message
message_text None = codes ""

-- the text of a status: its code, and then its message, if any
abbrev pub grpc_status_text : GrpcStatus → List ℕ
grpc_status_text status = code_text status.code status.code_raw ++ message_text status.message

-- the code of a status, if its number has one
abbrev pub code_told : GrpcStatus → Option GrpcCode
code_told status = status.code

-- the number of a status
abbrev pub number_told : GrpcStatus → ℤ
number_told status = status.code_raw

-- the message of a status, if there is one
abbrev pub message_told : GrpcStatus → Option (List ℕ)
message_told status = status.message
