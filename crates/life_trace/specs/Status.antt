-- The status that is told of a response and of the end of its body.
use Rattle.std.specs.Prelude.{ℕ, ℤ, pos, Bool, false, codes, nat_eq, Option, Some, None, option_map, unwrap_or, if◌then◌else◌}
use Rattle.std.specs.List.{starts_with}
use Rattle.http_header.specs.FieldValue.{FieldValue}
use Rattle.http_header.specs.HeaderMap.{Entries, get}
use Rattle.life_classify.specs.Code.{ok_alone}
use Rattle.life_classify.specs.Grpc.{grpc_parsed, number_told}
use Rattle.life_classify.specs.declared.classify.grpc_errors_as_failures.status.ParsedGrpcStatus.{ParsedGrpcStatus}
use Rattle.life_classify.specs.declared.classify.grpc_errors_as_failures.status.ParsedGrpcStatus.TheVariants.{Success, NonSuccess, GrpcStatusHeaderMissing, HeaderNotGrpcCode}

-- what is no number counts as the success 0; where `grpc-status` is missing, there is no status yet
abbrev pub status_of : ParsedGrpcStatus → Option ℤ
status_of Success = Some (pos 0)
status_of (NonSuccess status) = Some (number_told status)
status_of GrpcStatusHeaderMissing = None
status_of HeaderNotGrpcCode = Some (pos 0)

-- the status of gRPC that headers or trailers tell, where `Ok` alone is a success
abbrev pub grpc_status : Entries FieldValue → Option ℤ
grpc_status headers = status_of (grpc_parsed ok_alone headers)

-- the status that trailers tell, if any came
abbrev pub trailers_status : Option (Entries FieldValue) → Option ℤ
trailers_status (Some trailers) = grpc_status trailers
trailers_status None = None

-- a content type of gRPC begins so, whatever format it names
abbrev pub is_grpc_type : FieldValue → Bool
is_grpc_type value = starts_with nat_eq value.bytes (codes "application/grpc")

-- the first content type is one of gRPC
abbrev pub is_grpc : Entries FieldValue → Bool
is_grpc headers = unwrap_or (option_map is_grpc_type (get headers (codes "content-type"))) false

-- the status of a response: that of gRPC where its content type is one, and else that of HTTP
abbrev pub response_status : Entries FieldValue → ℕ → Option ℤ
response_status headers status = if is_grpc headers then grpc_status headers else Some (pos status)
