-- The status codes of gRPC: their numbers and names, and sets of them.
use Rattle.std.specs.Prelude.{ℕ, ℤ, pos, negsuc, ◌^◌, Bool, ◌||◌, ◌==◌, bit_and, List, [], ◌∷◌, codes, Option, None, unwrap_or}
use Rattle.std.specs.List.{filter, find, list_any}
use Rattle.life_classify.specs.declared.classify.grpc_errors_as_failures.code.GrpcCode.{GrpcCode}
use Rattle.life_classify.specs.declared.classify.grpc_errors_as_failures.code.GrpcCode.TheVariants as code

-- the number that gRPC gives a code
abbrev pub code_number : GrpcCode → ℕ
code_number code.Ok = 0
code_number code.Cancelled = 1
code_number code.Unknown = 2
code_number code.InvalidArgument = 3
code_number code.DeadlineExceeded = 4
code_number code.NotFound = 5
code_number code.AlreadyExists = 6
code_number code.PermissionDenied = 7
code_number code.ResourceExhausted = 8
code_number code.FailedPrecondition = 9
code_number code.Aborted = 10
code_number code.OutOfRange = 11
code_number code.Unimplemented = 12
code_number code.Internal = 13
code_number code.Unavailable = 14
code_number code.DataLoss = 15
code_number code.Unauthenticated = 16

-- the name of the variant
abbrev pub code_name : GrpcCode → List ℕ
code_name code.Ok = codes "Ok"
code_name code.Cancelled = codes "Cancelled"
code_name code.Unknown = codes "Unknown"
code_name code.InvalidArgument = codes "InvalidArgument"
code_name code.DeadlineExceeded = codes "DeadlineExceeded"
code_name code.NotFound = codes "NotFound"
code_name code.AlreadyExists = codes "AlreadyExists"
code_name code.PermissionDenied = codes "PermissionDenied"
code_name code.ResourceExhausted = codes "ResourceExhausted"
code_name code.FailedPrecondition = codes "FailedPrecondition"
code_name code.Aborted = codes "Aborted"
code_name code.OutOfRange = codes "OutOfRange"
code_name code.Unimplemented = codes "Unimplemented"
code_name code.Internal = codes "Internal"
code_name code.Unavailable = codes "Unavailable"
code_name code.DataLoss = codes "DataLoss"
code_name code.Unauthenticated = codes "Unauthenticated"

-- each code once
abbrev pub all_codes : List GrpcCode
all_codes =
    code.Ok ∷ code.Cancelled ∷ code.Unknown ∷ code.InvalidArgument ∷ code.DeadlineExceeded ∷ code.NotFound
    ∷ code.AlreadyExists ∷ code.PermissionDenied ∷ code.ResourceExhausted ∷ code.FailedPrecondition ∷ code.Aborted ∷ code.OutOfRange
    ∷ code.Unimplemented ∷ code.Internal ∷ code.Unavailable ∷ code.DataLoss ∷ code.Unauthenticated ∷ []

-- the code with this number, if there is one
abbrev pub code_numbered : ℤ → Option GrpcCode
code_numbered (pos n) = find (λ one. n == code_number one) all_codes
code_numbered (negsuc n) = None

-- the same, or `Unknown`
abbrev pub code_of : ℤ → GrpcCode
code_of number = unwrap_or (code_numbered number) code.Unknown

-- the two are the same code
abbrev pub is_code : GrpcCode → GrpcCode → Bool
is_code one other = code_number other == code_number one

-- whether a code is in a set of codes
abbrev pub has_code : List GrpcCode → GrpcCode → Bool
has_code set one = list_any (is_code one) set

-- the set with this code, too
unfoldable pub with_code : List GrpcCode → GrpcCode → List GrpcCode
with_code set one = filter (λ other. has_code set other || is_code one other) all_codes

-- the set of `Ok` alone
abbrev pub ok_alone : List GrpcCode
ok_alone = code.Ok ∷ []

-- A set of codes is kept as a number, in which the bit of a code's number says whether it is in the set.
abbrev pub has_bit : ℕ → GrpcCode → Bool
has_bit bits one = bit_and bits (2 ^ code_number one) == 2 ^ code_number one

-- the codes of such a number, in the order of their numbers
unfoldable pub codes_in : ℕ → List GrpcCode
codes_in bits = filter (has_bit bits) all_codes

-- the names that the bits have in the code
abbrev pub bit_table : List (List ℕ × ℕ)
bit_table =
    (codes "OK", 2 ^ 0)
    ∷ (codes "CANCELLED", 2 ^ 1)
    ∷ (codes "UNKNOWN", 2 ^ 2)
    ∷ (codes "INVALID_ARGUMENT", 2 ^ 3)
    ∷ (codes "DEADLINE_EXCEEDED", 2 ^ 4)
    ∷ (codes "NOT_FOUND", 2 ^ 5)
    ∷ (codes "ALREADY_EXISTS", 2 ^ 6)
    ∷ (codes "PERMISSION_DENIED", 2 ^ 7)
    ∷ (codes "RESOURCE_EXHAUSTED", 2 ^ 8)
    ∷ (codes "FAILED_PRECONDITION", 2 ^ 9)
    ∷ (codes "ABORTED", 2 ^ 10)
    ∷ (codes "OUT_OF_RANGE", 2 ^ 11)
    ∷ (codes "UNIMPLEMENTED", 2 ^ 12)
    ∷ (codes "INTERNAL", 2 ^ 13)
    ∷ (codes "UNAVAILABLE", 2 ^ 14)
    ∷ (codes "DATA_LOSS", 2 ^ 15)
    ∷ (codes "UNAUTHENTICATED", 2 ^ 16) ∷ []
