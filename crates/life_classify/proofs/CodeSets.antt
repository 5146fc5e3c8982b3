-- A set of codes that is kept as a number.
use Rattle.std.proofs.Common.{◌≡◌, ℕ, ◌^◌, List, [], ◌∷◌, Bool, true, false, cond, refl, sym, ap, ap₂, ◌∙◌}
use Rattle.std.specs.Prelude.{◌&&◌, ◌||◌, ◌==◌, bit_and}
use Rattle.std.specs.List.{filter, list_any}
use Rattle.std.proofs.lemmas.Bool.{eqb-true}
use Rattle.std.proofs.lemmas.Map.Views.{any-filter_same}
use Rattle.life_classify.specs.Code.{all_codes, code_number, codes_in, has_bit, has_code, is_code, ok_alone, with_code}
use Rattle.life_classify.specs.declared.classify.grpc_errors_as_failures.code.GrpcCode.{GrpcCode}
use Rattle.life_classify.specs.declared.classify.grpc_errors_as_failures.code.GrpcCode.TheVariants as code

same_bit : (bits : ℕ) (one other : GrpcCode) → is_code one other ≡ true → has_bit bits other ≡ has_bit bits one
same_bit bits one other e = ap (λ (n : ℕ). bit_and bits (2 ^ n) == 2 ^ n) (eqb-true (code_number other) (code_number one) e)

is_one_of_all : (one : GrpcCode) → list_any (is_code one) all_codes ≡ true
is_one_of_all code.Ok = refl
is_one_of_all code.Cancelled = refl
is_one_of_all code.Unknown = refl
is_one_of_all code.InvalidArgument = refl
is_one_of_all code.DeadlineExceeded = refl
is_one_of_all code.NotFound = refl
is_one_of_all code.AlreadyExists = refl
is_one_of_all code.PermissionDenied = refl
is_one_of_all code.ResourceExhausted = refl
is_one_of_all code.FailedPrecondition = refl
is_one_of_all code.Aborted = refl
is_one_of_all code.OutOfRange = refl
is_one_of_all code.Unimplemented = refl
is_one_of_all code.Internal = refl
is_one_of_all code.Unavailable = refl
is_one_of_all code.DataLoss = refl
is_one_of_all code.Unauthenticated = refl

and_true : (b : Bool) → (b && true) ≡ b
and_true true = refl
and_true false = refl

-- a code is in the set where its bit is
pub has_code_in : (bits : ℕ) (one : GrpcCode) → has_code (codes_in bits) one ≡ has_bit bits one
unfolding codes_in
has_code_in bits one =
    any-filter_same (is_code one) (has_bit bits) (has_bit bits one) (same_bit bits one) all_codes
    ∙ (ap (λ b. has_bit bits one && b) (is_one_of_all one) ∙ and_true (has_bit bits one))

same_filter : {X : Type 0} (p q : X → Bool) → ((x : X) → p x ≡ q x) → (xs : List X) → filter p xs ≡ filter q xs
same_filter p q same [] = refl
same_filter p q same (x ∷ xs) = ap₂ (λ b rest. cond b (x ∷ rest) rest) (same x) (same_filter p q same xs)

-- the bit of `Ok` alone is its set
pub ok_alone_in : codes_in 1 ≡ ok_alone
unfolding codes_in
ok_alone_in = refl

-- the set with one more bit is the set with its code
pub with_code_in : (old new : ℕ) (one : GrpcCode) → ((other : GrpcCode) → has_bit new other ≡ (has_bit old other || is_code one other)) → codes_in new ≡ with_code (codes_in old) one
unfolding codes_in with_code
with_code_in old new one each =
    same_filter (has_bit new) (λ other. has_code (codes_in old) other || is_code one other) (λ other. each other ∙ ap (λ b. b || is_code one other) (sym (has_code_in old other))) all_codes
