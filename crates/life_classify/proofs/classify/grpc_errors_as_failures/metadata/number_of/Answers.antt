use Rattle.std.proofs.Common.{ℕ, Some, Ok, Err, ap, ◌∙◌, rules}
use Rattle.life_classify.proofs.Numbers.{number_read, number_fits, no_number}
use Rattle.life_classify.proofs.classify.grpc_errors_as_failures.metadata.number_of.Goals as goal

pub returns-in-Ok-parse : goal.returns-in-Ok-parse
returns-in-Ok-parse c =
    let read = rw c.in-Ok.ensures.ok at c.in-Ok-parse.ensures.value.0 in
    ap (λ n. Some n) (number_fits _ _ read.0.1 read.1) ∙ number_read {E = ℕ} c.args.value.now.bytes (Ok c.in-Ok-parse.number) read

pub returns-in-Err-parse : goal.returns-in-Err-parse
returns-in-Err-parse c = number_read c.args.value.now.bytes (Err c.in-Err-parse.field-0) (rw c.in-Ok.ensures.ok at c.in-Err-parse.ensures.value.0)

pub returns-in-Err : goal.returns-in-Err
returns-in-Err c = no_number c.args.value.now.bytes (search rules)
