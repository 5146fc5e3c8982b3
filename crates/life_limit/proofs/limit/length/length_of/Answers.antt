use Rattle.std.proofs.Common.{rules}
use Rattle.life_limit.proofs.Lengths.{length_read, no_length}
use Rattle.life_limit.proofs.limit.length.length_of.Goals as goal

pub returns-in-Ok-parse : goal.returns-in-Ok-parse
returns-in-Ok-parse c = search (rules, length_read c.args.value.now.bytes _ (rw c.in-Ok.ensures.ok at c.parse.ensures.value.0))

pub returns-in-Err-parse : goal.returns-in-Err-parse
returns-in-Err-parse c = search (rules, length_read c.args.value.now.bytes _ (rw c.in-Ok.ensures.ok at c.parse.ensures.value.0))

pub returns-in-Err : goal.returns-in-Err
returns-in-Err c = no_length c.args.value.now.bytes (search rules)
