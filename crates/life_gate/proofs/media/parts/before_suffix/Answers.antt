use Rattle.std.proofs.Common.{arith}
use Rattle.life_gate.proofs.MediaTypes.{suffix_found, suffix_none}
use Rattle.life_gate.proofs.media.parts.before_suffix.Goals as goal

pub returns-in_default : goal.returns-in_default
returns-in_default c = suffix_none c.args.token.now (λ k l m. c.in_default.ensures k m)

pub returns-then-end-eq0 : goal.returns-then-end-eq0
returns-then-end-eq0 c = let found = c.in-Some.ensures in suffix_none c.args.token.now (λ k l m. found.2 k (omega arith) m)

pub returns : goal.returns
returns c = let found = c.in-Some.ensures in suffix_found c.args.token.now c.in-Some.end (omega arith) found.0 found.1 found.2
