use Rattle.std.proofs.Common.{◌≡◌, drop}
use Rattle.std.specs.Prelude.{None}
use Rattle.life_script.specs.Valid.{verdict_from}
use Rattle.life_script.proofs.checks.check_steps.Given as goal

abbrev pub invariant-loop-k : goal.invariant-loop-k
invariant-loop-k l = verdict_from l.requests l.k l.earlier (drop l.k l.steps) l.end ≡ verdict_from l.requests 0 None l.steps l.end
