use Rattle.std.proofs.Common.{◌≡◌, ◌++◌, drop}
use Rattle.life_session.specs.Report.{ends_lines}
use Rattle.life_session.proofs.report.put_ends.Given as goal

abbrev pub invariant-loop-i : goal.invariant-loop-i
invariant-loop-i l = l.text ++ ends_lines l.end l.i (drop l.i l.told) ≡ l.initial.text ++ ends_lines l.end 0 l.told
