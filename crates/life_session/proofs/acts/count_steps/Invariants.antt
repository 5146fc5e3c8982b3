use Rattle.std.proofs.Common.{take}
use Rattle.life_session.specs.Acts.{Counts}
use Rattle.life_session.proofs.acts.count_steps.Given as goal

abbrev pub invariant-loop-step : goal.invariant-loop-step
invariant-loop-step l = Counts l.requests (take l.step-index l.steps) l.counts.items
