use Rattle.std.proofs.Common.{◌≡◌, ◌-◌, ◌≤◌, length}
use Rattle.life_script.specs.Valid.{IsValid}
use Rattle.life_session.proofs.session.drive.Given as goal

abbrev pub invariant-loop-session : goal.invariant-loop-session
invariant-loop-session g l = record {
  limits_are : l.session.limits ≡ l.limits;
  scenario_is : l.session.scenario ≡ l.scenario;
  within : l.session.done ≤ length l.scenario.steps;
  valid : IsValid l.scenario;
}

abbrev pub decreases-loop-session : goal.decreases-loop-session
decreases-loop-session g l = length l.scenario.steps - l.session.done
