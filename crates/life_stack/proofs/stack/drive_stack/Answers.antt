use Rattle.std.proofs.Common.{List, ap, sym, ◌∙◌}
use Rattle.std.specs.Prelude.{slice_get}
use Rattle.life_script.specs.Scenario.{ScenarioView, ScriptView}
use Rattle.life_script.proofs.CheckLemmas.{valid_headers}
use Rattle.life_stack.proofs.stack.drive_stack.Goals as goal

pub returns-clause-stands : goal.returns-clause-stands
returns-clause-stands c = λ script i is. c.stack_over.ensures.stands script i (ap (λ (l : List ScriptView). slice_get l i) c.in_ok-scripts.ensures ∙ ap (λ (s : ScenarioView). slice_get s.requests i) c.scenario.view_is ∙ is) (valid_headers c.args.scenario.now c.requires i script is)

pub stack_over-requires : goal.stack_over-requires
stack_over-requires c = λ i script is.
    let same = ap (λ (l : List ScriptView). slice_get l i) c.in_ok-scripts.ensures ∙ ap (λ (s : ScenarioView). slice_get s.requests i) c.scenario.view_is in
    valid_headers c.args.scenario.now c.requires i script (sym same ∙ is)
