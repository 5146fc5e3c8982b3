use Rattle.std.proofs.Common.{ap, sym, ◌∙◌}
use Rattle.std.specs.Prelude.{slice_get}
use Rattle.life_script.specs.Scenario.{ScriptView}
use Rattle.life_script.specs.Valid.{ScriptFits}
use Rattle.life_stack.proofs.service.polls_of.Goals as goal

pub new-requires : goal.new-requires
new-requires c = λ k asks reply is.
    let fits : ScriptFits c.in-Some.script.now = rw c.in-Some.is at c.requires in
    fits.replies k asks reply
    (ap (λ (v : ScriptView). slice_get v.polls k) (sym c.script.view_is) ∙ sym (ap (λ l. slice_get l.items k) c.in_ok-clone-in-Some.ensures.cases) ∙ is)
