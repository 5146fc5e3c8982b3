use Rattle.std.proofs.Common.{ap, sym, ◌∙◌}
use Rattle.std.specs.Prelude.{slice_get}
use Rattle.life_stack.proofs.service.ScriptServiceTwin.twin.Goals as goal

pub invariant_of-result : goal.invariant_of-result
invariant_of-result c = λ i script is. c.self.invariant i script (sym (ap (λ l. slice_get l.items i) c.in-Ok.ensures.cases) ∙ is)
