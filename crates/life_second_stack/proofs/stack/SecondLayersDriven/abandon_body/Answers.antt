use Rattle.life_second_stack.proofs.Keeping.{second_keeps}
use Rattle.life_second_stack.proofs.stack.SecondLayersDriven.abandon_body.Goals as goal

pub returns-clause-abandoned : goal.returns-clause-abandoned
returns-clause-abandoned g c = λ k acts at. second_keeps.body_abandoned k acts _ _ _ c.abandon.result _ at c.abandon.ensures.abandons

pub returns-clause-refused : goal.returns-clause-refused
returns-clause-refused g c = λ k acts at. second_keeps.body_refused k acts _ _ _ c.abandon.result _ at c.abandon.ensures.abandons
