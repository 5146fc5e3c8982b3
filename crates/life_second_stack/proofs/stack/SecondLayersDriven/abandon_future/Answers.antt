use Rattle.life_second_stack.proofs.Keeping.{second_keeps}
use Rattle.life_second_stack.proofs.stack.SecondLayersDriven.abandon_future.Goals as goal

pub returns-clause-waiting : goal.returns-clause-waiting
returns-clause-waiting g c = λ k acts at. second_keeps.future_abandoned k acts _ _ _ c.abandon.result _ at c.abandon.ensures.abandons

pub returns-clause-answered : goal.returns-clause-answered
returns-clause-answered g c = λ k acts at. second_keeps.answered_abandoned k acts _ _ _ c.abandon.result _ at c.abandon.ensures.abandons

pub returns-clause-refused : goal.returns-clause-refused
returns-clause-refused g c = λ k acts at. second_keeps.future_refused k acts _ _ _ c.abandon.result _ at c.abandon.ensures.abandons

pub returns-clause-answered_refused : goal.returns-clause-answered_refused
returns-clause-answered_refused g c = λ k acts at. second_keeps.answered_refused k acts _ _ _ c.abandon.result _ at c.abandon.ensures.abandons
