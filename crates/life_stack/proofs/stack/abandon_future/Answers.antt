use Rattle.life_stack.proofs.StackLaws.Keeping.{drive_keeps}
use Rattle.life_stack.proofs.StackLaws.Refusing.{future_refused}
use Rattle.life_stack.proofs.stack.abandon_future.Goals as goal

pub returns-clause-waiting : goal.returns-clause-waiting
returns-clause-waiting g c = λ k acts at. drive_keeps.future_abandoned k acts _ _ _ c.abandon.result _ at c.abandon.ensures.abandons

pub returns-clause-answered : goal.returns-clause-answered
returns-clause-answered g c = λ k acts at. drive_keeps.answered_abandoned k acts _ _ _ c.abandon.result _ at c.abandon.ensures.abandons

pub returns-clause-refused : goal.returns-clause-refused
returns-clause-refused g c = future_refused c.args.future _ _ c.abandon.result _ c.abandon.ensures.abandons

pub returns-clause-answered_refused : goal.returns-clause-answered_refused
returns-clause-answered_refused g c = λ k acts at. drive_keeps.answered_refused k acts _ _ _ c.abandon.result _ at c.abandon.ensures.abandons
