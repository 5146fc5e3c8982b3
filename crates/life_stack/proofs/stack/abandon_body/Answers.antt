use Rattle.life_stack.proofs.StackLaws.Keeping.{drive_keeps}
use Rattle.life_stack.proofs.StackLaws.Refusing.{body_refused}
use Rattle.life_stack.proofs.stack.abandon_body.Goals as goal

pub returns-clause-abandoned : goal.returns-clause-abandoned
returns-clause-abandoned g c = λ k acts at. drive_keeps.body_abandoned k acts _ _ _ c.abandon.result _ at c.abandon.ensures.abandons

pub returns-clause-refused : goal.returns-clause-refused
returns-clause-refused g c = body_refused c.args.body _ _ c.abandon.result _ c.abandon.ensures.abandons
