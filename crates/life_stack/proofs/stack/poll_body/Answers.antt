use Rattle.life_stack.proofs.StackLaws.Keeping.{drive_keeps}
use Rattle.life_stack.proofs.stack.poll_body.Goals as goal

pub returns-clause-polled : goal.returns-clause-polled
returns-clause-polled g c = λ k acts late at. drive_keeps.framed k acts _ _ _ c.poll_frame.result _ _ late at c.poll_frame.ensures.frames
