use Rattle.life_stack.proofs.StackLaws.Keeping.{drive_keeps}
use Rattle.life_stack.proofs.stack.poll_future.Goals as goal

pub returns-clause-polled : goal.returns-clause-polled
returns-clause-polled g c = λ k acts at. drive_keeps.polled k acts _ _ _ c.poll.result _ _ at c.poll.ensures.polls
