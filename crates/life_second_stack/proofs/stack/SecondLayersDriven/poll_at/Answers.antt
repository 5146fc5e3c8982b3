use Rattle.life_second_stack.proofs.Keeping.{second_keeps}
use Rattle.life_second_stack.proofs.stack.SecondLayersDriven.poll_at.Goals as goal

pub returns-clause-polled : goal.returns-clause-polled
returns-clause-polled g c = λ k acts at. second_keeps.polled k acts _ _ _ c.poll.result _ _ at c.poll.ensures.polls
