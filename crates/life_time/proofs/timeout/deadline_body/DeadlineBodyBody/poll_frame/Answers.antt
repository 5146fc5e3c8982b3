use Rattle.std.proofs.Common.{sym, ◌∙◌}
use Rattle.life_time.proofs.Elapsing.{due_stays}
use Rattle.life_time.proofs.timeout.deadline_body.DeadlineBodyBody.poll_frame.Goals as goal

pub returns-then-is_due-clause-stays : goal.returns-then-is_due-clause-stays
returns-then-is_due-clause-stays g c told polls polled =
    due_stays g.B.Body.frames c.args.cx.now.now c.args.self.now polls (sym c.is_due.ensures.due ∙ c.if-is_due.true) polled
