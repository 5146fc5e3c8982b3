use Rattle.life_stack.proofs.ServiceLaws.Handing.{asked_noted}
use Rattle.life_stack.proofs.service.asking.ask.Goals as goal

pub returns-clause-asked : goal.returns-clause-asked
returns-clause-asked g c = asked_noted _ _ _ _ _ _ c.in_ok-answer.answer c.in_ok-got.got c.note.result c.in_ok-answer.ensures.frames c.in_ok-got.ensures c.note.ensures.notes
