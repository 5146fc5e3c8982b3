use Rattle.std.proofs.Common.{rules}
use Rattle.life_limit.proofs.CatchFollows.{catch_panicked}
use Rattle.life_limit.proofs.catch_panic.service.CatchPanicServiceRequest.call.Goals as goal

pub returns-then-is_some-clause-calls : goal.returns-then-is_some-clause-calls
returns-then-is_some-clause-calls g c =
    catch_panicked g.S.Service.calls g.Q.Spend.abandons c.args.self.now c.args.req _ _ c.in-Ok.handler c.answer_panic.result c.answer_panic.new.kept _
    (search rules) (search rules) c.answer_panic.ensures.answered
