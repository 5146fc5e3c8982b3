use Rattle.std.proofs.Common.{rules}
use Rattle.life_gate.proofs.validate_request.service.refuse.Goals as goal

pub returns-in-Err-clause-refused : goal.returns-in-Err-clause-refused
returns-in-Err-clause-refused g c = (g.L.Recorder.recorded c.abandon.new.cx.rec.now, search rules, (c.abandon-in-Err.result, search rules))
