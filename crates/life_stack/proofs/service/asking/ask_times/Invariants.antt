use Rattle.life_core.specs.Moment.{SameContext}
use Rattle.life_stack.specs.Service.Script.{Asked}
use Rattle.life_stack.proofs.service.asking.ask_times.Given as goal

abbrev pub invariant-loop-asked : goal.invariant-loop-asked
invariant-loop-asked g l = record {
  asked : Asked l._asked l.initial.body (g.L.Recorder.recorded l.initial.cx.rec.now) l.body (g.L.Recorder.recorded l.cx.rec.now);
  context : SameContext g.L.Recorder.place l.initial.cx l.cx;
}
