use Rattle.std.proofs.Common.{◌∙◌}
use Rattle.life_stack.proofs.ServiceLaws.Handing.{asked_further}
use Rattle.life_stack.proofs.service.asking.ask_times.Goals as goal

pub loop-asked-preserved : goal.loop-asked-preserved
loop-asked-preserved g c =
    let i = c.loop-asked.invariant in
    let e = c.in_ok-ask.ensures in
    record {
      asked = asked_further c.loop-asked._asked _ _ _ _ _ _ i.asked e.asked;
      context = record {
        now = e.context.now ∙ i.context.now;
        span = e.context.span ∙ i.context.span;
        moment = e.context.moment ∙ i.context.moment;
        recorder = e.context.recorder ∙ i.context.recorder;
        place = e.context.place ∙ i.context.place;
      };
    }
