use Rattle.std.proofs.Common.{◌++◌, append-nil, ap, ◌∙◌, sym}
use Rattle.life_session.proofs.exchange.live.act_on.Goals as goal

pub returns-in-Call-act-clause-shown : goal.returns-in-Call-act-clause-shown
returns-in-Call-act-clause-shown g c = λ limits acts at serves ready order.
    let i = c.idles.ensures.waiting_called _ acts c.in-Future.future.value c.args.cx.now.now (rw c.in-Future.is at at) in
    let log = (g.L.Recorder.recorded c.args.cx.now.rec.now).log in
    rw c.in-Call-act.is (record { live = i.1; answer_is = sym i.0.0; log = sym (append-nil log) ∙ ap (λ es. log ++ es) (sym i.0.1) })

pub returns-in-Call-act-2-clause-shown : goal.returns-in-Call-act-2-clause-shown
returns-in-Call-act-2-clause-shown g c = λ limits acts at serves ready order.
    let i = c.idles.ensures.streaming_called _ acts c.in-Body.body.value c.args.cx.now.now (rw c.in-Body.is at at) in
    let log = (g.L.Recorder.recorded c.args.cx.now.rec.now).log in
    rw c.in-Call-act-2.is (record { live = i.1; answer_is = sym i.0.0; log = sym (append-nil log) ∙ ap (λ es. log ++ es) (sym i.0.1) })
