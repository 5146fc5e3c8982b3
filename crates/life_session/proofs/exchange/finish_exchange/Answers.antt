use Rattle.std.proofs.Common.{Ok, Err, Result, IsOk, IfOk}
use Rattle.life_core.specs.declared.recorder.NoMemory.{NoMemory}
use Rattle.life_session.proofs.ReportLaws.{told_is}
use Rattle.life_session.proofs.exchange.finish_exchange.Goals as goal

-- what holds where it is answered Ok, and it is
of_ok : (P : Type 0) (r : Result Unit NoMemory) → IsOk r → IfOk r (λ done. P) → P
of_ok P (Ok u) ok p = p
of_ok P (Err e) ok p = absurd (cc ok)

pub returns : goal.returns
returns g c = λ k acts left at.
    let e = c.args.exchange in
    let ended = of_ok _ c.finish_at.result (c.finish_at.ensures.done k acts at.live at.room) (c.finish_at.ensures.shown k acts at.live) in
    told_is (g.S.Driven.meaning.table k) acts c.args.end _ _ _ _ at.turns_are at.log_is ended.log c.take.ensures.taken
