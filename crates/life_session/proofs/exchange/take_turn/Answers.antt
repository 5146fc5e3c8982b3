use Rattle.std.proofs.Common.{◌++◌, ◌∷◌, [], ap, ◌∙◌, subst, sym, arith}
use Rattle.life_session.specs.Acts.{Own}
use Rattle.life_session.specs.Exchange.{HasRoom, LiveAt}
use Rattle.life_session.proofs.ReportLaws.{turns_more}
use Rattle.life_session.proofs.exchange.take_turn.Goals as goal

pub returns-in-Err-clause-dropped : goal.returns-in-Err-clause-dropped
returns-in-Err-clause-dropped g c = λ k acts left at drop.
    let was = sym c.replace-live.ensures.value in
    let no = c.in-Err.ensures.dropped k acts (subst (LiveAt g.S.Driven.meaning k acts) was at.live) drop (subst (λ l. HasRoom l c.args.exchange.now.log.spare) was at.room) in absurd (cc no)

pub returns-in-Ok-make_room-clause-ran : goal.returns-in-Ok-make_room-clause-ran
returns-in-Ok-make_room-clause-ran g c = λ limits acts left e serves ready order.
    let k = g.S.Driven.meaning.key_of limits c.args.step.request c.args.script.now in
    let s = c.in-Ok.ensures.shown limits acts (subst (LiveAt g.S.Driven.meaning k acts) (sym c.replace-live.ensures.value) e.live) serves ready order in
    let table = g.S.Driven.meaning.table k in
    let x : Own = (c.args.step.at, c.args.step.act) in
    let spare = c.put_back.ensures.spare in
    let room = e.turns_left in record {
      live = subst (LiveAt g.S.Driven.meaning k (acts ++ x ∷ [])) (sym c.settle.ensures) s.live;
      room = subst (λ l. HasRoom l c.make_room.new.log.spare) (sym c.settle.ensures) c.in-Ok-make_room.ensures.room;
      turns_are = turns_more table acts x _ _ _ e.turns_are
          (ap (λ es. record { answer = c.in-Ok.acted.1; events = es }) (c.take-events.ensures.taken ∙ s.log ∙ ap (λ l. l ++ table.events acts x) e.log_is)
          ∙ ap (λ y. record { answer = y; events = table.events acts x }) s.answer_is)
          c.put_back.ensures.items;
      log_is = c.make_room.ensures.items ∙ c.take-events.ensures.left;
      turns_left = omega (arith, spare, room);
    }
