use Rattle.std.proofs.Common.{ap, sym, ◌∙◌, drop}
use Rattle.std.proofs.lemmas.List.{drop-drop, drop_all}
use Rattle.life_stack.proofs.service.body.take_next.Goals as goal
use Rattle.life_stack.proofs.service.body.take_next.Goals.{then-at-len, else-at-len}

pub returns-clause-rest : goal.returns-clause-rest
returns-clause-rest g c =
    let items = c.args.items.now.items in
    let at = c.args.next.now in
    elim c.if-at-len.branch [
      | then-at-len w ↦ ap (λ k. drop k items) w.next-is ∙ sym (drop-drop 1 at items)
      | else-at-len w ↦
          let none = drop_all at items (rw c.len.ensures at w.if-at-len.false) in
          ap (λ k. drop k items) w.next-is ∙ none ∙ sym (ap (λ l. drop 1 l) none)
    ]
