use Rattle.std.proofs.Common.{◌≡◌, length, arith, ap, true≢false, sym, ◌∙◌}
use Rattle.std.proofs.lemmas.Bool.{eqb-true}
use Rattle.http_header.specs.Token.{is_token_byte}
use Rattle.life_gate.specs.MediaType.{is_blank}
use Rattle.life_gate.proofs.MediaTypes.{split_from, sub_is}
use Rattle.life_gate.proofs.media.parts.sub_part.Goals.{else-not-is_empty-via-then-not-is_empty+else-are_parameters, else-not-is_empty-via-else-not-is_empty}
use Rattle.life_gate.proofs.media.parts.sub_part.Goals as goal

pub returns : goal.returns
returns c = λ sub h.
    let token = split_from is_token_byte c.args.text.now c.split_at.result.0.now c.split_at.result.1.now c.token_len.result c.token_len.ensures c.split_at.ensures.front c.split_at.ensures.back in
    let blanks = split_from is_blank c.split_at.result.1.now c.split_at-2.result.0.now c.split_at-2.result.1.now c.blank_len.result c.blank_len.ensures c.split_at-2.ensures.front c.split_at-2.ensures.back in
    let same = sub_is _ _ _ _ _ sub token blanks h in
    elim c.else-not-is_empty.branch [
      | else-not-is_empty-via-then-not-is_empty+else-are_parameters w ↦ true≢false (sym (w.are_parameters.ensures.1 same.1) ∙ w.if-are_parameters.false)
      | else-not-is_empty-via-else-not-is_empty w ↦
          let empty : length c.split_at.result.0.now ≡ 0 = eqb-true _ 0 (sym w.if-not-is_empty.ensures) in
          let some = h.token.0 in
          omega (arith, ap length same.0)
    ]
