use Rattle.std.proofs.Common.{◌≡◌, length, arith, ap, sym}
use Rattle.std.proofs.lemmas.Bool.{eqb-true}
use Rattle.http_header.specs.Token.{is_token_byte}
use Rattle.life_gate.specs.MediaType.{is_blank}
use Rattle.life_gate.proofs.MediaTypes.{split_from, kind_is}
use Rattle.life_gate.proofs.media.parts.kind_part.Goals as goal

pub returns-then-is_empty : goal.returns-then-is_empty
returns-then-is_empty c = λ kind rest h.
    let blanks = split_from is_blank c.args.text.now c.split_at.result.0.now c.split_at.result.1.now c.blank_len.result c.blank_len.ensures c.split_at.ensures.front c.split_at.ensures.back in
    let token = split_from is_token_byte c.split_at.result.1.now c.split_at-2.result.0.now c.split_at-2.result.1.now c.token_len.result c.token_len.ensures c.split_at-2.ensures.front c.split_at-2.ensures.back in
    let same = kind_is _ _ _ _ _ kind rest blanks token h in
    let empty : length c.split_at-2.result.0.now ≡ 0 = eqb-true _ 0 (sym c.if-is_empty.ensures) in
    let some = h.token.0 in
    omega (arith, ap length same.0)

pub returns-in-None : goal.returns-in-None
returns-in-None c = λ kind rest h.
    let blanks = split_from is_blank c.args.text.now c.split_at.result.0.now c.split_at.result.1.now c.blank_len.result c.blank_len.ensures c.split_at.ensures.front c.split_at.ensures.back in
    let token = split_from is_token_byte c.split_at.result.1.now c.split_at-2.result.0.now c.split_at-2.result.1.now c.token_len.result c.token_len.ensures c.split_at-2.ensures.front c.split_at-2.ensures.back in
    c.in-None.ensures rest (kind_is _ _ _ _ _ kind rest blanks token h).1
