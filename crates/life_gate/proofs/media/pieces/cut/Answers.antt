use Rattle.std.proofs.Common.{arith}
use Rattle.std.proofs.lemmas.List.{take_rest}
use Rattle.life_gate.proofs.MediaLists.{len_within, last_found, piece_found}
use Rattle.life_gate.proofs.media.pieces.cut.Goals as goal

pub split_at-requires : goal.split_at-requires
split_at-requires c = rw c.piece_len.ensures (len_within c.args.text.now)

pub returns-in-empty : goal.returns-in-empty
returns-in-empty c =
    last_found c.args.text.now c.piece_len.result c.piece_len.ensures (rw (← c.split_at.ensures.back) (omega arith))

pub returns-in-len1-up : goal.returns-in-len1-up
returns-in-len1-up c =
    let found = piece_found c.args.text.now c.piece_len.result c.piece_len.ensures (rw (← c.split_at.ensures.back) (omega arith)) in
    rw (take_rest c.split_at.result.1.now 1, c.split_at.ensures.front, c.split_at.ensures.back) found
