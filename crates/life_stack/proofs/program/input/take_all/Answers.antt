use Rattle.std.proofs.Common.{◌≡◌, ℕ, ◌≤◌, ◌+◌, ◌++◌, List, length, take, vec_len, arith, length-append}
use Rattle.std.proofs.lemmas.List.{length-take-le}
use Rattle.std.proofs.lemmas.Grind.{common_steps}
use Rattle.life_stack.specs.Program.Input.{most_bytes}
use Rattle.life_stack.proofs.ProgramLaws.Pieces.{taken_more}
use Rattle.life_stack.proofs.program.input.take_all.Goals as goal

pub returns-then-len-count-gt-MOST-clause-took : goal.returns-then-len-count-gt-MOST-clause-took
returns-then-len-count-gt-MOST-clause-took g c =
    let i = c.pieces.invariant in
    let e = c.in-Ok.ensures in
    let over = c.if-len-count-gt-MOST.true in
    let piece = take c.in-Ok.count c.read.new.buf in
    let size : length (c.pieces.bytes.items ++ piece) ≡ length c.pieces.bytes.items + length piece = length-append c.pieces.bytes.items piece in
    let buf = c.read.auto.buf in
    let most = length-take-le c.min-most.result c.pieces.piece in
    let items : length c.pieces.bytes.items ≡ vec_len c.pieces.bytes = grind (arith, common_steps) in
    taken_more (λ (l : List ℕ). length l ≡ most_bytes + 1) _ _ _ _ _ i.took e.bytes.0 (omega (arith, size, items, over, e.bound, buf, most, i.within, c.len.ensures, c.min-most.ensures, c.len-in-pieces.ensures))

pub returns-then-is_err-clause-took : goal.returns-then-is_err-clause-took
returns-then-is_err-clause-took g c =
    let i = c.pieces.invariant in
    let e = c.in-Ok.ensures in
    let over = c.if-len-count-gt-MOST.false in
    let piece = take c.in-Ok.count c.read.new.buf in
    let size = length-append c.pieces.bytes.items piece in
    let items : length c.pieces.bytes.items ≡ vec_len c.pieces.bytes = grind (arith, common_steps) in
    taken_more (λ (l : List ℕ). length l ≤ most_bytes) _ _ _ _ _ i.took e.bytes.0 (omega (arith, size, items, over, e.bound.1, c.len-in-pieces.ensures))
