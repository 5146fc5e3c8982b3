use Rattle.std.proofs.Common.{◌≤◌, ◌-◌, ◌∙◌, length, take, drop, arith}
use Rattle.life_stack.proofs.ProgramLaws.Pieces.{one_more, rest_length, room_past_piece}
use Rattle.life_stack.proofs.program.writing.write_all.Goals as goal

pub loop-at-preserved : goal.loop-at-preserved
loop-at-preserved g c =
    let i = c.loop-at.invariant in
    let e = c.in_ok-at.ensures in
    let more = one_more _ _ _ c.args.bytes.now c.loop-at.at c.in_ok-at.field-0 i.within e.bound i.grew e.bytes in
    record {
      within = more.0;
      grew = more.1;
      later = omega (arith, i.later, e.later);
      reliable = λ room r fits.
          let before = i.reliable room r fits in
          let size = rest_length c.args.bytes.now c.loop-at.at in
          let enough : length (take (length c.args.bytes.now - c.loop-at.at) (drop c.loop-at.at c.args.bytes.now)) ≤ room - c.loop-at.at = omega (arith, size, fits, i.within) in
          let after = e.reliable (room - c.loop-at.at) before.1 enough in
          (after.0 ∙ before.0, room_past_piece (g.K.Sink.reliable c.write.new.self) room c.loop-at.at c.in_ok-at.field-0 after.1);
    }
