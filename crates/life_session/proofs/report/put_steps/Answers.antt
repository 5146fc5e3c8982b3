use Rattle.std.proofs.Common.{◌≤◌, length, arith, length-set}
use Rattle.life_session.proofs.ActLaws.{counted_next}
use Rattle.life_session.proofs.ReportTexts.{steps_grown, steps_done, told_of, told_within, turn_there, count_there, count_small}
use Rattle.life_session.proofs.report.put_steps.Goals as goal

pub overflow_add-n : goal.overflow_add-n
overflow_add-n c =
    let small : c.index-n.result.now ≤ c.loop-k.k = count_small c.args.told.now c.args.steps.now c.loop-k.k c.index-n.result.now _ c.loop-k.made.items c.requires c.loop-k-test.true
    c.loop-k.invariant.same_length c.loop-k.invariant.counted c.index-n.ensures in omega arith

pub index_mut-requires : goal.index_mut-requires
index_mut-requires c = told_within c.args.told.now c.args.steps.now c.loop-k.k _ _ _ c.requires c.loop-k-test.true c.loop-k.made.ok.0 c.loop-k.invariant.same_length

pub turn_at-requires-clause-within : goal.turn_at-requires-clause-within
turn_at-requires-clause-within c = told_of c.args.told.now c.args.steps.now c.loop-k.k _ c.requires c.loop-k-test.true

pub turn_at-requires-clause-turn : goal.turn_at-requires-clause-turn
turn_at-requires-clause-turn c =
    turn_there c.args.told.now c.args.steps.now c.loop-k.k c.index-n.result.now _ c.requires c.loop-k-test.true
    (count_there c.args.told.now c.args.steps.now c.loop-k.k c.index-n.result.now _ c.loop-k.made.items c.requires c.loop-k-test.true c.loop-k.invariant.same_length
    c.loop-k.invariant.counted c.index-n.ensures)

pub loop-k-preserved : goal.loop-k-preserved
loop-k-preserved c =
    let here = count_there c.args.told.now c.args.steps.now c.loop-k.k c.index-n.result.now _ c.loop-k.made.items c.requires c.loop-k-test.true c.loop-k.invariant.same_length
    c.loop-k.invariant.counted c.index-n.ensures in
    record {
      same_length = simp length-set c.loop-k.invariant.same_length;
      counted = counted_next c.args.steps.now c.loop-k.k (length c.args.told.now) c.index-n.result.now _ c.loop-k.made.items c.loop-k-test.true c.loop-k.invariant.same_length
          c.loop-k.invariant.counted here;
      so_far = steps_grown c.args.told.now c.args.steps.now c.loop-k.k c.index-n.result.now _ c.turn_at.result.now c.loop-k.text c.put_turn.new.text _ c.loop-k-test.true here
          c.turn_at.ensures c.in_ok-put_turn.ensures c.loop-k.invariant.so_far;
    }

pub returns : goal.returns
returns c = steps_done c.args.told.now c.args.steps.now c.loop-k.k c.loop-k.text _ c.loop-k-test.false c.loop-k.invariant.so_far
