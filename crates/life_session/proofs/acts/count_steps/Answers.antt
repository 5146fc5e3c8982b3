use Rattle.std.proofs.Common.{arith}
use Rattle.std.proofs.lemmas.Option.{slice_get-get_or}
use Rattle.life_session.proofs.SessionLaws.{counts_next}
use Rattle.life_session.proofs.acts.count_steps.Goals as goal

pub overflow_add-index_mut : goal.overflow_add-index_mut
overflow_add-index_mut c =
    let k = c.loop-step.step-index in
    let within = c.requires k _ (slice_get-get_or c.args.steps.now k _ c.loop-step-test.true) in
    let small = (counts_next c.args.requests k c.index_mut.result.now c.args.steps.now _ c.loop-step.counts.items c.loop-step-test.true within c.loop-step.invariant c.index_mut.ensures.value).0 in
    omega (arith, small, c.loop-step-test.true)

pub loop-step-preserved : goal.loop-step-preserved
loop-step-preserved c =
    let k = c.loop-step.step-index in
    let within = c.requires k _ (slice_get-get_or c.args.steps.now k _ c.loop-step-test.true) in
    (counts_next c.args.requests k c.index_mut.result.now c.args.steps.now _ c.loop-step.counts.items c.loop-step-test.true within c.loop-step.invariant c.index_mut.ensures.value).1
