use Rattle.std.proofs.Common.{◌∙◌, arith, sym}
use Rattle.life_script.proofs.CheckLemmas.{passed, stopped_back, stopped_request, ended_back, ended_good}
use Rattle.life_script.proofs.checks.check_steps.Goals as goal

pub returns-then-is_back : goal.returns-then-is_back
returns-then-is_back c =
    stopped_back c.args.requests c.args.steps.now c.loop-k.k _ c.loop-k.earlier c.args.end _ c.loop-k-test.true (sym c.is_back.ensures ∙ c.if-is_back.true) c.loop-k.invariant

pub returns-then-step-requests : goal.returns-then-step-requests
returns-then-step-requests c =
    stopped_request c.args.requests c.args.steps.now c.loop-k.k _ c.loop-k.earlier c.args.end _ c.loop-k-test.true (sym c.is_back.ensures ∙ c.if-is_back.false) (λ below. omega (arith, below, c.if-step-requests.true)) c.loop-k.invariant

pub loop-k-preserved : goal.loop-k-preserved
loop-k-preserved c =
    passed c.args.requests c.args.steps.now c.loop-k.k _ c.loop-k.earlier c.args.end _ c.loop-k-test.true (sym c.is_back.ensures ∙ c.if-is_back.false) c.if-step-requests.false c.loop-k.invariant

pub returns-then-is_back-2 : goal.returns-then-is_back-2
returns-then-is_back-2 c =
    ended_back c.args.requests c.args.steps.now c.loop-k.k c.loop-k.earlier c.args.end _ c.loop-k.auto.k-end c.loop-k-test.false (sym c.is_back-2.ensures ∙ c.if-is_back-2.true) c.loop-k.invariant

pub returns : goal.returns
returns c =
    ended_good c.args.requests c.args.steps.now c.loop-k.k c.loop-k.earlier c.args.end _ c.loop-k-test.false (sym c.is_back-2.ensures ∙ c.if-is_back-2.false) c.loop-k.invariant
