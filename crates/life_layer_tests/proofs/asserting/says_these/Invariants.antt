use Rattle.life_layer_tests.proofs.asserting.says_these.Given as goal

abbrev pub invariant-loop-now : goal.invariant-loop-now
invariant-loop-now g l = g.B.Spend.may l.body
