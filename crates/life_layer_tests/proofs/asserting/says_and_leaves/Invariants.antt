use Rattle.life_layer_tests.proofs.asserting.says_and_leaves.Given as goal

abbrev pub invariant-loop-at : goal.invariant-loop-at
invariant-loop-at g l = g.B.Spend.may l.body
