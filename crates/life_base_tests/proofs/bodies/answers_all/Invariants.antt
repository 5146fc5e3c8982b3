use Rattle.life_base_tests.proofs.bodies.answers_all.Given as goal

-- the body may be polled
abbrev pub invariant-loop-want : goal.invariant-loop-want
invariant-loop-want g l = g.B.Spend.may l.body
