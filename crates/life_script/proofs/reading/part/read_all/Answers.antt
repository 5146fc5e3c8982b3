use Rattle.std.proofs.Common.{◌≡◌, [], ◌∷◌, ◌++◌, rules}
use Rattle.life_script.specs.Reading.{all_of}
use Rattle.life_script.proofs.ReadingParts.{all_of-bad, next_good}
use Rattle.life_script.proofs.reading.part.read_all.Goals as goal

pub loop-value-init : goal.loop-value-init
unfolding all_of
loop-value-init g c = search rules

pub returns-in_err-part-clause-bad : goal.returns-in_err-part-clause-bad
returns-in_err-part-clause-bad g c = λ e. all_of-bad g.T.Part.reads c.args.values.now c.loop-value.value-index c.value-item.result c.loop-value-test.true c.value-item.is (c.in_err-part.ensures.bad (search rules))

pub loop-value-preserved : goal.loop-value-preserved
loop-value-preserved g c =
    let next = next_good g.T.Part.reads c.args.values.now c.loop-value.value-index c.value-item.result c.loop-value.list.items c.in_ok-part.part c.loop-value-test.true c.value-item.is c.loop-value.invariant c.in_ok-part.ensures.ok in
    let pushed : c.loop-value.list.items ++ c.in_ok-part.part ∷ [] ≡ c.push.new.self.items = search rules in
    cc
