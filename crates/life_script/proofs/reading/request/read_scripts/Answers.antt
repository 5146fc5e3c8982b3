use Rattle.std.proofs.Common.{rules}
use Rattle.life_script.specs.Reading.{AreScripts}
use Rattle.life_script.proofs.Requests.{no_scripts, scripts_next}
use Rattle.life_script.proofs.reading.request.read_scripts.Goals as goal

pub loop-value-init : goal.loop-value-init
unfolding AreScripts
loop-value-init c = search rules

pub returns-in_err-script-clause-bad : goal.returns-in_err-script-clause-bad
returns-in_err-script-clause-bad c = λ e. no_scripts c.args.values.now c.loop-value.value-index c.value-item.result c.loop-value-test.true c.value-item.is (c.in_err-script.ensures.bad (search rules))

pub loop-value-preserved : goal.loop-value-preserved
loop-value-preserved c =
    let next = scripts_next c.args.values.now c.loop-value.value-index c.value-item.result c.loop-value.scripts.items c.in_ok-script.script c.loop-value-test.true c.value-item.is c.loop-value.invariant c.in_ok-script.ensures.ok in
    search (rules, next)
