use Rattle.std.proofs.Common.{map, take}
use Rattle.serde_json.specs.View.{view}
use Rattle.life_script.specs.Reading.{AreScripts}
use Rattle.life_script.proofs.reading.request.read_scripts.Given as goal

abbrev pub invariant-loop-value : goal.invariant-loop-value
invariant-loop-value l = AreScripts (map view (take l.value-index l.values)) l.scripts.items
