use Rattle.std.proofs.Common.{◌≡◌, map, take}
use Rattle.serde_json.specs.View.{view}
use Rattle.life_script.specs.Reading.{all_of, Good}
use Rattle.life_script.proofs.reading.part.read_all.Given as goal

abbrev pub invariant-loop-value : goal.invariant-loop-value
invariant-loop-value g l = all_of g.T.Part.reads (map view (take l.value-index l.values)) ≡ Good l.list.items
