use Rattle.std.proofs.Common.{rules, map}
use Rattle.serde_json.specs.View.{view}
use Rattle.life_script.proofs.ReadingParts.{list-items}
use Rattle.life_script.proofs.reading.fields.items_in.Goals as goal

pub returns : goal.returns
returns c = let e = list-items (map view c.as_slice.result.now) in search rules
