use Rattle.std.proofs.Common.{inl, inr, arith, rules}
use Rattle.serde_json.specs.View.{view}
use Rattle.life_script.proofs.ReadingParts.{no_step}
use Rattle.life_script.proofs.reading.client.step_of.Goals as goal

pub returns-in_default : goal.returns-in_default
returns-in_default c = no_step (view c.args.value.now) c.in_ok-as_array.field-0.now.items (search rules) (inl (omega arith))

pub returns-in_default-2 : goal.returns-in_default-2
returns-in_default-2 c = no_step (view c.args.value.now) c.in_ok-as_array.field-0.now.items (search rules) (inr (omega arith))
