use Rattle.life_second_stack.proofs.Keeping.{second_keeps}
use Rattle.life_second_stack.proofs.stack.SecondLayersDriven.idles.Goals as goal

pub returns : goal.returns
returns c = second_keeps.idles
