use Rattle.life_stack.proofs.StackLaws.Keeping.{drive_keeps}
use Rattle.life_stack.proofs.stack.keeping.DrivenLayersDriven.idles.Goals as goal

pub returns : goal.returns
returns c = drive_keeps.idles
