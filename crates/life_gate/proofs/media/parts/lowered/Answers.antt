use Rattle.life_gate.proofs.MediaTypes.{token_utf8}
use Rattle.life_gate.proofs.media.parts.lowered.Goals as goal

pub unreachable-requires : goal.unreachable-requires
unreachable-requires c = c.in-Err.ensures.cases.0 (token_utf8 c.args.token.now c.requires)
