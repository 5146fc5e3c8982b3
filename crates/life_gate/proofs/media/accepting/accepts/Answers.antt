use Rattle.std.proofs.Common.{refl, inl}
use Rattle.life_gate.specs.Accepting.{accepted}
use Rattle.life_gate.proofs.MediaAccepted.{no_first}
use Rattle.life_gate.proofs.media.accepting.accepts.Goals as goal

pub returns : goal.returns
returns c = (λ _. inl (no_first (accepted c.args.headers.now) c.in-None.ensures.value), λ _. refl)
