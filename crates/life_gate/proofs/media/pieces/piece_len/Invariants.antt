use Rattle.std.proofs.Common.{◌≡◌, ◌+◌, drop}
use Rattle.life_gate.specs.declared.media.pieces.Place.TheVariants.{Outside}
use Rattle.life_gate.specs.Scanning.{piece_len}
use Rattle.life_gate.proofs.media.pieces.piece_len.Given as goal

abbrev pub invariant-loop-i : goal.invariant-loop-i
invariant-loop-i l = l.i + piece_len l.place (drop l.i l.text) ≡ piece_len Outside l.text
