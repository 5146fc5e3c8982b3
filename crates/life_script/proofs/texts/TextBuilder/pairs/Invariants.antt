use Rattle.std.proofs.Common.{◌≡◌, ◌++◌, take, flat_map, codes}
use Rattle.life_script.specs.Texts.{pair_text}
use Rattle.life_script.proofs.texts.TextBuilder.pairs.Given as goal

abbrev pub invariant-loop-pair : goal.invariant-loop-pair
invariant-loop-pair l = l.self ≡ l.initial.self ++ flat_map (λ other. codes " " ++ pair_text other) (take l.pair-index l.others)
