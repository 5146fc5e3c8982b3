use Rattle.std.proofs.Common.{◌≡◌, ◌++◌, take, flat_map, codes}
use Rattle.life_script.specs.Texts.{value_text}
use Rattle.life_script.proofs.texts.TextBuilder.values.Given as goal

abbrev pub invariant-loop-value : goal.invariant-loop-value
invariant-loop-value l = l.self ≡ l.initial.self ++ flat_map (λ other. codes ", " ++ value_text other) (take l.value-index l.others)
