use Rattle.std.proofs.Common.{◌≡◌, ◌++◌, take, flat_map, codes}
use Rattle.life_script.specs.Texts.{entry_text}
use Rattle.life_script.proofs.texts.TextBuilder.entries.Given as goal

abbrev pub invariant-loop-field : goal.invariant-loop-field
invariant-loop-field l = l.self ≡ l.initial.self ++ flat_map (λ other. codes ", " ++ entry_text other) (take l.field-index l.others)
