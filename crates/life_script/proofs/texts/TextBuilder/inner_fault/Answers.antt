use Rattle.std.proofs.Common.{◌≡◌, ◌++◌, ◌∙◌, ap, append_assoc, List, ℕ, codes}
use Rattle.std.proofs.lemmas.Result.{on_ok_weaker}
use Rattle.life_script.specs.Texts.{shown}
use Rattle.life_script.proofs.texts.TextBuilder.inner_fault.Goals as goal

-- two texts that are put one after the other
put_twice : (old middle new a b : List ℕ) → middle ≡ old ++ a → new ≡ middle ++ b → new ≡ old ++ (a ++ b)
put_twice old middle new a b first second = second ∙ (ap (λ (l : List ℕ). l ++ b) first ∙ append_assoc old a b)

pub returns : goal.returns
returns c =
    on_ok_weaker
    c.shown_text.result
    (λ (e : c.shown_text.new.self ≡ c.text.new.self ++ shown c.args.fault.now).
    put_twice c.args.self.now c.text.new.self c.shown_text.new.self (codes "fault inner ") (shown c.args.fault.now) c.in_ok-text.ensures e)
    c.shown_text.ensures
