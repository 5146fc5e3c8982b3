use Rattle.std.proofs.Common.{sym, ◌∙◌, true≢false}
use Rattle.life_gate.specs.Accepting.{accepted, Offers}
use Rattle.life_gate.proofs.MediaAccepted.{any_step}
use Rattle.life_gate.proofs.media.accepting.some_offers.Goals as goal

pub loop-value-preserved : goal.loop-value-preserved
loop-value-preserved c =
    any_step (Offers c.args.wanted.now) c.in-Some.value.now (accepted c.args.headers.now) c.loop-value.value-iterator c.next.new.self
    c.loop-value.invariant c.in-Some.ensures.steps (λ o. true≢false (sym (c.in_ok-offers.ensures.1 o) ∙ c.if-branch.false))
