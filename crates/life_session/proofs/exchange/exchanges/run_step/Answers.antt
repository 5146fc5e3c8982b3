use Rattle.std.proofs.Common.{◌≡◌, ℕ, suc, List, [], ◌∷◌, ◌++◌, Some, Ok, Err, Result, IsOk, IfOk, refl, ap, ◌∙◌, subst, sym}
use Rattle.std.proofs.lemmas.Option.{slice_get_read}
use Rattle.std.specs.Prelude.{length, ◌<◌, slice_get, slice_set}
use Rattle.life_core.specs.declared.recorder.NoMemory.{NoMemory}
use Rattle.life_script.specs.Scenario.{ScriptView}
use Rattle.life_script.specs.declared.scenario.Act.TheVariants as act
use Rattle.life_script.specs.declared.scenario.Step.{Step}
use Rattle.life_session.specs.Acts.{NotBefore, Own}
use Rattle.life_session.specs.Exchange.{ExchangeAt, TurnOfServed}
use Rattle.life_session.specs.Session.{IsAtSome, RunsOn, Serves}
use Rattle.life_session.specs.Table.{Meaning}
use Rattle.life_session.specs.declared.exchange.Exchange.{Exchange}
use Rattle.life_session.proofs.ActLaws.{some_is}
use Rattle.life_session.proofs.exchange.exchanges.run_step.Goals as goal

-- an exchange that took a turn in its place runs the step on
runs_on : {K N S R F B : Type 0} (m : Meaning K N S R F B) (stack : S) (x : Step) (scripts : List ScriptView) (old : List (Exchange F B)) (before after : Exchange F B)
    (made : Result Unit NoMemory) (script : ScriptView) → slice_get old x.request ≡ Some before → slice_get scripts x.request ≡ Some script
    → ((limits : N) (acts : List Own) (left : ℕ) → ExchangeAt m (m.key_of limits x.request script) acts (suc left) before → Serves m limits x.request script stack → NotBefore x.at acts
    → IfOk made (λ done. ExchangeAt m (m.key_of limits x.request script) (acts ++ (x.at, x.act) ∷ []) left after))
    → (IsAtSome m before → x.act ≡ act.Drop → IsOk made)
    → RunsOn m stack x scripts old made (slice_set old x.request after)
runs_on m stack x scripts old before after (Ok u) script is there ran drops = (
  before,
  after,
  is,
  refl,
  λ other at. subst (λ (s : ScriptView). (limits : _) (acts : List Own) (left : ℕ) → ExchangeAt m (m.key_of limits x.request s) acts (suc left) before
      → Serves m limits x.request s stack → NotBefore x.at acts → ExchangeAt m (m.key_of limits x.request s) (acts ++ (x.at, x.act) ∷ []) left after) (some_is (sym there ∙ at)) ran,
)
runs_on m stack x scripts old before after (Err e) script is there ran drops =
    λ b at some drop. absurd (cc (drops (subst (IsAtSome m) (some_is (sym at ∙ is)) some) drop))

pub take_turn-requires-clause-fits : goal.take_turn-requires-clause-fits
take_turn-requires-clause-fits g c =
    let i = c.args.step.request in
    c.requires.fits i _ (slice_get_read c.args.scripts.now (length c.args.scripts.now) i c.index-scripts-i.result refl (subst (λ n. i < n) c.requires.scripted c.requires.within) c.index-scripts-i.is)

pub returns-clause-ran : goal.returns-clause-ran
returns-clause-ran g c =
    let old = c.args.exchanges.now.items in
    let i = c.args.step.request in
    let here = slice_get_read old (length old) i c.index_mut.result.now refl c.requires.within c.index_mut.ensures.value in
    let there = slice_get_read c.args.scripts.now (length c.args.scripts.now) i c.index-scripts-i.result refl (subst (λ n. i < n) c.requires.scripted c.requires.within) c.index-scripts-i.is in
    runs_on g.D.Driven.meaning _ c.args.step c.args.scripts.now old c.index_mut.result.now c.take_turn.new.exchange c.take_turn.result _ here there
    (λ limits acts left at serves order. c.take_turn.ensures.ran limits acts left at serves (c.idles.ensures.ready_at_rest _ _ refl) order)
    (λ some drop. c.take_turn.ensures.dropped some.0 some.1 some.2 some.3 drop)
