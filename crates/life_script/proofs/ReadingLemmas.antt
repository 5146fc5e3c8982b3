-- What bytes say is one thing.
use Rattle.std.proofs.Common.{◌≡◌, ℕ, List, Option, Some, None, IsSomeAnd, Ok, Err, Result, IfOk, refl, ap₂, ◌∙◌, inl, inr, sym, subst}
use Rattle.serde_json.specs.Data.{Data}
use Rattle.serde_json.specs.Read.{read as read_text}
use Rattle.life_script.specs.declared.error.ReadError.{ReadError}
use Rattle.life_script.specs.declared.error.ReadError.TheVariants.{BadScenario, NoMemory}
use Rattle.life_script.specs.declared.scenario.Limits.{Limits}
use Rattle.life_script.specs.declared.scenario.Step.{Step}
use Rattle.life_script.specs.Scenario.{ScriptView, ScenarioView}
use Rattle.life_script.specs.Reading.{AreScripts, HasScenario, IsScenario, Reads, IsBadScenario, OrNoMemory}
use Rattle.life_script.proofs.Requests.{same_some, same_good, same_scripts}

same_requests : (found : Option (List Data)) (ss ts : List ScriptView) → IsSomeAnd found (λ ds. AreScripts ds ss) → IsSomeAnd found (λ ds. AreScripts ds ts) → ss ≡ ts
same_requests None ss ts here there = absurd here
same_requests (Some ds) ss ts here there = same_scripts ds ss ts here there

abbrev scenario_of : List ScriptView → List Step → ℕ → ScenarioView
scenario_of requests steps end = record { requests = requests; steps = steps; end = end }

same_scenario : (d : Data) (s t : ScenarioView) → HasScenario d s → HasScenario d t → s ≡ t
same_scenario d s t here there =
    let requests : s.requests ≡ t.requests = same_requests _ s.requests t.requests here.0 there.0 in
    let steps : s.steps ≡ t.steps = same_good _ s.steps t.steps here.1 there.1 in
    let end : s.end ≡ t.end = same_some _ s.end t.end here.2 there.2 in
    ap₂ (λ requests steps. scenario_of requests steps s.end) requests steps ∙ ap₂ (scenario_of t.requests) refl end

-- bytes say one scenario at most
pub reads_one : (bytes : List ℕ) (l m : Limits) (s t : ScenarioView) → Reads bytes l s → Reads bytes m t → (l ≡ m) × (s ≡ t)
reads_one bytes l m s t (utf8, (d, text, here)) (also, (e, other, there)) =
    let moved = subst (λ (d : Data). IsScenario d m t) (sym (same_some (read_text bytes) d e text other)) there in
    (same_some _ l m here.1 moved.1, same_scenario d s t here.2 moved.2)

-- each answer but want of memory comes by its cause alone, so each cause has its answer
module _ (bytes : List ℕ) where
  pub whole_read : (answer : Result (Limits × ScenarioView) ReadError) → IfOk answer (λ read. Reads bytes read.0 read.1) → (answer ≡ Err BadScenario → IsBadScenario bytes) →
      (limits : Limits) (scenario : ScenarioView) → Reads bytes limits scenario → OrNoMemory answer (Ok (limits, scenario))
  whole_read (Ok (l, s)) read bad limits scenario says =
      let same = reads_one bytes l limits s scenario read says in inl (ap₂ (λ l s. Ok (l, s)) same.0 same.1)
  whole_read (Err BadScenario) read bad limits scenario says = absurd (bad refl limits scenario says)
  whole_read (Err NoMemory) read bad limits scenario says = inr refl

  pub bad_read : (answer : Result (Limits × ScenarioView) ReadError) → IfOk answer (λ read. Reads bytes read.0 read.1) → IsBadScenario bytes → OrNoMemory answer (Err BadScenario)
  bad_read (Ok (l, s)) read is = absurd (is l s read)
  bad_read (Err BadScenario) read is = inl refl
  bad_read (Err NoMemory) read is = inr refl
