-- What is told of a request grows turn by turn, and the report of a valid scenario fits its steps and tells each request by its own table.
use Rattle.std.proofs.Common.{◌≡◌, ℕ, zero, suc, ◌+◌, List, [], ◌∷◌, ◌++◌, length, Bool, true, false, cond, Option, Some, refl, sym, ap, ◌∙◌, arith, append-nil, append_assoc}
use Rattle.std.proofs.lemmas.List.Sums.{sum_by-cons}
use Rattle.std.specs.Prelude.{slice_get, if◌then◌else◌, ◌==◌}
use Rattle.life_script.proofs.CheckLemmas.{valid_requests}
use Rattle.life_script.specs.Scenario.{ScriptView, ScenarioView}
use Rattle.life_script.specs.Told.{ToldView, TurnView}
use Rattle.life_script.specs.Valid.{IsValid}
use Rattle.life_script.specs.declared.scenario.Step.{Step}
use Rattle.life_session.specs.Acts.{Own, own, steps_of}
use Rattle.life_session.specs.Report.{Fits, ReportView, report_by, stories}
use Rattle.life_session.specs.Table.{Meaning, Table, story_by, tables, turns_by, turn_by}
use Rattle.life_core.specs.declared.event.Event.{Event}

-- ONE TURN MORE.

turns_push : (table : Table) (before acts : List Own) (x : Own) → turns_by table before (acts ++ x ∷ []) ≡ turns_by table before acts ++ turn_by table (before ++ acts) x ∷ []
turns_push table before [] x = ap (λ b. turn_by table b x ∷ []) (sym (append-nil before))
turns_push table before (y ∷ acts) x = ap (λ l. turn_by table before y ∷ l)
    (turns_push table (before ++ y ∷ []) acts x ∙ ap (λ b. turns_by table (before ++ y ∷ []) acts ++ turn_by table b x ∷ []) (append_assoc before (y ∷ []) acts))

-- the turns with one more are those of the longer list
pub turns_more : (table : Table) (acts : List Own) (x : Own) (t : TurnView) (turns after : List TurnView) → turns ≡ turns_by table [] acts → t ≡ turn_by table acts x →
    after ≡ turns ++ t ∷ [] → after ≡ turns_by table [] (acts ++ x ∷ [])
turns_more table acts x t turns after are is e =
    e ∙ ap (λ g. g ++ t ∷ []) are ∙ ap (λ a. turns_by table [] acts ++ a ∷ []) is ∙ sym (turns_push table [] acts x)

-- what is told after all steps and at the end
pub told_is : (table : Table) (acts : List Own) (end : ℕ) (turns : List TurnView) (was now events : List Event) → turns ≡ turns_by table [] acts → was ≡ [] →
    now ≡ was ++ table.at_end acts end → events ≡ now → record { turns = turns; at_end = events } ≡ story_by table acts end
told_is table acts end turns was now events are empty e f =
    ap (λ t. record { turns = t; at_end = events }) are
    ∙ ap (λ es. record { turns = turns_by table [] acts; at_end = es }) (f ∙ e ∙ ap (λ es. es ++ table.at_end acts end) empty)

-- THE REPORT.

-- each act has a turn
turns_count : (table : Table) (before acts : List Own) → length (turns_by table before acts) ≡ length acts
turns_count table before [] = refl
turns_count table before (x ∷ acts) = ap suc (turns_count table (before ++ x ∷ []) acts)

-- a request has an act for each of its steps
own_count : (steps : List Step) (i : ℕ) → length (own steps i) ≡ steps_of i steps
own_count [] i = refl
own_count (x ∷ steps) i = go (x.request == i) (own_count steps i) ∙ sym (sum_by-cons (λ (y : Step). cond (y.request == i) 1 0) x steps)
  where
    go : (b : Bool) → length (own steps i) ≡ steps_of i steps → length (if b then (x.at, x.act) ∷ own steps i else own steps i) ≡ cond b 1 0 + steps_of i steps
    go true e = omega (arith, e)
    go false e = omega (arith, e)

module _ (by : ℕ → ScriptView → Table) where
  pub stories_count : (scripts : List ScriptView) (i : ℕ) (steps : List Step) (end : ℕ) → length (stories by scripts i steps end) ≡ length scripts
  stories_count [] i steps end = refl
  stories_count (script ∷ scripts) i steps end = ap suc (stories_count scripts (suc i) steps end)

  -- each request is told by its own steps
  story_at : (scripts : List ScriptView) (i j : ℕ) (steps : List Step) (end : ℕ) (script : ScriptView) → slice_get scripts j ≡ Some script →
      slice_get (stories by scripts i steps end) j ≡ Some (story_by (by (i + j) script) (own steps (i + j)) end)
  story_at [] i j steps end script is = absurd (cc)
  story_at (s ∷ scripts) i zero steps end script is =
      let same : s ≡ script = cc in let here : i + 0 ≡ i = omega arith in
      ap (λ (z : ScriptView). Some (story_by (by i z) (own steps i) end)) same ∙ ap (λ (n : ℕ). Some (story_by (by n script) (own steps n) end)) (sym here)
  story_at (s ∷ scripts) i (suc j) steps end script is =
      let next : suc i + j ≡ i + suc j = omega arith in
      story_at scripts (suc i) j steps end script is ∙ ap (λ (n : ℕ). Some (story_by (by n script) (own steps n) end)) next

  -- a script of a number, where one is told of
  script_at : (scripts : List ScriptView) (i j : ℕ) (steps : List Step) (end : ℕ) (t : ToldView) → slice_get (stories by scripts i steps end) j ≡ Some t →
      (script : ScriptView) × (slice_get scripts j ≡ Some script)
  script_at [] i j steps end t is = absurd (cc)
  script_at (s ∷ scripts) i zero steps end t is = (s, refl)
  script_at (s ∷ scripts) i (suc j) steps end t is = script_at scripts (suc i) j steps end t is

  told_one : (a b : ToldView) (o : Option ToldView) → o ≡ Some a → o ≡ Some b → a ≡ b
  told_one a b o p q = cc

  -- the same from the first request on
  pub story_of : (s : ScenarioView) (i : ℕ) (script : ScriptView) → slice_get s.requests i ≡ Some script →
      slice_get (report_by by s).told i ≡ Some (story_by (by i script) (own s.steps i) s.end)
  story_of s i script is = let here : 0 + i ≡ i = omega arith in story_at s.requests 0 i s.steps s.end script is ∙ ap (λ (n : ℕ). Some (story_by (by n script) (own s.steps n) s.end)) here

  -- what is told of a request is its story
  pub told_story : (s : ScenarioView) (i : ℕ) (script : ScriptView) (t : ToldView) → slice_get s.requests i ≡ Some script → slice_get (report_by by s).told i ≡ Some t →
      t ≡ story_by (by i script) (own s.steps i) s.end
  told_story s i script t here is = told_one t _ _ is (story_of s i script here)

  pub report_fits : (s : ScenarioView) → IsValid s → Fits (report_by by s).told s.steps
  report_fits s valid = record {
    requests = λ k x is. let within = valid_requests s valid k x is in let count = stories_count s.requests 0 s.steps s.end in omega arith;
    turns = λ i t is.
        let found = script_at s.requests 0 i s.steps s.end t is in
        let same = told_one _ t _ (story_of s i found.0 found.1) is in
        ap (λ (x : ToldView). length x.turns) (sym same) ∙ turns_count (by i found.0) [] (own s.steps i) ∙ own_count s.steps i;
  }

-- the report of equal limits and scenarios
pub same_report : {K N S R F B : Type 0} (m : Meaning K N S R F B) (limits other : N) (s t : ScenarioView) (r : ReportView) → r ≡ report_by (tables m other) t → other ≡ limits → t ≡ s → r ≡ report_by (tables m limits) s
same_report m limits other s t r is l q = is ∙ ap (λ x. report_by (tables m x) t) l ∙ ap (λ x. report_by (tables m limits) x) q
