-- The acts of each request among the steps.
use Rattle.std.specs.Prelude.{◌≡◌, ℕ, ◌<◌, ◌≤◌, ◌==◌, List, [], ◌∷◌, length, get_or, count_by, if◌then◌else◌, ⊤}
use Rattle.life_script.specs.declared.scenario.Act.{Act}
use Rattle.life_script.specs.declared.scenario.Step.{Step}

-- an act of one request, with its time
abbrev pub Own : Type 0
Own = ℕ × Act

-- the acts of the steps of request i, in order
abbrev pub own : List Step → ℕ → List Own
own [] i = []
own (s ∷ steps) i = if s.request == i then (s.at, s.act) ∷ own steps i else own steps i

-- no act is after this time
abbrev pub NotBefore : ℕ → List Own → Type 0
NotBefore t [] = ⊤
NotBefore t (x ∷ acts) = (x.0 ≤ t) × NotBefore t acts

-- how many of the steps are of a request
abbrev pub steps_of : ℕ → List Step → ℕ
steps_of i steps = count_by (λ x. x.request == i) steps

-- how many steps are of each of the requests
pub record Counts (requests : ℕ) (steps : List Step) (counts : List ℕ) : Type 0 where
  pub each_counted : length counts ≡ requests
  pub counted : (i : ℕ) → i < requests → get_or counts i 0 ≡ steps_of i steps
