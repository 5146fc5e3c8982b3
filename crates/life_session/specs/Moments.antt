-- The moments in a request's own acts.
use Rattle.std.specs.Prelude.{ℕ, List, [], ◌∷◌, Option, Some, None}
use Rattle.life_script.specs.declared.scenario.Act.TheVariants as act
use Rattle.life_session.specs.Acts.{Own}

-- the time of the first Call
abbrev pub called_at : List Own → Option ℕ
called_at [] = None
called_at ((t, act.Call) ∷ acts) = Some t
called_at ((t, act.Poll) ∷ acts) = called_at acts
called_at ((t, act.Drop) ∷ acts) = called_at acts

-- what follows the first Call
abbrev pub after_call : List Own → List Own
after_call [] = []
after_call ((t, act.Call) ∷ acts) = acts
after_call ((t, act.Poll) ∷ acts) = after_call acts
after_call ((t, act.Drop) ∷ acts) = after_call acts

-- the times of the polls before the first Drop
abbrev pub polls_before_drop : List Own → List ℕ
polls_before_drop [] = []
polls_before_drop ((t, act.Call) ∷ acts) = polls_before_drop acts
polls_before_drop ((t, act.Poll) ∷ acts) = t ∷ polls_before_drop acts
polls_before_drop ((t, act.Drop) ∷ acts) = []

-- the time of the first Drop
abbrev pub first_drop : List Own → Option ℕ
first_drop [] = None
first_drop ((t, act.Call) ∷ acts) = first_drop acts
first_drop ((t, act.Poll) ∷ acts) = first_drop acts
first_drop ((t, act.Drop) ∷ acts) = Some t

-- the times of the polls after the first Call and before the first Drop after it
abbrev pub polls : List Own → List ℕ
polls acts = polls_before_drop (after_call acts)

-- the time of the first Drop after the first Call
abbrev pub dropped_at : List Own → Option ℕ
dropped_at acts = first_drop (after_call acts)

-- when what was called is abandoned: at the first Drop after the Call, else at the end
abbrev pub drop_time : Option ℕ → ℕ → ℕ
drop_time None end = end
drop_time (Some d) end = d
