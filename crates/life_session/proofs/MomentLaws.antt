-- The moments in a request's acts, one act further.
use Rattle.std.proofs.Common.{◌≡◌, ℕ, List, [], ◌∷◌, ◌++◌, Option, Some, None, refl, sym, ap, ◌∙◌, append-nil}
use Rattle.life_script.specs.declared.scenario.Act.TheVariants as act
use Rattle.life_session.specs.Acts.{Own}
use Rattle.life_session.specs.Moments.{after_call, called_at, dropped_at, first_drop, polls, polls_before_drop}

pub none≢some : {A : Type 0} {x : A} → None ≡ Some x → ⊥
none≢some e = cc

-- MORE ACTS, by what came before them.

abbrev or_else : Option ℕ → Option ℕ → Option ℕ
or_else (Some t) o = Some t
or_else None o = o

or_none : (o : Option ℕ) → or_else o None ≡ o
or_none (Some t) = refl
or_none None = refl

called_more : (acts more : List Own) → called_at (acts ++ more) ≡ or_else (called_at acts) (called_at more)
called_more [] more = refl
called_more ((t, act.Call) ∷ acts) more = refl
called_more ((t, act.Poll) ∷ acts) more = called_more acts more
called_more ((t, act.Drop) ∷ acts) more = called_more acts more

abbrev joined : Option ℕ → List Own → List Own → List Own
joined (Some t) after more = after ++ more
joined None after more = after_call more

after_more : (acts more : List Own) → after_call (acts ++ more) ≡ joined (called_at acts) (after_call acts) more
after_more [] more = refl
after_more ((t, act.Call) ∷ acts) more = refl
after_more ((t, act.Poll) ∷ acts) more = after_more acts more
after_more ((t, act.Drop) ∷ acts) more = after_more acts more

first_drop_more : (acts more : List Own) → first_drop (acts ++ more) ≡ or_else (first_drop acts) (first_drop more)
first_drop_more [] more = refl
first_drop_more ((t, act.Call) ∷ acts) more = first_drop_more acts more
first_drop_more ((t, act.Poll) ∷ acts) more = first_drop_more acts more
first_drop_more ((t, act.Drop) ∷ acts) more = refl

abbrev unless_over : Option ℕ → List ℕ → List ℕ
unless_over (Some d) ps = []
unless_over None ps = ps

polls_more : (acts more : List Own) → polls_before_drop (acts ++ more) ≡ polls_before_drop acts ++ unless_over (first_drop acts) (polls_before_drop more)
polls_more [] more = refl
polls_more ((t, act.Call) ∷ acts) more = polls_more acts more
polls_more ((t, act.Poll) ∷ acts) more = ap (λ ps. t ∷ ps) (polls_more acts more)
polls_more ((t, act.Drop) ∷ acts) more = refl

none_over : (o : Option ℕ) → unless_over o [] ≡ []
none_over (Some d) = refl
none_over None = refl

-- NOT CALLED BEFORE.

none_after : (acts : List Own) → called_at acts ≡ None → after_call acts ≡ []
none_after [] e = refl
none_after ((t, act.Call) ∷ acts) e = absurd (none≢some (sym e))
none_after ((t, act.Poll) ∷ acts) e = none_after acts e
none_after ((t, act.Drop) ∷ acts) e = none_after acts e

none_after_one : (x : Own) → after_call (x ∷ []) ≡ []
none_after_one (t, act.Call) = refl
none_after_one (t, act.Poll) = refl
none_after_one (t, act.Drop) = refl

module _ (before : List Own) (uncalled : called_at before ≡ None) where
  pub called_next : (x : Own) → called_at (before ++ x ∷ []) ≡ called_at (x ∷ [])
  called_next x = called_more before (x ∷ []) ∙ ap (λ o. or_else o (called_at (x ∷ []))) uncalled

  -- nothing comes after a Call
  pub none_after_next : (x : Own) → after_call (before ++ x ∷ []) ≡ []
  none_after_next x = after_more before (x ∷ []) ∙ ap (λ o. joined o (after_call before) (x ∷ [])) uncalled ∙ none_after_one x

  pub after_same : (x : Own) → after_call (before ++ x ∷ []) ≡ after_call before
  after_same x = none_after_next x ∙ sym (none_after before uncalled)

-- CALLED BEFORE.

module _ (before : List Own) (t0 : ℕ) (called : called_at before ≡ Some t0) where
  pub called_kept : (x : Own) → called_at (before ++ x ∷ []) ≡ Some t0
  called_kept x = called_more before (x ∷ []) ∙ ap (λ o. or_else o (called_at (x ∷ []))) called

  after_kept : (x : Own) → after_call (before ++ x ∷ []) ≡ after_call before ++ x ∷ []
  after_kept x = after_more before (x ∷ []) ∙ ap (λ o. joined o (after_call before) (x ∷ [])) called

  -- the first Drop stays where there was one, and where this is none
  dropped_next : (x : Own) → dropped_at (before ++ x ∷ []) ≡ or_else (dropped_at before) (first_drop (x ∷ []))
  dropped_next x = ap first_drop (after_kept x) ∙ first_drop_more (after_call before) (x ∷ [])

  pub dropped_kept : (x : Own) (d : ℕ) → dropped_at before ≡ Some d → dropped_at (before ++ x ∷ []) ≡ Some d
  dropped_kept x d e = dropped_next x ∙ ap (λ o. or_else o (first_drop (x ∷ []))) e

  pub dropped_now : (t : ℕ) → dropped_at before ≡ None → dropped_at (before ++ (t, act.Drop) ∷ []) ≡ Some t
  dropped_now t e = dropped_next (t, act.Drop) ∙ ap (λ o. or_else o (Some t)) e

  pub dropped_after_poll : (t : ℕ) → dropped_at (before ++ (t, act.Poll) ∷ []) ≡ dropped_at before
  dropped_after_poll t = dropped_next (t, act.Poll) ∙ or_none (dropped_at before)

  pub dropped_after_call : (t : ℕ) → dropped_at (before ++ (t, act.Call) ∷ []) ≡ dropped_at before
  dropped_after_call t = dropped_next (t, act.Call) ∙ or_none (dropped_at before)

  -- so do the polls before it
  polls_next : (x : Own) → polls (before ++ x ∷ []) ≡ polls before ++ unless_over (dropped_at before) (polls_before_drop (x ∷ []))
  polls_next x = ap polls_before_drop (after_kept x) ∙ polls_more (after_call before) (x ∷ [])

  same_polls : (x : Own) → unless_over (dropped_at before) (polls_before_drop (x ∷ [])) ≡ [] → polls (before ++ x ∷ []) ≡ polls before
  same_polls x e = polls_next x ∙ ap (λ ps. polls before ++ ps) e ∙ append-nil (polls before)

  pub polls_after_poll : (t : ℕ) → dropped_at before ≡ None → polls (before ++ (t, act.Poll) ∷ []) ≡ polls before ++ t ∷ []
  polls_after_poll t e = polls_next (t, act.Poll) ∙ ap (λ o. polls before ++ unless_over o (t ∷ [])) e

  pub polls_after_call : (t : ℕ) → polls (before ++ (t, act.Call) ∷ []) ≡ polls before
  polls_after_call t = same_polls (t, act.Call) (none_over (dropped_at before))

  pub polls_after_drop : (t : ℕ) → polls (before ++ (t, act.Drop) ∷ []) ≡ polls before
  polls_after_drop t = same_polls (t, act.Drop) (none_over (dropped_at before))

  pub polls_after_dropped : (x : Own) (d : ℕ) → dropped_at before ≡ Some d → polls (before ++ x ∷ []) ≡ polls before
  polls_after_dropped x d e = same_polls x (ap (λ o. unless_over o (polls_before_drop (x ∷ []))) e)
