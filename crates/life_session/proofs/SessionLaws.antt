-- A session, step by step: what its type keeps from its begin to its report.
use Rattle.std.proofs.Common.{◌≡◌, ◌≢◌, ℕ, zero, suc, ◌+◌, ◌<◌, ◌≤◌, List, [], ◌∷◌, length, take, drop, Bool, true, false, cond, Some, Ok, get_or, inl, inr, refl, sym, ap, ◌∙◌, subst, arith, add-one, take_all}
use Rattle.std.proofs.lemmas.Bool.{eq-eqb, ne_eqb}
use Rattle.std.proofs.lemmas.Bool.Decides.{eqb_tells}
use Rattle.std.proofs.lemmas.List.{length-take-le}
use Rattle.std.proofs.lemmas.List.Sums.{count_by-le-length, sum_by-cons}
use Rattle.std.proofs.lemmas.Option.{slice_get_within}
use Rattle.std.proofs.lemmas.Grind.{get_or_default_zero}
use Rattle.std.proofs.Math.ListN.{set}
use Rattle.std.specs.List.{All, AllZip}
use Rattle.std.specs.Prelude.{slice_get, slice_set, ◌==◌}
use Rattle.life_script.proofs.CheckLemmas.{valid_requests, valid_order}
use Rattle.life_script.specs.Scenario.{ScriptView, ScenarioView}
use Rattle.life_script.specs.Told.{ToldView}
use Rattle.life_script.specs.Valid.{IsValid}
use Rattle.life_script.specs.declared.scenario.Step.{Step}
use Rattle.life_session.specs.Acts.{Counts, NotBefore, own, steps_of}
use Rattle.life_session.specs.Exchange.{ExchangeAt, HasRoom, IsFresh, LiveAt}
use Rattle.life_session.specs.Report.{stories}
use Rattle.life_session.specs.Session.{IsSession, May, MovesOn, RunsOn, Serves, SessionView, Stands, IsStoryOf, acts_done, turns_left}
use Rattle.life_session.specs.Table.{Meaning, story_by, tables}
use Rattle.life_session.specs.declared.exchange.Exchange.{Exchange}
use Rattle.life_session.proofs.PlaceLaws.{set_here, set_elsewhere, set_length, zip_at, zip_length}
use Rattle.life_session.proofs.ActLaws.{counted_next, not_before_own, own_more, own_other, some_is}

-- How many steps are of each request.

-- one step more is counted
pub counts_next : (r k n : ℕ) (xs : List Step) (d : Step) (made : List ℕ) → k < length xs → (get_or xs k d).request < r → Counts r (take k xs) made → n ≡ get_or made (get_or xs k d).request n →
    (n ≤ k) × Counts r (take (k + 1) xs) (slice_set made (get_or xs k d).request (n + 1))
counts_next r k n xs d made l within c is =
    let within_made : (get_or xs k d).request < length made = (let e = c.each_counted in omega arith) in
    let here : n ≡ steps_of (get_or xs k d).request (take k xs) = is ∙ (get_or_default_zero made (get_or xs k d).request n within_made ∙ c.counted (get_or xs k d).request within) in
    let most = count_by-le-length (λ (x : Step). x.request == (get_or xs k d).request) (take k xs) in
    let all : length (take k xs) ≡ k = length-take-le k xs (omega arith) in (
      omega (arith, here, most, all),
      record {
        each_counted = set_length made (get_or xs k d).request (n + 1) ∙ c.each_counted;
        counted = counted_next xs k r n d made l c.each_counted c.counted here;
      },
    )

-- The turns that are to come.

-- step k is of request r, and one turn less is to come after it
left_here : (xs : List Step) (k r : ℕ) (x : Step) → slice_get xs k ≡ Some x → x.request ≡ r → steps_of r (drop k xs) ≡ suc (steps_of r (drop (suc k) xs))
left_here [] k r x is q = absurd (cc is)
left_here (y ∷ xs) zero r x is q =
    let same : y ≡ x = some_is is in
    let yes : (y.request == r) ≡ true = eq-eqb y.request r (ap (λ (z : Step). z.request) same ∙ q) in
    sum_by-cons (λ (z : Step). cond (z.request == r) 1 0) y xs ∙ ap (λ (b : Bool). cond b 1 0 + steps_of r xs) yes ∙ omega arith
left_here (y ∷ xs) (suc k) r x is q = left_here xs k r x is q

left_other : (xs : List Step) (k r : ℕ) (x : Step) → slice_get xs k ≡ Some x → x.request ≢ r → steps_of r (drop k xs) ≡ steps_of r (drop (suc k) xs)
left_other [] k r x is q = absurd (cc is)
left_other (y ∷ xs) zero r x is q =
    let same : y ≡ x = some_is is in
    let no : (y.request == r) ≡ false = ne_eqb y.request r (λ z. q (ap (λ (z : Step). z.request) (sym same) ∙ z)) in
    sum_by-cons (λ (z : Step). cond (z.request == r) 1 0) y xs ∙ ap (λ (b : Bool). cond b 1 0 + steps_of r xs) no ∙ omega arith
left_other (y ∷ xs) (suc k) r x is q = left_other xs k r x is q

-- What holds of a session.

-- what stands at an index
there_at : {A : Type 0} (xs : List A) (i : ℕ) → i < length xs → (x : A) × (slice_get xs i ≡ Some x)
there_at [] i l = absurd (omega (arith, l))
there_at (x ∷ xs) zero l = (x, refl)
there_at (x ∷ xs) (suc i) l = there_at xs i (omega (arith, l))

module _ {K N S R F B : Type 0} (m : Meaning K N S R F B) where
  -- where an exchange stands
  pub session_at : (v : SessionView N S F B) → IsSession m v → (i : ℕ) (e : Exchange F B) → slice_get v.exchanges i ≡ Some e →
      (script : ScriptView) × (slice_get v.scenario.requests i ≡ Some script) × Stands m v.limits i script (acts_done v i) (turns_left v i) e
  session_at v s i e is =
      let within = slice_get_within v.exchanges i e is in
      let count = s.count in
      let there = there_at v.scenario.requests i (omega arith) in
      (there.0, there.1, s.each i there.0 e there.1 is)

  pub session_may : (v : SessionView N S F B) → IsSession m v → (k : ℕ) (d : Exchange F B) → k < length v.exchanges → May m (get_or v.exchanges k d)
  session_may v s k d l = s.may_each k d l

  -- the next step is of a request that there is
  pub session_within : (v : SessionView N S F B) → IsSession m v → (x : Step) → slice_get v.scenario.steps v.done ≡ Some x → x.request < length v.exchanges
  session_within v s x is = let within = valid_requests v.scenario s.valid v.done x is in let count = s.count in omega arith

  -- there is room for its turn
  pub session_room : (v : SessionView N S F B) → IsSession m v → (x : Step) → slice_get v.scenario.steps v.done ≡ Some x → (e : Exchange F B) → slice_get v.exchanges x.request ≡ Some e → 1 ≤ e.turns.spare
  session_room v s x is e here =
      let at = (session_at v s x.request e here).2 in
      let one = left_here v.scenario.steps v.done x.request x is refl in
      omega (arith, at.turns_left, one)

  -- no step that is done is after the next one
  session_order : (v : SessionView N S F B) → IsSession m v → (x : Step) → slice_get v.scenario.steps v.done ≡ Some x → (i : ℕ) → NotBefore x.at (acts_done v i)
  session_order v s x is i = not_before_own v.scenario.steps v.done i x.at (λ j y l e. (valid_order v.scenario s.valid).0 j v.done y x (omega (arith, l)) e is)

  -- The next step.

  module _ (v : SessionView N S F B) (s : IsSession m v) (x : Step) (is : slice_get v.scenario.steps v.done ≡ Some x) where
    -- the exchange of the step's request
    moved : (script : ScriptView) (before after : Exchange F B) → slice_get v.scenario.requests x.request ≡ Some script → slice_get v.exchanges x.request ≡ Some before → MovesOn m v.stack x script before after →
        Stands m v.limits x.request script (own (take (v.done + 1) v.scenario.steps) x.request) (steps_of x.request (drop (v.done + 1) v.scenario.steps)) after
    moved script before after there here moves =
        let one = left_here v.scenario.steps v.done x.request x is refl in
        let old = subst (λ n. Stands m v.limits x.request script (acts_done v x.request) n before) one (s.each x.request script before there here) in
        let new = moves v.limits (acts_done v x.request) _ old (s.stack x.request script there) (session_order v s x is x.request) in
        rw (add-one, own_more v.scenario.steps v.done x.request x is refl) new

    -- the exchange of another one
    kept : (i : ℕ) (script : ScriptView) (e : Exchange F B) → x.request ≢ i → slice_get v.scenario.requests i ≡ Some script → slice_get v.exchanges i ≡ Some e →
        Stands m v.limits i script (own (take (v.done + 1) v.scenario.steps) i) (steps_of i (drop (v.done + 1) v.scenario.steps)) e
    kept i script e n there here =
        let old = subst (λ n. Stands m v.limits i script (acts_done v i) n e) (left_other v.scenario.steps v.done i x is n) (s.each i script e there here) in
        rw (add-one, own_other v.scenario.steps v.done i x is n) old

    each_next : (exchanges : List (Exchange F B)) → RunsOn m v.stack x v.scenario.requests v.exchanges (Ok tt) exchanges → (i : ℕ) (script : ScriptView) (e : Exchange F B) → slice_get v.scenario.requests i ≡ Some script → slice_get exchanges i ≡ Some e →
        Stands m v.limits i script (own (take (v.done + 1) v.scenario.steps) i) (steps_of i (drop (v.done + 1) v.scenario.steps)) e
    each_next exchanges r i script e there here =
        elim (eqb_tells x.request i) [
          | inl q ↦
              let within = session_within v s x is in
              let found : slice_get exchanges x.request ≡ Some r.1 = ap (λ l. slice_get l x.request) r.3 ∙ set_here v.exchanges x.request r.1 within in
              let same : r.1 ≡ e = some_is (sym found ∙ (ap (λ j. slice_get exchanges j) q.1 ∙ here)) in
              subst (λ j. Stands m v.limits j script (own (take (v.done + 1) v.scenario.steps) j) (steps_of j (drop (v.done + 1) v.scenario.steps)) e) q.1
              (subst (λ z. Stands m v.limits x.request script (own (take (v.done + 1) v.scenario.steps) x.request) (steps_of x.request (drop (v.done + 1) v.scenario.steps)) z) same
              (moved script r.0 r.1 (ap (λ j. slice_get v.scenario.requests j) q.1 ∙ there) r.2 (r.4 script (ap (λ j. slice_get v.scenario.requests j) q.1 ∙ there))))
          | inr q ↦
              kept i script e q.1 there (sym (ap (λ l. slice_get l i) r.3 ∙ set_elsewhere v.exchanges x.request i r.1 (λ z. q.1 (sym z))) ∙ here)
        ]

    pub session_next : (stack : S) (exchanges : List (Exchange F B)) → m.may stack → All (May m) exchanges → ((k : K) → m.places.serves k v.stack → m.places.serves k stack) →
        (scripts : List ScriptView) → scripts ≡ v.scenario.requests → RunsOn m v.stack x scripts v.exchanges (Ok tt) exchanges →
        IsSession m (record { limits = v.limits; scenario = v.scenario; done = v.done + 1; stack = stack; exchanges = exchanges })
    session_next stack exchanges may may_each stays scripts all ran =
        let r = subst (λ (l : List ScriptView). RunsOn m v.stack x l v.exchanges (Ok tt) exchanges) all ran in
        let within = slice_get_within v.scenario.steps v.done x is in
        record {
          valid = s.valid;
          within = omega (arith, within);
          count = ap length r.3 ∙ set_length v.exchanges x.request r.1 ∙ s.count;
          may = may;
          may_each = may_each;
          stack = λ i script there. stays (m.key_of v.limits i script) (s.stack i script there);
          each = each_next exchanges r;
        }

  -- The begin.

  -- a request that was not called stands at no acts
  begun_exchange : (k : K) → m.places.fresh k [] → (left : ℕ) (e : Exchange F B) → IsFresh left e → ExchangeAt m k [] left e
  begun_exchange k first left e f = record {
    live = subst (LiveAt m k []) (sym f.live_is) first;
    room = subst (λ l. HasRoom l e.log.spare) (sym f.live_is) tt;
    turns_are = f.turns_are;
    log_is = f.log_is;
    turns_left = f.turns_left;
  }

  pub session_begun : (limits : N) (scenario : ScenarioView) (stack : S) (counts : List ℕ) (exchanges : List (Exchange F B)) → ((k : K) → m.places.fresh k []) → IsValid scenario → m.may stack → All (May m) exchanges →
      ((script : ScriptView) (i : ℕ) → slice_get scenario.requests i ≡ Some script → Serves m limits i script stack) → Counts (length scenario.requests) scenario.steps counts → AllZip IsFresh counts exchanges →
      IsSession m (record { limits = limits; scenario = scenario; done = 0; stack = stack; exchanges = exchanges })
  session_begun limits scenario stack counts exchanges first valid may may_each stands c fresh = record {
    valid = valid;
    within = omega arith;
    count = sym (zip_length IsFresh counts exchanges fresh) ∙ c.each_counted;
    may = may;
    may_each = may_each;
    stack = λ i script there. stands script i there;
    each = λ i script e there here.
        let within = slice_get_within scenario.requests i script there in
        let f = zip_at IsFresh counts exchanges i 0 e fresh here in
        begun_exchange (m.key_of limits i script) (first (m.key_of limits i script)) (steps_of i scenario.steps) e (subst (λ n. IsFresh n e) (c.counted i within) f);
  }

  -- The end.

  pub told_are : (limits : N) (scripts : List ScriptView) (i : ℕ) (steps : List Step) (left : ℕ → ℕ) (end : ℕ) (exchanges : List (Exchange F B)) (told : List ToldView) → length exchanges ≡ length scripts →
      ((j : ℕ) (script : ScriptView) (e : Exchange F B) → slice_get scripts j ≡ Some script → slice_get exchanges j ≡ Some e → Stands m limits (i + j) script (own steps (i + j)) (left (i + j)) e) →
      AllZip (IsStoryOf m end) exchanges told → told ≡ stories (tables m limits) scripts i steps end
  told_are limits [] i steps left end [] [] n each z = refl
  told_are limits [] i steps left end (e ∷ es) told n each z = absurd (omega (arith, n))
  told_are limits (s ∷ ss) i steps left end [] told n each z = absurd (omega (arith, n))
  told_are limits [] i steps left end [] (t ∷ ts) n each z = absurd z
  told_are limits (s ∷ ss) i steps left end (e ∷ es) [] n each z = absurd z
  told_are limits (s ∷ ss) i steps left end (e ∷ es) (t ∷ ts) n each z =
      let zero_more : i + 0 ≡ i = omega arith in
      let first : t ≡ story_by (tables m limits i s) (own steps i) end = z.0 (m.key_of limits i s) (own steps i) (left i) (subst (λ k. Stands m limits k s (own steps k) (left k) e) zero_more (each 0 s e refl refl)) in
      let rest : ts ≡ stories (tables m limits) ss (suc i) steps end = told_are limits ss (suc i) steps left end es ts (omega (arith, n))
      (λ j script x there here. let next : i + suc j ≡ suc i + j = omega arith in subst (λ k. Stands m limits k script (own steps k) (left k) x) next (each (suc j) script x there here)) z.1 in
      ap (λ (a : ToldView). a ∷ ts) first ∙ ap (λ (l : List ToldView). story_by (tables m limits i s) (own steps i) end ∷ l) rest

  -- after all steps each request is told by its story
  pub session_told : (v : SessionView N S F B) → IsSession m v → (told : List ToldView) → v.done ≡ length v.scenario.steps → AllZip (IsStoryOf m v.scenario.end) v.exchanges told →
      told ≡ stories (tables m v.limits) v.scenario.requests 0 v.scenario.steps v.scenario.end
  session_told v s told all z =
      told_are v.limits v.scenario.requests 0 v.scenario.steps (turns_left v) v.scenario.end v.exchanges told s.count
      (λ j script e there here.
      let zero_less : 0 + j ≡ j = omega arith in
      let whole : take v.done v.scenario.steps ≡ v.scenario.steps = take_all v.done v.scenario.steps (omega (arith, all)) in
      rw zero_less (rw whole at (s.each j script e there here))) z
