-- The verdict on steps, step by step, and what the steps of a valid scenario are.
use Rattle.std.proofs.Common.{◌≡◌, ℕ, zero, suc, ◌+◌, ◌<◌, ◌≤◌, Bool, true, false, cond, List, [], ◌∷◌, length, drop, get_or, Option, Some, None, Result, Ok, Err, sym, refl, ap, ◌∙◌, arith, add-one, subst}
use Rattle.std.proofs.lemmas.Grind.{common_steps}
use Rattle.std.specs.Prelude.{IsOk, slice_get, position}
use Rattle.std.specs.List.{list_any, position_from}
use Rattle.std.proofs.lemmas.Bool.{or_parts, ltb-false}
use Rattle.std.proofs.lemmas.Iterator.Adapters.{position_from-zero}
use Rattle.std.proofs.Math.Seq.{drop-cons}
use Rattle.std.proofs.Math.ListN.{drop_of_length-le}
use Rattle.life_script.specs.declared.error.DriveError.{DriveError}
use Rattle.life_script.specs.declared.error.DriveError.TheVariants.{ClockBack, NoRequest}
use Rattle.life_script.specs.declared.scenario.Step.{Step}
use Rattle.life_script.specs.Scenario.{ScriptView, ScenarioView}
use Rattle.life_script.specs.declared.checks.TheConstants.{MAX_HEADER_VALUES}
use Rattle.life_script.specs.declared.scenario.BodyItem.{BodyItem}
use Rattle.life_script.specs.declared.scenario.BodyItem.TheVariants.{Trailers}
use Rattle.life_script.specs.declared.scenario.Then.TheVariants.{Respond}
use Rattle.life_script.specs.Headers.{Headers}
use Rattle.life_script.specs.Reply.{ReplyView}
use Rattle.life_script.specs.Valid.{is_over, is_item_over, is_message_over, is_reply_over, is_then_over, is_script_over, is_back, verdict_from, unless_over, IsValid, verdict, BodyFits, EachFits, ReplyFits, ScriptFits}

-- where there are r requests
module _ (r : ℕ) where
  -- the verdict on one step and those after it, by cases
  after_good : (k : ℕ) (earlier : Option ℕ) (x : Step) (xs : List Step) (end : ℕ) → is_back earlier x.at ≡ false → x.request < r
      → verdict_from r k earlier (x ∷ xs) end ≡ verdict_from r (k + 1) (Some x.at) xs end
  unfolding verdict_from
  after_good k earlier x xs end back request = rw back (grind (arith, common_steps, request))

  after_back : (k : ℕ) (earlier : Option ℕ) (x : Step) (xs : List Step) (end : ℕ) → is_back earlier x.at ≡ true → verdict_from r k earlier (x ∷ xs) end ≡ Err (ClockBack k)
  unfolding verdict_from
  after_back k earlier x xs end back = rw back refl

  after_other : (k : ℕ) (earlier : Option ℕ) (x : Step) (xs : List Step) (end : ℕ) → is_back earlier x.at ≡ false → (x.request < r → ⊥) → verdict_from r k earlier (x ∷ xs) end ≡ Err (NoRequest k)
  unfolding verdict_from
  after_other k earlier x xs end back request = rw back (grind (arith, common_steps))

  -- the verdict on step k and those after it
  verdict_at : (xs : List Step) (k : ℕ) (d : Step) (earlier : Option ℕ) (end : ℕ) → k < length xs
      → verdict_from r k earlier (drop k xs) end ≡ verdict_from r k earlier (get_or xs k d ∷ drop (k + 1) xs) end
  verdict_at xs k d earlier end lt = ap (λ (l : List Step). verdict_from r k earlier l end) (rw add-one (drop-cons xs k d lt))

  -- a step in order, of a request that there is, leaves the verdict to those after it
  pub passed : (xs : List Step) (k : ℕ) (d : Step) (earlier : Option ℕ) (end : ℕ) (whole : Result Unit DriveError) → k < length xs
      → is_back earlier (get_or xs k d).at ≡ false → (get_or xs k d).request < r → verdict_from r k earlier (drop k xs) end ≡ whole
      → verdict_from r (k + 1) (Some (get_or xs k d).at) (drop (k + 1) xs) end ≡ whole
  passed xs k d earlier end whole lt back request h =
      sym (after_good k earlier (get_or xs k d) (drop (k + 1) xs) end back request) ∙ (sym (verdict_at xs k d earlier end lt) ∙ h)

  -- a step that is earlier than the one before it decides
  pub stopped_back : (xs : List Step) (k : ℕ) (d : Step) (earlier : Option ℕ) (end : ℕ) (whole : Result Unit DriveError) → k < length xs
      → is_back earlier (get_or xs k d).at ≡ true → verdict_from r k earlier (drop k xs) end ≡ whole → Err (ClockBack k) ≡ whole
  stopped_back xs k d earlier end whole lt back h =
      sym (after_back k earlier (get_or xs k d) (drop (k + 1) xs) end back) ∙ (sym (verdict_at xs k d earlier end lt) ∙ h)

  -- a step in order of a request that there is not decides
  pub stopped_request : (xs : List Step) (k : ℕ) (d : Step) (earlier : Option ℕ) (end : ℕ) (whole : Result Unit DriveError) → k < length xs
      → is_back earlier (get_or xs k d).at ≡ false → ((get_or xs k d).request < r → ⊥) → verdict_from r k earlier (drop k xs) end ≡ whole → Err (NoRequest k) ≡ whole
  stopped_request xs k d earlier end whole lt back request h =
      sym (after_other k earlier (get_or xs k d) (drop (k + 1) xs) end back request) ∙ (sym (verdict_at xs k d earlier end lt) ∙ h)

  -- past the last step the end decides
  ended : (xs : List Step) (k : ℕ) (earlier : Option ℕ) (end : ℕ) → length xs ≤ k → verdict_from r k earlier (drop k xs) end ≡ verdict_from r k earlier [] end
  ended xs k earlier end le = ap (λ (l : List Step). verdict_from r k earlier l end) (drop_of_length-le xs le)

  end_back : (k : ℕ) (earlier : Option ℕ) (end : ℕ) → is_back earlier end ≡ true → verdict_from r k earlier [] end ≡ Err (ClockBack k)
  unfolding verdict_from
  end_back k earlier end back = rw back refl

  end_good : (k : ℕ) (earlier : Option ℕ) (end : ℕ) → is_back earlier end ≡ false → verdict_from r k earlier [] end ≡ Ok tt
  unfolding verdict_from
  end_good k earlier end back = rw back refl

  -- an end that is earlier than the last step is what is wrong
  pub ended_back : (xs : List Step) (k : ℕ) (earlier : Option ℕ) (end : ℕ) (whole : Result Unit DriveError) → k ≤ length xs → length xs ≤ k
      → is_back earlier end ≡ true → verdict_from r k earlier (drop k xs) end ≡ whole → Err (ClockBack (length xs)) ≡ whole
  ended_back xs k earlier end whole le ge back h =
      let same : k ≡ length xs = omega arith in
      ap (λ (n : ℕ). Err (ClockBack n)) (sym same) ∙ (sym (end_back k earlier end back) ∙ (sym (ended xs k earlier end ge) ∙ h))

  -- with an end in order nothing is wrong
  pub ended_good : (xs : List Step) (k : ℕ) (earlier : Option ℕ) (end : ℕ) (whole : Result Unit DriveError) → length xs ≤ k
      → is_back earlier end ≡ false → verdict_from r k earlier (drop k xs) end ≡ whole → Ok tt ≡ whole
  ended_good xs k earlier end whole ge back h = sym (end_good k earlier end back) ∙ (sym (ended xs k earlier end ge) ∙ h)

  -- what a good verdict says of its first step: it is in order, of a request that there is, and those after it are good
  first_good : (n : ℕ) (earlier : Option ℕ) (x : Step) (xs : List Step) (end : ℕ) → verdict_from r n earlier (x ∷ xs) end ≡ Ok tt
      → (is_back earlier x.at ≡ false) × (x.request < r) × (verdict_from r (n + 1) (Some x.at) xs end ≡ Ok tt)
  unfolding verdict_from
  first_good n earlier x xs end h = grind (arith, common_steps, h)

  end_in_order : (n earlier end : ℕ) → verdict_from r n (Some earlier) [] end ≡ Ok tt → earlier ≤ end
  unfolding verdict_from
  end_in_order n earlier end h = grind (arith, common_steps, h)

  not_back : (earlier now : ℕ) → is_back (Some earlier) now ≡ false → earlier ≤ now
  not_back earlier now h = grind (arith, common_steps, h)

  requests_from : (n : ℕ) (earlier : Option ℕ) (xs : List Step) (end : ℕ) → verdict_from r n earlier xs end ≡ Ok tt → (k : ℕ) (x : Step) → slice_get xs k ≡ Some x → x.request < r
  requests_from n earlier [] end h k x is = absurd (cc)
  requests_from n earlier (y ∷ ys) end h zero x is = let good = first_good n earlier y ys end h in let same : y ≡ x = cc in subst (λ (z : Step). z.request < r) same good.1
  requests_from n earlier (y ∷ ys) end h (suc k) x is = requests_from (n + 1) (Some y.at) ys end (first_good n earlier y ys end h).2 k x is

  -- no step is below the earlier time
  later_than : (n earlier : ℕ) (xs : List Step) (end : ℕ) → verdict_from r n (Some earlier) xs end ≡ Ok tt → (k : ℕ) (x : Step) → slice_get xs k ≡ Some x → earlier ≤ x.at
  later_than n earlier [] end h k x is = absurd (cc)
  later_than n earlier (y ∷ ys) end h zero x is =
      let good = first_good n (Some earlier) y ys end h in let le = not_back earlier y.at good.0 in let same : y ≡ x = cc in subst (λ (z : Step). earlier ≤ z.at) same le
  later_than n earlier (y ∷ ys) end h (suc k) x is =
      let good = first_good n (Some earlier) y ys end h in let le = not_back earlier y.at good.0 in let more = later_than (n + 1) y.at ys end good.2 k x is in omega arith

  -- the end is not below the earlier time
  end_later : (n earlier : ℕ) (xs : List Step) (end : ℕ) → verdict_from r n (Some earlier) xs end ≡ Ok tt → earlier ≤ end
  end_later n earlier [] end h = end_in_order n earlier end h
  end_later n earlier (y ∷ ys) end h =
      let good = first_good n (Some earlier) y ys end h in let le = not_back earlier y.at good.0 in let more = end_later (n + 1) y.at ys end good.2 in omega arith

  order_from : (n : ℕ) (earlier : Option ℕ) (xs : List Step) (end : ℕ) → verdict_from r n earlier xs end ≡ Ok tt
      → (j k : ℕ) (x y : Step) → j ≤ k → slice_get xs j ≡ Some x → slice_get xs k ≡ Some y → x.at ≤ y.at
  order_from n earlier [] end h j k x y le first second = absurd (cc)
  order_from n earlier (z ∷ zs) end h zero zero x y le first second = let same : x ≡ y = cc in subst (λ (w : Step). x.at ≤ w.at) same (omega arith)
  order_from n earlier (z ∷ zs) end h zero (suc k) x y le first second =
      let same : z ≡ x = cc in subst (λ (w : Step). w.at ≤ y.at) same (later_than (n + 1) z.at zs end (first_good n earlier z zs end h).2 k y second)
  order_from n earlier (z ∷ zs) end h (suc j) zero x y le first second = absurd (omega arith)
  order_from n earlier (z ∷ zs) end h (suc j) (suc k) x y le first second =
      order_from (n + 1) (Some z.at) zs end (first_good n earlier z zs end h).2 j k x y (omega arith) first second

  ends_from : (n : ℕ) (earlier : Option ℕ) (xs : List Step) (end : ℕ) → verdict_from r n earlier xs end ≡ Ok tt → (k : ℕ) (x : Step) → slice_get xs k ≡ Some x → x.at ≤ end
  ends_from n earlier [] end h k x is = absurd (cc)
  ends_from n earlier (y ∷ ys) end h zero x is =
      let same : y ≡ x = cc in subst (λ (w : Step). w.at ≤ end) same (end_later (n + 1) y.at ys end (first_good n earlier y ys end h).2)
  ends_from n earlier (y ∷ ys) end h (suc k) x is = ends_from (n + 1) (Some y.at) ys end (first_good n earlier y ys end h).2 k x is

-- in a valid scenario nothing is wrong with the headers, nor with the steps
not_over : (found : Option ℕ) (rest : Result Unit DriveError) → unless_over found rest ≡ Ok tt → (found ≡ None) × (rest ≡ Ok tt)
not_over (Some i) rest h = absurd (cc)
not_over None rest h = (refl, h)

steps_good : (s : ScenarioView) → IsValid s → verdict_from (length s.requests) 0 None s.steps s.end ≡ Ok tt
steps_good s valid = (not_over (position is_script_over s.requests) (verdict_from (length s.requests) 0 None s.steps s.end) valid).1

-- each step of a valid scenario is of a request that there is
pub valid_requests : (s : ScenarioView) → IsValid s → (k : ℕ) (x : Step) → slice_get s.steps k ≡ Some x → x.request < length s.requests
valid_requests s valid = requests_from (length s.requests) 0 None s.steps s.end (steps_good s valid)

-- the steps of a valid scenario are in the order of their times, and none is past the end
pub valid_order : (s : ScenarioView) → IsValid s
    → ((j k : ℕ) (x y : Step) → j ≤ k → slice_get s.steps j ≡ Some x → slice_get s.steps k ≡ Some y → x.at ≤ y.at)
    × ((k : ℕ) (x : Step) → slice_get s.steps k ≡ Some x → x.at ≤ s.end)
valid_order s valid = (order_from (length s.requests) 0 None s.steps s.end (steps_good s valid), ends_from (length s.requests) 0 None s.steps s.end (steps_good s valid))

-- ---- headers

-- no element passes a test that passes at no position
not_found : (b : Bool) (i : ℕ) (rest : Option ℕ) → cond b (Some i) rest ≡ None → (b ≡ false) × (rest ≡ None)
not_found true i rest h = absurd (cc)
not_found false i rest h = (refl, h)

none_passes : {X : Type 0} (p : X → Bool) (xs : List X) (i : ℕ) → position_from p i xs ≡ None → (k : ℕ) (x : X) → slice_get xs k ≡ Some x → p x ≡ false
none_passes p [] i h k x is = absurd (cc)
none_passes p (y ∷ ys) i h zero x is = let same : y ≡ x = cc in ap p (sym same) ∙ (not_found (p y) i (position_from p (i + 1) ys) h).0
none_passes p (y ∷ ys) i h (suc k) x is = none_passes p ys (i + 1) (not_found (p y) i (position_from p (i + 1) ys) h).1 k x is

-- no element passes a test that not any does
not_any : {X : Type 0} (p : X → Bool) (xs : List X) → list_any p xs ≡ false → (k : ℕ) (x : X) → slice_get xs k ≡ Some x → p x ≡ false
not_any p [] h k x is = absurd (cc)
not_any p (y ∷ ys) h zero x is = let same : y ≡ x = cc in ap p (sym same) ∙ (or_parts (p y) (list_any p ys) h).0
not_any p (y ∷ ys) h (suc k) x is = not_any p ys (or_parts (p y) (list_any p ys) h).1 k x is

fits : (headers : Headers) → is_over headers ≡ false → length headers ≤ MAX_HEADER_VALUES
fits headers h = ltb-false MAX_HEADER_VALUES (length headers) h

message_fits : (headers : Headers) (body : List BodyItem) → is_message_over headers body ≡ false → (length headers ≤ MAX_HEADER_VALUES) × BodyFits body
message_fits headers body h =
    let parts = or_parts (is_over headers) (list_any is_item_over body) h in
    (fits headers parts.0, λ k trailers is. fits trailers (not_any is_item_over body parts.1 k (Trailers trailers) is))

reply_fits : (reply : ReplyView) → is_reply_over reply ≡ false → ReplyFits reply
reply_fits reply h = let own = message_fits reply.headers reply.body h in record { headers = own.0; body = own.1 }

script_fits : (script : ScriptView) → is_script_over script ≡ false → ScriptFits script
script_fits script h =
    let parts = or_parts (is_message_over script.headers script.body) (list_any (λ item. is_then_over item.then) script.polls) h in
    let own = message_fits script.headers script.body parts.0 in record {
      headers = own.0;
      body = own.1;
      replies = λ k asks reply is. reply_fits reply (not_any (λ item. is_then_over item.then) script.polls parts.1 k (record { asks = asks; then = Respond reply }) is);
    }

-- no header list of a valid scenario holds too many values
pub valid_headers : (s : ScenarioView) → IsValid s → (i : ℕ) (script : ScriptView) → slice_get s.requests i ≡ Some script → ScriptFits script
valid_headers s valid i script is =
    let none = (not_over (position is_script_over s.requests) (verdict_from (length s.requests) 0 None s.steps s.end) valid).0 in
    script_fits script (none_passes is_script_over s.requests 0 (sym (position_from-zero is_script_over s.requests) ∙ none) i script is)

-- where nothing is found wrong with a scenario, its header lists fit
pub fits_where_ok : (s : ScenarioView) → IsOk (verdict s) → EachFits s.requests
fits_where_ok s ok = go (verdict s) refl ok
  where
    go : (r : Result Unit DriveError) → verdict s ≡ r → IsOk r → EachFits s.requests
    go (Ok u) is o = valid_headers s is
    go (Err e) is o = absurd (cc o)
