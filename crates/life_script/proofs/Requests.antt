-- A request has one script, and many have one list of scripts.
use Rattle.std.proofs.Common.{◌≡◌, ℕ, suc, ◌+◌, ◌<◌, List, [], ◌∷◌, ◌++◌, length, map, take, get_or, zero, Option, Some, None, IsSomeAnd, refl, sym, ap₂, ◌∙◌, subst, arith}
use Rattle.http_uri.specs.declared.uri.Uri.{Uri}
use Rattle.http_uri.specs.Uri.{Spells}
use Rattle.serde_json.specs.Data.{Data}
use Rattle.serde_json.specs.View.{view}
use Rattle.serde_json.specs.declared.value.Value.{Value}
use Rattle.life_script.specs.declared.scenario.BodyItem.{BodyItem}
use Rattle.life_script.specs.declared.scenario.CallItem.{CallItem}
use Rattle.life_script.specs.declared.scenario.PollItem.{PollItem}
use Rattle.life_script.specs.Headers.{Headers}
use Rattle.life_script.specs.Scenario.{ScriptView}
use Rattle.life_script.specs.Reading.{Read, Good, message_part, service_part, IsScript, AreScripts}
use Rattle.life_script.proofs.ReadingParts.{one_more}
use Rattle.life_script.proofs.Targets.{one_target}

pub same_some : {A : Type 0} (o : Option A) (a b : A) → o ≡ Some a → o ≡ Some b → a ≡ b
same_some o a b here there = cc

pub same_good : {A : Type 0} (r : Read A) (a b : A) → r ≡ Good a → r ≡ Good b → a ≡ b
same_good r a b here there = cc

-- ---- the scripts of a list

are_next : (ds : List Data) (scripts : List ScriptView) (d : Data) (script : ScriptView) → AreScripts ds scripts → IsScript d script → AreScripts (ds ++ d ∷ []) (scripts ++ script ∷ [])
unfolding AreScripts
are_next [] [] d script are is = (is, tt)
are_next [] (s ∷ scripts) d script are is = absurd are
are_next (e ∷ ds) [] d script are is = absurd are
are_next (e ∷ ds) (s ∷ scripts) d script are is = (are.0, are_next ds scripts d script are.1 is)

-- one request more
pub scripts_next : (xs : List Value) (k : ℕ) (x : Value) (scripts : List ScriptView) (script : ScriptView) → k < length xs → x ≡ get_or xs k x
    → AreScripts (map view (take k xs)) scripts → IsScript (view x) script → AreScripts (map view (take (k + 1) xs)) (scripts ++ script ∷ [])
scripts_next xs k x scripts script lt at are is =
    subst (λ (ds : List Data). AreScripts ds (scripts ++ script ∷ [])) (sym (one_more xs k x lt at)) (are_next (map view (take k xs)) scripts (view x) script are is)

none_at : (xs : List Value) (k : ℕ) (x : Value) → k < length xs → ((script : ScriptView) → IsScript (view (get_or xs k x)) script → ⊥) → (scripts : List ScriptView) → AreScripts (map view xs) scripts → ⊥
unfolding AreScripts
none_at [] k x lt never scripts are = absurd (omega arith)
none_at (y ∷ ys) k x lt never [] are = are
none_at (y ∷ ys) zero x lt never (s ∷ scripts) are = never s are.0
none_at (y ∷ ys) (suc k) x lt never (s ∷ scripts) are = none_at ys k x (omega arith) never scripts are.1

-- where one has no script, there are no scripts of all
pub no_scripts : (xs : List Value) (k : ℕ) (x : Value) → k < length xs → x ≡ get_or xs k x → ((script : ScriptView) → IsScript (view x) script → ⊥) → (scripts : List ScriptView) → AreScripts (map view xs) scripts → ⊥
no_scripts xs k x lt at never = none_at xs k x lt (λ script is. never script (subst (λ (y : Value). IsScript (view y) script) (sym at) is))

-- ---- one script at most

same_target : (text : Option (List ℕ)) (u v : Uri) → IsSomeAnd text (λ text. Spells text u) → IsSomeAnd text (λ text. Spells text v) → u ≡ v
same_target None u v here there = absurd here
same_target (Some text) u v here there = one_target text u v here there

abbrev script_of : List ℕ → Uri → Headers × List BodyItem → CallItem × List PollItem → ScriptView
script_of method uri message service = record { method = method; uri = uri; headers = message.0; body = message.1; call = service.0; polls = service.1 }

same_script : (d : Data) (s t : ScriptView) → IsScript d s → IsScript d t → s ≡ t
same_script d s t here there =
    let method : s.method ≡ t.method = same_some _ s.method t.method here.0.0 there.0.0 in
    let uri : s.uri ≡ t.uri = same_target _ s.uri t.uri here.1 there.1 in
    let message = same_good (message_part d) (s.headers, s.body) (t.headers, t.body) here.2 there.2 in
    let service = same_good (service_part d) (s.call, s.polls) (t.call, t.polls) here.3 there.3 in
    ap₂ (λ method uri. script_of method uri (s.headers, s.body) (s.call, s.polls)) method uri ∙ ap₂ (script_of t.method t.uri) message service

-- requests have one list of scripts at most
pub same_scripts : (ds : List Data) (ss ts : List ScriptView) → AreScripts ds ss → AreScripts ds ts → ss ≡ ts
unfolding AreScripts
same_scripts [] [] [] here there = refl
same_scripts [] [] (t ∷ ts) here there = absurd there
same_scripts [] (s ∷ ss) ts here there = absurd here
same_scripts (d ∷ ds) [] ts here there = absurd here
same_scripts (d ∷ ds) (s ∷ ss) [] here there = absurd there
same_scripts (d ∷ ds) (s ∷ ss) (t ∷ ts) here there = ap₂ (λ (s : ScriptView) (ss : List ScriptView). s ∷ ss) (same_script d s t here.0 there.0) (same_scripts ds ss ts here.1 there.1)
