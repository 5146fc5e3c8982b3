use Rattle.std.proofs.Common.{◌≡◌, ℕ, ◌+◌, ◌-◌, ◌<◌, ◌≤◌, List, [], ◌∷◌, ◌++◌, length, take, drop, get_or, flat_map, sym, ap, ◌∙◌, arith, rules, append_assoc, append-nil, length-drop}
use Rattle.std.proofs.lemmas.List.{take_more, get_or-drop, flat_map_more}
use Rattle.life_script.specs.Texts.{escaped}
use Rattle.life_script.proofs.texts.TextBuilder.escapes.Goals as goal
use Rattle.life_script.proofs.texts.TextBuilder.escapes.Goals.{then-not-is_plain+in_ok-bytes+in_ok-escaped, else-not-is_plain}

-- one byte more of what is taken after those that were dropped
run_more : (xs : List ℕ) (done i : ℕ) → done ≤ i → i < length xs → take (i + 1 - done) (drop done xs) ≡ take (i - done) (drop done xs) ++ get_or xs i 0 ∷ []
run_more xs done i within lt =
    let longer : i + 1 - done ≡ i - done + 1 = omega arith in
    let left : i - done < length (drop done xs) = rw length-drop (omega arith) in
    let here : done + (i - done) ≡ i = omega arith in
    ap (λ (n : ℕ). take n (drop done xs)) longer ∙ take_more (drop done xs) (i - done) 0 left
    ∙ ap (λ (x : ℕ). take (i - done) (drop done xs) ++ x ∷ []) (get_or-drop done xs (i - done) 0 ∙ ap (λ (n : ℕ). get_or xs n 0) here)

-- the texts of the first bytes, with that of one byte more
text_more : (old : List ℕ) (xs : List ℕ) (i : ℕ) → i < length xs → (old ++ flat_map escaped (take i xs)) ++ escaped (get_or xs i 0) ≡ old ++ flat_map escaped (take (i + 1) xs)
text_more old xs i lt =
    flat_map_more escaped old (take i xs) (get_or xs i 0) ∙ ap (λ (l : List ℕ). old ++ flat_map escaped l) (sym (take_more xs i 0 lt))

-- a plain byte goes on with the run
goes_on : (old now xs : List ℕ) (done i : ℕ) → done ≤ i → i < length xs → escaped (get_or xs i 0) ≡ get_or xs i 0 ∷ []
    → now ++ take (i - done) (drop done xs) ≡ old ++ flat_map escaped (take i xs) → now ++ take (i + 1 - done) (drop done xs) ≡ old ++ flat_map escaped (take (i + 1) xs)
goes_on old now xs done i within lt plain so_far =
    ap (λ (l : List ℕ). now ++ l) (run_more xs done i within lt) ∙ sym (append_assoc now (take (i - done) (drop done xs)) (get_or xs i 0 ∷ []))
    ∙ ap (λ (l : List ℕ). l ++ get_or xs i 0 ∷ []) so_far ∙ ap (λ (l : List ℕ). (old ++ flat_map escaped (take i xs)) ++ l) (sym plain) ∙ text_more old xs i lt

-- an escape ends it
ends : (old run new xs : List ℕ) (i : ℕ) → i < length xs → new ≡ run ++ escaped (get_or xs i 0) → run ≡ old ++ flat_map escaped (take i xs)
    → new ++ take (i + 1 - (i + 1)) (drop (i + 1) xs) ≡ old ++ flat_map escaped (take (i + 1) xs)
ends old run new xs i lt put so_far =
    let none : i + 1 - (i + 1) ≡ 0 = omega arith in
    ap (λ (n : ℕ). new ++ take n (drop (i + 1) xs)) none ∙ append-nil new ∙ put ∙ ap (λ (l : List ℕ). l ++ escaped (get_or xs i 0)) so_far ∙ text_more old xs i lt

pub loop-i-preserved : goal.loop-i-preserved
loop-i-preserved c =
    let old = c.args.self.now in
    let xs = c.args.bytes.now in
    let i = c.loop-i.i in
    elim c.if-not-is_plain.branch [
      | then-not-is_plain+in_ok-bytes+in_ok-escaped w ↦ record {
        within = omega arith;
        so_far = rw (w.self-is, w.done-is) (ends old w.bytes.new.self w.escaped.new.self xs i c.loop-i-test.true w.in_ok-escaped.ensures (w.in_ok-bytes.ensures ∙ c.loop-i.invariant.so_far));
      }
      | else-not-is_plain w ↦ record {
        within = omega arith;
        so_far = rw (w.self-is, w.done-is)
            (goes_on old c.loop-i.self xs c.loop-i.done i c.loop-i.invariant.within c.loop-i-test.true (c.is_plain.ensures (search rules)) c.loop-i.invariant.so_far);
      }
    ]
