-- How the lines of steps and of ends grow, and that each step has its turn.
use Rattle.std.proofs.Common.{◌≡◌, ℕ, ◌+◌, ◌<◌, ◌≤◌, List, [], ◌∷◌, ◌++◌, length, take, drop, get_or, Some, cond, sym, refl, ap, subst, ◌∙◌, arith, add-one, append_assoc, append-nil}
use Rattle.std.specs.Prelude.{IsSome, slice_get, ◌==◌}
use Rattle.std.proofs.Math.ListN.{drop_of_length-le}
use Rattle.std.proofs.Math.Seq.{drop-cons}
use Rattle.std.proofs.lemmas.Grind.{get_or_default_zero}
use Rattle.std.proofs.lemmas.List.{take_more, length-take-le}
use Rattle.std.proofs.lemmas.List.Sums.{count_by-le-length, sum_by-take-le}
use Rattle.std.proofs.lemmas.Option.{slice_get-get_or}
use Rattle.life_script.specs.declared.answer.Answer.TheVariants.{Called}
use Rattle.life_script.specs.declared.scenario.Step.{Step}
use Rattle.life_script.specs.Told.{ToldView, TurnView}
use Rattle.life_session.proofs.ActLaws.{count_same}
use Rattle.life_session.specs.Acts.{steps_of}
use Rattle.life_session.specs.Report.{Fits, end_lines, ends_lines, step_lines, steps_lines, turn_lines, turn_of}

-- the item of a number and those after it
drop_next : {T : Type 0} (xs : List T) (k : ℕ) (d : T) → k < length xs → drop k xs ≡ get_or xs k d ∷ drop (k + 1) xs
drop_next xs k d lt = rw add-one (drop-cons xs k d lt)

-- a text and what comes, where its first part is put at the end of the text
put_next : (before now part rest all : List ℕ) → now ≡ before ++ part → before ++ (part ++ rest) ≡ all → now ++ rest ≡ all
put_next before now part rest all put h = ap (λ (l : List ℕ). l ++ rest) put ∙ (append_assoc before part rest ∙ h)

steps_next : (told : List ToldView) (xs : List Step) (k : ℕ) (d : Step) → k < length xs
    → steps_lines told (take k xs) (drop k xs) ≡ step_lines told (take k xs) (get_or xs k d) ++ steps_lines told (take (k + 1) xs) (drop (k + 1) xs)
unfolding steps_lines
steps_next told xs k d lt =
    ap (λ (l : List Step). steps_lines told (take k xs) l) (drop_next xs k d lt)
    ∙ ap (λ (l : List Step). step_lines told (take k xs) (get_or xs k d) ++ steps_lines told l (drop (k + 1) xs)) (sym (take_more xs k d lt))

-- the lines of a step that has its turn
step_of_turn : (told : List ToldView) (xs : List Step) (k n : ℕ) (x : Step) (t : TurnView) → k ≤ length xs → n ≡ steps_of x.request (take k xs) → turn_of told x.request n ≡ Some t
    → step_lines told (take k xs) x ≡ turn_lines k x t
step_of_turn told xs k n x t le count turn =
    let here : turn_of told x.request (steps_of x.request (take k xs)) ≡ Some t = subst (λ (m : ℕ). turn_of told x.request m ≡ Some t) count turn in
    rw (here, length-take-le k xs le) refl

-- the lines of one step more are put
pub steps_grown : (told : List ToldView) (xs : List Step) (k n : ℕ) (d : Step) (t : TurnView) (before now all : List ℕ) → k < length xs
    → n ≡ steps_of (get_or xs k d).request (take k xs) → turn_of told (get_or xs k d).request n ≡ Some t → now ≡ before ++ turn_lines k (get_or xs k d) t
    → before ++ steps_lines told (take k xs) (drop k xs) ≡ all → now ++ steps_lines told (take (k + 1) xs) (drop (k + 1) xs) ≡ all
steps_grown told xs k n d t before now all lt count turn put h =
    put_next before now (step_lines told (take k xs) (get_or xs k d)) (steps_lines told (take (k + 1) xs) (drop (k + 1) xs)) all
    (put ∙ ap (λ (l : List ℕ). before ++ l) (sym (step_of_turn told xs k n (get_or xs k d) t (omega arith) count turn)))
    (ap (λ (l : List ℕ). before ++ l) (sym (steps_next told xs k d lt)) ∙ h)

-- the lines of all steps are put
pub steps_done : (told : List ToldView) (xs : List Step) (k : ℕ) (now all : List ℕ) → length xs ≤ k → now ++ steps_lines told (take k xs) (drop k xs) ≡ all → now ≡ all
unfolding steps_lines
steps_done told xs k now all le h =
    sym (append-nil now) ∙ (sym (ap (λ (l : List Step). now ++ steps_lines told (take k xs) l) (drop_of_length-le xs le)) ∙ h)

-- a step is of a request that is told of
pub told_of : (told : List ToldView) (xs : List Step) (k : ℕ) (d : Step) → Fits told xs → k < length xs → (get_or xs k d).request < length told
told_of told xs k d fits lt = fits.requests k (get_or xs k d) (slice_get-get_or xs k d lt)

-- the same where the number of requests is known by another name
pub told_within : (told : List ToldView) (xs : List Step) (k : ℕ) (d : Step) (m n : ℕ) → Fits told xs → k < length xs → n ≡ m → m ≡ length told → (get_or xs k d).request < n
told_within told xs k d m n fits lt same all = let within = told_of told xs k d fits lt in omega arith

-- fewer steps of its request were made before step k than turns are told of it
turn_left : (told : List ToldView) (xs : List Step) (k : ℕ) (d : Step) (t : ToldView) → Fits told xs → k < length xs → slice_get told (get_or xs k d).request ≡ Some t
    → steps_of (get_or xs k d).request (take k xs) < length t.turns
turn_left told xs k d t fits lt is =
    let all = fits.turns (get_or xs k d).request t is in
    let more = count_same xs k d lt in
    let within : steps_of (get_or xs k d).request (take (k + 1) xs) ≤ steps_of (get_or xs k d).request xs = sum_by-take-le (λ (x : Step). cond (x.request == (get_or xs k d).request) 1 0) xs (k + 1) in
    omega arith

-- step k has its turn
pub turn_there : (told : List ToldView) (xs : List Step) (k n : ℕ) (d : Step) → Fits told xs → k < length xs → n ≡ steps_of (get_or xs k d).request (take k xs)
    → IsSome (turn_of told (get_or xs k d).request n)
turn_there told xs k n d fits lt count =
    let t : ToldView = get_or told (get_or xs k d).request (record { turns = []; at_end = [] }) in
    let is : slice_get told (get_or xs k d).request ≡ Some t = slice_get-get_or told (get_or xs k d).request (record { turns = []; at_end = [] }) (told_of told xs k d fits lt) in
    let left : n < length t.turns = (let l = turn_left told xs k d t fits lt is in omega arith) in
    let u = slice_get-get_or t.turns n (record { answer = Called; events = [] }) left in
    rw (is, u) refl

-- what the count of a step's request is
pub count_there : (told : List ToldView) (xs : List Step) (k n : ℕ) (d : Step) (made : List ℕ) → Fits told xs → k < length xs → length made ≡ length told
    → ((i : ℕ) → i < length told → get_or made i 0 ≡ steps_of i (take k xs)) → n ≡ get_or made (get_or xs k d).request n → n ≡ steps_of (get_or xs k d).request (take k xs)
count_there told xs k n d made fits lt same counted is =
    let within = told_of told xs k d fits lt in
    let within_made : (get_or xs k d).request < length made = omega arith in
    is ∙ (get_or_default_zero made (get_or xs k d).request n within_made ∙ counted (get_or xs k d).request within)

-- at most k of the first k steps are of its request
pub count_small : (told : List ToldView) (xs : List Step) (k n : ℕ) (d : Step) (made : List ℕ) → Fits told xs → k < length xs → length made ≡ length told
    → ((i : ℕ) → i < length told → get_or made i 0 ≡ steps_of i (take k xs)) → n ≡ get_or made (get_or xs k d).request n → n ≤ k
count_small told xs k n d made fits lt same counted is =
    let here = count_there told xs k n d made fits lt same counted is in
    let most = count_by-le-length (λ (x : Step). x.request == (get_or xs k d).request) (take k xs) in
    let all : length (take k xs) ≡ k = length-take-le k xs (omega arith) in
    omega arith

ends_next : (end : ℕ) (told : List ToldView) (i : ℕ) (d : ToldView) → i < length told
    → ends_lines end i (drop i told) ≡ end_lines end i (get_or told i d).at_end ++ ends_lines end (i + 1) (drop (i + 1) told)
unfolding ends_lines
ends_next end told i d lt = ap (λ (l : List ToldView). ends_lines end i l) (drop_next told i d lt)

-- the lines of one end more are put
pub ends_grown : (end : ℕ) (told : List ToldView) (i : ℕ) (x : ToldView) (before now all : List ℕ) → i < length told → x ≡ get_or told i x
    → now ≡ before ++ end_lines end i x.at_end → before ++ ends_lines end i (drop i told) ≡ all → now ++ ends_lines end (i + 1) (drop (i + 1) told) ≡ all
ends_grown end told i x before now all lt is put h =
    put_next before now (end_lines end i x.at_end) (ends_lines end (i + 1) (drop (i + 1) told)) all put
    (ap (λ (y : ToldView). before ++ (end_lines end i y.at_end ++ ends_lines end (i + 1) (drop (i + 1) told))) is
    ∙ (ap (λ (l : List ℕ). before ++ l) (sym (ends_next end told i x lt)) ∙ h))

-- the lines of all ends are put
pub ends_done : (end : ℕ) (told : List ToldView) (i : ℕ) (now all : List ℕ) → length told ≤ i → now ++ ends_lines end i (drop i told) ≡ all → now ≡ all
unfolding ends_lines
ends_done end told i now all le h =
    sym (append-nil now) ∙ (sym (ap (λ (l : List ToldView). now ++ ends_lines end i l) (drop_of_length-le told le)) ∙ h)
