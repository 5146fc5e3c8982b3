-- The answers of the table, one act further.
use Rattle.std.proofs.Common.{◌≡◌, List, [], ◌∷◌, ◌++◌, Bool, true, false, refl, sym, ap, ◌∙◌, append-nil, append_assoc}
use Rattle.std.specs.Prelude.{◌||◌}
use Rattle.life_core.specs.declared.event.DropKind.{DropKind}
use Rattle.life_core.specs.declared.event.DropKind.TheVariants as drop_kind
use Rattle.life_stack.specs.Table.Request.{Numbered}
use Rattle.life_script.specs.declared.answer.Answer.{Answer}
use Rattle.life_script.specs.declared.scenario.Limits.{Limits}
use Rattle.life_session.specs.Acts.{Own}
use Rattle.life_stack.specs.Table.Story.{answer, answers, answers_after, any_ending, is_ending, kind_after, kind_of}

-- the answers so far
answers_after_push : (limits : Limits) (request : Numbered) (before acts : List Own) (x : Own) → answers_after limits request before (acts ++ x ∷ []) ≡ answers_after limits request before acts ++ answer limits request (before ++ acts) x ∷ []
answers_after_push limits request before [] x = ap (λ b. answer limits request b x ∷ []) (sym (append-nil before))
answers_after_push limits request before (y ∷ acts) x = ap (λ l. answer limits request before y ∷ l)
    (answers_after_push limits request (before ++ y ∷ []) acts x ∙ ap (λ b. answers_after limits request (before ++ y ∷ []) acts ++ answer limits request b x ∷ []) (append_assoc before (y ∷ []) acts))

answers_push : (limits : Limits) (request : Numbered) (before : List Own) (x : Own) → answers limits request (before ++ x ∷ []) ≡ answers limits request before ++ answer limits request before x ∷ []
answers_push limits request before x = answers_after_push limits request [] before x

or_assoc : (a b c : Bool) → (a || b || c) ≡ (a || (b || c))
or_assoc true b c = refl
or_assoc false b c = refl

pub or_false : (a : Bool) → (a || false) ≡ a
or_false true = refl
or_false false = refl

any_ending_push : (given : List Answer) (a : Answer) → any_ending (given ++ a ∷ []) ≡ (any_ending given || is_ending a)
any_ending_push [] a = or_false (is_ending a)
any_ending_push (g ∷ given) a = ap (λ b. is_ending g || b) (any_ending_push given a) ∙ sym (or_assoc (is_ending g) (any_ending given) (is_ending a))

kind_of_push : (what : DropKind) (given : List Answer) (a : Answer) → kind_of what (given ++ a ∷ []) ≡ kind_after (kind_of what given) a
kind_of_push what [] a = refl
kind_of_push what (g ∷ given) a = kind_of_push (kind_after what g) given a

-- what is told of the answers, by the answer to one act more
module _ (limits : Limits) (request : Numbered) (before : List Own) (x : Own) (a : Answer) (e : answer limits request before x ≡ a) where
  pub any_next : any_ending (answers limits request (before ++ x ∷ [])) ≡ (any_ending (answers limits request before) || is_ending a)
  any_next = ap any_ending (answers_push limits request before x) ∙ any_ending_push (answers limits request before) (answer limits request before x) ∙ ap (λ y. any_ending (answers limits request before) || is_ending y) e

  pub kind_next : kind_of drop_kind.Future (answers limits request (before ++ x ∷ [])) ≡ kind_after (kind_of drop_kind.Future (answers limits request before)) a
  kind_next = ap (kind_of drop_kind.Future) (answers_push limits request before x) ∙ kind_of_push drop_kind.Future (answers limits request before) (answer limits request before x) ∙ ap (kind_after (kind_of drop_kind.Future (answers limits request before))) e
