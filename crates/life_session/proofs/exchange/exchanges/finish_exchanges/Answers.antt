use Rattle.std.proofs.Common.{◌++◌, ◌∷◌, [], List, length, ap, ◌∙◌, append-nil, append_assoc, arith, subst, sym}
use Rattle.std.specs.List.{AllZip}
use Rattle.life_script.specs.Told.{ToldView}
use Rattle.life_session.specs.Session.{May, IsStoryOf}
use Rattle.life_session.specs.declared.exchange.Exchange.{Exchange}
use Rattle.life_session.proofs.PlaceLaws.{each_after_first, first_of_each, none_left, zip_push}
use Rattle.life_session.proofs.exchange.exchanges.finish_exchanges.Goals as goal

pub finish_exchange-requires : goal.finish_exchange-requires
finish_exchange-requires g c = first_of_each (May g.D.Driven.meaning) _ _ _ c.in-Some.ensures.items c.loop-exchange.invariant.may

pub loop-exchange-preserved : goal.loop-exchange-preserved
loop-exchange-preserved g c =
    let i = c.loop-exchange.invariant in
    let items = c.in-Some.ensures.items in
    let one = ap (λ (l : List (Exchange _ _)). length l) items in
    record {
      may = each_after_first (May g.D.Driven.meaning) _ _ _ items i.may;
      count = omega (arith, one, i.count, c.in-Some.ensures.cases.1);
      room = omega (arith, one, i.room, c.put_back.ensures.spare);
      told = (
        i.told.0 ++ c.in-Some.exchange ∷ [],
        i.told.1 ∙ ap (λ (l : List (Exchange _ _)). i.told.0 ++ l) items ∙ sym (append_assoc i.told.0 (c.in-Some.exchange ∷ []) _),
        subst (λ (l : List ToldView). AllZip (IsStoryOf g.D.Driven.meaning c.args.end) (i.told.0 ++ c.in-Some.exchange ∷ []) l) (sym c.put_back.ensures.items) (zip_push (IsStoryOf g.D.Driven.meaning c.args.end) i.told.0 _ c.in-Some.exchange _ i.told.2 c.finish_exchange.ensures),
      );
    }

pub returns : goal.returns
returns g c =
    let i = c.loop-exchange.invariant in
    let none = none_left _ (sym i.count ∙ c.in_default.ensures.cases.0) in
    let whole = sym c.into_iter-rest.ensures.rest ∙ (i.told.1 ∙ ap (λ (l : List (Exchange _ _)). i.told.0 ++ l) none ∙ append-nil i.told.0) in
    subst (λ (l : List (Exchange _ _)). AllZip (IsStoryOf g.D.Driven.meaning c.args.end) l c.loop-exchange.told.items) (sym whole) i.told.2
