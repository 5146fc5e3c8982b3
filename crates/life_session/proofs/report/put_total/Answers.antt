use Rattle.std.proofs.Common.{◌≡◌, ◌++◌, ◌∙◌, ap, append_assoc, List, ℕ, codes, decimal}
use Rattle.std.proofs.lemmas.Result.{on_ok_weaker}
use Rattle.life_session.proofs.report.put_total.Goals as goal

-- one piece more is put
piece : (old mid new pieces more : List ℕ) → mid ≡ old ++ pieces → new ≡ mid ++ more → new ≡ old ++ (pieces ++ more)
piece old mid new pieces more so_far put = put ∙ (ap (λ (l : List ℕ). l ++ more) so_far ∙ append_assoc old pieces more)

pub returns : goal.returns
returns c =
    let old = c.args.text.now in
    let two = codes "total: " ++ decimal c.args.requests in
    let three = two ++ codes " requests, " in
    let four = three ++ decimal c.args.steps in
    let five = four ++ codes " steps, end " in
    let six = five ++ decimal c.args.end in
    let p2 = piece old c.text.new.self c.number.new.self (codes "total: ") (decimal c.args.requests) c.in_ok-text.ensures c.in_ok-number.ensures in
    let p3 = piece old c.number.new.self c.text-2.new.self two (codes " requests, ") p2 c.in_ok-text-2.ensures in
    let p4 = piece old c.text-2.new.self c.number-2.new.self three (decimal c.args.steps) p3 c.in_ok-number-2.ensures in
    let p5 = piece old c.number-2.new.self c.text-3.new.self four (codes " steps, end ") p4 c.in_ok-text-3.ensures in
    let p6 = piece old c.text-3.new.self c.number-3.new.self five (decimal c.args.end) p5 c.in_ok-number-3.ensures in
    on_ok_weaker
    c.text-4.result
    (λ (put : c.text-4.new.self ≡ c.number-3.new.self ++ codes "\n"). piece old c.number-3.new.self c.text-4.new.self six (codes "\n") p6 put)
    c.text-4.ensures
