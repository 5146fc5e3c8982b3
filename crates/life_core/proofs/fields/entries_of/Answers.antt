use Rattle.std.proofs.Common.{◌≡◌, map, rules}
use Rattle.std.specs.Ordering.{is_lt}
use Rattle.std.proofs.lemmas.Cmp.{nat_list_cmp_total}
use Rattle.std.proofs.lemmas.List.Sorted.{ranks_by, answers_always}
use Rattle.http_header.specs.HeaderMap.{Entry, keys}
use Rattle.life_core.specs.declared.fields.Shown.{Shown}
use Rattle.life_core.specs.Fields.{name_cmp, entry_of}
use Rattle.life_core.proofs.FieldOrder.{fields_from_sort}
use Rattle.life_core.proofs.fields.entries_of.Goals as goal

pub returns : goal.returns
returns c =
    let headers = c.args.headers.now in
    let made : c.loop-name.entries.items ≡ map (entry_of headers) (keys headers) = search rules in
    let sort = c.sort_unstable_by.ensures in
    let sorted = sort.sorted (λ a b. is_lt (name_cmp a.0 b.0)) (ranks_by nat_list_cmp_total (λ (e : Entry Shown). e.0))
    (answers_always _ _ _ (λ f a r q k. search rules)) in
    fields_from_sort headers c.loop-name.entries.items c.sort_unstable_by.new.self.items made sort.permutation sorted c.keys_len.ensures.valid
