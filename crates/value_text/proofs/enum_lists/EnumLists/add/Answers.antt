use Rattle.std.proofs.Common.{◌≡◌, ◌<◌, ◌^◌, List, ℕ, true, false, length, sym, ◌∙◌, ap, rules}
use Rattle.std.specs.List.{list_all}
use Rattle.fact_paths.specs.Names.{is_name}
use Rattle.value_text.specs.Enums.{Listed, are_distinct, is_among, lists_of, names_of}
use Rattle.value_text.proofs.EnumLemmas.{AreLists-last, IsNew}
use Rattle.value_text.proofs.enum_lists.EnumLists.add.Goals as goal

pub invariant_of-self-2 : goal.invariant_of-self-2
invariant_of-self-2 c =
    let lists = lists_of c.self.inside.lists.entries in
    let listed : Listed = record { name = c.args.name; options = c.args.options.items } in
    let named : is_name c.args.name ≡ true = c.as_str.ensures.good in
    let is_new : is_among c.args.name (names_of lists) ≡ false = ap (λ (n : List ℕ). is_among n (names_of lists)) (sym c.as_str.ensures.text) ∙ sym c.has_list.ensures ∙ c.if-has_list.false in
    let differ : c.are_distinct.result ≡ true = search rules in
    let same = c.as_slice.ensures.value in
    let names : list_all is_name c.args.options.items ≡ true = ap (list_all is_name) (sym same) ∙ c.are_distinct.ensures.names differ in
    let distinct : are_distinct c.args.options.items ≡ true = ap are_distinct (sym same) ∙ sym c.are_distinct.ensures.value ∙ differ in
    let some : 0 < length c.args.options.items = search rules in
    let few : length c.args.options.items < 2 ^ 32 = search rules in
    let new : IsNew lists listed = record { named = named; new = is_new; names = names; distinct = distinct; some = some; few = few } in
    rw (c.in_ok-append.ensures.appended) (AreLists-last lists listed c.self.invariant (search rules) new)
