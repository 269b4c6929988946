use Rattle.std.proofs.Common.{arith, Ok}
use Rattle.std.proofs.lemmas.Result.{err_from_is_err_and}
use Rattle.serde_json.specs.View.{view as json}
use Rattle.dict_tree.specs.DictParsing.{read_view}
use Rattle.dict_tree.proofs.CountingLaws.{few_facts}
use Rattle.dict_tree.proofs.DictJsonLaws.{read_given}
use Rattle.dict_tree.proofs.DictLaws.{dictionary_is_valid, fault_given, kept_given}
use Rattle.dict_tree.proofs.ListingLaws.{lists_may_follow}
use Rattle.dict_tree.proofs.dict_json.read.Goals as goal

pub read_value-requires : goal.read_value-requires
read_value-requires c = few_facts c.args.bytes.now (json c.in_ok-value.value) (omega arith) c.in_ok-value.ensures

pub keep-requires : goal.keep-requires
keep-requires c =
    let given = read_given (json c.in_ok-value.value) (Ok (read_view c.in_ok-found.found)) c.in_ok-found.ensures.exact in
    record { valid = dictionary_is_valid _ _ given; lists = lists_may_follow _ _ given }

pub returns-in_err-found : goal.returns-in_err-found
returns-in_err-found c =
    let p = err_from_is_err_and c.from_residual-in_err-found.result c.from_residual-in_err-found.ensures.1 in
    fault_given c.args.bytes.now (json c.in_ok-value.value) c.in_err-found.field-0.0 p.0 c.from_residual-in_err-found.result (omega arith) c.in_ok-value.ensures c.in_err-found.ensures.kind c.in_err-found.ensures.exact p.1 p.2

pub returns : goal.returns
returns c = kept_given c.args.bytes.now (json c.in_ok-value.value) (read_view c.in_ok-found.found) c.keep.result (omega arith) c.in_ok-value.ensures
    (read_given (json c.in_ok-value.value) (Ok (read_view c.in_ok-found.found)) c.in_ok-found.ensures.exact) c.keep.ensures.kept c.keep.ensures.memory
