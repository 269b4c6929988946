use Rattle.serde_json.specs.View.{view as json}
use Rattle.dict_source.specs.Dictionary.{dictionary_view}
use Rattle.dict_print.proofs.PrintedLaws.{printed_reads, printed_gives}
use Rattle.dict_print.proofs.printing.print.Goals as goal

pub returns-clause-json : goal.returns-clause-json
returns-clause-json c =
    printed_reads (dictionary_view c.args.source.now) (json c.in_ok-value.value) c.in_ok-bytes.bytes.items c.in_ok-value.ensures.value c.in_ok-value.ensures.printable c.in_ok-bytes.ensures.reads_back

pub returns-clause-reads_back : goal.returns-clause-reads_back
returns-clause-reads_back c = λ few.
    let d = dictionary_view c.args.source.now in
    let bytes = c.in_ok-bytes.bytes.items in
    printed_gives d bytes c.in_ok-value.ensures.printable c.in_ok-bytes.ensures.utf8
    (printed_reads d (json c.in_ok-value.value) bytes c.in_ok-value.ensures.value c.in_ok-value.ensures.printable c.in_ok-bytes.ensures.reads_back) few
