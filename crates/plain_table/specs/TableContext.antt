-- The context of a fact's expressions over a table of results.
use Rattle.dict_source.specs.Dictionary.{dictionary_view}
use Rattle.source_eval.specs.Context.{Context}
use Rattle.plain_table.specs.Table.{results_of}
use Rattle.plain_table.specs.declared.table_context.TableContext.{TableContext}

abbrev pub context_on : TableContext → Context
context_on g = record { tree = dictionary_view g.source.now; results = results_of g.table.now; fact = g.fact }
