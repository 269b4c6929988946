use Rattle.std.proofs.Common.{◌≡◌, true, false, [], ◌∷◌, sym, ap, arith}
use Rattle.script_lines.specs.Lines.{ScriptLine}
use Rattle.fact_graph_c.proofs.AnsweringLaws.{given_long, given_whole}
use Rattle.fact_graph_c.proofs.answering.readied.Goals as goal

pub returns-then-line-gt-LINE : goal.returns-then-line-gt-LINE
returns-then-line-gt-LINE c = record { lines = ap (λ (l : ScriptLine). l ∷ []) (sym (given_long c.args.line.now (omega arith))); short = omega arith; checks = λ asks. absurd (let no : false ≡ true = asks in cc) }

pub returns-else-line-gt-LINE : goal.returns-else-line-gt-LINE
returns-else-line-gt-LINE c = record { lines = ap (λ (l : ScriptLine). l ∷ []) (sym (given_whole c.args.line.now (omega arith))); short = omega arith; checks = λ asks. asks }
