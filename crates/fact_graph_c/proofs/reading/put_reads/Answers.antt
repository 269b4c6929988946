use Rattle.std.proofs.Common.{[], ◌∷◌, ◌++◌, List, Option, ℕ, refl, sym, ap, ◌∙◌}
use Rattle.fact_paths.specs.declared.slot_path.SlotPath.{SlotPath}
use Rattle.script_lines.specs.Joined.{joined}
use Rattle.graph_session.specs.Rules.{rules}
use Rattle.graph_session.specs.SessionView.{session_state}
use Rattle.session_lines.specs.Replies.{bad_line_text}
use Rattle.fact_graph_c.specs.SlotReads.{reads_of_path}
use Rattle.fact_graph_c.proofs.TextLaws.{written_more}
use Rattle.fact_graph_c.proofs.reading.put_reads.Goals as goal

pub returns-in-None : goal.returns-in-None
returns-in-None c = λ yes.
    written_more c.args.text.now c.write_ended.new.out (bad_line_text ∷ []) c.write_ended.result (c.write_ended.ensures.written bad_line_text refl) (c.is_more-in-None.ensures yes)
    ∙ ap (λ (t : List ℕ). t ++ joined (bad_line_text ∷ [])) c.requires
    ∙ sym (ap (λ (o : Option SlotPath). reads_of_path (rules c.args.session.now.dict) (session_state c.args.session.now) o) c.in-None.is)
