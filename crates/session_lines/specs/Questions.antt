-- Questions that are answered at once, by the text of their line: `get` and `final` of a fact that stands once.
use Rattle.std.specs.Prelude.{◌≡◌, ℕ, List, ◌++◌, codes, Ok}
use Rattle.fact_paths.specs.Paths.{SpellsSlotPath}
use Rattle.fact_paths.specs.declared.slot_path.SlotPath.{SlotPath}
use Rattle.fact_paths.specs.declared.slot_path.SlotPath.TheVariants.{Global}
use Rattle.fact_values.specs.declared.slot.Slot.{Slot}
use Rattle.script_lines.specs.declared.command.Command.{Command}
use Rattle.script_lines.specs.declared.command.Command.TheVariants as commands
use Rattle.graph_session.specs.Rules.{Rules}
use Rattle.graph_session.specs.SessionView.{SessionState}
use Rattle.graph_session.specs.Step as session
use Rattle.graph_session.specs.declared.reply.Reply.{Reply}
use Rattle.graph_session.specs.declared.reply.Reply.TheVariants.{Answer, FinalAsked}
use Rattle.session_lines.specs.declared.question.Question.{Question}
use Rattle.session_lines.specs.declared.question.Question.TheVariants as questions

-- the word of a question, and the blank behind it
abbrev pub question_word : Question → List ℕ
question_word questions.Get = codes "get "
question_word questions.Final = codes "final "

-- the command that asks it of a slot
abbrev pub command_asking : Question → SlotPath → Command
command_asking questions.Get path = commands.Get path
command_asking questions.Final path = commands.Final path

-- the reply to it, where the slot stands
abbrev pub reply_asked : Question → Slot → Reply
reply_asked questions.Get slot = Answer slot
reply_asked questions.Final slot = FinalAsked slot

-- the line is the question's word and a text
abbrev pub IsQuestion : List ℕ → Question → List ℕ → Type 0
IsQuestion line asked text = line ≡ question_word asked ++ text

-- the text spells the path `/N`, and this is the session's reply to the question about its slot
pub record IsReplyAbout (r : Rules) (s : SessionState) (asked : Question) (text : List ℕ) (reply : Reply) : Type 0 where
  pub name : List ℕ
  pub spells : SpellsSlotPath text (Global name)
  pub replies : session.step r s (command_asking asked (Global name)) ≡ Ok (reply, s)

-- the line asks so, and this is the reply
pub record IsReplyAtOnce (r : Rules) (s : SessionState) (line : List ℕ) (reply : Reply) : Type 0 where
  pub asked : Question
  pub text : List ℕ
  pub asks : IsQuestion line asked text
  pub about : IsReplyAbout r s asked text reply
