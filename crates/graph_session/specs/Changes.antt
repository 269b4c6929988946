-- The change of the answers that a command makes.
use Rattle.std.specs.Prelude.{ℕ, List, [], Option, Some, None}
use Rattle.script_lines.specs.declared.command.Command.{Command}
use Rattle.script_lines.specs.declared.command.Command.TheVariants.{Set, Clear, OpenList, Add, Remove, Override, Release, Undo, Redo, Get, Final, Stamp, Touched, Missing, Watch, Unwatch, Quit}
use Rattle.dict_source.specs.Dictionary.{Dictionary as Tree}
use Rattle.answers.specs.Answered.{Answered}
use Rattle.answers.specs.Change.{Change, Fits, adds, opens, removes, sets}
use Rattle.answers.specs.declared.edit.Side.TheVariants as side
use Rattle.dict_meaning.specs.Allowed.{IsAllowed}
use Rattle.graph_session.specs.Judging.{value_spelled}
use Rattle.graph_session.specs.Naming.{fact_of, slot_of}
use Rattle.graph_session.specs.Refusals.{add_refusals, clear_refusals, open_refusals, override_refusals, release_refusals, remove_refusals, set_refusals}
use Rattle.graph_session.specs.Rules.{Rules}
use Rattle.graph_session.specs.declared.reply.Refusal.{Refusal}
use Rattle.graph_session.specs.declared.reply.Reply.{Reply}
use Rattle.graph_session.specs.declared.reply.Reply.TheVariants as replies

-- none where the command makes none, or goes along those that were made
abbrev pub change_of : Tree → Command → Option Change
change_of d (Set path text) = Some (sets side.Answer (slot_of d path) (value_spelled d (fact_of d path) text))
change_of d (Clear path) = Some (sets side.Answer (slot_of d path) None)
change_of d (OpenList path) = Some (opens (fact_of d path))
change_of d (Add path) = Some (adds (fact_of d path))
change_of d (Remove path member) = Some (removes (fact_of d path) member)
change_of d (Override path text) = Some (sets side.Override (slot_of d path) (value_spelled d (fact_of d path) text))
change_of d (Release path) = Some (sets side.Override (slot_of d path) None)
change_of d Undo = None
change_of d Redo = None
change_of d (Get path) = None
change_of d (Final path) = None
change_of d (Stamp path) = None
change_of d Touched = None
change_of d (Missing path) = None
change_of d (Watch name path) = None
change_of d (Unwatch name path) = None
change_of d Quit = None

-- what refuses such a command, in order
abbrev pub change_refusals : Rules → Answered → Command → List (Option Refusal)
change_refusals r a (Set path text) = set_refusals r a path text
change_refusals r a (Clear path) = clear_refusals r a path
change_refusals r a (OpenList path) = open_refusals r a path
change_refusals r a (Add path) = add_refusals r a path
change_refusals r a (Remove path member) = remove_refusals r a path member
change_refusals r a (Override path text) = override_refusals r a path text
change_refusals r a (Release path) = release_refusals r a path
change_refusals r a Undo = []
change_refusals r a Redo = []
change_refusals r a (Get path) = []
change_refusals r a (Final path) = []
change_refusals r a (Stamp path) = []
change_refusals r a Touched = []
change_refusals r a (Missing path) = []
change_refusals r a (Watch name path) = []
change_refusals r a (Unwatch name path) = []
change_refusals r a Quit = []

-- the change can be made, and the answers fit the dictionary after it
abbrev pub CanBeMade : Rules → Answered → Change → Type 0
CanBeMade r a c = Fits c a × IsAllowed r.accepted a c

-- its reply, where the next member has this number
abbrev pub change_reply : ℕ → Command → Reply
change_reply next (Set path text) = replies.Done
change_reply next (Clear path) = replies.Done
change_reply next (OpenList path) = replies.Done
change_reply next (Add path) = replies.Added next
change_reply next (Remove path member) = replies.Done
change_reply next (Override path text) = replies.Done
change_reply next (Release path) = replies.Done
change_reply next _ = replies.Done
