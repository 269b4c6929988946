-- The texts of replies and of refusals.
use Rattle.std.specs.Prelude.{ℕ, Bool, true, false, List, [], ◌∷◌, ◌++◌, codes, decimal, Option, Some, None, Result, Ok, Err, if◌then◌else◌, length, map}
use Rattle.fact_values.specs.declared.fault.ValueFault.{ValueFault}
use Rattle.fact_values.specs.declared.fault.ValueFault.TheVariants.{Overflow, ZeroDivide}
use Rattle.fact_values.specs.declared.slot.Slot.{Slot}
use Rattle.value_text.specs.Enums.{Listed}
use Rattle.value_text.specs.Values.{IsPrinted, printed}
use Rattle.three_state.specs.declared.res.Res.{Res}
use Rattle.three_state.specs.declared.res.Res.TheVariants.{Complete, Placeholder, Incomplete, Fault}
use Rattle.dict_meaning.specs.Final.{is_final}
use Rattle.dict_meaning.specs.Plain.{plain}
use Rattle.dict_meaning.specs.SlotText.{slot_text}
use Rattle.explain.specs.Missing.{missing}
use Rattle.graph_session.specs.Rules.{Rules, tree_of}
use Rattle.graph_session.specs.SessionView.{SessionState}
use Rattle.graph_session.specs.declared.reply.Refusal.{Refusal}
use Rattle.graph_session.specs.declared.reply.Refusal.TheVariants.{UnknownFact, NoMember, WrongKind, BadValue, Limit, Check, Full, AlreadyOpen, NotAnswered, NoOverride, NothingToUndo, NothingToRedo, NoStamps, NoMemory}
use Rattle.graph_session.specs.declared.reply.Reply.{Reply}
use Rattle.graph_session.specs.declared.reply.Reply.TheVariants.{Done, Added, Answer, FinalAsked, Stamp, Touched, MissingAsked, WatchAsked, UnwatchAsked, Quit}
use Rattle.fact_watch.specs.declared.commands.WatchRefusal.{WatchRefusal}
use Rattle.fact_watch.specs.declared.commands.WatchRefusal.TheVariants as watches

-- a text and the newline that ends it
abbrev pub line_with : List ℕ → List ℕ
line_with text = text ++ 10 ∷ []

-- a text and a number behind it
abbrev pub numbered : List ℕ → ℕ → List ℕ
numbered text number = text ++ decimal number

-- ---- the text of a result

abbrev pub fault_text : ValueFault → List ℕ
fault_text Overflow = codes "fault overflow"
fault_text ZeroDivide = codes "fault zero-divide"

-- options go by these lists
abbrev pub result_text : List Listed → Res → List ℕ
result_text lists (Complete v) = codes "complete " ++ printed lists v
result_text lists (Placeholder v) = codes "placeholder " ++ printed lists v
result_text lists Incomplete = codes "incomplete"
result_text lists (Fault fault) = fault_text fault

-- of a complete result that is final, and of every other
abbrev pub final_text : List Listed → Bool → Res → List ℕ
final_text lists final (Complete v) = if final then codes "final " ++ printed lists v else codes "open"
final_text lists final (Placeholder v) = codes "open"
final_text lists final Incomplete = codes "open"
final_text lists final (Fault fault) = codes "open"

-- an option that the result has is in its list
abbrev pub IsResPrinted : List Listed → Res → Type 0
IsResPrinted lists (Complete v) = IsPrinted lists v
IsResPrinted lists (Placeholder v) = IsPrinted lists v
IsResPrinted lists Incomplete = Unit {0}
IsResPrinted lists (Fault fault) = Unit {0}

-- a slot that stands has a result, and no other is asked for
abbrev pub asked_text : (Res → List ℕ) → Option Res → List ℕ → List ℕ
asked_text text None otherwise = otherwise
asked_text text (Some res) otherwise = text res

-- ---- the text of a refusal

-- its number and its name; want of memory has none
abbrev pub refusal_name : Refusal → List ℕ
refusal_name UnknownFact = codes "3 UnknownFact"
refusal_name NoMember = codes "4 NoMember"
refusal_name WrongKind = codes "5 WrongKind"
refusal_name BadValue = codes "6 BadValue"
refusal_name (Limit place) = codes "7 Limit"
refusal_name (Check place) = codes "8 Check"
refusal_name Full = codes "9 Full"
refusal_name AlreadyOpen = codes "10 AlreadyOpen"
refusal_name NotAnswered = codes "11 NotAnswered"
refusal_name NoOverride = codes "12 NoOverride"
refusal_name NothingToUndo = codes "13 NothingToUndo"
refusal_name NothingToRedo = codes "14 NothingToRedo"
refusal_name NoStamps = codes "15 NoStamps"
refusal_name NoMemory = []

-- the place of the limit that refuses
abbrev pub refusal_place : Refusal → List ℕ
refusal_place UnknownFact = []
refusal_place NoMember = []
refusal_place WrongKind = []
refusal_place BadValue = []
refusal_place (Limit place) = numbered (codes " ") place
refusal_place (Check place) = numbered (codes " ") place
refusal_place Full = []
refusal_place AlreadyOpen = []
refusal_place NotAnswered = []
refusal_place NoOverride = []
refusal_place NothingToUndo = []
refusal_place NothingToRedo = []
refusal_place NoStamps = []
refusal_place NoMemory = []

abbrev pub refusal_text : Refusal → List ℕ
refusal_text refusal = codes "refused " ++ refusal_name refusal ++ refusal_place refusal

-- of a watch: want of memory has none
abbrev pub watch_refusal_name : WatchRefusal → List ℕ
watch_refusal_name watches.UnknownWatch = codes "16 UnknownWatch"
watch_refusal_name watches.WatchThere = codes "17 WatchThere"
watch_refusal_name watches.WatchesFull = codes "18 WatchesFull"
watch_refusal_name watches.NotWatched = codes "19 NotWatched"
watch_refusal_name watches.NoMemory = []

-- there was no memory for it
abbrev pub is_watch_memory : WatchRefusal → Bool
is_watch_memory watches.NoMemory = true
is_watch_memory _ = false

abbrev pub watch_refusal_text : WatchRefusal → List ℕ
watch_refusal_text refusal = codes "refused " ++ watch_refusal_name refusal

-- a line that has no form of a command, and one that is too long
abbrev pub bad_line_text : List ℕ
bad_line_text = codes "refused 1 BadLine"

abbrev pub long_line_text : List ℕ
long_line_text = codes "refused 2 LongLine"

-- ---- the text of a reply

-- of a reply that leaves this state; the last four have none, since what asks for them is answered without a reply of the session
-- `is_final` tests by `steady`: dictionary's law `the_test_tells_steady` ties that to what a steady fact is
abbrev pub reply_text : Rules → SessionState → Reply → List ℕ
reply_text r c Done = codes "ok"
reply_text r c (Added member) = numbered (codes "ok #") member
reply_text r c (Answer slot) = asked_text (result_text (tree_of r).enums) (plain r.accepted c.timeline.now slot) (codes "incomplete")
reply_text r c (FinalAsked slot) = asked_text (final_text (tree_of r).enums (is_final r.accepted c.timeline.now slot)) (plain r.accepted c.timeline.now slot) (codes "open")
reply_text r c (Stamp number) = numbered (codes "stamp ") number
reply_text r c (Touched number) = numbered (codes "touched ") number
reply_text r c (MissingAsked slot) = []
reply_text r c (WatchAsked slot) = []
reply_text r c (UnwatchAsked slot) = []
reply_text r c Quit = []

-- ---- what is missing

-- how many slots are missing of one, and their paths
abbrev pub missing_count : List Slot → List ℕ
missing_count slots = numbered (codes "missing ") (length slots)

abbrev pub missing_lines : Rules → SessionState → Slot → List (List ℕ)
missing_lines r c slot =
    let slots = missing r.accepted c.timeline.now slot in
    missing_count slots ∷ map (slot_text (tree_of r)) slots

-- or why the slot isn't there
abbrev pub missing_output : Rules → SessionState → Result Slot Refusal → List (List ℕ)
missing_output r c (Ok slot) = missing_lines r c slot
missing_output r c (Err refusal) = refusal_text refusal ∷ []
