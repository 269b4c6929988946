-- A line is read as the command that it spells.
use Rattle.std.proofs.Common.{◌≡◌, ◌≢◌, ℕ, ◌-◌, Bool, true, false, eqb, List, [], ◌∷◌, ◌++◌, length, take, slice_get, Option, Some, None, Result, Ok, Err, ◌⊎◌, inl, inr, refl, sym, ap, subst, ◌∙◌, arith, length-append}
use Rattle.std.specs.Prelude.{codes, option_map, slice_index, if◌then◌else◌}
use Rattle.std.specs.Str.{IsUtf8, bytes_eq, is_utf8}
use Rattle.std.proofs.Math.Seq.{get_or-append_seam, take-append_seam}
use Rattle.std.proofs.lemmas.Bool.{cases_eq, eq-eqb, false≢true, ne_eqb}
use Rattle.std.proofs.lemmas.Option.{none-some, same_Some}
use Rattle.std.proofs.lemmas.Slice.Eq.{bytes_eq-Decides}
use Rattle.std.proofs.lemmas.Str.{IsUtf8-from_is_utf8, is_utf8-from_IsUtf8}
use Rattle.fact_paths.specs.Paths.{IsSlotPath, slot_path_text}
use Rattle.fact_paths.specs.declared.slot_path.SlotPath.{SlotPath}
use Rattle.fact_paths.proofs.CutLaws.{cut_some}
use Rattle.fact_paths.proofs.SlotPathLaws.{slot_path_reading}
use Rattle.script_lines.specs.Commands.{command_text, IsCommand, without_return, IsSilentText, IsSilent, SpellsCommand, ReadsLine}
use Rattle.script_lines.specs.Parsing.{at_blank, slot_of, slot_and_value_of, slot_and_member_of, name_and_slot_of, verb_of, command_alone, command_with, command_of_verb, command_of_cut, command_of_text, Heard, nothing, bad_line, command, heard_of, heard, heard_in, SaysExactly, GivesHeard}
use Rattle.script_lines.specs.declared.command.Command.{Command}
use Rattle.script_lines.specs.declared.command.Command.TheVariants as commands
use Rattle.script_lines.specs.declared.fault.LineFault.{LineFault}
use Rattle.script_lines.specs.declared.fault.LineFault.TheVariants.{BadLine, NoMemory}
use Rattle.script_lines.specs.declared.verb.Verb.{Verb}
use Rattle.script_lines.specs.declared.verb.Verb.TheVariants as verbs
use Rattle.script_lines.proofs.PartLaws.{slot_of-text, slot_and_value_some, slot_and_value_of-text, slot_and_member_some, slot_and_member_of-text, name_and_slot_some, name_and_slot_of-text}

-- ---- words

-- the word that is looked for first, or one of the rest
pick : {A : Type 0} (R : A → Type 0) (word name : List ℕ) (x : A) (rest : Option A) (v : A)
    → (word ≡ name → R x) → (rest ≡ Some v → R v) → (if bytes_eq word name then Some x else rest) ≡ Some v → R v
pick R word name x rest v first later = by_test (bytes_eq word name) refl
  where
    by_test : (b : Bool) → bytes_eq word name ≡ b → (if b then Some x else rest) ≡ Some v → R v
    by_test true is e = subst R (same_Some x v e) (first ((bytes_eq-Decides word name).0 is))
    by_test false is e = later e

abbrev verb_text : Verb → List ℕ
verb_text verbs.Set = codes "set"
verb_text verbs.Clear = codes "clear"
verb_text verbs.OpenList = codes "open"
verb_text verbs.Add = codes "add"
verb_text verbs.Remove = codes "remove"
verb_text verbs.Override = codes "override"
verb_text verbs.Release = codes "release"
verb_text verbs.Get = codes "get"
verb_text verbs.Final = codes "final"
verb_text verbs.Stamp = codes "stamp"
verb_text verbs.Missing = codes "missing"
verb_text verbs.Watch = codes "watch"
verb_text verbs.Unwatch = codes "unwatch"

verb_of_some : (word : List ℕ) (verb : Verb) → verb_of word ≡ Some verb → word ≡ verb_text verb
verb_of_some word verb =
    is verbs.Set _ (is verbs.Clear _ (is verbs.OpenList _ (is verbs.Add _ (is verbs.Remove _ (is verbs.Override _ (is verbs.Release _ (
    is verbs.Get _ (is verbs.Final _ (is verbs.Stamp _ (is verbs.Missing _ (is verbs.Watch _ (is verbs.Unwatch None (λ e. absurd (none-some verb e))))))))))))))
  where
    is : (x : Verb) (rest : Option Verb) → (rest ≡ Some verb → word ≡ verb_text verb) → (if bytes_eq word (verb_text x) then Some x else rest) ≡ Some verb → word ≡ verb_text verb
    is x rest later = pick (λ v. word ≡ verb_text v) word (verb_text x) x rest verb (λ same. same) later

-- a text is the command's
abbrev IsText : List ℕ → Command → Type 0
IsText text c = IsCommand c × (text ≡ command_text c)

alone_some : (word : List ℕ) (c : Command) → command_alone word ≡ Some c → IsText word c
alone_some word c =
    pick (IsText word) word (codes "undo") commands.Undo _ c (λ is. (tt, is)) (
    pick (IsText word) word (codes "redo") commands.Redo _ c (λ is. (tt, is)) (
    pick (IsText word) word (codes "touched") commands.Touched _ c (λ is. (tt, is)) (
    pick (IsText word) word (codes "quit") commands.Quit None c (λ is. (tt, is)) (λ e. absurd (none-some c e)))))

-- ---- commands of more words

-- what is read is made of its parts
with_parts : {A : Type 0} (make : A → Command) (read : Option A) (text : List ℕ) (c : Command) → ((x : A) → read ≡ Some x → IsText text (make x)) → option_map make read ≡ Some c → IsText text c
with_parts make None text c is e = absurd (none-some c e)
with_parts make (Some x) text c is e = subst (IsText text) (same_Some (make x) c e) (is x refl)

-- a word and a slot
with_slot : (make : SlotPath → Command) (word : List ℕ) → ((slot : SlotPath) → IsSlotPath slot → IsText (word ++ slot_path_text slot) (make slot))
    → (rest : List ℕ) (c : Command) → option_map make (slot_of rest) ≡ Some c → IsText (word ++ rest) c
with_slot make word is rest c =
    with_parts make (slot_of rest) (word ++ rest) c (λ slot read.
    let spelled = slot_path_reading.sound rest slot read in
    subst (λ (text : List ℕ). IsText (word ++ text) (make slot)) (sym spelled.1) (is slot spelled.0))

with_some : (verb : Verb) (rest : List ℕ) (c : Command) → command_with verb rest ≡ Some c → IsText (verb_text verb ++ 32 ∷ rest) c
with_some verbs.Set rest c = with_parts (λ p. commands.Set p.0 p.1) (slot_and_value_of rest) _ c (λ p read. let parts = slot_and_value_some rest p read in (parts.0, ap (λ (text : List ℕ). codes "set " ++ text) parts.1))
with_some verbs.Clear rest c = with_slot commands.Clear (codes "clear ") (λ slot is. (is, refl)) rest c
with_some verbs.OpenList rest c = with_slot commands.OpenList (codes "open ") (λ slot is. (is, refl)) rest c
with_some verbs.Add rest c = with_slot commands.Add (codes "add ") (λ slot is. (is, refl)) rest c
with_some verbs.Remove rest c = with_parts (λ p. commands.Remove p.0 p.1) (slot_and_member_of rest) _ c (λ p read. let parts = slot_and_member_some rest p read in ((parts.0, parts.1), ap (λ (text : List ℕ). codes "remove " ++ text) parts.2))
with_some verbs.Override rest c = with_parts (λ p. commands.Override p.0 p.1) (slot_and_value_of rest) _ c (λ p read. let parts = slot_and_value_some rest p read in (parts.0, ap (λ (text : List ℕ). codes "override " ++ text) parts.1))
with_some verbs.Release rest c = with_slot commands.Release (codes "release ") (λ slot is. (is, refl)) rest c
with_some verbs.Get rest c = with_slot commands.Get (codes "get ") (λ slot is. (is, refl)) rest c
with_some verbs.Final rest c = with_slot commands.Final (codes "final ") (λ slot is. (is, refl)) rest c
with_some verbs.Stamp rest c = with_slot commands.Stamp (codes "stamp ") (λ slot is. (is, refl)) rest c
with_some verbs.Missing rest c = with_slot commands.Missing (codes "missing ") (λ slot is. (is, refl)) rest c
with_some verbs.Watch rest c = with_parts (λ p. commands.Watch p.0 p.1) (name_and_slot_of rest) _ c (λ p read. let parts = name_and_slot_some rest p read in ((parts.0, parts.1), ap (λ (text : List ℕ). codes "watch " ++ text) parts.2))
with_some verbs.Unwatch rest c = with_parts (λ p. commands.Unwatch p.0 p.1) (name_and_slot_of rest) _ c (λ p read. let parts = name_and_slot_some rest p read in ((parts.0, parts.1), ap (λ (text : List ℕ). codes "unwatch " ++ text) parts.2))

-- ---- texts

-- what is read of a text is a command that has this text
sound : (text : List ℕ) (c : Command) → command_of_text text ≡ Some c → IsText text c
sound text c = by_cut (at_blank text) refl
  where
    by_verb : (word rest : List ℕ) (read : Option Verb) → verb_of word ≡ read → command_of_verb read rest ≡ Some c → IsText (word ++ 32 ∷ rest) c
    by_verb word rest None is e = absurd (none-some c e)
    by_verb word rest (Some verb) is e = subst (λ (w : List ℕ). IsText (w ++ 32 ∷ rest) c) (sym (verb_of_some word verb is)) (with_some verb rest c e)

    by_cut : (parts : Option (List ℕ × List ℕ)) → at_blank text ≡ parts → command_of_cut text parts ≡ Some c → IsText text c
    by_cut None is e = alone_some text c e
    by_cut (Some parts) is e = subst (λ (t : List ℕ). IsText t c) (sym (cut_some 32 text parts.0 parts.1 is)) (by_verb parts.0 parts.1 (verb_of parts.0) refl e)

-- a command's text is read as the command
complete : (c : Command) → IsCommand c → command_of_text (command_text c) ≡ Some c
complete (commands.Set slot value) is = ap (option_map (λ p. commands.Set p.0 p.1)) (slot_and_value_of-text slot value is)
complete (commands.Clear slot) is = ap (option_map commands.Clear) (slot_of-text slot is)
complete (commands.OpenList slot) is = ap (option_map commands.OpenList) (slot_of-text slot is)
complete (commands.Add slot) is = ap (option_map commands.Add) (slot_of-text slot is)
complete (commands.Remove slot k) is = ap (option_map (λ p. commands.Remove p.0 p.1)) (slot_and_member_of-text slot k is.0 is.1)
complete (commands.Override slot value) is = ap (option_map (λ p. commands.Override p.0 p.1)) (slot_and_value_of-text slot value is)
complete (commands.Release slot) is = ap (option_map commands.Release) (slot_of-text slot is)
complete commands.Undo is = refl
complete commands.Redo is = refl
complete (commands.Get slot) is = ap (option_map commands.Get) (slot_of-text slot is)
complete (commands.Final slot) is = ap (option_map commands.Final) (slot_of-text slot is)
complete (commands.Stamp slot) is = ap (option_map commands.Stamp) (slot_of-text slot is)
complete commands.Touched is = refl
complete (commands.Missing slot) is = ap (option_map commands.Missing) (slot_of-text slot is)
complete (commands.Watch name slot) is = ap (option_map (λ p. commands.Watch p.0 p.1)) (name_and_slot_of-text name slot is.0 is.1)
complete (commands.Unwatch name slot) is = ap (option_map (λ p. commands.Unwatch p.0 p.1)) (name_and_slot_of-text name slot is.0 is.1)
complete commands.Quit is = refl

-- no command begins with `#`
letter : (b : ℕ) → eqb b 35 ≡ false → b ≢ 35
letter b other note = false≢true (sym other ∙ eq-eqb b 35 note)

speaks : (c : Command) → ¬ (IsSilentText (command_text c))
speaks (commands.Set slot value) = letter 115 refl
speaks (commands.Clear slot) = letter 99 refl
speaks (commands.OpenList slot) = letter 111 refl
speaks (commands.Add slot) = letter 97 refl
speaks (commands.Remove slot k) = letter 114 refl
speaks (commands.Override slot value) = letter 111 refl
speaks (commands.Release slot) = letter 114 refl
speaks commands.Undo = letter 117 refl
speaks commands.Redo = letter 114 refl
speaks (commands.Get slot) = letter 103 refl
speaks (commands.Final slot) = letter 102 refl
speaks (commands.Stamp slot) = letter 115 refl
speaks commands.Touched = letter 116 refl
speaks (commands.Missing slot) = letter 109 refl
speaks (commands.Watch name slot) = letter 119 refl
speaks (commands.Unwatch name slot) = letter 117 refl
speaks commands.Quit = letter 113 refl

-- ---- lines

silent_says : (text : List ℕ) → IsSilentText text → heard text ≡ nothing
silent_says [] is = refl
silent_says (b ∷ bytes) is = ap (λ t. if t then nothing else (if is_utf8 (b ∷ bytes) then heard_of (command_of_text (b ∷ bytes)) else bad_line)) (eq-eqb b 35 is)

-- a text that has a reply
says : (text : List ℕ) → ¬ (IsSilentText text) → heard text ≡ (if is_utf8 text then heard_of (command_of_text text) else bad_line)
says [] speaking = absurd (speaking tt)
says (b ∷ bytes) speaking = ap (λ t. if t then nothing else (if is_utf8 (b ∷ bytes) then heard_of (command_of_text (b ∷ bytes)) else bad_line)) (ne_eqb b 35 speaking)

says_bad : (text : List ℕ) → ¬ (IsSilentText text) → ¬ (IsUtf8 text) → heard text ≡ bad_line
says_bad text speaking bad = says text speaking ∙ by_test (is_utf8 text) refl
  where
    by_test : (b : Bool) → is_utf8 text ≡ b → (if b then heard_of (command_of_text text) else bad_line) ≡ bad_line
    by_test true is = absurd (bad (IsUtf8-from_is_utf8 text is))
    by_test false is = refl

says_text : (text : List ℕ) → ¬ (IsSilentText text) → IsUtf8 text → heard text ≡ heard_of (command_of_text text)
says_text text speaking utf8 =
    says text speaking ∙ ap (λ b. if b then heard_of (command_of_text text) else bad_line) (is_utf8-from_IsUtf8 text utf8)

-- what the code learns of the first byte
first_speaks : (text : List ℕ) (first : ℕ) → Some first ≡ slice_get text 0 → first ≢ 35 → ¬ (IsSilentText text)
first_speaks [] first is other silent = none-some first (sym is)
first_speaks (b ∷ bytes) first is other silent = other (same_Some first b is ∙ silent)

pub no_text : (text : List ℕ) (first : ℕ) → Some first ≡ slice_get text 0 → first ≢ 35 → ¬ (IsUtf8 text) → heard text ≡ bad_line
no_text text first is other bad = says_bad text (first_speaks text first is other) bad

pub text_says : (line text : List ℕ) (first : ℕ) (read : Option Command) → Some first ≡ slice_get line 0 → first ≢ 35 → text ≡ line → IsUtf8 line → command_of_text text ≡ read → heard line ≡ heard_of read
text_says line text first read is other same utf8 reads =
    says_text line (first_speaks line first is other) utf8 ∙ ap (λ t. heard_of (command_of_text t)) (sym same) ∙ ap heard_of reads

-- ---- what is heard is what is spelled

spelled_says : (line : List ℕ) (c : Command) → SpellsCommand line c → heard_in line ≡ command c
spelled_says line c is =
    says_text (without_return line) (λ silent. speaks c (subst IsSilentText is.text silent)) is.utf8
    ∙ ap (λ t. heard_of (command_of_text t)) is.text
    ∙ ap heard_of (complete c is.parts)

same_command : (c d : Command) → command c ≡ command d → c ≡ d
same_command c d e = cc

-- the first byte decides whether there is a reply
silent_or : (text : List ℕ) → IsSilentText text ⊎ (¬ (IsSilentText text))
silent_or [] = inl tt
silent_or (b ∷ bytes) = cases_eq b 35

-- a text that is read as a command is UTF-8 and has a reply
command_from : (text : List ℕ) (c : Command) → heard text ≡ command c → IsUtf8 text × IsText text c
command_from text c e = by_reply (silent_or text)
  where
    by_read : (read : Option Command) → command_of_text text ≡ read → heard_of read ≡ command c → IsText text c
    by_read None is e = absurd cc
    by_read (Some d) is e = subst (IsText text) (same_command d c e) (sound text d is)

    by_test : (b : Bool) → is_utf8 text ≡ b → (if b then heard_of (command_of_text text) else bad_line) ≡ command c → IsUtf8 text × IsText text c
    by_test true is e = (IsUtf8-from_is_utf8 text is, by_read (command_of_text text) refl e)
    by_test false is e = absurd cc

    by_reply : IsSilentText text ⊎ (¬ (IsSilentText text)) → IsUtf8 text × IsText text c
    by_reply (inl silent) = let none = silent_says text silent in absurd cc
    by_reply (inr speaking) = by_test (is_utf8 text) refl (sym (says text speaking) ∙ e)

nothing_from : (text : List ℕ) → heard text ≡ nothing → IsSilentText text
nothing_from text e = by_reply (silent_or text)
  where
    by_read : (read : Option Command) → heard_of read ≡ nothing → ⊥
    by_read None e = cc
    by_read (Some d) e = cc

    by_test : (b : Bool) → (if b then heard_of (command_of_text text) else bad_line) ≡ nothing → ⊥
    by_test true e = by_read (command_of_text text) e
    by_test false e = cc

    by_reply : IsSilentText text ⊎ (¬ (IsSilentText text)) → IsSilentText text
    by_reply (inl silent) = silent
    by_reply (inr speaking) = absurd (by_test (is_utf8 text) (sym (says text speaking) ∙ e))

pub heard_exactly : (line : List ℕ) → SaysExactly line (heard_in line)
heard_exactly line = by_heard (heard_in line) refl
  where
    by_heard : (s : Heard) → heard_in line ≡ s → SaysExactly line s
    by_heard nothing e = nothing_from (without_return line) e
    by_heard bad_line e = record {
      reply = λ silent. let none = silent_says (without_return line) silent in cc;
      form = λ c spelled. let said = spelled_says line c spelled in cc;
    }
    by_heard (command c) e =
        let found = command_from (without_return line) c e in
        record { utf8 = found.0; parts = found.1.0; text = found.1.1 }

-- so the answer that is what the line says is right for what it spells
pub reads_from_heard : (line : List ℕ) (read : Result (Option Command) LineFault) → GivesHeard (heard_in line) read → ReadsLine line read
reads_from_heard line (Ok None) e = subst (SaysExactly line) e (heard_exactly line)
reads_from_heard line (Ok (Some c)) e = subst (SaysExactly line) e (heard_exactly line)
reads_from_heard line (Err BadLine) e = subst (SaysExactly line) e (heard_exactly line)
reads_from_heard line (Err NoMemory) e = tt

-- ---- laws

pub one_command : (line : List ℕ) (c d : Command) → SpellsCommand line c → SpellsCommand line d → c ≡ d
one_command line c d is also = same_command c d (sym (spelled_says line c is) ∙ spelled_says line d also)

pub has_reply : (line : List ℕ) (c : Command) → SpellsCommand line c → ¬ (IsSilent line)
has_reply line c is silent = speaks c (subst IsSilentText is.text silent)

-- a byte 13 behind a text is dropped
drops_return : (text : List ℕ) → without_return (text ++ 13 ∷ []) ≡ text
drops_return text =
    let line = text ++ 13 ∷ [] in
    let last : length line - 1 ≡ length text = omega (arith, length-append text (13 ∷ [])) in
    let is_return : slice_index line (length line - 1) ≡ 13 = ap (slice_index line) last ∙ get_or-append_seam text 13 [] 0 in
    ap (λ t. if t then take (length line - 1) line else line) (eq-eqb (slice_index line (length line - 1)) 13 is_return)
    ∙ ap (λ n. take n line) last
    ∙ take-append_seam text (13 ∷ [])

pub spelled_by_text : (c : Command) → IsCommand c → IsUtf8 (command_text c) → SpellsCommand (command_text c ++ 13 ∷ []) c
spelled_by_text c is utf8 = record {
  utf8 = subst IsUtf8 (sym (drops_return (command_text c))) utf8;
  parts = is;
  text = drops_return (command_text c);
}
