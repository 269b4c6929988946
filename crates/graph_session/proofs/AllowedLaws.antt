-- A command that isn't refused makes a change that can be made and is allowed.
use Rattle.std.proofs.Common.{◌≡◌, ℕ, ◌<◌, Bool, true, false, not, ◌&&◌, nat_le, IsTrue, List, [], ◌∷◌, ◌++◌, length, Option, Some, None, is_none, is_some, refl, sym, subst, arith}
use Rattle.std.specs.Prelude.{option_and_then, unwrap_or}
use Rattle.std.specs.FinMap as map
use Rattle.std.specs.Prelude.{IfOk, Result, Ok, Err}
use Rattle.graph_session.proofs.StepLaws.{found_then}
use Rattle.std.proofs.lemmas.Bool.Decides.{nat_tests}
use Rattle.script_lines.specs.declared.command.Command.{Command}
use Rattle.script_lines.specs.declared.command.Command.TheVariants as commands
use Rattle.fact_paths.specs.declared.slot_path.SlotPath.{SlotPath}
use Rattle.fact_values.specs.declared.fact_type.FactType.{FactType}
use Rattle.fact_values.specs.declared.slot.Slot.{Slot}
use Rattle.fact_values.specs.declared.value.Value.{Value}
use Rattle.value_text.specs.Values.{value_at}
use Rattle.value_text.proofs.ParsingLaws.{value_again}
use Rattle.value_text.proofs.TypeLaws.{of_type}
use Rattle.dict_source.specs.Dictionary.{Dictionary as Tree}
use Rattle.node_types.specs.StatedTypes.{type_at}
use Rattle.common_lemmas.proofs.Bools.{and_intro, or_neither}
use Rattle.common_lemmas.proofs.Options.{nothing}
use Rattle.answers.specs.declared.edit.Side.{Side}
use Rattle.answers.specs.declared.edit.Side.TheVariants.{Answer, Override}
use Rattle.answers.specs.Answered.{Answered, list_of}
use Rattle.answers.specs.Change.{Change, adds, opens, removes, sets}
use Rattle.dict_meaning.specs.Allowed.{IsAllowed}
use Rattle.dict_meaning.specs.Fits.{AnswersFit, IsOfFact, is_list, takes}
use Rattle.dict_meaning.specs.Slots.{is_member, stands}
use Rattle.dict_meaning.proofs.SlotLaws.{slot_stands}
use Rattle.graph_session.specs.Changes.{CanBeMade, change_of, change_refusals}
use Rattle.graph_session.specs.Judging.{is_full, value_spelled}
use Rattle.graph_session.specs.Naming.{fact_of, is_unknown, lacks_member, named_fact, slot_of}
use Rattle.graph_session.specs.Refusals.{add_refusals, first_of, open_refusals, remove_refusals, slot_found, slot_refusals, when}
use Rattle.graph_session.specs.Rules.{Rules, tree_of}
use Rattle.graph_session.specs.declared.reply.Refusal.{Refusal}
use Rattle.graph_session.specs.declared.reply.Refusal.TheVariants.{UnknownFact, NoMember, WrongKind, Full, AlreadyOpen}
use Rattle.graph_session.proofs.NamingLaws.{named_stands}
use Rattle.graph_session.proofs.TypeLaws.{value_typed}

-- ---- where no test holds

when_not : (b : Bool) (r : Refusal) (rest : List (Option Refusal)) → first_of (when b r ∷ rest) ≡ None → (b ≡ false) × (first_of rest ≡ None)
when_not true r rest h = absurd cc
when_not false r rest h = (refl, h)

when_kind : (b : Bool) (rest : List (Option Refusal)) → first_of (when (not b) WrongKind ∷ rest) ≡ None → IsTrue b × (first_of rest ≡ None)
when_kind true rest h = (refl, h)
when_kind false rest h = absurd cc

found_some : (o : Option ℕ) → is_none o ≡ false → o ≡ Some (unwrap_or o 0)
found_some None h = absurd cc
found_some (Some n) h = refl

-- the slot that the path names stands
slot_there : (r : Rules) (a : Answered) (path : SlotPath) (rest : List (Option Refusal)) → AnswersFit (tree_of r) a → first_of (slot_refusals r a path ++ rest) ≡ None
    → IsTrue (stands (tree_of r) a (slot_of (tree_of r) path)) × (first_of rest ≡ None)
slot_there r a path rest fit h =
    let d = tree_of r in
    let one = when_not (is_unknown d path) UnknownFact (when (lacks_member d a path) NoMember ∷ rest) h in
    let two = when_not (lacks_member d a path) NoMember rest one.1 in
    (named_stands d a path (fact_of d path) fit (found_some (named_fact d path) one.0) two.0, two.1)

-- ---- changes

of_fact : (d : Tree) (a : Answered) (n : ℕ) (text : List ℕ) (v : Value) (o : Option FactType) → type_at d n ≡ o → option_and_then (λ t. value_at d.enums t text) o ≡ Some v → IsOfFact d a n v
of_fact d a n text v None e h = absurd cc
of_fact d a n text v (Some t) e h = (t, e, value_typed d a t v (of_type d.enums t text v (value_again d.enums t text v h)))

-- a value that is spelled, at a slot that is found and takes it
value_allowed : (r : Rules) (a : Answered) (side : Side) (path : SlotPath) (text : List ℕ) (o : Option Value) → IsTrue (stands (tree_of r) a (slot_of (tree_of r) path)) → takes side (tree_of r) (fact_of (tree_of r) path) ≡ true
    → value_spelled (tree_of r) (fact_of (tree_of r) path) text ≡ o → IsAllowed r.accepted a (sets side (slot_of (tree_of r) path) o)
value_allowed r a side path text None found taken h = tt
value_allowed r a side path text (Some v) found taken h =
    let d = tree_of r in
    let n = fact_of d path in
    (and_intro (stands d a (slot_of d path)) (takes side d n) found taken, of_fact d a n text v (type_at d n) refl h)

below_limit : (most n : ℕ) → nat_le most n ≡ false → n < most
below_limit most n h = grind (arith, nat_tests)

is_there : (list member : Bool) → list ≡ true → (list && not member) ≡ false → member ≡ true
is_there true true h k = refl
is_there true false h k = absurd cc
is_there false member h k = absurd cc

module _ (r : Rules) (a : Answered) (fit : AnswersFit (tree_of r) a) (path : SlotPath) where
  spelled_made : (side : Side) (text : List ℕ) (rest : List (Option Refusal)) → first_of (slot_refusals r a path ++ (when (not (takes side (tree_of r) (fact_of (tree_of r) path))) WrongKind ∷ rest)) ≡ None
      → CanBeMade r a (sets side (slot_of (tree_of r) path) (value_spelled (tree_of r) (fact_of (tree_of r) path) text))
  spelled_made side text rest h =
      let found = slot_there r a path (when (not (takes side (tree_of r) (fact_of (tree_of r) path))) WrongKind ∷ rest) fit h in
      let kind = when_kind (takes side (tree_of r) (fact_of (tree_of r) path)) rest found.1 in
      (slot_stands (tree_of r) a (slot_of (tree_of r) path) found.0, value_allowed r a side path text (value_spelled (tree_of r) (fact_of (tree_of r) path) text) found.0 kind.0 refl)

  taken_made : (side : Side) (rest : List (Option Refusal)) → first_of (slot_refusals r a path ++ rest) ≡ None → CanBeMade r a (sets side (slot_of (tree_of r) path) None)
  taken_made side rest h = (slot_stands (tree_of r) a (slot_of (tree_of r) path) (slot_there r a path rest fit h).0, tt)

  open_made : first_of (open_refusals r a path) ≡ None → CanBeMade r a (opens (fact_of (tree_of r) path))
  open_made h =
      let n = fact_of (tree_of r) path in
      let opened = when (is_some (map.get a.lists n)) AlreadyOpen in
      let kind = when_kind (is_list (tree_of r) n) (opened ∷ []) (slot_there r a path (when (not (is_list (tree_of r) n)) WrongKind ∷ opened ∷ []) fit h).1 in
      (nothing (map.get a.lists n) (when_not (is_some (map.get a.lists n)) AlreadyOpen [] kind.1).0, kind.0)

  add_made : first_of (add_refusals r a path) ≡ None → CanBeMade r a (adds (fact_of (tree_of r) path))
  add_made h =
      let n = fact_of (tree_of r) path in
      let full = when (is_full a n) Full in
      let kind = when_kind (is_list (tree_of r) n) (full ∷ []) (slot_there r a path (when (not (is_list (tree_of r) n)) WrongKind ∷ full ∷ []) fit h).1 in
      let left = or_neither (nat_le 100 (length (list_of a n))) (nat_le 1000001 a.next) (when_not (is_full a n) Full [] kind.1).0 in
      ((below_limit 100 (length (list_of a n)) left.0, let low = below_limit 1000001 a.next left.1 in omega (arith, low)), kind.0)

  remove_made : (member : ℕ) → first_of (remove_refusals r a path member) ≡ None → CanBeMade r a (removes (fact_of (tree_of r) path) member)
  remove_made member h =
      let n = fact_of (tree_of r) path in
      let kind_test = when (not (is_list (tree_of r) n)) WrongKind in
      let lacks = is_list (tree_of r) n && not (is_member a n member) in
      let there = when_not lacks NoMember (kind_test ∷ []) (slot_there r a path (when lacks NoMember ∷ kind_test ∷ []) fit h).1 in
      (is_there (is_list (tree_of r) n) (is_member a n member) (when_kind (is_list (tree_of r) n) [] there.1).0 there.0, tt)

made_as : (r : Rules) (a : Answered) (x y : Change) → Some x ≡ Some y → CanBeMade r a x → CanBeMade r a y
made_as r a x y e h = let same : x ≡ y = cc in subst (CanBeMade r a) same h

-- of each command
pub can_be_made : (r : Rules) (a : Answered) → AnswersFit (tree_of r) a → (c : Command) (x : Change) → change_of (tree_of r) c ≡ Some x → first_of (change_refusals r a c) ≡ None → CanBeMade r a x
can_be_made r a fit (commands.Set path text) x e h = made_as r a _ x e (spelled_made r a fit path Answer text _ h)
can_be_made r a fit (commands.Clear path) x e h = made_as r a _ x e (taken_made r a fit path Answer _ h)
can_be_made r a fit (commands.OpenList path) x e h = made_as r a _ x e (open_made r a fit path h)
can_be_made r a fit (commands.Add path) x e h = made_as r a _ x e (add_made r a fit path h)
can_be_made r a fit (commands.Remove path member) x e h = made_as r a _ x e (remove_made r a fit path member h)
can_be_made r a fit (commands.Override path text) x e h = made_as r a _ x e (spelled_made r a fit path Override text _ h)
can_be_made r a fit (commands.Release path) x e h = made_as r a _ x e (taken_made r a fit path Override _ h)
can_be_made r a fit c x e h = absurd cc

-- the slot that is found stands
pub found_stands : (r : Rules) (a : Answered) (path : SlotPath) (found : Result Slot Refusal) → AnswersFit (tree_of r) a → found ≡ slot_found r a path → IfOk found (λ s. IsTrue (stands (tree_of r) a s))
found_stands r a path (Err e) fit h = tt
found_stands r a path (Ok s) fit h =
    let f = found_then r a path s [] h in
    let none : first_of (slot_refusals r a path ++ []) ≡ None = f.0 in
    subst (λ (t : Slot). IsTrue (stands (tree_of r) a t)) (sym f.1) (slot_there r a path [] fit none).0
