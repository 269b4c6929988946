-- One more result, and the rest of a list, after what was seen.
use Rattle.std.proofs.Common.{◌≡◌, Bool, true, false, not, ◌||◌, ◌&&◌, if◌then◌else◌, List, [], ◌∷◌, ◌++◌, Option, Some, None, refl, sym, ap, ◌∙◌, append_assoc, arith}
use Rattle.std.proofs.lemmas.List.{append-nil}
use Rattle.std.proofs.lemmas.List.Folds.{list_all-append, list_any-append}
use Rattle.common_lemmas.proofs.Bools.{and_true, or_false}
use Rattle.std.specs.List.{list_any, list_all}
use Rattle.fact_values.specs.declared.fault.ValueFault.{ValueFault}
use Rattle.fact_values.specs.declared.value.Value.TheVariants.{Boolean}
use Rattle.three_state.specs.declared.junction.Junction.{Junction}
use Rattle.three_state.specs.declared.res.Res.{Res}
use Rattle.three_state.specs.declared.res.Res.TheVariants.{Complete, Placeholder, Incomplete, Fault}
use Rattle.three_state.specs.declared.strict.Verdict.TheVariants as verdict
use Rattle.three_state.specs.Results.{first_fault, fault_or, fault_else, fault_or_go, is_complete, is_complete_at, is_incomplete, is_placeholder, is_placeholder_at, junction, verdict_of}
use Rattle.three_state.specs.Folds.{junction_next, junction_on, verdict_next, verdict_on}
use Rattle.three_state.specs.Junctions.{fault_then, with_operand, end_of}

-- ---- the first fault of a list and what stands behind it

first_fault-append : (rs ss : List Res) → first_fault (rs ++ ss) ≡ fault_then (first_fault rs) (first_fault ss)
first_fault-append [] ss = refl
first_fault-append (Fault fault ∷ rs) ss = refl
first_fault-append (_ ∷ rs) ss = first_fault-append rs ss

-- ---- All and Any

-- the rules, from what they ask of the list
abbrev rules : Bool → Bool → Bool → Option ValueFault → Bool → Bool → Res
rules d decided incomplete fault soft placeholder =
    if decided then Complete (Boolean d)
    else if incomplete then Incomplete
    else fault_else fault
    (if soft then Placeholder (Boolean d)
    else if placeholder then Placeholder (Boolean (not d))
    else Complete (Boolean (not d)))

-- the result of what was seen counts as one operand before the rest
rules_then : (d : Bool) (a b : Bool) (f : Option ValueFault) (s p : Bool) (a' b' : Bool) (f' : Option ValueFault) (s' p' : Bool)
    → (let r = rules d a b f s p in rules d (is_complete_at d r || a') (is_incomplete r || b') (fault_then (fault_or r None) f') (is_placeholder_at d r || s') (is_placeholder r || p'))
    ≡ rules d (a || a') (b || b') (fault_then f f') (s || s') (p || p')
rules_then d false true f s p a' b' f' s' p' = refl
rules_then d false false (Some fault) s p a' b' f' s' p' = refl
rules_then true a b f s p a' b' f' s' p' = grind arith
rules_then false a b f s p a' b' f' s' p' = grind arith

fault_then-fault_or : (r : Res) (rest : Option ValueFault) → fault_or r rest ≡ fault_then (fault_or r None) rest
fault_then-fault_or (Fault fault) rest = refl
fault_then-fault_or _ rest = refl

pub junction-append : (d : Bool) (rs ss : List Res) → junction d (junction d rs ∷ ss) ≡ junction d (rs ++ ss)
junction-append d rs ss =
    rw (
      list_any-append (is_complete_at d) rs ss,
      list_any-append is_incomplete rs ss,
      first_fault-append rs ss,
      list_any-append (is_placeholder_at d) rs ss,
      list_any-append is_placeholder rs ss,
      fault_then-fault_or (junction d rs) (first_fault ss),
    )
    (rules_then d (list_any (is_complete_at d) rs) (list_any is_incomplete rs) (first_fault rs) (list_any (is_placeholder_at d) rs) (list_any is_placeholder rs)
    (list_any (is_complete_at d) ss) (list_any is_incomplete ss) (first_fault ss) (list_any (is_placeholder_at d) ss) (list_any is_placeholder ss))

-- the fold's own step
pub end_of-with_operand : (d : Bool) (j : Junction) (r : Res) → end_of d (with_operand d j r) ≡ junction_next d (end_of d j) r
unfolding junction_next
end_of-with_operand d j r =
    rw (or_false (is_complete_at d r), or_false (is_incomplete r), or_false (is_placeholder_at d r), or_false (is_placeholder r), fault_then-fault_or (end_of d j) (fault_or r None))
    (sym (rules_then d j.decided j.incomplete j.fault j.decided_by_placeholder j.placeholder (is_complete_at d r) (is_incomplete r) (fault_or r None) (is_placeholder_at d r) (is_placeholder r)))

pub junction-push : (d : Bool) (rs : List Res) (r : Res) → junction d (rs ++ r ∷ []) ≡ junction_next d (junction d rs) r
unfolding junction_next
junction-push d rs r = sym (junction-append d rs (r ∷ []))

-- from what was seen on
pub junction_on-seen : (d : Bool) (rs ss : List Res) → junction_on d (junction d rs) ss ≡ junction d (rs ++ ss)
junction_on-seen d rs [] = ap (junction d) (sym (append-nil rs))
junction_on-seen d rs (s ∷ ss) = ap (λ j. junction_on d j ss) (sym (junction-push d rs s)) ∙ junction_on-seen d (rs ++ s ∷ []) ss ∙ ap (junction d) (append_assoc rs (s ∷ []) ss)

pub junction_on-start : (d : Bool) (rs : List Res) → junction_on d (junction d []) rs ≡ junction d rs
junction_on-start d rs = junction_on-seen d [] rs

-- ---- strict operations

verdict_push : (b : Bool) (f : Option ValueFault) (c : Bool) (r : Res)
    → (if b || is_incomplete r then verdict.Incomplete else fault_or_go (fault_then f (fault_or r None)) (c && is_complete r))
    ≡ verdict_next (if b then verdict.Incomplete else fault_or_go f c) r
verdict_push true f c r = refl
verdict_push false (Some fault) c r = grind arith
verdict_push false None c (Complete v) = ap verdict.Go (and_true c)
verdict_push false None true (Placeholder v) = refl
verdict_push false None false (Placeholder v) = refl
verdict_push false None c _ = refl

pub verdict_of-push : (rs : List Res) (r : Res) → verdict_of (rs ++ r ∷ []) ≡ verdict_next (verdict_of rs) r
verdict_of-push rs r =
    rw (list_any-append is_incomplete rs (r ∷ []), first_fault-append rs (r ∷ []), list_all-append is_complete rs (r ∷ []), or_false (is_incomplete r), and_true (is_complete r))
    (verdict_push (list_any is_incomplete rs) (first_fault rs) (list_all is_complete rs) r)

pub verdict_on-seen : (rs ss : List Res) → verdict_on (verdict_of rs) ss ≡ verdict_of (rs ++ ss)
verdict_on-seen rs [] = ap verdict_of (sym (append-nil rs))
verdict_on-seen rs (s ∷ ss) = ap (λ v. verdict_on v ss) (sym (verdict_of-push rs s)) ∙ verdict_on-seen (rs ++ s ∷ []) ss ∙ ap verdict_of (append_assoc rs (s ∷ []) ss)

pub verdict_on-start : (rs : List Res) → verdict_on (verdict.Go true) rs ≡ verdict_of rs
verdict_on-start rs = verdict_on-seen [] rs
