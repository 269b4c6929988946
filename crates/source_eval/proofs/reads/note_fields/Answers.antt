use Rattle.std.proofs.Common.{◌≡◌, ◌++◌, [], ◌∙◌, List, ℕ, flat_map, drop, sym, ap}
use Rattle.std.proofs.lemmas.List.{append-nil, drop_all}
use Rattle.source_eval.specs.NodeReads.{target_slot}
use Rattle.source_eval.proofs.ReadLaws.{member_read}
use Rattle.source_eval.proofs.reads.note_fields.Goals as goal

pub loop-member-init : goal.loop-member-init
loop-member-init g c = λ keeps. ap (λ (ms : List ℕ). g.N.Notes.noted c.args.notes.now ++ flat_map (target_slot c.args.field) ms) c.members-member-items.ensures.value

pub loop-member-preserved : goal.loop-member-preserved
loop-member-preserved g c = λ keeps.
    member_read (target_slot c.args.field) c.members-member-items.result.now c.loop-member.member-index c.loop-member-test.true _ _ (c.in_ok-note.ensures keeps)
    ∙ c.loop-member.invariant keeps

pub returns : goal.returns
returns g c = λ keeps.
    let now = g.N.Notes.noted c.loop-member.notes in
    let none : drop c.loop-member.member-index c.members-member-items.result.now ≡ [] = drop_all c.loop-member.member-index c.members-member-items.result.now c.loop-member-test.false in
    sym (append-nil now)
    ∙ sym (ap (λ (ms : List ℕ). now ++ flat_map (target_slot c.args.field) ms) none)
    ∙ c.loop-member.invariant keeps
