use Rattle.save_file.proofs.Common.{AllByRecursion, HasNoNewline, List, [], ap, append_assoc, arith, eqb-true, length, length-append, lines_of, option_copied, refl, subst, sym, texts_of, true, ℕ, ◌++◌, ◌∙◌, ◌∷◌, ◌≡◌, ◌≤◌}
use Rattle.save_file.proofs.OwnTexts.{ends, none_read, refused_next}
use Rattle.saved_text.proofs.TextLaws.{empty_is, lines_have_none}
use Rattle.save_file.proofs.carried_text.read_lines.Goals as goal

pub loop-rest-init : goal.loop-rest-init
loop-rest-init c = record {
  lines = refl;
  counted = omega arith;
  sound = tt;
  own = none_read (option_copied c.args.whose);
  room = omega arith;
}

pub read_next-requires-clause-line : goal.read_next-requires-clause-line
read_next-requires-clause-line c = (subst (AllByRecursion HasNoNewline) c.cut_line-cut.ensures.lines (lines_have_none c.loop-rest.rest.now)).0

pub returns-in-Err : goal.returns-in-Err
returns-in-Err c =
    let inv = c.loop-rest.invariant in
    let cut = c.cut_line-cut.result in
    refused_next c.loop-rest.stage inv.sound c.loop-rest.last c.args.bytes.now c.loop-rest.rest.now inv.lines c.loop-rest.number inv.counted (option_copied c.args.whose) c.requires.whose inv.own
    cut.0.now (lines_of cut.1.now) c.cut_line-cut.ensures.lines c.in-Err.fault c.in-Err.ensures

pub loop-rest-preserved : goal.loop-rest-preserved
loop-rest-preserved c =
    let inv = c.loop-rest.invariant in
    let cut = c.cut_line-cut.result in
    let old = texts_of c.loop-rest.stage in
    let next = c.in-Ok.ensures.0 in
    record {
      lines = inv.lines ∙ ap (λ (more : List (List ℕ)). old ++ more) c.cut_line-cut.ensures.lines ∙ sym (append_assoc old (cut.0.now ∷ []) (lines_of cut.1.now)) ∙ ap (λ (ls : List (List ℕ)). ls ++ lines_of cut.1.now) (sym next.1);
      counted = omega (arith, inv.counted, ap length next.1, length-append old (cut.0.now ∷ []));
      sound = next.0;
      own = c.in-Ok.ensures.1;
      room = omega (arith, inv.room, c.cut_line-cut.ensures.shorter);
    }

pub returns : goal.returns
returns c =
    let inv = c.loop-rest.invariant in
    let ended : c.is_empty.result ≡ true = cc in
    let empty : length c.loop-rest.rest.now ≡ 0 = eqb-true (length c.loop-rest.rest.now) 0 (sym c.is_empty.ensures ∙ ended) in
    let none : length c.loop-rest.rest.now ≤ 0 = omega arith in
    ends c.loop-rest.stage inv.sound c.loop-rest.last c.args.bytes.now c.loop-rest.rest.now inv.lines c.loop-rest.number inv.counted (option_copied c.args.whose) c.requires.whose inv.own
    (empty_is c.loop-rest.rest.now none) c.is_ended-ended.result c.is_ended-ended.ensures c.end_with.result c.end_with.ensures
