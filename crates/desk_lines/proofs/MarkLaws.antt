-- The mark of a party: what is read of a text is what it begins with.
use Rattle.std.proofs.Common.{◌≡◌, ◌≢◌, ℕ, zero, suc, ◌+◌, ◌<◌, List, ◌∷◌, ◌++◌, [], length, take, drop, Option, Some, None, refl, sym, ap, subst, ◌∙◌, arith, append_assoc}
use Rattle.std.specs.Prelude.{All, ◌==◌, codes, decimal, nat_le, option_map, slice_index, if◌then◌else◌}
use Rattle.std.specs.Str.{IsUtf8}
use Rattle.std.proofs.lemmas.Bool.{le-leb, leb-true}
use Rattle.std.proofs.lemmas.Bool.Decides.{nat_tests}
use Rattle.std.proofs.lemmas.Fmt.{IsAscii-decimal}
use Rattle.std.proofs.lemmas.List.Elements.{All-head, All-tail}
use Rattle.std.proofs.lemmas.Option.{cond_some, none-some, same_Some}
use Rattle.std.proofs.lemmas.Str.{IsUtf8-from_ascii}
use Rattle.common_lemmas.proofs.Options.{both_some}
use Rattle.fact_paths.specs.Cuts.{Lacks, after}
use Rattle.fact_paths.specs.Parsing.{◌>>=◌, member_number_of}
use Rattle.fact_paths.proofs.CutLaws.{after_some, cut-append, cut-lacks, cut_some}
use Rattle.fact_paths.proofs.MemberNumbers.{decimal_lacks, member_number_some, member_number-decimal}
use Rattle.script_lines.specs.Commands.{without_return}
use Rattle.script_lines.specs.Parsing.{at_blank}
use Rattle.session_lines.specs.Marks.{party_mark}
use Rattle.desk_lines.specs.PartyLines.{IsBlankAt, IsParty, party_number_of, party_of}
use Rattle.desk_lines.proofs.ReturnLaws.{dropped, without_return-blanked}

-- ---- blanks

-- the text is cut at its first blank
cut_here : (text : List ℕ) (at : ℕ) → at < length text → slice_index text at ≡ 32 → All (λ b. b ≢ 32) (take at text) → at_blank text ≡ Some (take at text, drop (suc at) text)
cut_here [] at low here first = absurd (omega (arith, low))
cut_here (b ∷ bytes) zero low here first = this (Some ([], bytes)) (option_map (λ p. (b ∷ p.0, p.1)) (at_blank bytes)) here
  where
    this : (x y : Option (List ℕ × List ℕ)) → b ≡ 32 → (if b == 32 then x else y) ≡ x
    this x y is = grind (arith, nat_tests)
cut_here (b ∷ bytes) (suc at) low here first =
    other (Some ([], bytes)) (option_map (λ p. (b ∷ p.0, p.1)) (at_blank bytes)) (All-head (λ c. c ≢ 32) b (take at bytes) first)
    ∙ ap (option_map {U = List ℕ × List ℕ} (λ p. (b ∷ p.0, p.1))) (cut_here bytes at (omega (arith, low)) here (All-tail (λ c. c ≢ 32) b (take at bytes) first))
  where
    other : (x y : Option (List ℕ × List ℕ)) → b ≢ 32 → (if b == 32 then x else y) ≡ y
    other x y apart = grind (arith, nat_tests)

pub cut_at : (text : List ℕ) (at : ℕ) → IsBlankAt text at → at_blank text ≡ Some (take at text, drop (at + 1) text)
cut_at text at blank =
    let next : suc at ≡ at + 1 = omega arith in
    cut_here text at blank.within blank.here blank.first ∙ ap (λ (n : ℕ). Some (take at text, drop n text)) next

pub uncut : (text : List ℕ) → All (λ b. b ≢ 32) text → at_blank text ≡ None
uncut text none = cut-lacks 32 text (lacks text none)
  where
    lacks : (text : List ℕ) → All (λ b. b ≢ 32) text → Lacks 32 text
    lacks [] none = tt
    lacks (b ∷ bytes) none = (All-head (λ c. c ≢ 32) b bytes none, lacks bytes (All-tail (λ c. c ≢ 32) b bytes none))

-- ---- numbers of parties

party_number_some : (digits : List ℕ) (p : ℕ) → party_number_of digits ≡ Some p → IsParty p × (digits ≡ decimal p)
party_number_some digits p e =
    let number = both_some (λ k. if nat_le k 16 then Some k else None) (member_number_of digits) p e in
    let found = cond_some (nat_le number.0 16) number.0 p number.2 in
    let spelled = member_number_some digits number.0 number.1 in
    let low = leb-true number.0 16 found.0 in
    ((omega (arith, found.1, spelled.0.0), omega (arith, found.1, low)), spelled.1 ∙ ap decimal found.1)

party_number-decimal : (p : ℕ) → IsParty p → party_number_of (decimal p) ≡ Some p
party_number-decimal p is =
    ap (λ (read : Option ℕ). read >>= λ k. if nat_le k 16 then Some k else None) (member_number-decimal p (is.0, omega (arith, is.1)))
    ∙ rw (le-leb p 16 is.1) refl

-- bytes that aren't UTF-8 spell no party
pub no_number : (digits : List ℕ) → ¬ (IsUtf8 digits) → party_number_of digits ≡ None
no_number digits no_text = by_cases (party_number_of digits) refl
  where
    by_cases : (read : Option ℕ) → party_number_of digits ≡ read → party_number_of digits ≡ None
    by_cases None e = e
    by_cases (Some p) e =
        let spelled = party_number_some digits p e in
        absurd (no_text (subst IsUtf8 (sym spelled.1) (IsUtf8-from_ascii (decimal p) (IsAscii-decimal p (omega (arith, spelled.0.1))))))

-- ---- marks

-- a mark and what stands behind it, at the blank
pub mark_at_blank : (p : ℕ) (rest : List ℕ) → party_mark p ++ rest ≡ (64 ∷ decimal p) ++ 32 ∷ rest
mark_at_blank p rest = append_assoc (64 ∷ decimal p) (32 ∷ []) rest

pub party_of_some : (text : List ℕ) (part : ℕ × List ℕ) → party_of text ≡ Some part → IsParty part.0 × (text ≡ party_mark part.0 ++ part.1)
party_of_some text part e =
    let sign = both_some (λ behind. at_blank behind >>= λ parts. party_number_of parts.0 >>= λ p. Some (p, parts.1)) (after (codes "@") text) part e in
    let parts = both_some (λ parts. party_number_of parts.0 >>= λ p. Some (p, parts.1)) (at_blank sign.0) part sign.2 in
    let number = both_some (λ p. Some (p, parts.0.1)) (party_number_of parts.0.0) part parts.2 in
    let spelled = party_number_some parts.0.0 number.0 number.1 in
    subst (λ (part : ℕ × List ℕ). IsParty part.0 × (text ≡ party_mark part.0 ++ part.1)) (same_Some (number.0, parts.0.1) part number.2) (
      spelled.0,
      after_some (codes "@") text sign.0 sign.1
          ∙ ap (λ (l : List ℕ). 64 ∷ l) (cut_some 32 sign.0 parts.0.0 parts.0.1 parts.1)
          ∙ ap (λ (l : List ℕ). 64 ∷ (l ++ 32 ∷ parts.0.1)) spelled.1
          ∙ sym (mark_at_blank number.0 parts.0.1),
    )

pub party_of-mark : (p : ℕ) (rest : List ℕ) → IsParty p → party_of (party_mark p ++ rest) ≡ Some (p, rest)
party_of-mark p rest is =
    ap party_of (mark_at_blank p rest)
    ∙ ap (λ (cut : Option (List ℕ × List ℕ)). cut >>= λ parts. party_number_of parts.0 >>= λ q. Some (q, parts.1)) (cut-append 32 (decimal p) rest (decimal_lacks 32 refl p (is.0, omega (arith, is.1))))
    ∙ ap (λ (read : Option ℕ). read >>= λ q. Some (q, rest)) (party_number-decimal p is)

-- ---- a final byte 13

-- it isn't in the mark, so it is dropped of the line as of what stands behind the mark
pub party_of-returned : (line : List ℕ) (part : ℕ × List ℕ) → party_of line ≡ Some part → party_of (without_return line) ≡ Some (part.0, without_return part.1)
party_of-returned line part e =
    let marked = party_of_some line part e in
    ap (λ (l : List ℕ). party_of (without_return l)) (marked.1 ∙ mark_at_blank part.0 part.1)
    ∙ ap party_of (without_return-blanked (64 ∷ decimal part.0) part.1 ∙ sym (mark_at_blank part.0 (without_return part.1)))
    ∙ party_of-mark part.0 (without_return part.1) marked.0

pub party_of-no_return : (line : List ℕ) → party_of line ≡ None → party_of (without_return line) ≡ None
party_of-no_return line e = by_cases (party_of (without_return line)) refl
  where
    by_cases : (read : Option (ℕ × List ℕ)) → party_of (without_return line) ≡ read → party_of (without_return line) ≡ None
    by_cases None none = none
    by_cases (Some part) some =
        let marked = party_of_some (without_return line) part some in
        let ending = dropped line in
        let whole : line ≡ party_mark part.0 ++ (part.1 ++ ending.0) = ending.1 ∙ ap (λ (l : List ℕ). l ++ ending.0) marked.1 ∙ append_assoc (party_mark part.0) part.1 ending.0 in
        absurd (none-some (part.0, part.1 ++ ending.0) (sym e ∙ ap party_of whole ∙ party_of-mark part.0 (part.1 ++ ending.0) marked.0))
