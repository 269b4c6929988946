-- What cutting a text gives.
use Rattle.std.proofs.Common.{◌≡◌, ◌≢◌, ℕ, suc, ◌+◌, ◌-◌, ◌<◌, Bool, true, false, List, [], ◌∷◌, ◌++◌, length, take, drop, get_or, Option, Some, None, eqb, eq-eqb, cond, refl, sym, ap, subst, ◌∙◌, arith}
use Rattle.std.specs.Prelude.{All, MatchOption, option_map, option_copied, slice_range}
use Rattle.std.proofs.lemmas.Bool.{eqb-true}
use Rattle.std.proofs.lemmas.Bool.Decides.{nat_tests}
use Rattle.std.proofs.lemmas.List.{drop_more, take-append-drop}
use Rattle.std.proofs.lemmas.Option.{some_pair_parts}
use Rattle.std.proofs.lemmas.Str.Pattern.{split_parts, IsSplitOnceResult}
use Rattle.std.specs.Str.Pattern.{FindsTextPrefix, StripsPrefix}
use Rattle.common_lemmas.proofs.Options.{mapped}
use Rattle.fact_paths.specs.Cuts.{IsFirstAt, Lacks, cut, after}
use denote.Ref.{Bor}

-- a byte that is at no place is nowhere
pub Lacks-at : (c : ℕ) (text : List ℕ) → ((i : ℕ) → i < length text → get_or text i 0 ≢ c) → Lacks c text
Lacks-at c [] h = tt
Lacks-at c (b ∷ bs) h = (h 0 (omega arith), Lacks-at c bs (λ i lt. h (suc i) (omega arith)))

-- what neither part has, both in a row don't have
pub Lacks-append : (c : ℕ) (front back : List ℕ) → Lacks c front → Lacks c back → Lacks c (front ++ back)
Lacks-append c [] back none back_none = back_none
Lacks-append c (b ∷ front) back none back_none = (none.0, Lacks-append c front back none.1 back_none)

-- the byte that is looked for decides one way
same_byte : {A : Type 0} (c : ℕ) (x y : A) → cond (eqb c c) x y ≡ x
same_byte c x y = rw (eq-eqb c c refl) refl

-- another byte decides the other way
other_byte : {A : Type 0} (b c : ℕ) (x y : A) → b ≢ c → cond (eqb b c) x y ≡ y
other_byte b c x y ne =
    elim (eqb b c) as (λ v. eqb b c ≡ v → cond v x y ≡ y) [ true ↦ λ e. absurd (ne (eqb-true b c e)) | false ↦ λ e. refl ] refl

-- ---- cut

-- no cut where the byte is nowhere
pub cut-lacks : (c : ℕ) (text : List ℕ) → Lacks c text → cut c text ≡ None
cut-lacks c [] h = refl
cut-lacks c (b ∷ bs) h = other_byte b c _ _ h.0 ∙ ap (option_map (λ p. (b ∷ p.0, p.1))) (cut-lacks c bs h.1)

-- the cut is at the first such byte
pub cut-append : (c : ℕ) (front rest : List ℕ) → Lacks c front → cut c (front ++ c ∷ rest) ≡ Some (front, rest)
cut-append c [] rest h = same_byte c _ _
cut-append c (b ∷ bs) rest h = other_byte b c _ _ h.0 ∙ ap (option_map (λ p. (b ∷ p.0, p.1))) (cut-append c bs rest h.1)

lacks_all : (c : ℕ) (text : List ℕ) → All (λ b. b ≢ c) text → Lacks c text
lacks_all c text none = Lacks-at c text (λ i lt. none i 0 lt)

pub cut-none : (c : ℕ) (text : List ℕ) → All (λ b. b ≢ c) text → cut c text ≡ None
cut-none c text none = cut-lacks c text (lacks_all c text none)

-- so it is at a place that is known
pub cut-first : (c : ℕ) (text front back : List ℕ) (at : ℕ) → IsFirstAt c text at → front ≡ slice_range text 0 at → back ≡ drop (at + 1) text
    → cut c text ≡ Some (front, back)
cut-first c text front back at first front_is back_is =
    let rest = drop (at + 1) text in
    let parts : text ≡ take at text ++ c ∷ rest =
    sym (take-append-drop at text) ∙ ap (λ l. take at text ++ l) (drop_more text at 0 first.within ∙ ap (λ b. b ∷ rest) first.here) in
    let size : at - 0 ≡ at = omega arith in
    ap (cut c) parts
    ∙ cut-append c (take at text) rest (lacks_all c (take at text) first.first)
    ∙ sym (ap (λ (f : List ℕ). Some (f, back)) (front_is ∙ ap (λ (n : ℕ). take n text) size) ∙ ap (λ (b : List ℕ). Some (take at text, b)) back_is)

-- a cut with a byte put in front of it comes from a cut without it
prepended : (b : ℕ) (o : Option (List ℕ × List ℕ)) (front rest : List ℕ) → option_map {U = List ℕ × List ℕ} (λ p. (b ∷ p.0, p.1)) o ≡ Some (front, rest)
    → (x : List ℕ) × (o ≡ Some (x, rest)) × (front ≡ b ∷ x)
prepended b None front rest e = absurd cc
prepended b (Some p) front rest e =
    let parts = some_pair_parts (b ∷ p.0) front p.1 rest e in
    (p.0, ap (λ (y : List ℕ). Some (p.0, y)) parts.1, sym parts.0)

-- the parts make up the text
pub cut_some : (c : ℕ) (text front rest : List ℕ) → cut c text ≡ Some (front, rest) → text ≡ front ++ c ∷ rest
cut_some c [] front rest e = absurd cc
cut_some c (b ∷ bs) front rest e =
    elim (eqb b c) as (λ v. eqb b c ≡ v → cond {A = Option (List ℕ × List ℕ)} v (Some ([], bs)) (option_map (λ p. (b ∷ p.0, p.1)) (cut c bs)) ≡ Some (front, rest) → b ∷ bs ≡ front ++ c ∷ rest) [
      | true ↦ λ q f.
          let parts = some_pair_parts [] front bs rest f in
          ap (λ (x : ℕ). x ∷ bs) (eqb-true b c q) ∙ ap (λ (x : List ℕ). c ∷ x) parts.1 ∙ ap (λ (x : List ℕ). x ++ c ∷ rest) parts.0
      | false ↦ λ q f.
          let p = prepended b (cut c bs) front rest f in
          ap (λ (x : List ℕ). b ∷ x) (cut_some c bs p.0 rest p.1) ∙ ap (λ (x : List ℕ). x ++ c ∷ rest) (sym p.2)
    ]
    refl e

-- no byte is the one at which a text isn't cut
pub uncut_lacks : (c : ℕ) (text : List ℕ) → cut c text ≡ None → Lacks c text
uncut_lacks c [] e = tt
uncut_lacks c (b ∷ text) e = at (eqb b c) refl e (uncut_lacks c text)
  where
    left : (o : Option (List ℕ × List ℕ)) → option_map {T = List ℕ × List ℕ} {U = List ℕ × List ℕ} (λ p. (b ∷ p.0, p.1)) o ≡ None → o ≡ None
    left None e = refl
    left (Some p) e = absurd cc

    at : (t : Bool) → eqb b c ≡ t → cond {A = Option (List ℕ × List ℕ)} t (Some ([], text)) (option_map (λ p. (b ∷ p.0, p.1)) (cut c text)) ≡ None → (cut c text ≡ None → Lacks c text) → Lacks c (b ∷ text)
    at true h e rest = absurd cc
    at false h e rest = (let other : b ≢ c = grind (arith, nat_tests) in other, rest (left (cut c text) e))

-- nor is one in front of the cut
pub front_lacks : (c : ℕ) (text front rest : List ℕ) → cut c text ≡ Some (front, rest) → Lacks c front
front_lacks c [] front rest e = absurd cc
front_lacks c (b ∷ text) front rest e = at (eqb b c) refl e (front_lacks c text)
  where
    at : (t : Bool) → eqb b c ≡ t → cond {A = Option (List ℕ × List ℕ)} t (Some ([], text)) (option_map (λ p. (b ∷ p.0, p.1)) (cut c text)) ≡ Some (front, rest)
        → ((x y : List ℕ) → cut c text ≡ Some (x, y) → Lacks c x) → Lacks c front
    at true h e later = subst (Lacks c) (some_pair_parts [] front text rest e).0 tt
    at false h e later =
        let found = mapped {A = List ℕ × List ℕ} {B = List ℕ × List ℕ} (λ p. (b ∷ p.0, p.1)) (cut c text) (front, rest) e in
        let same : front ≡ b ∷ found.0.0 = ap (λ (p : List ℕ × List ℕ). p.0) found.2 in
        subst (Lacks c) (sym same) (let other : b ≢ c = grind (arith, nat_tests) in other, later found.0.0 found.0.1 found.1)

-- what `split_once` says of a byte of ASCII
pub cut_from_split : (c : ℕ) (text : List ℕ) (r : Option (Bor (List ℕ) × Bor (List ℕ))) → c < 128 → IsSplitOnceResult c text r
    → MatchOption r (cut c text ≡ None) (λ found. cut c text ≡ Some (found.0.now, found.1.now))
cut_from_split c text None small h = cut-lacks c text (Lacks-at c text (split_parts c text None h small))
cut_from_split c text (Some found) small h =
    let parts = split_parts c text (Some found) h small in
    ap (cut c) parts.0 ∙ cut-append c found.0.now found.1.now (Lacks-at c found.0.now parts.1)

-- ---- after

-- a text that begins with a front has the rest behind it
pub after-append : (front rest : List ℕ) → after front (front ++ rest) ≡ Some rest
after-append [] rest = refl
after-append (b ∷ front) rest = same_byte b _ _ ∙ after-append front rest

-- the front and what stands behind it make up the text
pub after_some : (front text rest : List ℕ) → after front text ≡ Some rest → text ≡ front ++ rest
after_some [] text rest e = cc
after_some (p ∷ front) [] rest e = absurd cc
after_some (p ∷ front) (b ∷ bs) rest e =
    elim (eqb b p) as (λ v. eqb b p ≡ v → cond v (after front bs) None ≡ Some rest → b ∷ bs ≡ p ∷ (front ++ rest)) [
      | true ↦ λ q f. let s : b ≡ p = eqb-true b p q in let t = after_some front bs rest f in cc
      | false ↦ λ q f. absurd cc
    ]
    refl e

-- what is none of the values is nothing
none_from : (o : Option (List ℕ)) → ((x : List ℕ) → o ≢ Some x) → o ≡ None
none_from None h = refl
none_from (Some x) h = absurd (h x refl)

-- nothing stands behind a front with which the text does not begin
pub after-none : (front text : List ℕ) → ((rest : List ℕ) → text ≢ front ++ rest) → after front text ≡ None
after-none front text h = none_from (after front text) (λ x e. h x (after_some front text x e))

-- a text does not begin with a byte that is nowhere in it
pub after-lacks : (c : ℕ) (front text : List ℕ) → Lacks c text → after (c ∷ front) text ≡ None
after-lacks c front [] h = refl
after-lacks c front (b ∷ bs) h = other_byte b c _ _ h.0

-- what `strip_prefix` says of a text
pub after_from_strip : (front text : List ℕ) (r : Option (Bor (List ℕ))) → MatchOption r (FindsTextPrefix front text None) (λ x. StripsPrefix (FindsTextPrefix front) text x.now)
    → option_copied r ≡ after front text
after_from_strip front text None h = sym (after-none front text h)
after_from_strip front text (Some x) h =
    let e : x.now ≡ drop h.0 text = h.2 in
    let split : text ≡ front ++ drop h.0 text = h.1.1 in
    ap Some e ∙ sym (ap (after front) split ∙ after-append front (drop h.0 text))
