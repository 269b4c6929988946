-- Texts that are written in several puts.
use Rattle.std.proofs.Common.{◌≡◌, ℕ, ◌-◌, ◌≤◌, List, [], ◌++◌, length, take, drop, refl, sym, ◌∙◌, ap, subst, arith, append_assoc, take-append-drop, length-drop, Option}
use Rattle.std.proofs.KnownBytes.{Appends-nil, Appends-trans}
use Rattle.std.proofs.lemmas.List.{append-nil, take_all}
use Rattle.std.specs.Io.KnownBytes.{Appends}
use Rattle.fg_io.specs.Outside.{Rose}
use Rattle.fg_io.specs.Sent.{Sent}

-- what didn't change took nothing
pub appends_none : (x : Option (List ℕ)) → Appends x x []
appends_none = Appends-nil

-- one piece after another
pub appends_more : (a b c : Option (List ℕ)) (xs ys : List ℕ) → Appends a b xs → Appends b c ys → Appends a c (xs ++ ys)
appends_more = Appends-trans

-- before the first put all of the text is left
pub sent_none : (x : Option (List ℕ)) (text : List ℕ) → Sent x x text text
sent_none x text = record { front = []; took = appends_none x; split = refl }

-- a put took the next n bytes, and the m bytes behind them are all of the rest
pub sent_behind : (a b c : Option (List ℕ)) (text rest : List ℕ) (n m : ℕ) → Sent a b text rest → Appends b c (take n rest) → length rest - n ≤ m → Sent a c text (take m (drop n rest))
sent_behind a b c text rest n m sent took long =
    let all : take m (drop n rest) ≡ drop n rest = take_all m (drop n rest) (omega (arith, length-drop n rest)) in
    rw all (record {
      front = sent.front ++ take n rest;
      took = appends_more a b c _ _ sent.took took;
      split = sent.split ∙ ap (λ l. sent.front ++ l) (sym (take-append-drop n rest)) ∙ sym (append_assoc sent.front (take n rest) (drop n rest));
    })

-- where nothing is left the text was written whole
pub sent_whole : (a b : Option (List ℕ)) (text : List ℕ) → Sent a b text [] → Appends a b text
sent_whole a b text sent = subst (Appends a b) (sym (sent.split ∙ append-nil sent.front)) sent.took

-- and the other way round
pub whole_sent : (a b : Option (List ℕ)) (text : List ℕ) → Appends a b text → Sent a b text []
whole_sent a b text took = record { front = text; took = took; split = sym (append-nil text) }

-- a text was written whole, and then another as far as its rest
pub sent_on : (a b c : Option (List ℕ)) (text next rest : List ℕ) → Sent a b text [] → Sent b c next rest → Sent a c (text ++ next) rest
sent_on a b c text next rest first second = record {
  front = first.front ++ second.front;
  took = appends_more a b c first.front second.front first.took second.took;
  split = (λ i. (first.split ∙ append-nil first.front) i ++ second.split i) ∙ sym (append_assoc first.front second.front rest);
}

-- ---- a text in pieces

-- a piece was put whole, and the rest is left
pub sent_piece : (a b c : Option (List ℕ)) (text piece rest : List ℕ) → Sent a b text (piece ++ rest) → Sent b c piece [] → Sent a c text rest
sent_piece a b c text piece rest first second =
    let whole : piece ≡ second.front = second.split ∙ append-nil second.front in
    record {
      front = first.front ++ second.front;
      took = appends_more a b c _ _ first.took second.took;
      split = first.split ∙ ap (λ (p : List ℕ). first.front ++ (p ++ rest)) whole ∙ sym (append_assoc first.front second.front rest);
    }

-- a part of a piece was put
pub sent_part : (a b c : Option (List ℕ)) (text piece rest left : List ℕ) → Sent a b text (piece ++ rest) → Sent b c piece left → Sent a c text (left ++ rest)
sent_part a b c text piece rest left first second = record {
  front = first.front ++ second.front;
  took = appends_more a b c _ _ first.took second.took;
  split =
      first.split
      ∙ ap (λ (p : List ℕ). first.front ++ (p ++ rest)) second.split
      ∙ ap (λ (p : List ℕ). first.front ++ p) (append_assoc second.front left rest)
      ∙ sym (append_assoc first.front second.front (left ++ rest));
}

-- a count that rose since rose since before
pub rose_before : (f0 f1 f2 : ℕ) → f0 ≤ f1 → Rose f1 f2 → Rose f0 f2
rose_before f0 f1 f2 le rose = omega arith
