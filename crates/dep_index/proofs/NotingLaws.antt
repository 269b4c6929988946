-- What is left of a list of readers once mentions were noted in turn.
use Rattle.std.proofs.Common.{◌≡◌, ℕ, ◌-◌, Bool, true, false, cond, not, List, [], ◌∷◌, ◌++◌, map, length, Option, Some, None, refl, sym, ap, ◌∙◌, arith, length-append, append_assoc}
use Rattle.std.specs.Prelude.{◌&&◌, ◌||◌, nat_eq, slice_get, slice_set}
use Rattle.std.specs.List.{AllByRecursion, IsDistinct, filter, list_all, list_any}
use Rattle.std.proofs.lemmas.List.{append-nil}
use Rattle.common_lemmas.proofs.Numbers.{equal_number}
use Rattle.common_lemmas.proofs.Bools.{and_assoc, and_true}
use Rattle.dict_source.specs.Dictionary.{Dictionary as Tree}
use Rattle.dict_source.specs.declared.mentions.Mention.{Mention}
use Rattle.dict_meaning.specs.Feeds.{is_of, mentions_of}
use Rattle.dep_index.specs.Noting.{newest, noted, noted_after, with_facts, with_mentions}
use Rattle.dep_index.specs.Readers.{all_same, is_mentioned_by}
use Rattle.dep_index.specs.declared.readers_of.ReaderOf.{ReaderOf}

-- ---- the newest reader

at_end : (rs : List ReaderOf) (r : ReaderOf) → slice_get (rs ++ r ∷ []) (length rs) ≡ Some r
at_end [] r = refl
at_end (x ∷ rs) r = at_end rs r

set_end : (rs : List ReaderOf) (r s : ReaderOf) → slice_set (rs ++ r ∷ []) (length rs) s ≡ rs ++ s ∷ []
set_end [] r s = refl
set_end (x ∷ rs) r s = ap (λ xs. x ∷ xs) (set_end rs r s)

last_place : (rs : List ReaderOf) (r : ReaderOf) → length (rs ++ r ∷ []) - 1 ≡ length rs
last_place rs r = omega (arith, length-append rs (r ∷ []))

newest_pushed : (rs : List ReaderOf) (r : ReaderOf) → newest (rs ++ r ∷ []) ≡ Some r
newest_pushed rs r = ap (slice_get (rs ++ r ∷ [])) (last_place rs r) ∙ at_end rs r

-- the newest is the fact
is_newest : ℕ → Option ReaderOf → Bool
is_newest g None = false
is_newest g (Some r) = nat_eq r.fact g

at_fact : ℕ → Bool → ReaderOf
at_fact g same = record { fact = g; same = same }

fresh_noted : (rs : List ReaderOf) (g : ℕ) (same : Bool) → is_newest g (newest rs) ≡ false → noted g rs same ≡ rs ++ at_fact g same ∷ []
unfolding at_fact is_newest
fresh_noted rs g same h = at (newest rs) h
  where
    at : (o : Option ReaderOf) → is_newest g o ≡ false → noted_after o g rs same ≡ rs ++ record { fact = g; same = same } ∷ []
    at None h = refl
    at (Some r) h = ap (λ b. cond b (slice_set rs (length rs - 1) (record { fact = g; same = r.same && same })) (rs ++ record { fact = g; same = same } ∷ [])) h

again_noted : (rs : List ReaderOf) (g : ℕ) (b c : Bool) → noted g (rs ++ at_fact g b ∷ []) c ≡ rs ++ at_fact g (b && c) ∷ []
unfolding at_fact
again_noted rs g b c =
    let r : ReaderOf = record { fact = g; same = b } in
    let s : ReaderOf = record { fact = g; same = b && c } in
    ap (λ o. noted_after o g (rs ++ r ∷ []) c) (newest_pushed rs r)
    ∙ ap (λ t. cond t (slice_set (rs ++ r ∷ []) (length (rs ++ r ∷ []) - 1) s) ((rs ++ r ∷ []) ++ record { fact = g; same = c } ∷ [])) (equal_number g)
    ∙ ap (λ n. slice_set (rs ++ r ∷ []) n s) (last_place rs r)
    ∙ set_end rs r s

-- ---- the mentions of one fact

some_of : ℕ → List Mention → Bool
some_of fact ms = list_any (is_of fact) ms

same_of : ℕ → List Mention → Bool
same_of fact ms = list_all (λ m. not (is_of fact m) || m.same) ms

-- after a first mention by g, each further one only says whether it is Same
more_mentions : (fact g : ℕ) (rs : List ReaderOf) (b : Bool) (ms : List Mention) → with_mentions fact g (rs ++ at_fact g b ∷ []) ms ≡ rs ++ at_fact g (b && same_of fact ms) ∷ []
unfolding same_of
more_mentions fact g rs b [] = ap (λ c. rs ++ at_fact g c ∷ []) (sym (and_true b))
more_mentions fact g rs b (m ∷ ms) = at (is_of fact m) (more_mentions fact g rs (b && m.same) ms) (more_mentions fact g rs b ms)
  where
    at : (here : Bool) → with_mentions fact g (rs ++ at_fact g (b && m.same) ∷ []) ms ≡ rs ++ at_fact g ((b && m.same) && same_of fact ms) ∷ []
        → with_mentions fact g (rs ++ at_fact g b ∷ []) ms ≡ rs ++ at_fact g (b && same_of fact ms) ∷ []
        → with_mentions fact g (cond here (noted g (rs ++ at_fact g b ∷ []) m.same) (rs ++ at_fact g b ∷ [])) ms ≡ rs ++ at_fact g (b && ((not here || m.same) && same_of fact ms)) ∷ []
    at true more rest = ap (λ xs. with_mentions fact g xs ms) (again_noted rs g b m.same) ∙ more ∙ ap (λ c. rs ++ at_fact g c ∷ []) (and_assoc b m.same (same_of fact ms))
    at false more rest = rest

-- the reader that a fact's mentions make, if there are any
made : Bool → ℕ → Bool → List ReaderOf
made some g same = cond some (at_fact g same ∷ []) []

mentions_noted : (fact g : ℕ) (rs : List ReaderOf) (ms : List Mention) → is_newest g (newest rs) ≡ false → with_mentions fact g rs ms ≡ rs ++ made (some_of fact ms) g (same_of fact ms)
unfolding same_of some_of made
mentions_noted fact g rs [] fresh = sym (append-nil rs)
mentions_noted fact g rs (m ∷ ms) fresh = at (is_of fact m) (mentions_noted fact g rs ms fresh)
  where
    at : (here : Bool) → with_mentions fact g rs ms ≡ rs ++ cond (some_of fact ms) (at_fact g (same_of fact ms) ∷ []) []
        → with_mentions fact g (cond here (noted g rs m.same) rs) ms ≡ rs ++ cond (here || some_of fact ms) (at_fact g ((not here || m.same) && same_of fact ms) ∷ []) []
    at true rest = ap (λ xs. with_mentions fact g xs ms) (fresh_noted rs g m.same fresh) ∙ more_mentions fact g rs m.same ms
    at false rest = rest

-- ---- the mentions of all facts

-- the fact g as a reader
abbrev pub reader : Tree → ℕ → ℕ → ReaderOf
reader d fact g = record { fact = g; same = all_same d fact g }

AreFresh : List ReaderOf → List ℕ → Type 0
AreFresh rs gs = AllByRecursion (λ g. is_newest g (newest rs) ≡ false) gs

still_fresh : (rs : List ReaderOf) (g : ℕ) (same : Bool) (gs : List ℕ) → AllByRecursion (λ y. nat_eq g y ≡ false) gs → AreFresh (rs ++ at_fact g same ∷ []) gs
unfolding AreFresh at_fact is_newest
still_fresh rs g same [] h = tt
still_fresh rs g same (y ∷ gs) (apart, rest) = (ap (is_newest y) (newest_pushed rs (record { fact = g; same = same })) ∙ apart, still_fresh rs g same gs rest)

facts_noted : (d : Tree) (fact : ℕ) (rs : List ReaderOf) (gs : List ℕ) → IsDistinct nat_eq gs → AreFresh rs gs → with_facts d fact rs gs ≡ rs ++ map (reader d fact) (filter (is_mentioned_by d fact) gs)
unfolding IsDistinct AreFresh made some_of same_of at_fact
facts_noted d fact rs [] distinct fresh = sym (append-nil rs)
facts_noted d fact rs (g ∷ gs) (apart, distinct) (new, fresh) =
    ap (λ xs. with_facts d fact xs gs) (mentions_noted fact g rs (mentions_of d g) new)
    ∙ at (is_mentioned_by d fact g) (facts_noted d fact (rs ++ reader d fact g ∷ []) gs distinct (still_fresh rs g (all_same d fact g) gs apart)) (facts_noted d fact rs gs distinct fresh)
  where
    at : (some : Bool) → with_facts d fact (rs ++ reader d fact g ∷ []) gs ≡ (rs ++ reader d fact g ∷ []) ++ map (reader d fact) (filter (is_mentioned_by d fact) gs)
        → with_facts d fact rs gs ≡ rs ++ map (reader d fact) (filter (is_mentioned_by d fact) gs)
        → with_facts d fact (rs ++ cond some (reader d fact g ∷ []) []) gs ≡ rs ++ map (reader d fact) (cond some (g ∷ filter (is_mentioned_by d fact) gs) (filter (is_mentioned_by d fact) gs))
    at true more rest = more ∙ append_assoc rs (reader d fact g ∷ []) (map (reader d fact) (filter (is_mentioned_by d fact) gs))
    at false more rest = ap (λ xs. with_facts d fact xs gs) (append-nil rs) ∙ rest

none_newest : (gs : List ℕ) → AreFresh [] gs
unfolding AreFresh is_newest
none_newest [] = tt
none_newest (g ∷ gs) = (refl, none_newest gs)

-- of facts that differ, each that mentions the fact is noted once, in their order
pub noted_in_order : (d : Tree) (fact : ℕ) (gs : List ℕ) → IsDistinct nat_eq gs → with_facts d fact [] gs ≡ map (reader d fact) (filter (is_mentioned_by d fact) gs)
noted_in_order d fact gs distinct = facts_noted d fact [] gs distinct (none_newest gs)
