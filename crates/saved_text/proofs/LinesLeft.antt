-- Lines that are put one behind another: which of them are left.
use Rattle.std.proofs.Common.{◌≡◌, ℕ, List, [], ◌∷◌, ◌++◌, Result, Ok, Err, refl, sym, ap, subst, ◌∙◌, arith, append_assoc}
use Rattle.std.proofs.lemmas.List.{append-nil}
use Rattle.std.proofs.lemmas.Result.{err_from_is_err_and}
use Rattle.std.specs.List.{flat_map}
use Rattle.std.specs.Result.{IsErrAnd}
use Rattle.fg_io.specs.Outside.{Output}
use Rattle.fg_io.specs.Puts.{PutAll, PutAs, PutPart}
use Rattle.fg_io.specs.Writing.{Wrote, WroteAll, WrotePart}
use Rattle.fg_io.proofs.PutLaws.{part_before, part_on, put_none, put_on}
use Rattle.fg_io.proofs.SentLaws.{sent_none}
use Rattle.fg_io.proofs.WritingLaws.{failed_before, wrote_behind}
use Rattle.script_lines.specs.Joined.{joined}
use Rattle.script_lines.proofs.JoinedLaws.{joined-append}
use Rattle.saved_text.specs.Writing.{WroteAs, pieces_of}

pieces_of-append : (xs ys : List (List ℕ)) → pieces_of (xs ++ ys) ≡ pieces_of xs ++ pieces_of ys
pieces_of-append [] ys = refl
pieces_of-append (x ∷ xs) ys = ap (λ (l : List (List ℕ)). (x ++ 10 ∷ []) ∷ l) (pieces_of-append xs ys)

-- ---- one line, or none

-- a piece that is a line with its newline
pub wrote_line : {T E : Type 0} (a b : Output) (piece line : List ℕ) (r : Result T E) → piece ≡ line ++ 10 ∷ [] → Wrote a b piece r → PutAs a b (piece ∷ []) r → WroteAs a b (line ∷ []) r
wrote_line a b piece line r is wrote puts = record {
  bytes = subst (λ (t : List ℕ). Wrote a b t r) is wrote;
  puts = subst (λ (t : List ℕ). PutAs a b (t ∷ []) r) is puts;
}

wrote_nothing : (a : Output) → WroteAll a a []
wrote_nothing a = record { sent = sent_none a.taken []; later = omega arith }

pub wrote_none : {T E : Type 0} (a : Output) (done : T) → WroteAs {T = T} {E = E} a a [] (Ok done)
wrote_none a done = record { bytes = wrote_nothing a; puts = put_none a }

-- ---- lines one behind another

-- those before the rest were put
pub record LinesLeft (a b : Output) (all rest : List (List ℕ)) : Type 0 where
  pub front : List (List ℕ)
  pub split : all ≡ front ++ rest
  pub bytes : WroteAll a b (joined front)
  pub puts : PutAll a b (pieces_of front)

pub all_left : (a : Output) (all : List (List ℕ)) → LinesLeft a a all all
all_left a all = record { front = []; split = refl; bytes = wrote_nothing a; puts = put_none a }

-- those of the first, and then those of the others
pub left_each : {X : Type 0} (f : X → List (List ℕ)) (a b : Output) (all : List (List ℕ)) (x : X) (xs others : List X) → xs ≡ x ∷ others
    → LinesLeft a b all (flat_map f xs) → LinesLeft a b all (f x ++ flat_map f others)
left_each {X = X} f a b all x xs others is left = subst (λ (ys : List X). LinesLeft a b all (flat_map f ys)) is left

module _ {T E : Type 0} (a b c : Output) (all : List (List ℕ)) where
  put_behind : (front next : List (List ℕ)) (r : Result T E) → PutAll a b (pieces_of front) → PutAs b c (pieces_of next) r → PutAs a c (pieces_of front ++ pieces_of next) r
  put_behind front next (Ok done) first second = put_on a b c (pieces_of front) (pieces_of next) first second
  put_behind front next (Err fault) first second = part_on a b c (pieces_of front) (pieces_of next) first second

  -- the last of them
  pub wrote_last : (next : List (List ℕ)) (r : Result T E) → LinesLeft a b all next → WroteAs b c next r → WroteAs a c all r
  wrote_last next r left wrote =
      subst (λ (ls : List (List ℕ)). WroteAs a c ls r) (sym left.split) (
      record {
        bytes = subst (λ (t : List ℕ). Wrote a c t r) (sym (joined-append left.front next)) (wrote_behind a b c (joined left.front) (joined next) r left.bytes wrote.bytes);
        puts = subst (λ (ls : List (List ℕ)). PutAs a c ls r) (sym (pieces_of-append left.front next)) (put_behind left.front next r left.puts wrote.puts);
      })

  module _ (next rest : List (List ℕ)) where
    pub wrote_next : (done : T) → LinesLeft a b all (next ++ rest) → WroteAs {T = T} {E = E} b c next (Ok done) → LinesLeft a c all rest
    wrote_next done left wrote = record {
      front = left.front ++ next;
      split = left.split ∙ sym (append_assoc left.front next rest);
      bytes = subst (WroteAll a c) (sym (joined-append left.front next)) (wrote_behind {T = T} {E = E} a b c (joined left.front) (joined next) (Ok done) left.bytes wrote.bytes);
      puts = subst (PutAll a c) (sym (pieces_of-append left.front next)) (put_on a b c (pieces_of left.front) (pieces_of next) left.puts wrote.puts);
    }

    -- a put of one failed
    pub failed_next : {F : Type 0} (fault : F) (fails : E) → LinesLeft a b all (next ++ rest) → WroteAs {T = T} {E = E} b c next (Err fails) → WroteAs {T = T} {E = F} a c all (Err fault)
    failed_next {F = F} fault fails left wrote =
        subst (λ (ls : List (List ℕ)). WroteAs {T = T} {E = F} a c ls (Err fault)) (sym left.split) (
        record {
          bytes = subst (WrotePart a c) (sym (joined-append left.front (next ++ rest))) (wrote_behind {T = T} {E = E} a b c (joined left.front) (joined (next ++ rest)) (Err fails) left.bytes bytes);
          puts = subst (PutPart a c) (sym (pieces_of-append left.front (next ++ rest))) (part_on a b c (pieces_of left.front) (pieces_of (next ++ rest)) left.puts puts);
        })
      where
        bytes : WrotePart b c (joined (next ++ rest))
        bytes = subst (WrotePart b c) (sym (joined-append next rest)) (failed_before b c (joined next) (joined rest) wrote.bytes)

        puts : PutPart b c (pieces_of (next ++ rest))
        puts = subst (PutPart b c) (sym (pieces_of-append next rest)) (part_before b c (pieces_of next) (pieces_of rest) wrote.puts)

    -- and the call that put it ended so
    pub failed_as : {U F : Type 0} (Q : F → Type 0) (r : Result U F) (fails : E) → IsErrAnd r Q → LinesLeft a b all (next ++ rest) → WroteAs {T = T} {E = E} b c next (Err fails) → WroteAs a c all r
    failed_as Q r fails is left wrote =
        let fault = err_from_is_err_and r is in
        let part = failed_next fault.0 fails left wrote in
        rw fault.1 (record { bytes = part.bytes; puts = part.puts })

-- none is left
pub none_left : {T E : Type 0} (a b : Output) (all rest : List (List ℕ)) (done : T) → rest ≡ [] → LinesLeft a b all rest → WroteAs {T = T} {E = E} a b all (Ok done)
none_left {T = T} {E = E} a b all rest done none left = wrote_last {T = T} {E = E} a b b all [] (Ok done) (subst (LinesLeft a b all) none left) (wrote_none b done)
