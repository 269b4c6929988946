-- Lines that are written, one behind another.
use Rattle.std.proofs.Common.{◌≡◌, ℕ, List, [], ◌∷◌, ◌++◌, Result, Ok, Err, refl, sym, ap, subst, ◌∙◌, append_assoc}
use Rattle.std.proofs.lemmas.List.{append-nil}
use Rattle.std.specs.Io.KnownBytes.{Appends}
use Rattle.fg_io.specs.Outside.{Output}
use Rattle.fg_io.specs.Puts.{PutAll, PutAs, PutPart}
use Rattle.fg_io.specs.Sent.{Sent}
use Rattle.fg_io.specs.Writing.{Wrote}
use Rattle.fg_io.proofs.PutLaws.{part_before, part_on, put_none, put_on}
use Rattle.fg_io.proofs.SentLaws.{appends_more, appends_none, sent_on, sent_whole, whole_sent}
use Rattle.script_lines.specs.Joined.{joined}
use Rattle.script_lines.proofs.JoinedLaws.{joined-append}
use Rattle.session_lines.specs.Replies.{line_with}
use Rattle.session_lines.specs.Writing.{WroteAs, WroteLines, WroteSome, pieces_of}

pieces_of-append : (xs ys : List (List ℕ)) → pieces_of (xs ++ ys) ≡ pieces_of xs ++ pieces_of ys
pieces_of-append [] ys = refl
pieces_of-append (x ∷ xs) ys = ap (λ (l : List (List ℕ)). line_with x ∷ l) (pieces_of-append xs ys)

-- ---- one line

-- a text that is a line with its newline
pub wrote_ended : {T E : Type 0} (a b : Output) (text line : List ℕ) (r : Result T E) → text ≡ line_with line → Wrote a b text r → PutAs a b (text ∷ []) r → WroteAs a b (line ∷ []) r
wrote_ended a b text line (Ok done) is wrote puts = record {
  bytes = subst (Appends a.taken b.taken) is (sent_whole a.taken b.taken text wrote.sent);
  puts = subst (λ (t : List ℕ). PutAll a b (t ∷ [])) is puts;
}
wrote_ended a b text line (Err failed) is wrote puts = record {
  bytes = (wrote.part.0, subst (λ (t : List ℕ). Sent a.taken b.taken t wrote.part.0) is wrote.part.1);
  puts = subst (λ (t : List ℕ). PutPart a b (t ∷ [])) is puts;
}

-- ---- lines one behind another

pub lines_none : (a : Output) → WroteLines a a []
lines_none a = record { bytes = appends_none a.taken; puts = put_none a }

pub lines_on : (a b c : Output) (xs ys : List (List ℕ)) → WroteLines a b xs → WroteLines b c ys → WroteLines a c (xs ++ ys)
lines_on a b c xs ys first second = record {
  bytes = subst (Appends a.taken c.taken) (sym (joined-append xs ys)) (appends_more a.taken b.taken c.taken (joined xs) (joined ys) first.bytes second.bytes);
  puts = subst (PutAll a c) (sym (pieces_of-append xs ys)) (put_on a b c (pieces_of xs) (pieces_of ys) first.puts second.puts);
}

pub some_on : (a b c : Output) (xs ys : List (List ℕ)) → WroteLines a b xs → WroteSome b c ys → WroteSome a c (xs ++ ys)
some_on a b c xs ys first second = record {
  bytes = (
    second.bytes.0,
    subst (λ (t : List ℕ). Sent a.taken c.taken t second.bytes.0) (sym (joined-append xs ys))
        (sent_on a.taken b.taken c.taken (joined xs) (joined ys) second.bytes.0 (whole_sent a.taken b.taken (joined xs) first.bytes) second.bytes.1),
  );
  puts = subst (PutPart a c) (sym (pieces_of-append xs ys)) (part_on a b c (pieces_of xs) (pieces_of ys) first.puts second.puts);
}

-- a failure before the rest
pub some_before : (a b : Output) (xs ys : List (List ℕ)) → WroteSome a b xs → WroteSome a b (xs ++ ys)
some_before a b xs ys wrote =
    let sent = wrote.bytes.1 in
    record {
      bytes = (
        wrote.bytes.0 ++ joined ys,
        record {
          front = sent.front;
          took = sent.took;
          split = joined-append xs ys ∙ ap (λ (t : List ℕ). t ++ joined ys) sent.split ∙ append_assoc sent.front wrote.bytes.0 (joined ys);
        },
      );
      puts = subst (PutPart a b) (sym (pieces_of-append xs ys)) (part_before a b (pieces_of xs) (pieces_of ys) wrote.puts);
    }

pub wrote_on : {T E : Type 0} (a b c : Output) (xs ys : List (List ℕ)) (r : Result T E) → WroteLines a b xs → WroteAs b c ys r → WroteAs a c (xs ++ ys) r
wrote_on a b c xs ys (Ok done) first second = lines_on a b c xs ys first second
wrote_on a b c xs ys (Err failed) first second = some_on a b c xs ys first second

-- ---- lines of a list

-- those before the rest were written
pub record LinesSoFar (a b : Output) (all rest : List (List ℕ)) : Type 0 where
  pub front : List (List ℕ)
  pub split : all ≡ front ++ rest
  pub wrote : WroteLines a b front

pub so_far_none : (a : Output) (all : List (List ℕ)) → LinesSoFar a a all all
so_far_none a all = record { front = []; split = refl; wrote = lines_none a }

pub so_far_on : (a b c : Output) (all next rest : List (List ℕ)) → LinesSoFar a b all (next ++ rest) → WroteLines b c next → LinesSoFar a c all rest
so_far_on a b c all next rest sofar wrote = record {
  front = sofar.front ++ next;
  split = sofar.split ∙ sym (append_assoc sofar.front next rest);
  wrote = lines_on a b c sofar.front next sofar.wrote wrote;
}

pub so_far_fails : (a b c : Output) (all next rest : List (List ℕ)) → LinesSoFar a b all (next ++ rest) → WroteSome b c next → WroteSome a c all
so_far_fails a b c all next rest sofar wrote =
    subst (WroteSome a c) (sym sofar.split) (some_on a b c sofar.front (next ++ rest) sofar.wrote (some_before b c next rest wrote))

pub so_far_all : (a b : Output) (all rest : List (List ℕ)) → rest ≡ [] → LinesSoFar a b all rest → WroteLines a b all
so_far_all a b all rest none sofar =
    subst (WroteLines a b) (sym (sofar.split ∙ ap (λ (l : List (List ℕ)). sofar.front ++ l) none ∙ append-nil sofar.front)) sofar.wrote
