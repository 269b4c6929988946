-- Puts one behind another.
use Rattle.std.proofs.Common.{◌≡◌, ℕ, ◌-◌, ◌^◌, ◌≤◌, min, nat_eq, true, IsTrue, List, [], ◌∷◌, ◌++◌, length, drop, take, Result, refl, sym, ap, subst, ◌∙◌, arith, append_assoc, length-drop, length-append}
use Rattle.std.proofs.lemmas.Bool.Decides.{nat_tests}
use Rattle.std.proofs.lemmas.List.{append-nil, take_all}
use Rattle.std.proofs.lemmas.Result.{err_from_is_err_and}
use Rattle.std.specs.Result.{IsErrAnd}
use Rattle.fg_io.specs.Outside.{Follows, Output, Put, RoseByOne, next_count, put_failed, took}
use Rattle.fg_io.specs.Puts.{PutAll, PutAs, PutPart, Take, TakeAll}

-- ---- what puts make of a sink

follows_none : (a : Output) → Follows a a []
follows_none a before so = subst (λ (l : List Put). IsTrue (a.follows l)) (sym (append-nil before)) so

follows_on : (a b c : Output) (xs ys : List Put) → Follows a b xs → Follows b c ys → Follows a c (xs ++ ys)
follows_on a b c xs ys first second before so = subst (λ (l : List Put). IsTrue (c.follows l)) (append_assoc before xs ys) (second (before ++ xs) (first before so))

-- a count that stood, and then rose
pub rose_behind : (a b c : ℕ) → b ≡ a → RoseByOne b c → RoseByOne a c
rose_behind a b c same rose = (rose.0 ∙ ap next_count same, omega (arith, same, rose.1))

-- ---- one piece

-- one more put, of what was left
take_more : (piece : List ℕ) (puts : List Put) (rest : List ℕ) (count : ℕ) → Take piece puts rest → Take piece (puts ++ took rest count ∷ []) (drop count rest)
take_more piece [] rest count all = (sym all, ap (drop count) all)
take_more piece (took bytes n ∷ puts) rest count all = (all.0, take_more (drop n piece) puts rest count all.1)
take_more piece (put_failed bytes ∷ puts) rest count all = absurd all

-- so far no put failed, and this is left of the piece
pub record PutSoFar (a b : Output) (piece rest : List ℕ) : Type 0 where
  pub puts : List Put
  pub so_far : Take piece puts rest
  pub made : Follows a b puts
  pub counted : b.faults ≡ a.faults

pub put_nothing : (a : Output) (piece : List ℕ) → PutSoFar a a piece piece
put_nothing a piece = record { puts = []; so_far = refl; made = follows_none a; counted = refl }

pub put_more : (a b c : Output) (piece rest : List ℕ) (count m : ℕ) → PutSoFar a b piece rest → Follows b c (took rest count ∷ []) → c.faults ≡ b.faults → length rest - count ≤ m
    → PutSoFar a c piece (take m (drop count rest))
put_more a b c piece rest count m sofar put same long = record {
  puts = sofar.puts ++ took rest count ∷ [];
  so_far = subst (Take piece (sofar.puts ++ took rest count ∷ [])) (sym (take_all m (drop count rest) (omega (arith, length-drop count rest)))) (take_more piece sofar.puts rest count sofar.so_far);
  made = follows_on a b c sofar.puts (took rest count ∷ []) sofar.made put;
  counted = same ∙ sofar.counted;
}

-- nothing is left
pub put_whole : (a b : Output) (piece rest : List ℕ) → rest ≡ [] → PutSoFar a b piece rest → PutAll a b (piece ∷ [])
put_whole a b piece rest none sofar = record {
  puts = sofar.puts;
  whole = (sofar.puts, ([], (sym (append-nil sofar.puts), (subst (Take piece sofar.puts) none sofar.so_far, refl))));
  made = sofar.made;
  counted = sofar.counted;
}

-- the put of the rest failed
put_fails : (a b c : Output) (piece rest : List ℕ) → PutSoFar a b piece rest → Follows b c (put_failed rest ∷ []) → RoseByOne b.faults c.faults → PutPart a c (piece ∷ [])
put_fails a b c piece rest sofar put fault = record {
  puts = sofar.puts ++ put_failed rest ∷ [];
  part = record {
    front = [];
    piece = piece;
    behind = [];
    split = refl;
    first = [];
    last = sofar.puts ++ put_failed rest ∷ [];
    whole = refl;
    fail = record { first = sofar.puts; rest = rest; take = sofar.so_far; last = refl };
    all = refl;
  };
  made = follows_on a b c sofar.puts (put_failed rest ∷ []) sofar.made put;
  counted = rose_behind a.faults b.faults c.faults sofar.counted fault;
}

pub put_fails_as : {T E : Type 0} (Q : E → Type 0) (r : Result T E) → IsErrAnd r Q → (a b c : Output) (piece rest : List ℕ)
    → PutSoFar a b piece rest → Follows b c (put_failed rest ∷ []) → RoseByOne b.faults c.faults → PutAs a c (piece ∷ []) r
put_fails_as Q r is a b c piece rest sofar put fault = let error = err_from_is_err_and r is in rw error.1 (put_fails a b c piece rest sofar put fault)

-- ---- pieces

pub put_none : (a : Output) → PutAll a a []
put_none a = record { puts = []; whole = refl; made = follows_none a; counted = refl }

take_on : (xs ys : List (List ℕ)) (ps qs : List Put) → TakeAll xs ps → TakeAll ys qs → TakeAll (xs ++ ys) (ps ++ qs)
take_on [] ys ps qs none second = subst (λ (l : List Put). TakeAll ys (l ++ qs)) (sym none) second
take_on (x ∷ xs) ys ps qs (first, (rest, (split, (one, others)))) second =
    (first, (rest ++ qs, (ap (λ (l : List Put). l ++ qs) split ∙ append_assoc first rest qs, (one, take_on xs ys rest qs others second))))

-- pieces behind those that were put whole
pub put_on : (a b c : Output) (xs ys : List (List ℕ)) → PutAll a b xs → PutAll b c ys → PutAll a c (xs ++ ys)
put_on a b c xs ys first second = record {
  puts = first.puts ++ second.puts;
  whole = take_on xs ys first.puts second.puts first.whole second.whole;
  made = follows_on a b c first.puts second.puts first.made second.made;
  counted = second.counted ∙ first.counted;
}

pub part_on : (a b c : Output) (xs ys : List (List ℕ)) → PutAll a b xs → PutPart b c ys → PutPart a c (xs ++ ys)
part_on a b c xs ys first second =
    let part = second.part in
    record {
      puts = first.puts ++ second.puts;
      part = record {
        front = xs ++ part.front;
        piece = part.piece;
        behind = part.behind;
        split = ap (λ (l : List (List ℕ)). xs ++ l) part.split ∙ sym (append_assoc xs part.front (part.piece ∷ part.behind));
        first = first.puts ++ part.first;
        last = part.last;
        whole = take_on xs part.front first.puts part.first first.whole part.whole;
        fail = part.fail;
        all = ap (λ (l : List Put). first.puts ++ l) part.all ∙ sym (append_assoc first.puts part.first part.last);
      };
      made = follows_on a b c first.puts second.puts first.made second.made;
      counted = rose_behind a.faults b.faults c.faults first.counted second.counted;
    }

-- a failure before the rest
pub part_before : (a b : Output) (xs ys : List (List ℕ)) → PutPart a b xs → PutPart a b (xs ++ ys)
part_before a b xs ys first =
    let part = first.part in
    record {
      puts = first.puts;
      part = record {
        front = part.front;
        piece = part.piece;
        behind = part.behind ++ ys;
        split = ap (λ (l : List (List ℕ)). l ++ ys) part.split ∙ append_assoc part.front (part.piece ∷ part.behind) ys;
        first = part.first;
        last = part.last;
        whole = part.whole;
        fail = part.fail;
        all = part.all;
      };
      made = first.made;
      counted = first.counted;
    }

-- ---- a sink that counts its puts

same_number : (n m : ℕ) → nat_eq n m ≡ true → n ≡ m
same_number n m h = grind (arith, nat_tests)

equal_number : (n : ℕ) → nat_eq n n ≡ true
equal_number n = grind (arith, nat_tests)

pub counts_on : (calls now : ℕ) (before : List Put) (put : Put) → now ≡ next_count calls → IsTrue (nat_eq calls (min (length before) (2 ^ 64 - 1)))
    → IsTrue (nat_eq now (min (length (before ++ put ∷ [])) (2 ^ 64 - 1)))
counts_on calls now before put one so =
    let same : calls ≡ min (length before) (2 ^ 64 - 1) = same_number calls _ so in
    subst (λ (n : ℕ). IsTrue (nat_eq now n)) (omega (arith, one, same, length-append before (put ∷ []))) (equal_number now)
