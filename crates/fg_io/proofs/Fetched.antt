-- What a shelf in memory answers of a name that it has.
use Rattle.std.proofs.Common.{◌≡◌, inl, inr, ℕ, ◌<◌, ◌≤◌, List, length, Option, Some, Ok, Err, Vec, refl, sym, ap, subst, arith}
use Rattle.std.specs.declared.alloc.Global.{Global}
use Rattle.fg_io.specs.Outside.{Fetches, MayHold}
use Rattle.fg_io.specs.ShelfState.{contents_by}
use Rattle.fg_io.specs.declared.error.FetchFault.TheVariants.{Failed, TooLong, NoMemory}
use Rattle.fg_io.specs.Laws.{ContentsAreAnswered, MissingIsFault}

contents_there : (found : Option (List ℕ)) (bytes : List ℕ) → found ≡ Some bytes → MayHold (contents_by found) bytes
contents_there found bytes there = subst (λ f. MayHold (contents_by f) bytes) (sym there) refl

pub answered : (found : Option (List ℕ)) (at_most : ℕ) (v : Vec ℕ Global) → found ≡ Some v.items → length v.items ≤ at_most → Fetches (contents_by found) at_most (Ok v)
answered found at_most v there fits = record {
  content = contents_there found v.items there;
  fits = fits;
  too_long = λ wrong. cc;
}

pub refused : (found : Option (List ℕ)) (at_most : ℕ) (bytes : List ℕ) → found ≡ Some bytes → at_most < length bytes → Fetches (contents_by found) at_most (Err TooLong)
refused found at_most bytes there longer = record {
  content = tt;
  fits = tt;
  too_long = λ _. (bytes, contents_there found bytes there, longer);
}

pub contents_are_answered : ContentsAreAnswered
contents_are_answered bytes at_most (Ok v) h = record {
  contents = (sym h.content, omega (arith, h.fits, ap length h.content));
  too_long = λ wrong. cc;
  longer = λ longer. absurd (omega (arith, h.fits, ap length h.content));
}
contents_are_answered bytes at_most (Err Failed) h = record { contents = tt; too_long = λ wrong. cc; longer = λ _. inr (inl refl) }
contents_are_answered bytes at_most (Err NoMemory) h = record { contents = tt; too_long = λ wrong. cc; longer = λ _. inr (inr refl) }
contents_are_answered bytes at_most (Err TooLong) h = record {
  contents = tt;
  too_long = λ _. let other = h.too_long refl in omega (arith, ap length other.1, other.2);
  longer = λ _. inl refl;
}

pub missing_is_fault : MissingIsFault
missing_is_fault at_most (Ok v) h = absurd h.content
missing_is_fault at_most (Err Failed) h = inl refl
missing_is_fault at_most (Err NoMemory) h = inr refl
missing_is_fault at_most (Err TooLong) h = absurd (h.too_long refl).1
