-- A use of the fact passes a test just where one of the listed uses does.
use Rattle.std.proofs.Common.{◌≡◌, ℕ, Bool, ◌||◌, List, ◌++◌, Option, Some, None, refl, sym, ap}
use Rattle.std.specs.Bool.{Decides}
use Rattle.std.specs.List.{Any, list_any}
use Rattle.std.proofs.lemmas.Bool.Decides.{Decides-at}
use Rattle.std.proofs.lemmas.List.Folds.{Any-from_list_any, list_any-append, list_any-from_Any}
use Rattle.common_lemmas.proofs.Bools.{or_false}
use Rattle.dict_source.specs.Tree.{Source, Sources, SourceCase, SourceCases, literal, read, switch, many, one, two, pick, no_trees, tree, no_cases, a_case}
use Rattle.dict_source.specs.Facts.{Fact}
use Rattle.dict_source.specs.Dictionary.{Dictionary}
use Rattle.dict_rules.specs.declared.use_op.UseOp.TheVariants.{Read, Pick}
use Rattle.dict_rules.specs.Uses.{Condition, UseAt, UseTest, cases_have_use, condition_under, conditional_has_use, conditional_uses, fact_has_use, fact_uses, has_use, option_has_use, option_uses, some_have_use, uses_in, uses_in_all, uses_in_cases}

module _ (test : UseTest) (d : Dictionary) (fact : ℕ) where
  abbrev passes : UseAt → Bool
  passes u = test u.use_op u.condition u.used

  joined : (x y : Bool) (us vs : List UseAt) → x ≡ list_any passes us → y ≡ list_any passes vs → (x || y) ≡ list_any passes (us ++ vs)
  joined x y us vs e f = rw (e, f) (sym (list_any-append passes us vs))

  mutual
    in_expr : (c : Condition) (t : Source) → has_use test d fact c t ≡ list_any passes (uses_in d fact c t)
    in_expr c (literal l) = refl
    in_expr c (read r) = sym (or_false (test (Read r.0) c r.1))
    in_expr c (switch cs) = in_cases c cs
    in_expr c (many op ts) = in_all c ts
    in_expr c (one op t) = in_expr c t
    in_expr c (two op a b) = joined (has_use test d fact c a) (has_use test d fact c b) (uses_in d fact c a) (uses_in d fact c b) (in_expr c a) (in_expr c b)
    in_expr c (pick op p t) = ap (λ (b : Bool). test (Pick op) c p || b) (in_expr (condition_under d fact c p) t)

    in_all : (c : Condition) (ts : Sources) → some_have_use test d fact c ts ≡ list_any passes (uses_in_all d fact c ts)
    in_all c no_trees = refl
    in_all c (tree t ts) = joined (has_use test d fact c t) (some_have_use test d fact c ts) (uses_in d fact c t) (uses_in_all d fact c ts) (in_expr c t) (in_all c ts)

    in_cases : (c : Condition) (cs : SourceCases) → cases_have_use test d fact c cs ≡ list_any passes (uses_in_cases d fact c cs)
    in_cases c no_cases = refl
    in_cases c (a_case t o cs) =
        joined (has_use test d fact c t) (has_use test d fact c o || cases_have_use test d fact c cs) (uses_in d fact c t) (uses_in d fact c o ++ uses_in_cases d fact c cs) (in_expr c t)
        (joined (has_use test d fact c o) (cases_have_use test d fact c cs) (uses_in d fact c o) (uses_in_cases d fact c cs) (in_expr c o) (in_cases c cs))

  in_option : (o : Option Source) → option_has_use test d fact o ≡ list_any passes (option_uses d fact o)
  in_option None = refl
  in_option (Some t) = in_expr None t

  in_conditional : (o : Option SourceCase) → conditional_has_use test d fact o ≡ list_any passes (conditional_uses d fact o)
  in_conditional None = refl
  in_conditional (Some c) = joined (has_use test d fact None c.0) (has_use test d fact None c.1) (uses_in d fact None c.0) (uses_in d fact None c.1) (in_expr None c.0) (in_expr None c.1)

  in_fact : (f : Fact) → fact_has_use test d fact f ≡ list_any passes (fact_uses d fact f)
  in_fact f =
      joined (option_has_use test d fact f.main) (conditional_has_use test d fact f.conditional || option_has_use test d fact f.placeholder) (option_uses d fact f.main) (conditional_uses d fact f.conditional ++ option_uses d fact f.placeholder) (in_option f.main)
      (joined (conditional_has_use test d fact f.conditional) (option_has_use test d fact f.placeholder) (conditional_uses d fact f.conditional) (option_uses d fact f.placeholder) (in_conditional f.conditional) (in_option f.placeholder))

pub Decides-any : {X : Type 0} (p : X → Bool) (P : X → Type 0) → ((x : X) → Decides (p x) (P x)) → (xs : List X) → Decides (list_any p xs) (Any P xs)
Decides-any p P each xs = (
  λ e. let a = Any-from_list_any p xs e in (a.0, a.1, a.2, a.3, (each a.1).0 a.4),
  λ h. list_any-from_Any p xs (h.0, h.1, h.2, h.3, (each h.1).1 h.4),
)

-- a test of uses that decides what is said of one use
pub Decides-use : (test : UseTest) (P : UseAt → Type 0) → ((u : UseAt) → Decides (test u.use_op u.condition u.used) (P u)) → (d : Dictionary) (n : ℕ) (f : Fact) → Decides (fact_has_use test d n f) (Any P (fact_uses d n f))
Decides-use test P each d n f =
    Decides-at (fact_has_use test d n f) (list_any (λ u. test u.use_op u.condition u.used) (fact_uses d n f)) (in_fact test d n f) (Decides-any (λ u. test u.use_op u.condition u.used) P each (fact_uses d n f))
