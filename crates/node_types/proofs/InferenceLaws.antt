-- What is inferred has the type by the rules, and what has one is inferred.
use Rattle.std.proofs.Common.{◌≡◌, ℕ, ◌+◌, List, [], ◌∷◌, Bool, true, false, cond, Option, Some, None, Result, Ok, Err, ◌⊎◌, inl, inr, refl, sym, ap, subst, ◌∙◌}
use Rattle.std.specs.Prelude.{option_map, unwrap_or}
use Rattle.std.specs.List.{list_all}
use Rattle.fact_values.specs.declared.fact_type.FactType.{FactType}
use Rattle.fact_values.specs.declared.fact_type.FactType.TheVariants.{Boolean}
use Rattle.dict_source.specs.declared.operators.PickOp.{PickOp}
use Rattle.dict_source.specs.OperandTypes.{many_type, one_type, pick_type, same_type, two_type}
use Rattle.dict_source.specs.Tree.{Tree, literal, read, switch, many, one, two, pick, Trees, no_trees, tree, Cases, no_cases, a_case, size}
use Rattle.dict_source.specs.Typing.{Types, HasType, HaveTypes, HaveCaseTypes, IsSomeCase}
use Rattle.node_types.specs.declared.operand_types.CaseType.{CaseType}
use Rattle.node_types.specs.Inferring.{◌>>=◌, or_fault, type_of, types_of, case_types}
use Rattle.node_types.specs.NodeFaults.{inner_base}
use Rattle.node_types.specs.CaseTypes.{fits, picked_type, switch_type}
use Rattle.common_lemmas.proofs.Bools.{both, chosen}
use Rattle.dict_source.proofs.TypeLaws.{same_is, same_itself}

-- ---- results

module _ {A B E : Type 0} where
  pub bind_ok : (r : Result A E) (f : A → Result B E) (y : B) → (r >>= f) ≡ Ok y → (x : A) × (r ≡ Ok x) × (f x ≡ Ok y)
  bind_ok (Ok x) f y e = (x, refl, e)
  bind_ok (Err d) f y e = absurd cc

  pub bind_err : (r : Result A E) (f : A → Result B E) (m : E) → (r >>= f) ≡ Err m → (r ≡ Err m) ⊎ ((x : A) × (r ≡ Ok x) × (f x ≡ Err m))
  bind_err (Ok x) f m e = inr (x, refl, e)
  bind_err (Err d) f m e = inl cc

or_ok : (n : ℕ) (o : Option FactType) (t : FactType) → or_fault n o ≡ Ok t → o ≡ Some t
or_ok n None t e = absurd cc
or_ok n (Some u) t e = cc

pub or_err : (n m : ℕ) (o : Option FactType) → or_fault n o ≡ Err m → (m ≡ n) × (o ≡ None)
or_err n m None e = (cc, refl)
or_err n m (Some u) e = absurd cc

abbrev pub done : {A : Type 0} → A → Result A ℕ
done x = Ok x

picked_is : (op : PickOp) (base : Option ℕ) (b : Bool) (t : FactType) → cond b (option_map (pick_type op) base) None ≡ Some t → (b ≡ true) × (c : ℕ) × (base ≡ Some c) × (t ≡ pick_type op c)
picked_is op base false t e = absurd cc
picked_is op None true t e = absurd cc
picked_is op (Some c) true t e = (refl, c, refl, cc)

pub oks : {A : Type 0} (x y : A) → done x ≡ done y → x ≡ y
oks x y e = cc

abbrev case_type : FactType → FactType → CaseType
case_type u v = record { test = u; outcome = v }

-- ---- what is inferred is had

module _ {C R P : Type 0} (ty : Types C R P) where
  -- the cases, one by one, have these types
  abbrev pub EachCase : ℕ → Cases C R P → List CaseType → Type 0
  EachCase b no_cases [] = Unit {0}
  EachCase b (a_case t o cs) (u ∷ us) = HasType ty b t u.test × HasType ty b o u.outcome × EachCase b cs us
  EachCase b _ _ = ⊥

  fit_cases : (b : ℕ) (v : FactType) (cs : Cases C R P) (us : List CaseType) → EachCase b cs us → list_all (fits v) us ≡ true → HaveCaseTypes ty b cs v
  fit_cases b v no_cases us h e = tt
  fit_cases b v (a_case t o cs) [] h e = absurd h
  fit_cases b v (a_case t o cs) (u ∷ us) h e =
      let p = both (fits v u) (list_all (fits v) us) e in
      let q = both (same_type u.test Boolean) (same_type v u.outcome) p.0 in
      (subst (HasType ty b t) (same_is u.test Boolean q.0) h.0, subst (HasType ty b o) (sym (same_is v u.outcome q.1)) h.1, fit_cases b v cs us h.2 p.1)

  switch_is : (b : ℕ) (cs : Cases C R P) (us : List CaseType) (v : FactType) → EachCase b cs us → switch_type us ≡ Some v → HasType ty b (switch cs) v
  switch_is b cs [] v h e = absurd cc
  switch_is b no_cases (u ∷ us) v h e = absurd h
  switch_is b (a_case t o cs) (u ∷ us) v h e =
      let p = chosen (list_all (fits u.outcome) (u ∷ us)) u.outcome v e in
      (tt, fit_cases b v (a_case t o cs) (u ∷ us) h (ap (λ (w : FactType). list_all (fits w) (u ∷ us)) (sym p.1) ∙ p.0))

  mutual
    pub sound : (n b : ℕ) (t : Tree C R P) (v : FactType) → type_of ty n b t ≡ Ok v → HasType ty b t v
    sound n b (literal c) v e = or_ok n (ty.constant c) v e
    sound n b (read r) v e = or_ok n (ty.reads b r) v e
    sound n b (switch cs) v e =
        let p = bind_ok (case_types ty (n + 1) b cs) (λ us. or_fault n (switch_type us)) v e in
        switch_is b cs p.0 v (case_sound (n + 1) b cs p.0 p.1) (or_ok n (switch_type p.0) v p.2)
    sound n b (many op ts) v e =
        let p = bind_ok (types_of ty (n + 1) b ts) (λ us. or_fault n (many_type op us)) v e in
        (p.0, sounds (n + 1) b ts p.0 p.1, or_ok n (many_type op p.0) v p.2)
    sound n b (one op t) v e =
        let p = bind_ok (type_of ty (n + 1) b t) (λ u. or_fault n (one_type ty.fits op u)) v e in
        (p.0, sound (n + 1) b t p.0 p.1, or_ok n (one_type ty.fits op p.0) v p.2)
    sound n b (two op x y) v e =
        let p = bind_ok (type_of ty (n + 1) b x) (λ u. type_of ty (n + 1 + size x) b y >>= λ w. or_fault n (two_type op u w)) v e in
        let q = bind_ok (type_of ty (n + 1 + size x) b y) (λ w. or_fault n (two_type op p.0 w)) v p.2 in
        (p.0, q.0, sound (n + 1) b x p.0 p.1, sound (n + 1 + size x) b y q.0 q.1, or_ok n (two_type op p.0 q.0) v q.2)
    sound n b (pick op p t) v e =
        let q = bind_ok (type_of ty (n + 1) (inner_base ty b p) t) (λ u. or_fault n (picked_type op (ty.source b p) u)) v e in
        let k = picked_is op (ty.source b p) (same_type q.0 Boolean) v (or_ok n (picked_type op (ty.source b p) q.0) v q.2) in
        let base : inner_base ty b p ≡ k.1 = ap (λ (o : Option ℕ). unwrap_or o 0) k.2 in
        let under = subst (λ (c : ℕ). HasType ty c t q.0) base (sound (n + 1) (inner_base ty b p) t q.0 q.1) in
        (k.1, k.2, subst (HasType ty k.1 t) (same_is q.0 Boolean k.0) under, k.3)

    pub sounds : (n b : ℕ) (ts : Trees C R P) (us : List FactType) → types_of ty n b ts ≡ Ok us → HaveTypes ty b ts us
    sounds n b no_trees us e = subst (HaveTypes ty b no_trees) (oks [] us e) tt
    sounds n b (tree t ts) us e =
        let p = bind_ok (type_of ty n b t) (λ u. types_of ty (n + size t) b ts >>= λ vs. Ok (u ∷ vs)) us e in
        let q = bind_ok (types_of ty (n + size t) b ts) (λ vs. Ok (p.0 ∷ vs)) us p.2 in
        subst (HaveTypes ty b (tree t ts)) (oks (p.0 ∷ q.0) us q.2) (sound n b t p.0 p.1, sounds (n + size t) b ts q.0 q.1)

    pub case_sound : (n b : ℕ) (cs : Cases C R P) (us : List CaseType) → case_types ty n b cs ≡ Ok us → EachCase b cs us
    case_sound n b no_cases us e = subst (EachCase b no_cases) (oks [] us e) tt
    case_sound n b (a_case t o cs) us e =
        let p = bind_ok (type_of ty n b t) (λ u. type_of ty (n + size t) b o >>= λ v. case_types ty (n + size t + size o) b cs >>= λ vs. Ok (case_type u v ∷ vs)) us e in
        let q = bind_ok (type_of ty (n + size t) b o) (λ v. case_types ty (n + size t + size o) b cs >>= λ vs. Ok (case_type p.0 v ∷ vs)) us p.2 in
        let r = bind_ok (case_types ty (n + size t + size o) b cs) (λ vs. Ok (case_type p.0 q.0 ∷ vs)) us q.2 in
        subst (EachCase b (a_case t o cs)) (oks (case_type p.0 q.0 ∷ r.0) us r.2) (sound n b t p.0 p.1, sound (n + size t) b o q.0 q.1, case_sound (n + size t + size o) b cs r.0 r.1)

  -- ---- what is had is inferred

  abbrev copies : Cases C R P → FactType → List CaseType
  copies no_cases v = []
  copies (a_case t o cs) v = case_type Boolean v ∷ copies cs v

  fit_copies : (cs : Cases C R P) (v : FactType) → list_all (fits v) (copies cs v) ≡ true
  fit_copies no_cases v = refl
  fit_copies (a_case t o cs) v = rw (same_itself v, fit_copies cs v) refl

  switch_copies : (cs : Cases C R P) (v : FactType) → IsSomeCase cs → switch_type (copies cs v) ≡ Some v
  switch_copies no_cases v s = absurd s
  switch_copies (a_case t o cs) v s = rw (same_itself v, fit_copies cs v) refl

  mutual
    pub complete : (n b : ℕ) (t : Tree C R P) (v : FactType) → HasType ty b t v → type_of ty n b t ≡ Ok v
    complete n b (literal c) v h = rw h refl
    complete n b (read r) v h = rw h refl
    complete n b (switch cs) v h = rw (case_complete (n + 1) b cs v h.1, switch_copies cs v h.0) refl
    complete n b (many op ts) v h = rw (completes (n + 1) b ts h.0 h.1, h.2) refl
    complete n b (one op t) v h = rw (complete (n + 1) b t h.0 h.1, h.2) refl
    complete n b (two op x y) v h = rw (complete (n + 1) b x h.0 h.2, complete (n + 1 + size x) b y h.1 h.3, h.4) refl
    complete n b (pick op p t) v h = rw (h.1, complete (n + 1) h.0 t Boolean h.2, h.3) refl

    pub completes : (n b : ℕ) (ts : Trees C R P) (us : List FactType) → HaveTypes ty b ts us → types_of ty n b ts ≡ Ok us
    completes n b no_trees [] h = refl
    completes n b no_trees (u ∷ us) h = absurd h
    completes n b (tree t ts) [] h = absurd h
    completes n b (tree t ts) (u ∷ us) h = rw (complete n b t u h.0, completes (n + size t) b ts us h.1) refl

    pub case_complete : (n b : ℕ) (cs : Cases C R P) (v : FactType) → HaveCaseTypes ty b cs v → case_types ty n b cs ≡ Ok (copies cs v)
    case_complete n b no_cases v h = refl
    case_complete n b (a_case t o cs) v h = rw (complete n b t Boolean h.0, complete (n + size t) b o v h.1, case_complete (n + size t + size o) b cs v h.2) refl

  -- an expression has at most one type
  pub one_at_most : (b : ℕ) (t : Tree C R P) (u v : FactType) → HasType ty b t u → HasType ty b t v → u ≡ v
  one_at_most b t u v h k = oks u v (sym (complete 0 b t u h) ∙ complete 0 b t v k)
