-- Where inferring names a node, it is the first at fault.
use Rattle.std.proofs.Common.{◌≡◌, ℕ, zero, suc, ◌+◌, List, [], ◌∷◌, ◌++◌, length, Option, Ok, Err, inl, inr, refl, sym, ap, subst, ◌∙◌, arith, length-append}
use Rattle.std.specs.Prelude.{unwrap_or}
use Rattle.fact_values.specs.declared.fact_type.FactType.{FactType}
use Rattle.fact_values.specs.declared.fact_type.FactType.TheVariants.{Boolean}
use Rattle.dict_source.specs.OperandTypes.{many_type, one_type, two_type}
use Rattle.dict_source.specs.Tree.{Tree, literal, read, switch, many, one, two, pick, Trees, no_trees, tree, Cases, no_cases, a_case, size, size_of_trees, size_of_cases}
use Rattle.dict_source.specs.Typing.{Types, HasType, HaveTypes, HaveCaseTypes}
use Rattle.node_types.specs.declared.operand_types.CaseType.{CaseType}
use Rattle.node_types.specs.Inferring.{◌>>=◌, or_fault, type_of, types_of, case_types}
use Rattle.node_types.specs.NodeFaults.{inner_base, IsTyped, AreTyped, CasesTyped, Placed, IsAtFault, placed, placed_trees, placed_cases, FirstIn}
use Rattle.node_types.specs.CaseTypes.{picked_type, switch_type}
use Rattle.node_types.proofs.InferenceLaws.{bind_err, or_err, done, EachCase, sound, sounds, case_sound, complete}

-- ---- lists

abbrev pub NoneIn : {X : Type 0} → (X → Type 0) → List X → Type 0
NoneIn P [] = Unit {0}
NoneIn P (x ∷ xs) = ¬ P x × NoneIn P xs

none_append : {X : Type 0} (P : X → Type 0) (xs ys : List X) → NoneIn P xs → NoneIn P ys → NoneIn P (xs ++ ys)
none_append P [] ys h k = k
none_append P (x ∷ xs) ys h k = (h.0, none_append P xs ys h.1 k)

first_left : {X : Type 0} (P : X → Type 0) (xs ys : List X) (i : ℕ) → FirstIn P xs i → FirstIn P (xs ++ ys) i
first_left P [] ys i h = absurd h
first_left P (x ∷ xs) ys zero h = h
first_left P (x ∷ xs) ys (suc i) h = (h.0, first_left P xs ys i h.1)

first_right : {X : Type 0} (P : X → Type 0) (xs ys : List X) (i : ℕ) → NoneIn P xs → FirstIn P ys i → FirstIn P (xs ++ ys) (length xs + i)
first_right P [] ys i h k = let e : i ≡ 0 + i = omega arith in subst (FirstIn P ys) e k
first_right P (x ∷ xs) ys i h k =
    let e : suc (length xs + i) ≡ suc (length xs) + i = omega arith in
    subst (FirstIn P (x ∷ (xs ++ ys))) e (h.0, first_right P xs ys i h.1 k)

pub none_or_first : {X : Type 0} (P : X → Type 0) (xs : List X) (i : ℕ) → NoneIn P xs → FirstIn P xs i → ⊥
none_or_first P [] i h k = k
none_or_first P (x ∷ xs) zero h k = h.0 k
none_or_first P (x ∷ xs) (suc i) h k = none_or_first P xs i h.1 k.1

abbrev case_type : FactType → FactType → CaseType
case_type u v = record { test = u; outcome = v }

module _ {C R P : Type 0} (ty : Types C R P) where
  -- ---- how many nodes there are

  mutual
    length-placed : (b : ℕ) (t : Tree C R P) → length (placed ty b t) ≡ size t
    length-placed b (literal c) = refl
    length-placed b (read r) = refl
    length-placed b (switch cs) = omega (arith, length-placed_cases b cs)
    length-placed b (many op ts) = omega (arith, length-placed_trees b ts)
    length-placed b (one op t) = omega (arith, length-placed b t)
    length-placed b (two op x y) = omega (arith, length-append (placed ty b x) (placed ty b y), length-placed b x, length-placed b y)
    length-placed b (pick op p t) = omega (arith, length-placed (inner_base ty b p) t)

    length-placed_trees : (b : ℕ) (ts : Trees C R P) → length (placed_trees ty b ts) ≡ size_of_trees ts
    length-placed_trees b no_trees = refl
    length-placed_trees b (tree t ts) = omega (arith, length-append (placed ty b t) (placed_trees ty b ts), length-placed b t, length-placed_trees b ts)

    length-placed_cases : (b : ℕ) (cs : Cases C R P) → length (placed_cases ty b cs) ≡ size_of_cases cs
    length-placed_cases b no_cases = refl
    length-placed_cases b (a_case t o cs) = omega (arith, length-append (placed ty b t) (placed ty b o ++ placed_cases ty b cs), length-append (placed ty b o) (placed_cases ty b cs), length-placed b t, length-placed b o, length-placed_cases b cs)

  -- ---- where there is a type, no node is at fault

  mutual
    pub typed_none : (b : ℕ) (t : Tree C R P) (u : FactType) → HasType ty b t u → NoneIn (IsAtFault ty) (placed ty b t)
    typed_none b (literal c) u h = ((λ f. f.1 (u, h)), tt)
    typed_none b (read r) u h = ((λ f. f.1 (u, h)), tt)
    typed_none b (switch cs) u h = ((λ f. f.1 (u, h)), cases_none b cs u h.1)
    typed_none b (many op ts) u h = ((λ f. f.1 (u, h)), trees_none b ts h.0 h.1)
    typed_none b (one op t) u h = ((λ f. f.1 (u, h)), typed_none b t h.0 h.1)
    typed_none b (two op x y) u h = ((λ f. f.1 (u, h)), none_append (IsAtFault ty) (placed ty b x) (placed ty b y) (typed_none b x h.0 h.2) (typed_none b y h.1 h.3))
    typed_none b (pick op p t) u h =
        let base : inner_base ty b p ≡ h.0 = ap (λ (o : Option ℕ). unwrap_or o 0) h.1 in
        ((λ f. f.1 (u, h)), subst (λ (c : ℕ). NoneIn (IsAtFault ty) (placed ty c t)) (sym base) (typed_none h.0 t Boolean h.2))

    trees_none : (b : ℕ) (ts : Trees C R P) (us : List FactType) → HaveTypes ty b ts us → NoneIn (IsAtFault ty) (placed_trees ty b ts)
    trees_none b no_trees us h = tt
    trees_none b (tree t ts) [] h = absurd h
    trees_none b (tree t ts) (u ∷ us) h = none_append (IsAtFault ty) (placed ty b t) (placed_trees ty b ts) (typed_none b t u h.0) (trees_none b ts us h.1)

    cases_none : (b : ℕ) (cs : Cases C R P) (u : FactType) → HaveCaseTypes ty b cs u → NoneIn (IsAtFault ty) (placed_cases ty b cs)
    cases_none b no_cases u h = tt
    cases_none b (a_case t o cs) u h =
        none_append (IsAtFault ty) (placed ty b t) (placed ty b o ++ placed_cases ty b cs) (typed_none b t Boolean h.0)
        (none_append (IsAtFault ty) (placed ty b o) (placed_cases ty b cs) (typed_none b o u h.1) (cases_none b cs u h.2))

  are_typed_none : (b : ℕ) (ts : Trees C R P) → AreTyped ty b ts → NoneIn (IsAtFault ty) (placed_trees ty b ts)
  are_typed_none b no_trees h = tt
  are_typed_none b (tree t ts) h = none_append (IsAtFault ty) (placed ty b t) (placed_trees ty b ts) (typed_none b t h.0.0 h.0.1) (are_typed_none b ts h.1)

  cases_typed_none : (b : ℕ) (cs : Cases C R P) → CasesTyped ty b cs → NoneIn (IsAtFault ty) (placed_cases ty b cs)
  cases_typed_none b no_cases h = tt
  cases_typed_none b (a_case t o cs) h =
      none_append (IsAtFault ty) (placed ty b t) (placed ty b o ++ placed_cases ty b cs) (typed_none b t h.0.0 h.0.1)
      (none_append (IsAtFault ty) (placed ty b o) (placed_cases ty b cs) (typed_none b o h.1.0 h.1.1) (cases_typed_none b cs h.2))

  have_typed : (b : ℕ) (ts : Trees C R P) (us : List FactType) → HaveTypes ty b ts us → AreTyped ty b ts
  have_typed b no_trees us h = tt
  have_typed b (tree t ts) [] h = absurd h
  have_typed b (tree t ts) (u ∷ us) h = ((u, h.0), have_typed b ts us h.1)

  each_typed : (b : ℕ) (cs : Cases C R P) (us : List CaseType) → EachCase ty b cs us → CasesTyped ty b cs
  each_typed b no_cases us h = tt
  each_typed b (a_case t o cs) [] h = absurd h
  each_typed b (a_case t o cs) (u ∷ us) h = ((u.test, h.0), (u.outcome, h.1), each_typed b cs us h.2)

  -- where inferring gives a fault, no type is had
  untyped : (n b : ℕ) (t : Tree C R P) (m : ℕ) → type_of ty n b t ≡ Err m → ¬ IsTyped ty b t
  untyped n b t m e h = let k : done h.0 ≡ Err m = sym (complete ty n b t h.0 h.1) ∙ e in cc

  -- ---- the fault

  abbrev FaultFrom : ℕ → ℕ → List (Placed C R P) → Type 0
  FaultFrom n m xs = (i : ℕ) × (m ≡ n + i) × FirstIn (IsAtFault ty) xs i

  mutual
    pub first_fault : (n b : ℕ) (t : Tree C R P) (m : ℕ) → type_of ty n b t ≡ Err m → FaultFrom n m (placed ty b t)
    first_fault n b (literal c) m e = (0, omega (arith, (or_err n m (ty.constant c) e).0), (tt, untyped n b (literal c) m e))
    first_fault n b (read r) m e = (0, omega (arith, (or_err n m (ty.reads b r) e).0), (tt, untyped n b (read r) m e))
    first_fault n b (switch cs) m e =
        elim (bind_err (case_types ty (n + 1) b cs) (λ us. or_fault n (switch_type us)) m e) [
          | inl h ↦ let f = case_faults (n + 1) b cs m h in
              (suc f.0, omega (arith, f.1), ((λ k. none_or_first (IsAtFault ty) (placed_cases ty b cs) f.0 (cases_typed_none b cs k.0) f.2), f.2))
          | inr k ↦ (0, omega (arith, (or_err n m (switch_type k.0) k.2).0), (each_typed b cs k.0 (case_sound ty (n + 1) b cs k.0 k.1), untyped n b (switch cs) m e))
        ]
    first_fault n b (many op ts) m e =
        elim (bind_err (types_of ty (n + 1) b ts) (λ us. or_fault n (many_type op us)) m e) [
          | inl h ↦ let f = first_faults (n + 1) b ts m h in
              (suc f.0, omega (arith, f.1), ((λ k. none_or_first (IsAtFault ty) (placed_trees ty b ts) f.0 (are_typed_none b ts k.0) f.2), f.2))
          | inr k ↦ (0, omega (arith, (or_err n m (many_type op k.0) k.2).0), (have_typed b ts k.0 (sounds ty (n + 1) b ts k.0 k.1), untyped n b (many op ts) m e))
        ]
    first_fault n b (one op t) m e =
        elim (bind_err (type_of ty (n + 1) b t) (λ u. or_fault n (one_type ty.fits op u)) m e) [
          | inl h ↦ let f = first_fault (n + 1) b t m h in
              (suc f.0, omega (arith, f.1), ((λ k. none_or_first (IsAtFault ty) (placed ty b t) f.0 (typed_none b t k.0.0 k.0.1) f.2), f.2))
          | inr k ↦ (0, omega (arith, (or_err n m (one_type ty.fits op k.0) k.2).0), ((k.0, sound ty (n + 1) b t k.0 k.1), untyped n b (one op t) m e))
        ]
    first_fault n b (two op x y) m e =
        elim (bind_err (type_of ty (n + 1) b x) (λ u. type_of ty (n + 1 + size x) b y >>= λ w. or_fault n (two_type op u w)) m e) [
          | inl h ↦ let f = first_fault (n + 1) b x m h in
              (suc f.0, omega (arith, f.1), ((λ k. none_or_first (IsAtFault ty) (placed ty b x) f.0 (typed_none b x k.0.0.0 k.0.0.1) f.2), first_left (IsAtFault ty) (placed ty b x) (placed ty b y) f.0 f.2))
          | inr k ↦ elim (bind_err (type_of ty (n + 1 + size x) b y) (λ w. or_fault n (two_type op k.0 w)) m k.2) [
            | inl h ↦ let f = first_fault (n + 1 + size x) b y m h in
                let sx = sound ty (n + 1) b x k.0 k.1 in
                (suc (length (placed ty b x) + f.0), omega (arith, f.1, length-placed b x), ((λ j. none_or_first (IsAtFault ty) (placed ty b y) f.0 (typed_none b y j.0.1.0 j.0.1.1) f.2), first_right (IsAtFault ty) (placed ty b x) (placed ty b y) f.0 (typed_none b x k.0 sx) f.2))
            | inr q ↦ (0, omega (arith, (or_err n m (two_type op k.0 q.0) q.2).0), (((k.0, sound ty (n + 1) b x k.0 k.1), (q.0, sound ty (n + 1 + size x) b y q.0 q.1)), untyped n b (two op x y) m e))
          ]
        ]
    first_fault n b (pick op p t) m e =
        elim (bind_err (type_of ty (n + 1) (inner_base ty b p) t) (λ u. or_fault n (picked_type op (ty.source b p) u)) m e) [
          | inl h ↦ let f = first_fault (n + 1) (inner_base ty b p) t m h in
              (suc f.0, omega (arith, f.1), ((λ k. none_or_first (IsAtFault ty) (placed ty (inner_base ty b p) t) f.0 (typed_none (inner_base ty b p) t k.0.0 k.0.1) f.2), f.2))
          | inr k ↦ (0, omega (arith, (or_err n m (picked_type op (ty.source b p) k.0) k.2).0), ((k.0, sound ty (n + 1) (inner_base ty b p) t k.0 k.1), untyped n b (pick op p t) m e))
        ]

    pub first_faults : (n b : ℕ) (ts : Trees C R P) (m : ℕ) → types_of ty n b ts ≡ Err m → FaultFrom n m (placed_trees ty b ts)
    first_faults n b no_trees m e = absurd cc
    first_faults n b (tree t ts) m e =
        elim (bind_err (type_of ty n b t) (λ u. types_of ty (n + size t) b ts >>= λ vs. Ok (u ∷ vs)) m e) [
          | inl h ↦ let f = first_fault n b t m h in (f.0, f.1, first_left (IsAtFault ty) (placed ty b t) (placed_trees ty b ts) f.0 f.2)
          | inr k ↦ elim (bind_err (types_of ty (n + size t) b ts) (λ vs. Ok (k.0 ∷ vs)) m k.2) [
            | inl h ↦ let f = first_faults (n + size t) b ts m h in
                (length (placed ty b t) + f.0, omega (arith, f.1, length-placed b t), first_right (IsAtFault ty) (placed ty b t) (placed_trees ty b ts) f.0 (typed_none b t k.0 (sound ty n b t k.0 k.1)) f.2)
            | inr q ↦ absurd (let z : done (k.0 ∷ q.0) ≡ Err m = q.2 in cc)
          ]
        ]

    pub case_faults : (n b : ℕ) (cs : Cases C R P) (m : ℕ) → case_types ty n b cs ≡ Err m → FaultFrom n m (placed_cases ty b cs)
    case_faults n b no_cases m e = absurd cc
    case_faults n b (a_case t o cs) m e =
        let rest = placed ty b o ++ placed_cases ty b cs in
        elim (bind_err (type_of ty n b t) (λ u. type_of ty (n + size t) b o >>= λ v. case_types ty (n + size t + size o) b cs >>= λ vs. Ok (case_type u v ∷ vs)) m e) [
          | inl h ↦ let f = first_fault n b t m h in (f.0, f.1, first_left (IsAtFault ty) (placed ty b t) rest f.0 f.2)
          | inr k ↦ elim (bind_err (type_of ty (n + size t) b o) (λ v. case_types ty (n + size t + size o) b cs >>= λ vs. Ok (case_type k.0 v ∷ vs)) m k.2) [
            | inl h ↦ let f = first_fault (n + size t) b o m h in
                let none = typed_none b t k.0 (sound ty n b t k.0 k.1) in
                (length (placed ty b t) + f.0, omega (arith, f.1, length-placed b t), first_right (IsAtFault ty) (placed ty b t) rest f.0 none (first_left (IsAtFault ty) (placed ty b o) (placed_cases ty b cs) f.0 f.2))
            | inr q ↦ elim (bind_err (case_types ty (n + size t + size o) b cs) (λ vs. Ok (case_type k.0 q.0 ∷ vs)) m q.2) [
              | inl h ↦ let f = case_faults (n + size t + size o) b cs m h in
                  let none = typed_none b t k.0 (sound ty n b t k.0 k.1) in
                  let later = typed_none b o q.0 (sound ty (n + size t) b o q.0 q.1) in
                  (length (placed ty b t) + (length (placed ty b o) + f.0), omega (arith, f.1, length-placed b t, length-placed b o), first_right (IsAtFault ty) (placed ty b t) rest (length (placed ty b o) + f.0) none (first_right (IsAtFault ty) (placed ty b o) (placed_cases ty b cs) f.0 later f.2))
              | inr r ↦ absurd (let z : done (case_type k.0 q.0 ∷ r.0) ≡ Err m = r.2 in cc)
            ]
          ]
        ]
