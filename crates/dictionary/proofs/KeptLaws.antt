-- What a dictionary keeps, and what follows of it.
use Rattle.std.proofs.Common.{◌≡◌, ℕ, zero, suc, ◌<◌, ◌≤◌, Bool, false, List, [], ◌∷◌, length, map, get_or, slice_get, Result, Ok, Err, refl, sym, ap, subst, ◌∙◌, arith}
use Rattle.std.specs.Prelude.{◌↔◌, option_and_then, unwrap_or, IfErr, IfOk, IsTrue}
use Rattle.std.proofs.lemmas.List.{get_or_default, length-map}
use Rattle.dict_source.specs.Facts.{Fact}
use Rattle.dict_source.specs.Dictionary.{Dictionary as Tree}
use Rattle.dict_tree.specs.DictParsing.{BytesGive}
use Rattle.dict_source.specs.Finding.{IsNumber}
use Rattle.dict_source.specs.Targets.{find_global, member_collection}
use Rattle.dict_order.specs.Ranks.{rank_of}
use Rattle.dict_order.proofs.DictionaryLaws.{few_facts, length_mention_graph}
use Rattle.dict_meaning.specs.Accepted.{Accepted, IsAccepted}
use Rattle.dictionary.specs.AcceptedParts.{AcceptedParts, Named, accepted, names_of}
use Rattle.dictionary.specs.Faults.{IsFault, IsFaultOf, Refuses}
use Rattle.dict_meaning.specs.Homes.{fact_home, home, homes}
use Rattle.dict_meaning.specs.Steady.{steady_by_rank}
use Rattle.dictionary.specs.SteadyDependencies.{TellsSteady, known_at}
use Rattle.dictionary.specs.declared.fault.DictFault.{DictFault}
use Rattle.dictionary.proofs.FaultLaws.{refused_read}

-- ---- counts

pub count_ranks : (names : List (List ℕ)) (d : Accepted) → IsAccepted names d → length d.ranks ≡ length d.tree.facts
count_ranks names d is = is.ranked.count ∙ length_mention_graph d.tree

pub few_ranks : (names : List (List ℕ)) (d : Accepted) → IsAccepted names d → length d.ranks ≤ 2000
few_ranks names d is = omega (arith, count_ranks names d is, few_facts d.tree is.valid)

-- ---- by number

home_at : (d : Tree) (fs : List Fact) (place : ℕ) → get_or (map (fact_home d) fs) place 0 ≡ unwrap_or (option_and_then (find_global d) (option_and_then (λ f. option_and_then member_collection f.path) (slice_get fs place))) 0
home_at d [] place = refl
home_at d (f ∷ fs) zero = refl
home_at d (f ∷ fs) (suc place) = home_at d fs place

-- what is read of a list of numbers, at a place that it has
pub read_at : (list : List ℕ) (place r : ℕ) → r ≡ get_or list place r → place < length list → r ≡ get_or list place 0
read_at list place r e low = e ∙ get_or_default list place r 0 low

pub home_of_fact : (d : Tree) (list : List ℕ) (fact place r : ℕ) → list ≡ homes d → r ≡ get_or list place r → fact ≡ suc place → place < length d.facts → r ≡ home d fact
home_of_fact d list fact place r same e number low =
    let count : length list ≡ length d.facts = ap length same ∙ length-map d.facts (fact_home d) in
    read_at list place r e (omega (arith, count, low)) ∙ ap (λ (l : List ℕ). get_or l place 0) same ∙ home_at d d.facts place ∙ ap (home d) (sym number)

pub rank_of_fact : (names : List (List ℕ)) (d : Accepted) (fact place r : ℕ) → IsAccepted names d → r ≡ get_or d.ranks place r → fact ≡ suc place → place < length d.tree.facts → r ≡ rank_of d.ranks fact
rank_of_fact names d fact place r is e number low =
    read_at d.ranks place r e (omega (arith, count_ranks names d is, low)) ∙ ap (rank_of d.ranks) (sym number)

pub steady_of_fact : (d : Tree) (ranks : List ℕ) (known : List Bool) (fact place : ℕ) (r : Bool) → TellsSteady d ranks known → IsNumber d.facts fact → r ≡ get_or known place r → fact ≡ suc place → r ≡ steady_by_rank d ranks fact
steady_of_fact d ranks known fact place r tells is e number =
    let low : place < length known = omega (arith, is.1, number, tells.count) in
    e ∙ get_or_default known place r false low ∙ ap (known_at known) (sym number) ∙ tells.each fact is

pub tells_by : {P : Type 0} (r s : Bool) → r ≡ s → IsTrue s ↔ P → IsTrue r ↔ P
tells_by r s e h = (λ t. h.0 (sym e ∙ t), λ p. e ∙ h.1 p)

-- ---- what is kept

pub names_are : {C : Type 0} (name : C → List ℕ) (code : C → ℕ) (cs : List C) → names_of (map (λ c. (name c, code c)) cs) ≡ map name cs
names_are name code [] = refl
names_are name code (c ∷ cs) = ap (λ (names : List (List ℕ)). name c ∷ names) (names_are name code cs)

pub kept_with : {C : Type 0} (name : C → List ℕ) (code : C → ℕ) (cs : List C) (checks : List Named) (d : Accepted) → checks ≡ map (λ c. (name c, code c)) cs → IsAccepted (map name cs) d → IsAccepted (names_of checks) d
kept_with name code cs checks d same is = subst (λ (names : List (List ℕ)). IsAccepted names d) (sym (ap names_of same ∙ names_are name code cs)) is

-- ---- the exits of acceptance

pub ok_accepted : (names : List (List ℕ)) (k : AcceptedParts) (r : Result AcceptedParts DictFault) → IsAccepted names (accepted k) → IfOk r (λ d. d ≡ k) → IfOk r (λ d. IsAccepted names (accepted d))
ok_accepted names k (Ok d) is same = subst (λ (x : AcceptedParts). IsAccepted names (accepted x)) (sym same) is
ok_accepted names k (Err e) is same = tt

pub err_refused : (bytes : List ℕ) (names : List (List ℕ)) (d : Tree) (r : Result AcceptedParts DictFault) → BytesGive bytes (Ok d) → IfErr r (Refuses (IsFaultOf d names)) → IfErr r (Refuses (IsFault bytes names))
err_refused bytes names d (Ok k) given h = tt
err_refused bytes names d (Err e) given h = refused_read bytes names d e given h
