-- The contents that a map from names keeps.
use Rattle.std.proofs.Common.{◌≡◌, ◌⊎◌, inr, Bor, MatchOption, ℕ, List, [], ◌∷◌, map, Bool, true, false, cond, Option, None, Some, Vec, String, string_bytes, refl, sym, ◌∙◌, ap}
use Rattle.std.specs.Option.{option_map, option_copied}
use Rattle.std.proofs.lemmas.Cmp.{nat_list_cmp_total}
use Rattle.std.proofs.lemmas.Map.Lookups.{exact_bytes}
use Rattle.std.proofs.lemmas.Map.Text.{is_eq-slice_cmp, btree_map_updates_text}
use Rattle.std.specs.BTreeMap.{BTreeMap, UpdatesBy, get_by_text, is_at}
use Rattle.std.specs.Cmp.Lexicographic.{slice_cmp}
use Rattle.std.specs.Cmp.{eq_by_cmp_equiv}
use Rattle.std.specs.FinMap.{find, get, insert, get-from_entries, get-insert, same_map}
use Rattle.std.specs.Map.{lookup}
use Rattle.std.specs.Ordering.{nat_cmp, is_eq, eq_by_cmp}
use Rattle.std.specs.Str.{bytes_eq}
use Rattle.std.specs.String.{string_cmp}
use Rattle.std.specs.declared.alloc.Global.{Global}
use Rattle.fg_io.specs.ShelfState.{files_of}

option_map-cond : {A B : Type 0} (f : A → B) (b : Bool) (x y : Option A) → option_map f (cond b x y) ≡ cond b (option_map f x) (option_map f y)
option_map-cond f true x y = refl
option_map-cond f false x y = refl

find_kept : (es : List (String Global × Vec ℕ Global)) (name : List ℕ)
    → find (slice_cmp nat_cmp) name (map {B = List ℕ × List ℕ} (λ e. (string_bytes e.0, e.1.items)) es) ≡ option_map (λ v. v.items) (lookup (is_at (λ k. slice_cmp nat_cmp name (string_bytes k))) es)
find_kept [] name = refl
find_kept (e ∷ es) name =
    ap (cond (is_eq (slice_cmp nat_cmp name (string_bytes e.0))) (Some e.1.items)) (find_kept es name)
    ∙ sym (option_map-cond (λ v. v.items) (is_eq (slice_cmp nat_cmp name (string_bytes e.0))) (Some e.1) (lookup (is_at (λ k. slice_cmp nat_cmp name (string_bytes k))) es))

-- the contents of a name are what the map has at it
pub get-files_of : (kept : BTreeMap (String Global) (Vec ℕ Global)) (name : List ℕ) → get (files_of kept) name ≡ option_map (λ v. v.items) (get_by_text kept name)
get-files_of kept name = get-from_entries nat_list_cmp_total _ name ∙ find_kept kept.entries name

same_name : (name other : List ℕ) → bytes_eq name other ≡ eq_by_cmp (slice_cmp nat_cmp) other name
same_name name other = sym (is_eq-slice_cmp name other) ∙ (eq_by_cmp_equiv nat_list_cmp_total).symm name other

-- one name gets other contents
pub files_of-insert : (old new : BTreeMap (String Global) (Vec ℕ Global)) (name : List ℕ) (v : Vec ℕ Global)
    → UpdatesBy string_cmp (λ k. slice_cmp nat_cmp name (string_bytes k)) old new (Some v) → files_of new ≡ insert (files_of old) name v.items
files_of-insert old new name v updates = same_map nat_list_cmp_total exact_bytes _ _ (λ q.
    get-files_of new q
    ∙ ap (option_map (λ v. v.items)) (btree_map_updates_text name old new (Some v) updates q)
    ∙ option_map-cond (λ v. v.items) (bytes_eq name q) (Some v) (get_by_text old q)
    ∙ ap (λ b. cond b (Some v.items) (option_map (λ v. v.items) (get_by_text old q))) (same_name name q)
    ∙ sym (get-insert nat_list_cmp_total (files_of old) name v.items q ∙ ap (cond (eq_by_cmp (slice_cmp nat_cmp) q name) (Some v.items)) (get-files_of old q)))

-- what a look-up finds, where nothing forbids it
pub looked_up : {P : Type 0} (kept : BTreeMap (String Global) (Vec ℕ Global)) (name : List ℕ) (r : Option (Bor (Vec ℕ Global))) → option_copied r ≡ get_by_text kept name → ¬ P
    → MatchOption r (P ⊎ (get (files_of kept) name ≡ None)) (λ v. (¬ P) × (get (files_of kept) name ≡ Some v.now.items))
looked_up kept name None is allowed = inr (get-files_of kept name ∙ ap (option_map (λ v. v.items)) (sym is))
looked_up kept name (Some v) is allowed = (allowed, get-files_of kept name ∙ ap (option_map (λ v. v.items)) (sym is))
