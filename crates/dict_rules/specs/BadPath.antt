-- A path that the grammar does not read.
use Rattle.std.specs.Prelude.{◌≡◌, ◌⊎◌, ℕ, Bool, true, false, ◌||◌, List, Option, Some, None, is_none}
use Rattle.std.specs.List.{Any}
use Rattle.fact_paths.specs.declared.use_path.UsePath.{UsePath}
use Rattle.fact_paths.specs.declared.use_path.UsePath.TheVariants as uses
use Rattle.dict_source.specs.Tree.{Use}
use Rattle.dict_source.specs.Facts.{Fact, Stated, scalar, enum_of, writable_list, list_of, item_of}
use Rattle.dict_source.specs.Dictionary.{Dictionary}
use Rattle.dict_rules.specs.declared.use_op.UseOp.{UseOp}
use Rattle.dict_rules.specs.Uses.{Condition, UseAt, fact_has_use, fact_uses}

-- a form other than `/N`
abbrev pub is_other_form : UsePath → Bool
is_other_form (uses.Global n) = false
is_other_form (uses.Sibling n) = true
is_other_form (uses.Inner n) = true
is_other_form (uses.Each n m) = true
is_other_form (uses.Through n m) = true
is_other_form (uses.SiblingThrough n m) = true

-- a stated type takes `/N` alone
abbrev pub is_bad_base : Option UsePath → Bool
is_bad_base None = true
is_bad_base (Some path) = is_other_form path

abbrev pub is_bad_stated : Stated → Bool
is_bad_stated (scalar t) = false
is_bad_stated (enum_of n) = false
is_bad_stated writable_list = false
is_bad_stated (list_of u) = is_bad_base u.path
is_bad_stated (item_of u) = is_bad_base u.path

-- a use's text spells no use path
abbrev pub is_bad_use : UseOp → Condition → Use → Bool
is_bad_use use_op c u = is_none u.path

-- its path is no path of a fact, its stated type has a path other than `/N`, or a use's text spells no use path
abbrev pub is_bad_path : Dictionary → ℕ → Fact → Bool
is_bad_path d n f = is_none f.path || (is_bad_stated f.stated || fact_has_use is_bad_use d n f)

-- ---- the rule in its own words

abbrev pub IsGlobal : Option UsePath → Type 0
IsGlobal path = (n : List ℕ) × (path ≡ Some (uses.Global n))

-- the path in a Collection or Item type isn't `/N`
abbrev pub HasBadBase : Stated → Type 0
HasBadBase (list_of u) = ¬ IsGlobal u.path
HasBadBase (item_of u) = ¬ IsGlobal u.path
HasBadBase _ = ⊥

-- the fact's path is no path of a fact, that in its stated type isn't `/N`, or some use's text spells no use path
abbrev pub IsBadPath : Dictionary → ℕ → Fact → Type 0
IsBadPath d n f = (f.path ≡ None) ⊎ (HasBadBase f.stated ⊎ Any (λ (u : UseAt). u.used.path ≡ None) (fact_uses d n f))
