-- Joins clauses on one result.
use Rattle.std.proofs.Common.{IfOk, OnOk, OnErr}
use Rattle.std.specs.declared.result.Result.{Result}
use Rattle.std.specs.declared.result.Result.TheVariants.{Ok, Err}

pub with_both : {T E : Type 0} (r : Result T E) {P R : T → Type 0} {Q : Type 0} → IfOk r P → OnOk r Q → ((x : T) → P x → Q → R x) → IfOk r R
with_both (Ok x) p q f = f x p q
with_both (Err e) p q f = p

pub with_three : {T E : Type 0} (r : Result T E) {P R : T → Type 0} {Q S : Type 0} → IfOk r P → OnOk r Q → OnOk r S → ((x : T) → P x → Q → S → R x) → IfOk r R
with_three (Ok x) p q s f = f x p q s
with_three (Err e) p q s f = p

pub either_way : {T E : Type 0} (r : Result T E) {P Q R : Type 0} → OnOk r P → OnErr r Q → (P → R) → (Q → R) → R
either_way (Ok x) p q f g = f p
either_way (Err e) p q f g = g q
