use Rattle.saved_text.proofs.Common.{[], length, take, ◌-◌, ◌∷◌}
use Rattle.std.proofs.lemmas.Bool.Decides.{Decides-eqb}
use Rattle.std.proofs.lemmas.Slice.Eq.{ends_is}
use Rattle.saved_text.proofs.carried_stage.is_ended.Goals as goal

pub returns : goal.returns
returns c =
    let bytes = c.args.bytes.now in
    let ends = ends_is Decides-eqb bytes (10 ∷ []) c.ends_with.result c.ends_with.ensures.value in
    (λ h. (take (length bytes - 1) bytes, ends.0 h), λ h. ends.1 h.0 h.1)
