use Rattle.saved_text.proofs.Common.{Bool, ap, bytes_eq, has, true, ◌||◌, ◌∙◌}
use Rattle.std.proofs.Common.{string_bytes}
use Rattle.common_lemmas.proofs.Bools.{cond_or}
use Rattle.common_lemmas.proofs.Bytes.{bytes_eq-comm}
use Rattle.std.proofs.lemmas.Map.Text.{hash_set_updates_text}
use Rattle.saved_text.proofs.entry_keys.EntryKeys.add.Goals as goal

pub returns-clause-added : goal.returns-clause-added
returns-clause-added c = λ other.
    hash_set_updates_text (string_bytes c.args.text) c.args.self.now.texts c.insert.new.self true c.in-Ok.ensures.updates other
    ∙ cond_or (bytes_eq (string_bytes c.args.text) other) (has c.args.self.now other)
    ∙ ap (λ (b : Bool). b || has c.args.self.now other) (bytes_eq-comm (string_bytes c.args.text) other)
