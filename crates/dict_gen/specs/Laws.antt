-- Laws of the load: how large it is, and that its script is read line by line.
use Rattle.std.specs.Prelude.{◌≡◌, ℕ, ◌+◌, ◌*◌, ◌≤◌, length, map}
use Rattle.script_lines.specs.Lines.{script_lines, whole}
use Rattle.dictionary.specs.Keeping.{node_count}
use Rattle.dict_gen.specs.Chain.{chain}
use Rattle.dict_gen.specs.Script.{lines, member_count, script}

abbrev pub ChainHasFacts : Type 0
ChainHasFacts = (n : ℕ) → length (chain n).facts ≡ n + 3

abbrev pub ChainHasNodes : Type 0
ChainHasNodes = (n : ℕ) → 1 ≤ n → node_count (chain n) ≡ 3 * n + 1

abbrev pub ScriptHasLines : Type 0
ScriptHasLines = (n : ℕ) → length (lines n) ≡ member_count n + 4 * n + 2

-- what is read of the script are its lines, none of them too long
abbrev pub ScriptIsRead : Type 0
ScriptIsRead = (n : ℕ) → 1 ≤ n → n ≤ 1000 → script_lines (script n) ≡ map whole (lines n)

abbrev pub ScriptIsShort : Type 0
ScriptIsShort = (n : ℕ) → 1 ≤ n → n ≤ 1000 → length (script n) ≤ 200000
