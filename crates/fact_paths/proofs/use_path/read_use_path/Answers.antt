use Rattle.std.proofs.Common.{sym}
use Rattle.fact_paths.specs.Paths.{SpellsUsePath}
use Rattle.fact_paths.specs.Parsing.{use_path_of}
use Rattle.fact_paths.proofs.UsePathLaws.{use_path_reading}
use Rattle.fact_paths.proofs.ParsingLaws.{reads_from_gives}
use Rattle.fact_paths.proofs.use_path.read_use_path.Goals as goal

pub returns-in-Some : goal.returns-in-Some
returns-in-Some c =
    reads_from_gives SpellsUsePath use_path_of use_path_reading c.args.text.now c.read_sibling.result
    (rw (sym c.in-Some.ensures) c.read_sibling.ensures)

pub returns-in-Some-strip : goal.returns-in-Some-strip
returns-in-Some-strip c =
    reads_from_gives SpellsUsePath use_path_of use_path_reading c.args.text.now c.read_rooted.result
    (rw (sym c.in_default.ensures, sym c.in-Some-strip.ensures) c.read_rooted.ensures)

pub returns : goal.returns
returns c =
    reads_from_gives SpellsUsePath use_path_of use_path_reading c.args.text.now c.read_inner.result
    (rw (sym c.in_default.ensures, sym c.in_default-strip.ensures) c.read_inner.ensures)
