use Rattle.fact_paths.proofs.MemberNumbers.{member_number_reads}
use Rattle.fact_paths.proofs.slot_path.read_member_number.Goals as goal

pub returns-clause-spelled : goal.returns-clause-spelled
returns-clause-spelled c = member_number_reads c.args.text.now c.member_number.result c.member_number.ensures
