use Rattle.pt_de_parts.proofs.RowLaws.{rows-single}
use Rattle.pt_de_parts.proofs.rows.are_one_row.Goals as goal

pub returns-else-whole-clause-one : goal.returns-else-whole-clause-one
returns-else-whole-clause-one c = λ h. rows-single c.args.whole c.args.first c.args.end c.args.channels.now.lists c.if-whole.false c.requires (c.are_single.ensures.0 h)
