use Rattle.pt_sdf_parts.proofs.TableLaws.{one-list-lacks}
use Rattle.pt_sdf_parts.proofs.numbers.are_all_of_one.Goals as goal

pub returns-else-rates-eq1 : goal.returns-else-rates-eq1
returns-else-rates-eq1 c tokens e = one-list-lacks c.args.rates.now tokens c.if-rates-eq1.false
