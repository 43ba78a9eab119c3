use Rattle.pt_moml.proofs.DocumentLaws.{clean_result, told_result}
use Rattle.pt_moml.proofs.document.read.Goals as goal

pub returns-clause-clean : goal.returns-clause-clean
returns-clause-clean c = clean_result c.args.bytes.now c.read_exactly.result c.read_exactly.ensures.job

pub returns-clause-refused : goal.returns-clause-refused
returns-clause-refused c = told_result c.args.bytes.now c.read_exactly.result c.read_exactly.ensures.first
