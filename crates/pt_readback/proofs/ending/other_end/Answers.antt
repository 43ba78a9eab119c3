use Rattle.pt_readback.proofs.Ends.{plain_form}
use Rattle.pt_readback.proofs.ending.other_end.Goals as goal

pub returns-in-Some-clause-form : goal.returns-in-Some-clause-form
returns-in-Some-clause-form c = plain_form c.in-Some.end c.args.text.now c.in-Some.ensures
