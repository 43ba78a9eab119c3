use Rattle.pt_tellable.proofs.Forms.{have-form}
use Rattle.pt_tellable.proofs.laws.lists_have_form.Goals as goal

pub returns : goal.returns
returns c = have-form
