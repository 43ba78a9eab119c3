use Rattle.pt_trace.proofs.Forms.{form-examples}
use Rattle.pt_trace.proofs.form.forms_by_example.Goals as goal

pub returns : goal.returns
returns c = form-examples
