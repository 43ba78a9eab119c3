use Rattle.std.proofs.Common.{ap, ◌∙◌, sym}
use Rattle.pt_firing.specs.Row.{truth_in}
use Rattle.pt_firing.proofs.Integers.{no-truth-among}
use Rattle.pt_firing.proofs.int_inputs.IntInputs.truth_at.Goals as goal

pub returns : goal.returns
returns c = sym (sym (ap (λ v. truth_in v) c.list.ensures) ∙ no-truth-among c.list.result.now)
