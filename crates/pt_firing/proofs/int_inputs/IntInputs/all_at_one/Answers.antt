use Rattle.pt_firing.proofs.Integers.{all-at-one}
use Rattle.pt_firing.proofs.int_inputs.IntInputs.all_at_one.Goals as goal

pub returns : goal.returns
returns c = all-at-one c.args.numbers.now
