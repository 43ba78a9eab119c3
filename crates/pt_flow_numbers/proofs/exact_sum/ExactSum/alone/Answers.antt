use Rattle.std.proofs.Common.{arith}
use Rattle.std.proofs.lemmas.Int.{ints}
use Rattle.pt_flow_numbers.proofs.exact_sum.ExactSum.alone.Goals as goal

pub returns : goal.returns
returns c = omega (arith, ints)
