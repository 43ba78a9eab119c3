use Rattle.std.proofs.Common.{◌∙◌, arith}
use Rattle.std.proofs.lemmas.List.{take_all}
use Rattle.pt_rv_parts.proofs.numbers.first_numbers.Goals as goal

pub returns : goal.returns
returns c = λ _. c.loop-k.invariant ∙ take_all c.loop-k.k c.args.lists.now (omega (arith, c.loop-k-test.false))
