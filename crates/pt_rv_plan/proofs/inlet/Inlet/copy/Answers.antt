use Rattle.std.proofs.Common.{length, ap, ◌∙◌, arith}
use Rattle.pt_puts.specs.Puts.{puts_in}
use Rattle.pt_rv_plan.specs.Ends.{Arriving}
use Rattle.pt_rv_plan.proofs.inlet.Inlet.copy.Goals as goal

pub invariant_of-result : goal.invariant_of-result
invariant_of-result c = let e = ap (λ v. length v) c.new.ensures.items in omega (arith, e, c.in_ok-puts.puts.ok.0, c.in_ok-puts.puts.small.1)

pub returns-clause-coming : goal.returns-clause-coming
returns-clause-coming c = ap puts_in c.new.ensures.items

pub returns-clause-puts : goal.returns-clause-puts
returns-clause-puts c = c.in_ok-puts.ensures ∙ ap (λ (a : Arriving). a.puts) c.self.view_is
