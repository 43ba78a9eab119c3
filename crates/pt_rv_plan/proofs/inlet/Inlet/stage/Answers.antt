use Rattle.std.proofs.Common.{◌++◌, length, ap, ◌∙◌, arith}
use Rattle.pt_meaning.specs.Process.{puts_of_port}
use Rattle.pt_puts.specs.Puts.{puts_in}
use Rattle.pt_rv_plan.specs.Ends.{Arriving}
use Rattle.pt_rv_plan.proofs.inlet.Inlet.stage.Goals as goal

pub invariant_of-self : goal.invariant_of-self
invariant_of-self c = let e = ap (λ v. length v) c.in_err-reserve.ensures.items in omega (arith, e, c.in_err-reserve.ensures.capacity, c.self.invariant)

pub invariant_of-self-2 : goal.invariant_of-self-2
invariant_of-self-2 c = omega (arith, c.in_ok-reserve.ensures.ok, c.len.ensures, c.reserve.new.self.ok.0, c.stage_port.new.staged.ok.0)

pub returns-clause-coming : goal.returns-clause-coming
returns-clause-coming c = c.in_ok-stage_port.ensures ∙ ap (λ v. puts_in v ++ puts_of_port c.args.fan.now c.args.tokens.now) c.new-coming.ensures.items

pub returns-clause-puts : goal.returns-clause-puts
returns-clause-puts c = ap puts_in c.in_ok-reserve.ensures.items ∙ ap (λ (a : Arriving). a.puts) c.self.view_is
