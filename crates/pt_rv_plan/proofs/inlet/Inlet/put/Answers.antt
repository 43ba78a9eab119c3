use Rattle.std.proofs.Common.{length, slice_get, sym, ap, ◌∙◌, arith, length-drop}
use Rattle.pt_meaning.specs.Process.{rest_of}
use Rattle.pt_puts.specs.Puts.{puts_in}
use Rattle.pt_rv_plan.specs.Ends.{Arriving}
use Rattle.pt_rv_plan.proofs.inlet.Inlet.put.Goals as goal

pub invariant_of-self : goal.invariant_of-self
invariant_of-self c =
    let e = ap (λ v. length v) c.pop_front.ensures.rest ∙ length-drop 1 c.self.inside.puts.items in
    omega (arith, e, c.pop_front.ensures.capacity, c.self.invariant)

pub returns-clause-put : goal.returns-clause-put
returns-clause-put c = sym (ap (λ (a : Arriving). slice_get a.puts 0) c.self.view_is) ∙ ap (λ v. slice_get (puts_in v) 0) c.in-Some.ensures.items

pub returns-clause-left : goal.returns-clause-left
returns-clause-left c = sym (ap (λ v. rest_of (puts_in v)) c.in-Some.ensures.items) ∙ ap (λ (a : Arriving). rest_of a.puts) c.self.view_is
