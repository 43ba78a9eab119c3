use Rattle.std.proofs.Common.{◌++◌, length, ap, ◌∙◌, arith, length-append}
use Rattle.std.proofs.lemmas.List.{map-append}
use Rattle.pt_puts.specs.Puts.{put_of, puts_in}
use Rattle.pt_rv_plan.specs.Ends.{Arriving}
use Rattle.pt_rv_plan.proofs.inlet.Inlet.arrive.Goals as goal

pub unreachable-requires : goal.unreachable-requires
unreachable-requires c = omega (arith, c.in-Err.ensures.full, c.self.invariant, c.self.inside.puts.ok.0, c.self.inside.coming.ok.0)

pub invariant_of-self : goal.invariant_of-self
invariant_of-self c =
    let e = ap (λ v. length v) c.in-Ok.ensures.items ∙ length-append c.self.inside.puts.items c.self.inside.coming.items in
    let f = ap (λ v. length v) c.in-Ok.ensures.other_items in
    omega (arith, e, f, c.append.ensures.capacity, c.self.invariant)

pub returns-clause-puts : goal.returns-clause-puts
returns-clause-puts c =
    ap puts_in c.in-Ok.ensures.items ∙ map-append put_of c.self.inside.puts.items c.self.inside.coming.items ∙ ap (λ (a : Arriving). a.puts ++ a.coming) c.self.view_is

pub returns-clause-coming : goal.returns-clause-coming
returns-clause-coming c = ap puts_in c.in-Ok.ensures.other_items
