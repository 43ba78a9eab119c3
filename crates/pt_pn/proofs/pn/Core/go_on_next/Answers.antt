use Rattle.std.proofs.Common.{length, ap, subst, ◌∙◌, arith}
use Rattle.pt_pn_work.specs.Core.{State}
use Rattle.pt_pn.specs.Core.{GoesOn}
use Rattle.pt_pn.proofs.MoveLaws.{not-moved, comes-after}
use Rattle.pt_pn.proofs.pn.Core.go_on_next.Goals as goal

pub go_on-requires : goal.go_on-requires
go_on-requires c = record {
  there = let e = ap (λ (s : State). length s.network.plan.net.places) c.taken.ensures.same in let h = c.in-Some.ensures.there in omega (arith, e, h);
  running = ap (λ (s : State). s.stage) c.taken.ensures.same ∙ c.requires;
}

pub returns-in-Some : goal.returns-in-Some
returns-in-Some c = subst (λ (s : State). GoesOn s c.go_on.result c.go_on.new.self) c.taken.ensures.same c.go_on.ensures

pub next_of_all-requires : goal.next_of_all-requires
next_of_all-requires c = ap (λ (s : State). s.stage) c.taken.ensures.same ∙ c.requires

pub returns-in-None : goal.returns-in-None
returns-in-None c = comes-after c.args.self.now c.taken.new.self c.next_of_all.new.self c.next_of_all.result (not-moved c.args.self.now c.taken.new.self c.taken.ensures.same) c.next_of_all.ensures
