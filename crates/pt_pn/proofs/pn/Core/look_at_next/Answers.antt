use Rattle.std.proofs.Common.{length, ap, subst, ◌∙◌, arith}
use Rattle.pt_pn_work.specs.Core.{State}
use Rattle.pt_pn.specs.Core.{MayCome}
use Rattle.pt_pn.proofs.StepLaws.{looks-may}
use Rattle.pt_pn.proofs.pn.Core.look_at_next.Goals as goal

pub look_once-requires : goal.look_once-requires
look_once-requires c = record {
  there = let e = ap (λ (s : State). length s.network.plan.net.places) c.taken.ensures.same in let h = c.in-Some.ensures.there in omega (arith, e, h);
  running = ap (λ (s : State). s.stage) c.taken.ensures.same ∙ c.requires;
}

pub returns-in-Some : goal.returns-in-Some
returns-in-Some c = subst (λ (s : State). MayCome s c.look_once.result c.look_once.new.self) c.taken.ensures.same (looks-may c.taken.new.self c.in-Some.process c.look_once.result c.look_once.new.self c.look_once.ensures)
