use Rattle.std.proofs.Common.{ap, subst, ◌∙◌}
use Rattle.pt_pn_work.specs.Core.{State}
use Rattle.pt_pn.specs.Core.{Comes}
use Rattle.pt_pn.proofs.pn.Core.next.Goals as goal

pub look_at_next-requires : goal.look_at_next-requires
look_at_next-requires c = ap (λ (s : State). s.stage) c.loop.invariant ∙ c.requires

pub returns-in-Some : goal.returns-in-Some
returns-in-Some c = subst (λ (s : State). Comes s c.in-Some.ask c.look_at_next.new.self) c.loop.invariant c.in-Some.ensures

pub loop-preserved : goal.loop-preserved
loop-preserved c = c.in-None.ensures ∙ c.loop.invariant

pub next_of_all-requires : goal.next_of_all-requires
next_of_all-requires c = ap (λ (s : State). s.stage) c.loop.invariant ∙ c.requires

pub returns : goal.returns
returns c = subst (λ (s : State). Comes s c.next_of_all.result c.next_of_all.new.self) c.loop.invariant c.next_of_all.ensures
