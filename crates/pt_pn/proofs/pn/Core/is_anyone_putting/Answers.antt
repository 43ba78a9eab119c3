use Rattle.std.proofs.Common.{subst}
use Rattle.pt_pn_work.specs.Core.{State, puts_of_all}
use Rattle.pt_pn.specs.Waiting.{SomePuts}
use Rattle.pt_pn.proofs.NotedLaws.{none-puts}
use Rattle.pt_pn.proofs.pn.Core.is_anyone_putting.Goals as goal

pub returns-then-are_resting-clause-none : goal.returns-then-are_resting-clause-none
returns-then-are_resting-clause-none c _ = none-puts c.self.inside c.self.invariant c.args.self.now c.self.view_is (c.are_resting.ensures c.if-are_resting.true)

pub returns-clause-some : goal.returns-clause-some
returns-clause-some c e = subst (λ (s : State). SomePuts s.halfway.puts) c.self.view_is (subst (λ ps. SomePuts (puts_of_all ps)) c.deref.ensures.value (c.is_any_putting.ensures.some e))
