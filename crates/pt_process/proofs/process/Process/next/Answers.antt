use Rattle.std.proofs.Common.{ap, sym, subst, ◌∙◌}
use Rattle.pt_process.specs.declared.process.Event.TheVariants.{Put}
use Rattle.pt_process.specs.Process.{Standing, DoesNext}
use Rattle.pt_process.proofs.process.Process.next.Goals as goal

pub returns-in-Some-clause-next : goal.returns-in-Some-clause-next
returns-in-Some-clause-next c = subst (λ (s : Standing). DoesNext s (Put c.in-Some.channel)) c.self.view_is c.in-Some.ensures

pub next_of_need-requires-clause-none : goal.next_of_need-requires-clause-none
next_of_need-requires-clause-none c = sym (ap (λ (s : Standing). s.puts) c.self.view_is) ∙ c.in-None.ensures
