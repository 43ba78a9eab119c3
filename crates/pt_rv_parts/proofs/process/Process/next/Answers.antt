use Rattle.std.proofs.Common.{ap, sym, subst, ◌∙◌}
use Rattle.pt_value.specs.declared.token.Token.{Token}
use Rattle.pt_rv_work.specs.Core.{Standing}
use Rattle.pt_rv_parts.specs.declared.process.Event.TheVariants.{Put}
use Rattle.pt_rv_parts.specs.Process.{DoesNext}
use Rattle.pt_rv_parts.proofs.process.Process.next.Goals as goal

pub returns-in-Some-clause-next : goal.returns-in-Some-clause-next
returns-in-Some-clause-next c = subst (λ (s : Standing Token). DoesNext s (Put c.in-Some.channel)) c.self.view_is c.in-Some.ensures

pub next_of_need-requires-clause-none : goal.next_of_need-requires-clause-none
next_of_need-requires-clause-none c = sym (ap (λ (s : Standing Token). s.puts) c.self.view_is) ∙ c.in-None.ensures
