use Rattle.std.proofs.Common.{ap, subst, ◌∙◌}
use Rattle.pt_value.specs.declared.token.Token.{Token}
use Rattle.pt_rv_work.specs.Core.{Standing, nobody}
use Rattle.pt_rv_parts.specs.Process.{DoesNext}
use Rattle.pt_rv_parts.proofs.ListLaws.{set-same, read-as}
use Rattle.pt_rv_parts.proofs.team.next_at.Goals as goal

pub next-requires : goal.next-requires
next-requires c = ap (λ (p : Standing Token). p.handed) (read-as c.args.processes.now.items c.args.process c.index_mut.result.now nobody c.requires.there c.index_mut.ensures.value) ∙ c.requires.gathers

pub returns-clause-same : goal.returns-clause-same
returns-clause-same c = set-same c.args.processes.now.items c.args.process c.index_mut.result.now c.next.new.self c.index_mut.ensures.value c.next.ensures.same

pub returns-clause-next : goal.returns-clause-next
returns-clause-next c = subst (λ (p : Standing Token). DoesNext p c.next.result) (read-as c.args.processes.now.items c.args.process c.index_mut.result.now nobody c.requires.there c.index_mut.ensures.value) c.next.ensures.next
