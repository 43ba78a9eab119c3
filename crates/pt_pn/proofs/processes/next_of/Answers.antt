use Rattle.std.proofs.Common.{ap, subst, ◌∙◌}
use Rattle.pt_process.specs.Process.{Standing, DoesNext}
use Rattle.pt_pn_work.specs.Core.{nobody}
use Rattle.pt_pn_work.proofs.CoreLaws.{set-same, read-as}
use Rattle.pt_pn.proofs.processes.next_of.Goals as goal

pub next-requires : goal.next-requires
next-requires c = ap (λ (p : Standing). p.handed) (read-as c.args.processes.now.items c.args.process c.index_mut.result.now nobody c.requires.there c.index_mut.ensures.value) ∙ c.requires.gathers

pub returns-clause-same : goal.returns-clause-same
returns-clause-same c = set-same c.args.processes.now.items c.args.process c.index_mut.result.now c.next.new.self c.index_mut.ensures.value c.next.ensures.same

pub returns-clause-next : goal.returns-clause-next
returns-clause-next c = subst (λ (p : Standing). DoesNext p c.next.result) (read-as c.args.processes.now.items c.args.process c.index_mut.result.now nobody c.requires.there c.index_mut.ensures.value) c.next.ensures.next
