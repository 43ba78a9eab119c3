use Rattle.std.proofs.Common.{ap, ◌∙◌}
use Rattle.pt_process.specs.Process.{Standing, with_handed}
use Rattle.pt_pn_work.specs.Core.{nobody}
use Rattle.pt_pn_work.proofs.CoreLaws.{change-set, read-as}
use Rattle.pt_pn.proofs.processes.hand_at.Goals as goal

pub hand-requires : goal.hand-requires
hand-requires c = ap (λ (p : Standing). p.handed) (read-as c.args.processes.now.items c.args.process c.index_mut.result.now nobody c.requires.there c.index_mut.ensures.value) ∙ c.requires.gathers

pub returns : goal.returns
returns c = change-set c.args.processes.now.items c.args.process c.index_mut.result.now c.hand.new.self with_handed c.requires.there c.index_mut.ensures.value c.hand.ensures
