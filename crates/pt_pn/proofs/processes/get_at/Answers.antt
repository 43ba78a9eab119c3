use Rattle.std.proofs.Common.{ap, ◌∙◌}
use Rattle.pt_pn_laws.specs.State.{lacking_place}
use Rattle.pt_process.specs.Process.{Standing, with_token}
use Rattle.pt_pn_work.specs.Core.{nobody}
use Rattle.pt_pn_work.proofs.CoreLaws.{change-set, read-as}
use Rattle.pt_pn.proofs.processes.get_at.Goals as goal

pub get-requires-clause-gathers : goal.get-requires-clause-gathers
get-requires-clause-gathers c = ap (λ (p : Standing). p.handed) (read-as c.args.processes.now.items c.args.process c.index_mut.result.now nobody c.requires.there c.index_mut.ensures.value) ∙ c.requires.gathers

pub get-requires-clause-lacks : goal.get-requires-clause-lacks
get-requires-clause-lacks c = ap (λ (p : Standing). lacking_place p.need p.got) (read-as c.args.processes.now.items c.args.process c.index_mut.result.now nobody c.requires.there c.index_mut.ensures.value) ∙ c.requires.lacks

pub returns : goal.returns
returns c = change-set c.args.processes.now.items c.args.process c.index_mut.result.now c.get.new.self (with_token c.args.place c.args.token) c.requires.there c.index_mut.ensures.value c.get.ensures
