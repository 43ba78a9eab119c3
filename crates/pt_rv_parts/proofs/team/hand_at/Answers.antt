use Rattle.std.proofs.Common.{ap, ◌∙◌}
use Rattle.pt_value.specs.declared.token.Token.{Token}
use Rattle.pt_rv_work.specs.Core.{Standing, nobody, with_handed}
use Rattle.pt_rv_parts.proofs.ListLaws.{change-set, read-as}
use Rattle.pt_rv_parts.proofs.team.hand_at.Goals as goal

pub hand-requires : goal.hand-requires
hand-requires c = ap (λ (p : Standing Token). p.handed) (read-as c.args.processes.now.items c.args.process c.index_mut.result.now nobody c.requires.there c.index_mut.ensures.value) ∙ c.requires.gathers

pub returns : goal.returns
returns c = change-set c.args.processes.now.items c.args.process c.index_mut.result.now c.hand.new.self with_handed c.requires.there c.index_mut.ensures.value c.hand.ensures
