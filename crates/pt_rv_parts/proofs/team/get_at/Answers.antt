use Rattle.std.proofs.Common.{sym, subst}
use Rattle.pt_value.specs.declared.token.Token.{Token}
use Rattle.pt_rv_work.specs.Core.{Standing, nobody, with_token}
use Rattle.pt_rv_parts.specs.Process.{MayTake}
use Rattle.pt_rv_parts.proofs.ListLaws.{change-set, read-as}
use Rattle.pt_rv_parts.proofs.team.get_at.Goals as goal

pub get-requires : goal.get-requires
get-requires c = subst (λ (p : Standing Token). MayTake p c.args.place) (sym (read-as c.args.processes.now.items c.args.process c.index_mut.result.now nobody c.requires.there c.index_mut.ensures.value)) c.requires.may

pub returns : goal.returns
returns c = change-set c.args.processes.now.items c.args.process c.index_mut.result.now c.get.new.self (with_token c.args.place c.args.token) c.requires.there c.index_mut.ensures.value c.get.ensures
