use Rattle.std.proofs.Common.{get_or, ap, subst, ◌∙◌, arith, List}
use Rattle.pt_value.specs.declared.token.Token.{Token}
use Rattle.pt_puts.specs.Puts.{PutsFirst}
use Rattle.pt_rv_work.specs.Core.{Standing, nobody}
use Rattle.pt_rv_parts.proofs.ListLaws.{read-as}
use Rattle.pt_rv_parts.proofs.TeamLaws.{there-of}
use Rattle.pt_rv_parts.proofs.team.Team.next_put.Goals as goal

pub index-requires : goal.index-requires
index-requires c =
    let l = there-of c.self.inside.processes.items c.args.self.now c.args.process c.self.view_is c.requires in
    omega (arith, l, c.self.inside.processes.ok.0)

pub returns : goal.returns
returns c =
    let l = there-of c.self.inside.processes.items c.args.self.now c.args.process c.self.view_is c.requires in
    subst (λ (p : Standing Token). PutsFirst p.puts c.next_put.result)
    (read-as c.self.inside.processes.items c.args.process c.index.result.now nobody l c.index.ensures ∙ ap (λ (v : List (Standing Token)). get_or v c.args.process nobody) c.self.view_is)
    c.next_put.ensures
