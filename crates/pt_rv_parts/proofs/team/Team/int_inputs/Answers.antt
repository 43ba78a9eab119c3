use Rattle.std.proofs.Common.{◌≡◌, List, IfSome, get_or, ap, subst, ◌∙◌, arith}
use Rattle.pt_value.specs.declared.token.Token.{Token}
use Rattle.pt_rv_work.specs.Core.{Standing, nobody}
use Rattle.pt_rv_parts.proofs.ListLaws.{read-as}
use Rattle.pt_rv_parts.proofs.TeamLaws.{there-of}
use Rattle.pt_rv_parts.proofs.team.Team.int_inputs.Goals as goal

pub index-requires : goal.index-requires
index-requires c =
    let l = there-of c.self.inside.processes.items c.args.self.now c.args.process c.self.view_is c.requires.there in
    omega (arith, l, c.self.inside.processes.ok.0)

pub int_inputs-requires : goal.int_inputs-requires
int_inputs-requires c =
    let l = there-of c.self.inside.processes.items c.args.self.now c.args.process c.self.view_is c.requires.there in
    ap (λ (p : Standing Token). p.handed) (read-as c.self.inside.processes.items c.args.process c.index.result.now nobody l c.index.ensures ∙ ap (λ (v : List (Standing Token)). get_or v c.args.process nobody) c.self.view_is) ∙ c.requires.handed

pub returns : goal.returns
returns c =
    let l = there-of c.self.inside.processes.items c.args.self.now c.args.process c.self.view_is c.requires.there in
    subst (λ X. IfSome c.int_inputs.result (λ inputs. inputs ≡ X))
    (ap (λ (p : Standing Token). p.got) (read-as c.self.inside.processes.items c.args.process c.index.result.now nobody l c.index.ensures ∙ ap (λ (v : List (Standing Token)). get_or v c.args.process nobody) c.self.view_is))
    c.int_inputs.ensures
