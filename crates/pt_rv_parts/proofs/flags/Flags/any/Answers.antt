use Rattle.std.proofs.Common.{◌-◌, ◌<◌, Bool, List, false, get_or, length, ap, sym, ◌∙◌, arith}
use Rattle.pt_rv_parts.proofs.FlagLaws.{set-there}
use Rattle.pt_rv_parts.proofs.ListLaws.{read-as}
use Rattle.pt_rv_parts.proofs.flags.Flags.any.Goals as goal

pub returns-clause-there : goal.returns-clause-there
returns-clause-there c =
    let n : c.len-count.result - 1 < length c.self.inside.numbers.items = omega (arith, c.if-count-eq0.false, c.len-count.ensures, c.self.inside.numbers.ok.0) in
    let e = read-as c.self.inside.numbers.items (c.len-count.result - 1) c.index.result.now 0 n c.index.ensures in
    set-there c.args.self.now c.index.result.now (ap (λ (v : List Bool). get_or v c.index.result.now false) (sym c.self.view_is) ∙ ap (λ j. get_or c.self.inside.flags.items j false) e ∙ c.self.invariant.listed.set (c.len-count.result - 1) n)
