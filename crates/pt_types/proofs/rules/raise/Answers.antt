use Rattle.std.proofs.Common.{map, sym, rules}
use Rattle.pt_types.specs.Ty.{type_of}
use Rattle.pt_types.proofs.Solutions.{raised-by}
use Rattle.pt_types.proofs.rules.raise.Goals as goal

pub returns-clause-raised : goal.returns-clause-raised
returns-clause-raised g c =
    let above = rw c.in-Some.is at c.in_ok-joined.ensures.some in
    raised-by c.args.types.now.items (g.R.Rule.target_of c.args.rule.now) c.target-target.result (g.R.Rule.value_of c.args.rule.now (map type_of c.args.types.now.items)) c.index-2.result.now c.index-2.result.now c.in_ok-value.value c.in-Some.joined (sym c.target-target.ensures) c.requires c.index-2.ensures c.index-2.ensures (search rules) above.0 above.1
