use Rattle.std.proofs.Common.{◌<◌, suc, List, All, map, sym, subst}
use Rattle.pt_types.specs.Ty as ty
use Rattle.pt_datatypes.specs.Rules.{IsLeastSolution}
use Rattle.pt_typing.specs.declared.rule.Bound.{Bound}
use Rattle.pt_typing.specs.Views.{bound_meaning}
use Rattle.pt_typing.proofs.Solved.{target_of, targets-short, is-least}
use Rattle.pt_typing.proofs.typing.least_typing.Goals as goal

pub least-requires : goal.least-requires
least-requires c =
    subst (λ rs. All (λ (r : Bound). r.target < c.in_ok-count.count) rs) (sym c.deref.ensures.value)
    (subst (λ n. All (λ (r : Bound). r.target < n) c.in_ok-rules.rules.items) (sym c.in_ok-count.ensures)
    (targets-short c.args.port_counts.now c.in_ok-numbers.numbers c.in_ok-numbers.ensures c.args.inequalities.now c.in_ok-rules.rules.items c.in_ok-rules.ensures))

pub returns : goal.returns
returns c =
    let types = map ty.type_of c.in_ok-types.types.items in
    is-least c.args.port_counts.now c.in_ok-numbers.numbers c.in_ok-numbers.ensures c.args.inequalities.now c.in_ok-rules.rules.items c.in_ok-rules.ensures types
    (subst (λ rs. IsLeastSolution target_of bound_meaning (suc c.in_ok-numbers.numbers.all) rs types) c.deref.ensures.value (subst (λ n. IsLeastSolution target_of bound_meaning n c.deref.result.now types) c.in_ok-count.ensures c.in_ok-types.ensures))
