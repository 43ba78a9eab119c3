use Rattle.std.proofs.Common.{rules, ◌≡◌, List, map, All, IfErr, ap, sym, subst, ◌∙◌}
use Rattle.std.proofs.lemmas.Result.{IfErr-weaker}
use Rattle.pt_rates.specs.Balance.{IsChannel}
use Rattle.pt_rates.specs.Fault as rates
use Rattle.pt_rates.specs.declared.edge.Edge.{Edge}
use Rattle.pt_sched.specs.declared.edge.SchedEdge.{SchedEdge}
use Rattle.pt_plan.specs.Channels.{nodes_of, edge_in, edges_of}
use Rattle.pt_plan.specs.Fault.{FaultStands, of_rates}
use Rattle.pt_plan.proofs.Faults.{rates-stand}
use Rattle.pt_plan.proofs.Formed.{all-edges}
use Rattle.pt_plan.proofs.planning.solved.Goals as goal

pub solve-requires : goal.solve-requires
solve-requires c =
    let same : c.deref.result.now ≡ edges_of c.args.inside.now = c.deref.ensures.value ∙ c.in_ok-edges.ensures ∙ ap (λ (channels : List SchedEdge). map edge_in channels) c.requires.channels in
    subst (λ (edges : List Edge). All (IsChannel c.args.nodes) edges) (sym same) (subst (λ n. All (IsChannel n) (edges_of c.args.inside.now)) (sym c.requires.nodes) (all-edges c.args.inside.now c.requires.inside))

pub returns-in_err-solve-clause-err : goal.returns-in_err-solve-clause-err
returns-in_err-solve-clause-err c =
    let same : c.deref.result.now ≡ edges_of c.args.inside.now = c.deref.ensures.value ∙ c.in_ok-edges.ensures ∙ ap (λ (channels : List SchedEdge). map edge_in channels) c.requires.channels in
    let stands : rates.FaultStands (nodes_of c.args.inside.now) (edges_of c.args.inside.now) c.in_err-solve.field-0.0 =
    subst (λ (edges : List Edge). rates.FaultStands (nodes_of c.args.inside.now) edges c.in_err-solve.field-0.0) same (subst (λ n. rates.FaultStands n c.deref.result.now c.in_err-solve.field-0.0) c.requires.nodes c.in_err-solve.ensures.err)
    in
    let h = c.from_residual-in_err-solve.ensures in
    let told : IfErr c.from_residual-in_err-solve.result (λ f. f ≡ of_rates c.in_err-solve.field-0.0) = search (rules, h) in
    IfErr-weaker c.from_residual-in_err-solve.result (λ f. f ≡ of_rates c.in_err-solve.field-0.0) (FaultStands c.args.inside.now) (λ f e. subst (FaultStands c.args.inside.now) (sym e) (rates-stand c.args.inside.now c.in_err-solve.field-0.0 stands)) told
