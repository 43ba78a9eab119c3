use Rattle.std.proofs.Common.{◌+◌, List, Option, map, take, sym, ap, subst, ◌∙◌}
use Rattle.std.specs.Prelude.{Vec}
use Rattle.std.specs.Global.{Global}
use Rattle.std.specs.List.{AllZip}
use Rattle.pt_value.specs.declared.token.Token.{Token}
use Rattle.pt_scopes.specs.Scopes.{net_view}
use Rattle.pt_job.specs.Names.{Name}
use Rattle.pt_job.specs.Inputs.{ComeTo}
use Rattle.pt_job.proofs.Members.{zip_read}
use Rattle.pt_job.proofs.Present.{ticks-more}
use Rattle.pt_job.proofs.inputs.supplied_ticks.Goals as goal

pub loop-port-preserved : goal.loop-port-preserved
loop-port-preserved c =
    let names = c.deref-port-items.result.now in
    let net = net_view c.args.lookup.now.net.now in
    subst (λ (ls : List (List (Option Token))). AllZip (ComeTo net c.args.values.now) (map (λ (n : Name). n.now) (take (c.loop-port.port-index + 1) names)) ls)
    (ticks-more c.loop-port.lists.items c.in_ok-copies.field-0 c.list_to.result.now c.in_ok-copies.ensures ∙ ap (λ (X : List (Vec (Option Token) Global)). map (λ (ts : Vec (Option Token) Global). ts.items) X) (sym {A = List (Vec (Option Token) Global)} c.in_ok-push.ensures.items))
    (zip_read (ComeTo net c.args.values.now) (λ (n : Name). n.now) names c.loop-port.port-index _ c.loop-port-test.true (map (λ (ts : Vec (Option Token) Global). ts.items) c.loop-port.lists.items) c.list_to.result.now c.loop-port.invariant c.list_to.ensures.comes)
