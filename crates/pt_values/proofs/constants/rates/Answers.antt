use Rattle.std.proofs.Common.{◌+◌, take, map, sym, subst, List}
use Rattle.std.specs.Prelude.{option_map, Option}
use Rattle.std.specs.List.{AllZip}
use Rattle.pt_value.specs.declared.token.Token.{Token}
use Rattle.pt_value.specs.Token.{value_of}
use Rattle.pt_document.specs.View.{port_view}
use Rattle.pt_scopes.specs.Valued.{IsRate}
use Rattle.pt_scopes.proofs.Pushed.{zip-more}
use Rattle.pt_values.proofs.constants.rates.Goals as goal

pub loop-port-preserved : goal.loop-port-preserved
loop-port-preserved c =
    let more = zip-more IsRate port_view (option_map value_of) c.args.ports.now c.loop-port.port-index c.port-item.result c.loop-port-test.true c.port-item.is c.loop-port.rates.items c.in_ok-rate.field-0 c.loop-port.invariant c.in_ok-rate.ensures.ok in
    subst (λ (ts : List (Option Token)). AllZip IsRate (map port_view (take (c.loop-port.port-index + 1) c.args.ports.now)) (map (option_map value_of) ts)) (sym c.in_ok-push.ensures.items) more
