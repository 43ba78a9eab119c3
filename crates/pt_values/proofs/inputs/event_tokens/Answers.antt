use Rattle.std.proofs.Common.{◌+◌, ◌≡◌, Some, take, map, sym, ap, subst, List, rules}
use Rattle.std.specs.Prelude.{option_map, Option}
use Rattle.std.specs.List.{AllZip}
use Rattle.pt_value.specs.declared.token.Token.{Token}
use Rattle.pt_value.specs.Token.{value_of}
use Rattle.pt_scopes.specs.Sites.{event_text}
use Rattle.pt_scopes.specs.Valued.{IsSupplied}
use Rattle.pt_scopes.specs.Told.{IsToldAt, IsSupplyFault}
use Rattle.pt_scopes.proofs.Pushed.{zip-more}
use Rattle.pt_values.proofs.Unseen.{event-told}
use Rattle.pt_values.proofs.inputs.event_tokens.Goals as goal

pub returns-in_err-constant_at-clause-told : goal.returns-in_err-constant_at-clause-told
returns-in_err-constant_at-clause-told c =
    let told : IsToldAt c.args.path.now (IsSupplyFault (map event_text c.args.events.now)) c.in_err-constant_at.field-0.0 =
    event-told c.args.path.now c.args.events.now c.loop-event.event-index c.event-item.result c.as_str.result.now c.loop-event-test.true c.event-item.is c.as_str.ensures c.in_err-constant_at.field-0.0 c.in_err-constant_at.ensures.told in
    let h = c.from_residual-in_err-constant_at.ensures in
    search (rules, told, h)

pub loop-event-preserved : goal.loop-event-preserved
loop-event-preserved c =
    let here : IsSupplied (event_text c.event-item.result) (option_map value_of (Some c.in_ok-constant_at.field-0)) = search (rules, c.as_str.ensures, c.in_ok-constant_at.ensures.ok) in
    let more = zip-more IsSupplied event_text (option_map value_of) c.args.events.now c.loop-event.event-index c.event-item.result c.loop-event-test.true c.event-item.is c.loop-event.tokens.items (Some c.in_ok-constant_at.field-0) c.loop-event.invariant here in
    subst (λ (ts : List (Option Token)). AllZip IsSupplied (map event_text (take (c.loop-event.event-index + 1) c.args.events.now)) (map (option_map value_of) ts)) (sym c.in_ok-push.ensures.items) more
