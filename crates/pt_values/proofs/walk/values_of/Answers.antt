use Rattle.std.proofs.Common.{◌≡◌, ◌<◌, ◌≤◌, ℕ, List, length, get_or, map, Some, sym, ap, subst, rules}
use Rattle.std.specs.Prelude.{option_map, slice_get}
use Rattle.std.specs.List.{AllZip}
use Rattle.std.proofs.lemmas.List.{length-map}
use Rattle.pt_value.specs.Token.{value_of}
use Rattle.pt_document.specs.declared.job.Input.{Input}
use Rattle.pt_document.specs.View.{input_view}
use Rattle.pt_net.specs.declared.net.Transparent.{Transparent}
use Rattle.pt_net.specs.Net.{transparent_view}
use Rattle.pt_scopes.specs.Scopes.{net_view}
use Rattle.pt_scopes.specs.Valued.{IsInputValued, IsFaultOf}
use Rattle.pt_values.proofs.Walking.{view-at, composite-seen, all-entities, entities-whole, transparent-whole}
use Rattle.pt_values.proofs.walk.values_of.Goals as goal

pub enter_entities-requires : goal.enter_entities-requires
enter_entities-requires c = c.in_ok-walk.ensures.walk (net_view c.args.net.now)

pub enter_transparent-requires : goal.enter_transparent-requires
enter_transparent-requires c =
    let items = c.args.net.now.transparent.items in
    let i = c.loop-composite.composite-index in
    let x = c.composite-item.result in
    let short : i < length items = subst (λ (cs : List Transparent). c.loop-composite.composite-index < length cs) c.deref-composite-items.ensures.value c.loop-composite-test.true in
    let is : x ≡ get_or items i x = subst (λ (cs : List Transparent). c.composite-item.result ≡ get_or cs c.loop-composite.composite-index c.composite-item.result) c.deref-composite-items.ensures.value c.composite-item.is in
    let at : slice_get (net_view c.args.net.now).transparent (length c.loop-composite.walk.transparent.items) ≡ Some (transparent_view x) = view-at transparent_view items i (length c.loop-composite.walk.transparent.items) x short is c.loop-composite.invariant.count in
    composite-seen (net_view c.args.net.now) c.loop-composite.walk c.loop-composite.invariant.walk c.requires c.loop-composite.invariant.held_up (transparent_view x) at

pub returns-in_err-enter_transparent-clause-err : goal.returns-in_err-enter_transparent-clause-err
returns-in_err-enter_transparent-clause-err c =
    let items = c.args.net.now.transparent.items in
    let i = c.loop-composite.composite-index in
    let x = c.composite-item.result in
    let short : i < length items = subst (λ (cs : List Transparent). c.loop-composite.composite-index < length cs) c.deref-composite-items.ensures.value c.loop-composite-test.true in
    let is : x ≡ get_or items i x = subst (λ (cs : List Transparent). c.composite-item.result ≡ get_or cs c.loop-composite.composite-index c.composite-item.result) c.deref-composite-items.ensures.value c.composite-item.is in
    let at : slice_get (net_view c.args.net.now).transparent (length c.loop-composite.walk.transparent.items) ≡ Some (transparent_view x) = view-at transparent_view items i (length c.loop-composite.walk.transparent.items) x short is c.loop-composite.invariant.count in
    let told : IsFaultOf (net_view c.args.net.now) c.in_err-enter_transparent.field-0.0 = c.in_err-enter_transparent.ensures.told (net_view c.args.net.now) c.loop-composite.invariant.walk at in
    let h = c.from_residual-in_err-enter_transparent.ensures in
    search (rules, told, h)

pub enter_entities-requires-in-loop-composite : goal.enter_entities-requires-in-loop-composite
enter_entities-requires-in-loop-composite c =
    let items = c.args.net.now.transparent.items in
    let i = c.loop-composite.composite-index in
    let x = c.composite-item.result in
    let short : i < length items = subst (λ (cs : List Transparent). c.loop-composite.composite-index < length cs) c.deref-composite-items.ensures.value c.loop-composite-test.true in
    let is : x ≡ get_or items i x = subst (λ (cs : List Transparent). c.composite-item.result ≡ get_or cs c.loop-composite.composite-index c.composite-item.result) c.deref-composite-items.ensures.value c.composite-item.is in
    let at : slice_get (net_view c.args.net.now).transparent (length c.loop-composite.walk.transparent.items) ≡ Some (transparent_view x) = view-at transparent_view items i (length c.loop-composite.walk.transparent.items) x short is c.loop-composite.invariant.count in
    c.in_ok-enter_transparent.ensures.walk (net_view c.args.net.now) c.loop-composite.invariant.walk at

pub returns-in_err-inputs-clause-err : goal.returns-in_err-inputs-clause-err
returns-in_err-inputs-clause-err c =
    let told : IsFaultOf (net_view c.args.net.now) c.in_err-inputs.field-0.0 = c.in_err-inputs.ensures.told (net_view c.args.net.now) (ap (map input_view) (sym c.deref.ensures.value)) in
    let h = c.from_residual-in_err-inputs.ensures in
    search (rules, told, h)

pub returns-clause-ok : goal.returns-clause-ok
returns-clause-ok c =
    let net = net_view c.args.net.now in
    let w = c.loop-composite.walk in
    let items = c.args.net.now.transparent.items in
    let i = c.loop-composite.composite-index in
    let past : length items ≤ i = subst (λ (cs : List Transparent). length cs ≤ c.loop-composite.composite-index) c.deref-composite-items.ensures.value c.loop-composite-test.false in
    let whole : length net.transparent ≤ length w.transparent.items = subst (λ (n : ℕ). length net.transparent ≤ n) (sym c.loop-composite.invariant.count) (subst (λ (n : ℕ). n ≤ i) (sym (length-map items transparent_view)) past) in
    record {
      entities = entities-whole net w c.loop-composite.invariant.walk (all-entities net w c.loop-composite.invariant.walk c.requires c.loop-composite.invariant.held_up whole);
      transparent = transparent-whole net w c.loop-composite.invariant.walk whole;
      inputs = subst (λ (is : List Input). AllZip IsInputValued (map input_view is) (map (λ ts. map (option_map value_of) ts.items) c.in_ok-inputs.inputs.items)) c.deref.ensures.value c.in_ok-inputs.ensures.ok;
    }
