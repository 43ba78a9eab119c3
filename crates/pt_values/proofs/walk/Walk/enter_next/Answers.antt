use Rattle.std.proofs.Common.{◌≡◌, ℕ, List, length, map, Option, Some, None, true, false, sym, ap, subst, ◌∙◌, OnOk, IfOk, IfErr, Bor, rules}
use Rattle.std.specs.Prelude.{option_map, slice_get, Bool}
use Rattle.std.proofs.lemmas.Option.{none-some}
use Rattle.std.proofs.lemmas.Result.{on_ok_weaker, IfOk-weaker, IfErr-weaker}
use Rattle.pt_document.specs.declared.refusal.DocFault.{DocFault}
use Rattle.pt_net.specs.declared.net.NetEntity.{NetEntity}
use Rattle.pt_net.specs.Net as nets
use Rattle.pt_scopes.proofs.Pairs.{get-view}
use Rattle.pt_values.specs.declared.walk.Walk.{Walk}
use Rattle.pt_scopes.specs.Scopes.{NetTree, net_view}
use Rattle.pt_scopes.specs.Frames.{chain_at}
use Rattle.pt_scopes.specs.Valued.{IsFaultOf}
use Rattle.pt_values.specs.Walk.{IsWalk, IsHeldUp}
use Rattle.pt_values.proofs.Walking.{held-up}
use Rattle.pt_values.proofs.walk.Walk.enter_next.Goals as goal

pub returns-in-Some-clause-walk : goal.returns-in-Some-clause-walk
returns-in-Some-clause-walk c =
    let seen : slice_get (map nets.entity_view c.args.net.now.entities.items) (length c.args.self.now.entities.items) ≡ option_map (λ (x : Bor NetEntity). nets.entity_view x.now) c.get.result =
    ap (λ (n : ℕ). slice_get (map nets.entity_view c.args.net.now.entities.items) n) (sym (let e : c.len-number.result ≡ length c.args.self.now.entities.items = search rules in e))
    ∙ ap (λ (es : List NetEntity). slice_get (map nets.entity_view es) c.len-number.result) (sym c.as_slice-entities.ensures.value)
    ∙ sym (get-view nets.entity_view c.as_slice-entities.result.now c.len-number.result c.get.result c.get.ensures.lookup) in
    let e = nets.entity_view c.in-Some.entity.now in
    let at : slice_get (net_view c.args.net.now).entities (length c.args.self.now.entities.items) ≡ Some e = seen ∙ ap (option_map (λ (x : Bor NetEntity). nets.entity_view x.now)) c.in-Some.is in
    let net = net_view c.args.net.now in
    let w = c.args.self.now in
    let go : ((n : NetTree) → IsWalk n w → slice_get n.entities (length w.entities.items) ≡ Some e → IsWalk n c.enter_entity.new.self) → IsWalk net c.enter_entity.new.self = λ h. h net c.requires at in
    on_ok_weaker c.enter_entity.result go c.enter_entity.ensures.walk

pub returns-in-Some-clause-held_up : goal.returns-in-Some-clause-held_up
returns-in-Some-clause-held_up c =
    let seen : slice_get (map nets.entity_view c.args.net.now.entities.items) (length c.args.self.now.entities.items) ≡ option_map (λ (x : Bor NetEntity). nets.entity_view x.now) c.get.result =
    ap (λ (n : ℕ). slice_get (map nets.entity_view c.args.net.now.entities.items) n) (sym (let e : c.len-number.result ≡ length c.args.self.now.entities.items = search rules in e))
    ∙ ap (λ (es : List NetEntity). slice_get (map nets.entity_view es) c.len-number.result) (sym c.as_slice-entities.ensures.value)
    ∙ sym (get-view nets.entity_view c.as_slice-entities.result.now c.len-number.result c.get.result c.get.ensures.lookup) in
    let e = nets.entity_view c.in-Some.entity.now in
    let at : slice_get (net_view c.args.net.now).entities (length c.args.self.now.entities.items) ≡ Some e = seen ∙ ap (option_map (λ (x : Bor NetEntity). nets.entity_view x.now)) c.in-Some.is in
    let net = net_view c.args.net.now in
    let w = c.args.self.now in
    IfOk-weaker c.enter_entity.result
    (λ (went : Bool). went ≡ false → (c.enter_entity.new.self ≡ w) × (chain_at w.scopes c.in-Some.entity.now.within c.in-Some.entity.now.parent ≡ None))
    (λ (went : Bool). went ≡ false → IsHeldUp net c.enter_entity.new.self)
    (λ went h is. subst (λ (x : Walk). IsHeldUp net x) (sym (h is).0) (held-up net w e at (h is).1)) c.enter_entity.ensures.held_up

pub returns-in-Some-clause-told : goal.returns-in-Some-clause-told
returns-in-Some-clause-told c =
    let seen : slice_get (map nets.entity_view c.args.net.now.entities.items) (length c.args.self.now.entities.items) ≡ option_map (λ (x : Bor NetEntity). nets.entity_view x.now) c.get.result =
    ap (λ (n : ℕ). slice_get (map nets.entity_view c.args.net.now.entities.items) n) (sym (let e : c.len-number.result ≡ length c.args.self.now.entities.items = search rules in e))
    ∙ ap (λ (es : List NetEntity). slice_get (map nets.entity_view es) c.len-number.result) (sym c.as_slice-entities.ensures.value)
    ∙ sym (get-view nets.entity_view c.as_slice-entities.result.now c.len-number.result c.get.result c.get.ensures.lookup) in
    let e = nets.entity_view c.in-Some.entity.now in
    let at : slice_get (net_view c.args.net.now).entities (length c.args.self.now.entities.items) ≡ Some e = seen ∙ ap (option_map (λ (x : Bor NetEntity). nets.entity_view x.now)) c.in-Some.is in
    let net = net_view c.args.net.now in
    let w = c.args.self.now in
    IfErr-weaker c.enter_entity.result
    (λ (f : DocFault). (n : NetTree) → IsWalk n w → slice_get n.entities (length w.entities.items) ≡ Some e → IsFaultOf n f)
    (λ (f : DocFault). IsFaultOf net f)
    (λ f h. h net c.requires at) c.enter_entity.ensures.told

pub returns-in-None-clause-held_up : goal.returns-in-None-clause-held_up
returns-in-None-clause-held_up c =
    let seen : slice_get (map nets.entity_view c.args.net.now.entities.items) (length c.args.self.now.entities.items) ≡ option_map (λ (x : Bor NetEntity). nets.entity_view x.now) c.get.result =
    ap (λ (n : ℕ). slice_get (map nets.entity_view c.args.net.now.entities.items) n) (sym (let e : c.len-number.result ≡ length c.args.self.now.entities.items = search rules in e))
    ∙ ap (λ (es : List NetEntity). slice_get (map nets.entity_view es) c.len-number.result) (sym c.as_slice-entities.ensures.value)
    ∙ sym (get-view nets.entity_view c.as_slice-entities.result.now c.len-number.result c.get.result c.get.ensures.lookup) in
    λ went e is. absurd (none-some e (sym (seen ∙ ap (option_map (λ (x : Bor NetEntity). nets.entity_view x.now)) c.in-None.is) ∙ is))
