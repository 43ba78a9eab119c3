use Rattle.std.proofs.Common.{◌≡◌, ℕ, ◌+◌, ◌<◌, List, [], ◌∷◌, ◌++◌, length, get_or, take, sym, subst}
use Rattle.std.proofs.lemmas.List.{take_more}
use Rattle.std.specs.List.{AllZip}
use Rattle.pt_net.specs.declared.wire.Wire.{Wire}
use Rattle.pt_net.specs.declared.wire.Wire.TheVariants.{Outside}
use Rattle.pt_net.specs.declared.net.Joint.{Joint}
use Rattle.pt_survey.specs.declared.tables.PlacedPort.{PlacedPort}
use Rattle.pt_survey.specs.Survey.{tables_view, ports_view}
use Rattle.pt_net.specs.Table.{PortAt}
use Rattle.pt_net.specs.Joints.{IsJointOf}
use Rattle.pt_net.proofs.Members.{zip_push}
use Rattle.pt_links.proofs.joining.joints.Goals as goal

joint_more : (ports : List PortAt) (wires items : List Wire) (i : ℕ) (joints new : List Joint) (joint : Joint) → items ≡ wires → i < length items → IsJointOf ports (get_or items i (Outside 0 0)) joint → new ≡ joints ++ joint ∷ [] → AllZip (IsJointOf ports) (take i wires) joints → AllZip (IsJointOf ports) (take (i + 1) wires) new
joint_more ports wires items i joints new joint same within is made so_far =
    let z = subst (λ (ws : List Wire). AllZip (IsJointOf ports) (take i ws) joints) (sym same) so_far in
    let w = zip_push (IsJointOf ports) (take i items) joints (get_or items i (Outside 0 0)) joint z is in
    let v = subst (λ (ws : List Wire). AllZip (IsJointOf ports) ws (joints ++ joint ∷ [])) (sym (take_more items i (Outside 0 0) within)) w in
    subst (λ (ws : List Wire). AllZip (IsJointOf ports) (take (i + 1) ws) new) same (subst (λ (js : List Joint). AllZip (IsJointOf ports) (take (i + 1) items) js) (sym made) v)

pub loop-wire-preserved : goal.loop-wire-preserved
loop-wire-preserved c =
    let t = tables_view c.args.wiring.now.tables.now in
    joint_more t.ports c.args.wiring.now.wires.items c.deref-wire-items.result.now c.loop-wire.wire-index c.loop-wire.joints.items c.push.new.self.items c.in_ok-joint.field-0
    c.deref-wire-items.ensures.value c.loop-wire-test.true
    (subst (λ (ps : List PlacedPort). IsJointOf (ports_view ps) (get_or c.deref-wire-items.result.now c.loop-wire.wire-index (Outside 0 0)) c.in_ok-joint.field-0) c.deref.ensures.value c.in_ok-joint.ensures.ok)
    c.in_ok-push.ensures.items c.loop-wire.invariant
