use Rattle.std.proofs.Common.{◌≡◌, ℕ, Bool, not, List, length, get_or, sym, ap, subst, ◌∙◌}
use Rattle.std.proofs.lemmas.Result.{IfOk-weaker}
use Rattle.pt_net.specs.declared.wire.Wire.{Wire}
use Rattle.pt_net.specs.declared.wire.Wire.TheVariants.{Outside, Inside}
use Rattle.pt_net.specs.declared.net.Joint.{Joint}
use Rattle.pt_survey.specs.declared.tables.PlacedPort.{PlacedPort}
use Rattle.pt_survey.specs.Survey.{port_at, ports_view}
use Rattle.pt_links.specs.Ties.{IsPortWithin}
use Rattle.pt_net.specs.Wires.{is_input}
use Rattle.pt_net.specs.Joints.{joint_at, IsJointOf}
use Rattle.pt_links.proofs.Told.{number_view}
use Rattle.pt_links.proofs.joining.joint.Goals as goal

outside : (ports : List PlacedPort) (wire : Wire) (g r : ℕ) (p : PlacedPort) (takes : Bool) (found : Joint) → wire ≡ Outside g r → IsPortWithin (length ports) wire → p ≡ get_or ports g p → takes ≡ is_input (port_at p) → found ≡ joint_at takes (port_at p) r → IsJointOf (ports_view ports) wire found
outside ports wire g r p takes found is within at input made =
    subst (λ (w : Wire). IsJointOf (ports_view ports) w found) (sym is)
    (port_at p, number_view port_at ports g p (subst (IsPortWithin (length ports)) is within) at, made ∙ ap (λ (b : Bool). joint_at b (port_at p) r) input)

inside : (ports : List PlacedPort) (wire : Wire) (g r : ℕ) (p : PlacedPort) (takes : Bool) (found : Joint) → wire ≡ Inside g r → IsPortWithin (length ports) wire → p ≡ get_or ports g p → takes ≡ is_input (port_at p) → found ≡ joint_at (not takes) (port_at p) r → IsJointOf (ports_view ports) wire found
inside ports wire g r p takes found is within at input made =
    subst (λ (w : Wire). IsJointOf (ports_view ports) w found) (sym is)
    (port_at p, number_view port_at ports g p (subst (IsPortWithin (length ports)) is within) at, made ∙ ap (λ (b : Bool). joint_at (not b) (port_at p) r) input)

pub returns-in-Outside-clause-ok : goal.returns-in-Outside-clause-ok
returns-in-Outside-clause-ok c =
    IfOk-weaker c.joint_at.result _ _ (λ found made. outside c.args.ports.now c.args.wire c.in-Outside.port c.in-Outside.relation c.index-ports-port.result c.is_input.result found c.in-Outside.is c.requires c.index-ports-port.is c.is_input.ensures made) c.joint_at.ensures.ok

pub returns-in-Inside-clause-ok : goal.returns-in-Inside-clause-ok
returns-in-Inside-clause-ok c =
    IfOk-weaker c.joint_at-in-Inside.result _ _ (λ found made. inside c.args.ports.now c.args.wire c.in-Inside.port c.in-Inside.relation c.index-ports-port-in-Inside.result c.is_input-in-Inside.result found c.in-Inside.is c.requires c.index-ports-port-in-Inside.is c.is_input-in-Inside.ensures made) c.joint_at-in-Inside.ensures.ok
