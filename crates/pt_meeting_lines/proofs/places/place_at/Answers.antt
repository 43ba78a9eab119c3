use Rattle.std.proofs.Common.{◌≡◌, List, Some, slice_get, sym, subst, ◌∙◌}
use Rattle.pt_net.specs.declared.net.NetEntity.{NetEntity}
use Rattle.pt_meeting_lines.specs.Tells.{IsPortOf}
use Rattle.pt_meeting_lines.proofs.Telling.{same-of}
use Rattle.pt_meeting_lines.proofs.places.place_at.Goals as goal

pub item_at-entity-requires : goal.item_at-entity-requires
item_at-entity-requires c = (c.requires.1.0, subst (λ (es : List NetEntity). slice_get es c.args.end.entity ≡ Some c.requires.1.0) (sym c.as_slice-entities.ensures.value) c.requires.1.1.0)

pub child_path-requires : goal.child_path-requires
child_path-requires c = (c.requires.0.child, c.requires.1.0, c.requires.1.1)

pub port_name-requires : goal.port_name-requires
port_name-requires c =
    let there = subst (λ (es : List NetEntity). slice_get es c.args.end.entity ≡ Some c.item_at-entity.result.now) c.as_slice-entities.ensures.value c.item_at-entity.ensures in
    (c.requires.0.port, subst (λ (e : NetEntity). IsPortOf e c.args.end.port c.requires.0.port) (same-of (sym c.requires.1.1.0 ∙ there)) c.requires.1.2)

pub returns : goal.returns
returns c =
    let there = subst (λ (es : List NetEntity). slice_get es c.args.end.entity ≡ Some c.item_at-entity.result.now) c.as_slice-entities.ensures.value c.item_at-entity.ensures in
    let child = c.in_ok-child.ensures.0 in
    let is = c.in_ok-child.ensures.1 in
    (child, is, subst (λ (e : NetEntity). IsPortOf e c.args.end.port c.in_ok-port.port) (same-of (sym there ∙ is.0)) c.in_ok-port.ensures, sym c.from-channel.ensures)
