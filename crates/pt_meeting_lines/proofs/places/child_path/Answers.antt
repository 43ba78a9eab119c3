use Rattle.std.proofs.Common.{◌≡◌, List, ℕ, Some, slice_get, sym, subst}
use Rattle.std.proofs.lemmas.Result.{IfOk-weaker}
use Rattle.pt_net.specs.declared.net.NetEntity.{NetEntity}
use Rattle.pt_meeting_lines.specs.Tells.{IsChildOf}
use Rattle.pt_meeting_lines.proofs.Telling.{child-below}
use Rattle.pt_meeting_lines.proofs.places.child_path.Goals as goal

pub item_at-child-requires : goal.item_at-child-requires
item_at-child-requires c = (c.requires.1, subst (λ (es : List NetEntity). slice_get es c.args.number ≡ Some c.requires.1) (sym c.as_slice-entities.ensures.value) c.requires.2.0)

pub returns : goal.returns
returns c =
    let child = c.item_at-child.result.now in
    let there = subst (λ (es : List NetEntity). slice_get es c.args.number ≡ Some child) c.as_slice-entities.ensures.value c.item_at-child.ensures in
    let is = child-below c.args.net.now c.args.round.now c.args.number c.requires.1 c.requires.0 c.inner_path-path.result.now child c.requires.2 there c.inner_path-path.ensures in
    IfOk-weaker c.of.result _ _ (λ (t : List ℕ) e. (child, subst (λ (p : List ℕ). IsChildOf c.args.net.now c.args.round.now c.args.number p child) (sym e) is)) c.of.ensures
