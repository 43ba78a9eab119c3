use Rattle.std.proofs.Common.{◌≡◌, List, ℕ, Some, slice_get, sym, subst, ◌∙◌}
use Rattle.pt_meeting_lines.specs.Tells.{OfBarrier}
use Rattle.pt_meeting_lines.proofs.Telling.{same-of, barrier-child}
use Rattle.pt_meeting_lines.proofs.inside.Inside.met_by.Goals as goal

pub item_at-barrier-requires : goal.item_at-barrier-requires
item_at-barrier-requires c = (c.requires.told.1.0, subst (λ (ks : List ℕ). slice_get ks c.args.child ≡ Some c.requires.told.1.0) (sym c.requires.inside.children) c.requires.told.1.1)

pub child_path-requires : goal.child_path-requires
child_path-requires c =
    let there = subst (λ (ks : List ℕ). slice_get ks c.args.child ≡ Some c.item_at-barrier.result.now) c.requires.inside.children c.item_at-barrier.ensures in
    barrier-child c.args.self.now.net.now c.args.self.now.composite.now c.item_at-barrier.result.now c.requires.told.0
    (subst (λ (k : ℕ). OfBarrier c.args.self.now.net.now c.args.self.now.composite.now c.requires.told.0 k) (same-of (sym c.requires.told.1.1 ∙ there)) c.requires.told.1.2)

pub returns : goal.returns
returns c =
    let there = subst (λ (ks : List ℕ). slice_get ks c.args.child ≡ Some c.item_at-barrier.result.now) c.requires.inside.children c.item_at-barrier.ensures in
    (c.item_at-barrier.result.now, there, c.in_ok-path.ensures)
