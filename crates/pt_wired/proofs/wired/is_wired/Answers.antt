use Rattle.std.proofs.Common.{◌≡◌, ◌↔◌, true, subst, ℕ, List, map, length, arith}
use Rattle.pt_node.specs.Shown.{shown}
use Rattle.pt_node.specs.View.{Tree}
use Rattle.pt_trees.specs.Composite.{trees_of}
use Rattle.pt_wired.specs.Needs.{NeedAll, AreNeeds}
use Rattle.pt_wired.proofs.WiredLaws.{wired-if, Fits}
use Rattle.pt_wired.proofs.wired.is_wired.Goals as goal

pub returns : goal.returns
returns c =
    let kids : List Tree = trees_of (map shown c.args.children.now) in
    let all : NeedAll kids c.as_slice.result.now c.in-Some.needs.items = subst (λ o. AreNeeds kids c.as_slice.result.now o) c.in-Some.is c.in_ok-needs.ensures in
    let count : c.len.result ≡ length c.in-Some.needs.items = omega (arith, c.len.ensures, c.in-Some.needs.ok.0) in
    wired-if c.args.wiring.now kids c.in-Some.needs.items c.fits.result (subst (λ (v : List ℕ). NeedAll kids v c.in-Some.needs.items) c.as_slice.ensures all) (subst (λ (n : ℕ). (c.fits.result ≡ true) ↔ Fits c.args.wiring.now n) count c.fits.ensures)
