use Rattle.std.proofs.Common.{◌≡◌, ℕ, Bool, true, false, List, map, sym, ◌∙◌}
use Rattle.pt_document.specs.Document.{PortTree}
use Rattle.pt_document.specs.View.{port_view}
use Rattle.pt_net.specs.Net.{transparent_view}
use Rattle.pt_typing.specs.Least.{assignment}
use Rattle.pt_resolve.specs.Broken.{has_general, first_such}
use Rattle.pt_resolve.proofs.CompositeBreaks.{such-here, such-later}
use Rattle.pt_resolve.proofs.composites.first_general.Goals as goal

pub returns-then-branch : goal.returns-then-branch
returns-then-branch c =
    let a = assignment c.args.typing.now in
    let i = c.loop-index.index in
    let test : ℕ → List PortTree → Bool = λ k ps. has_general a k 0 ps in
    let asked : has_general a c.in_ok-number.number 0 (map port_view c.deref.result.now) ≡ true = sym c.in_ok-has_general.ensures ∙ c.if-branch.true in
    such-here test c.args.first c.args.composites.now i c.index-composites-index.result (first_such test c.args.first 0 (map transparent_view c.args.composites.now)) c.loop-index-test.true c.index-composites-index.is c.loop-index.invariant
    ((λ j. has_general a (sym c.in_ok-number.ensures j) 0 (map port_view (sym c.deref.ensures.value j))) ∙ asked)

pub loop-index-preserved : goal.loop-index-preserved
loop-index-preserved c =
    let a = assignment c.args.typing.now in
    let i = c.loop-index.index in
    let test : ℕ → List PortTree → Bool = λ k ps. has_general a k 0 ps in
    let asked : has_general a c.in_ok-number.number 0 (map port_view c.deref.result.now) ≡ false = sym c.in_ok-has_general.ensures ∙ c.if-branch.false in
    such-later test c.args.first c.args.composites.now i c.index-composites-index.result (first_such test c.args.first 0 (map transparent_view c.args.composites.now)) c.loop-index-test.true c.index-composites-index.is c.loop-index.invariant
    ((λ j. has_general a (sym c.in_ok-number.ensures j) 0 (map port_view (sym c.deref.ensures.value j))) ∙ asked)
