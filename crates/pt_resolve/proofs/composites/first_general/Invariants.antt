use Rattle.std.proofs.Common.{◌≡◌, ℕ, Bool, List, map, drop}
use Rattle.pt_document.specs.Document.{PortTree}
use Rattle.pt_net.specs.Net.{transparent_view}
use Rattle.pt_typing.specs.Least.{assignment}
use Rattle.pt_resolve.specs.Broken.{has_general, first_such}
use Rattle.pt_resolve.proofs.composites.first_general.Given as goal

abbrev pub invariant-loop-index : goal.invariant-loop-index
invariant-loop-index l =
    let test : ℕ → List PortTree → Bool = λ k ps. has_general (assignment l.typing) k 0 ps in
    first_such test l.first 0 (map transparent_view l.composites) ≡ first_such test l.first l.index (map transparent_view (drop l.index l.composites))
