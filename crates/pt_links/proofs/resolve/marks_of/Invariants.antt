use Rattle.std.proofs.Common.{◌≡◌, true, take}
use Rattle.std.specs.List.{All}
use Rattle.pt_links.specs.Resolve.{is_marked}
use Rattle.pt_links.proofs.resolve.marks_of.Given as goal

abbrev pub invariant-loop-link : goal.invariant-loop-link
invariant-loop-link l = All (λ link. is_marked l.marks.items link.composite ≡ true) (take l.link-index l.links)
