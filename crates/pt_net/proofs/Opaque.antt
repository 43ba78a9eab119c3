-- What is opaque stays in the net.
use Rattle.std.proofs.Common.{Bool, true, false, not, ◌||◌, IsTrue, refl}
use Rattle.std.specs.Option.{is_none}
use Rattle.pt_document.specs.Document.{parts}
use Rattle.pt_net.specs.Standing.{Standing, is_composite, is_opaque, is_kept}

or_more : (n c d : Bool) → IsTrue (not c || d) → IsTrue (n || not c || d)
or_more true c d h = refl
or_more false c d h = h

pub opaque_kept : (s : Standing) → IsTrue (is_opaque s) → IsTrue (is_kept s)
opaque_kept s h = or_more (is_none s.round.outer) (is_composite (parts s.tree)) s.is_directed h
