-- How the composites of a net stand in one another.
use Rattle.std.specs.Prelude.{◌≡◌, ℕ, ◌<◌, IsTrue, Option, Some, slice_get}
use Rattle.pt_net.specs.Net.{NetEntityTree, TransparentTree}
use Rattle.pt_scopes.specs.Scopes.{NetTree, is_composite_class}

-- the transparent composite of this number is there, and stands in that opaque one
pub record IsTransparentIn (net : NetTree) (t : ℕ) (parent : Option ℕ) : Type 0 where
  pub composite : TransparentTree
  pub at : slice_get net.transparent t ≡ Some composite
  pub parent_is : composite.parent ≡ parent

-- these may be round one thing: a transparent composite, which stands in the same opaque one, and an opaque one
pub record AreRound (net : NetTree) (within parent : Option ℕ) : Type 0 where
  pub transparent : (t : ℕ) → within ≡ Some t → IsTransparentIn net t parent
  pub opaque : (k : ℕ) (e : NetEntityTree) → parent ≡ Some k → slice_get net.entities k ≡ Some e → IsTrue (is_composite_class e.class)

-- composites stand before what is in them
pub record IsNested (net : NetTree) : Type 0 where
  pub entities : (k : ℕ) (e : NetEntityTree) → slice_get net.entities k ≡ Some e → AreRound net e.within e.parent
  pub transparent : (t : ℕ) (c : TransparentTree) → slice_get net.transparent t ≡ Some c → AreRound net c.within c.parent
  pub parent_before : (k j : ℕ) (e : NetEntityTree) → slice_get net.entities k ≡ Some e → e.parent ≡ Some j → j < k
  pub within_before : (t u : ℕ) (c : TransparentTree) → slice_get net.transparent t ≡ Some c → c.within ≡ Some u → u < t
