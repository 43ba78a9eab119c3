-- In which order a net can be gone through, so that what is seen at each place is known there.
use Rattle.std.specs.Prelude.{◌≡◌, ℕ, ◌<◌, length, Option, Some, None, slice_get}
use Rattle.pt_net.specs.Net.{NetEntityTree, TransparentTree}
use Rattle.pt_scopes.specs.Scopes.{NetTree}

-- what stands directly round this place comes before it: a transparent composite of this number, or else an opaque one
abbrev pub IsBehind : NetTree → (ℕ → ℕ) → (ℕ → ℕ) → Option ℕ → Option ℕ → ℕ → Type 0
IsBehind net entity_at transparent_at (Some t) parent place = (t < length net.transparent) × (transparent_at t < place)
IsBehind net entity_at transparent_at None (Some k) place = (k < length net.entities) × (entity_at k < place)
IsBehind net entity_at transparent_at None None place = Unit {0}

-- the entities and the transparent composites have places in one order, as in the document, in which both lists are, and
-- what stands round each of them comes before it
pub record IsOrdered (net : NetTree) : Type 0 where
  pub entity_at : ℕ → ℕ
  pub transparent_at : ℕ → ℕ
  pub entities_rise : (i j : ℕ) → i < j → entity_at i < entity_at j
  pub transparent_rise : (i j : ℕ) → i < j → transparent_at i < transparent_at j
  pub entities : (k : ℕ) (e : NetEntityTree) → slice_get net.entities k ≡ Some e → IsBehind net entity_at transparent_at e.within e.parent (entity_at k)
  pub transparent : (t : ℕ) (c : TransparentTree) → slice_get net.transparent t ≡ Some c → IsBehind net entity_at transparent_at c.within c.parent (transparent_at t)
