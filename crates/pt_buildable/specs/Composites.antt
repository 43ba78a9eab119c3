-- What is known of the composites of a net: that each has a director or is a Modal entity, and what stands in them.
use Rattle.std.specs.Prelude.{◌≡◌, ℕ, Bool, true, false, None, Some, is_some}
use Rattle.pt_document.specs.declared.classes.Director.TheVariants.{Sdf, Pn, Rendezvous, Sr, De}
use Rattle.pt_net.specs.declared.net.Net.{Net}
use Rattle.pt_net.specs.declared.net.NetEntity.{NetEntity}
use Rattle.pt_scopes.specs.Scopes.{is_composite_class}
use Rattle.pt_trees.specs.declared.directing.Directing.{Directing}
use Rattle.pt_trees.specs.declared.directing.Directing.TheVariants.{By, Modal}
use Rattle.pt_trees.specs.Directors.{director_of, IsDirectedBy}
use Rattle.pt_trees.specs.Trees.{IsEntity, Starts, stated_at}

-- each composite of the net has a director, or is a Modal entity
abbrev pub HasDirectedComposites : Net → Type 0
HasDirectedComposites net = (k : ℕ) (e : NetEntity) → IsEntity net k e → is_composite_class e.class ≡ true → is_some (director_of e) ≡ true

-- what stands in a Modal entity of the net is of a class of composites
abbrev pub HasOpaqueRefinements : Net → Type 0
HasOpaqueRefinements net = (k j : ℕ) (e f : NetEntity) → IsEntity net k e → e.parent ≡ Some j → IsEntity net j f → IsDirectedBy f Modal → is_composite_class e.class ≡ true

-- the children of a composite of this director are processes
abbrev pub has_processes : Directing → Bool
has_processes (By Sdf) = false
has_processes (By Sr) = false
has_processes (By De) = false
has_processes (By Pn) = true
has_processes (By Rendezvous) = true
has_processes Modal = false

-- a composite of processes of which it isn't known what it states of its ports and of its channels
pub record HasUnstatedProcesses (net : Net) (starts : Starts) : Type 0 where
  pub number : ℕ
  pub entity : NetEntity
  pub at : IsEntity net number entity
  pub director : Directing
  pub by : IsDirectedBy entity director
  pub processes : has_processes director ≡ true
  pub unstated : stated_at starts number ≡ None
