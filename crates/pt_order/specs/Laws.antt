-- The net of a document without faults of links is wired as its entities say.
use Rattle.std.specs.Prelude.{◌≡◌, ℕ, List, true, Some, slice_get}
use Rattle.pt_document.specs.Document.{JobTree}
use Rattle.pt_moml.specs.Reading.{IsJobOf}
use Rattle.pt_net.specs.declared.net.Net.{Net}
use Rattle.pt_net.specs.declared.net.NetDirector.{NetDirector}
use Rattle.pt_net.specs.declared.net.NetEntity.{NetEntity}
use Rattle.pt_net.specs.Table.{Tables, tables_of}
use Rattle.pt_net.specs.Stands.{IsLinkFault, IsPastLimit}
use Rattle.pt_net.specs.Net.{entity_view, IsNetOf}
use Rattle.pt_node.specs.View.{Tree}
use Rattle.pt_trees.specs.Trees.{Starts, IsTree}
use Rattle.pt_scopes.specs.Scopes.{is_composite_class}
use Rattle.pt_cover.specs.Leaves.{AreStartedByClass}
use Rattle.pt_order.specs.Wired.{IsWired}
use Rattle.pt_order.specs.ClassPorts.{HaveOwnNames, HaveClassPorts}

-- no link is at fault, and no place, port or actor for want of one
abbrev pub HasNoLinkFault : Tables → Type 0
HasNoLinkFault t = (path : List ℕ) → IsLinkFault t path → ⊥

-- a net is that of a job that a document stands for, in which no link is at fault, and that has no more channels and recorded ports than a document may have
pub record IsNetOfDocument (net : Net) : Type 0 where
  pub bytes : List ℕ
  pub job : JobTree
  pub read : IsJobOf bytes job
  pub made : IsNetOf job net
  pub clean : HasNoLinkFault (tables_of job)
  pub few : (path : List ℕ) → IsPastLimit (tables_of job) job.records path → ⊥

-- what the laws of types ask of a net beside its typing: its channels stand in order, its actors have the ports of their classes, and no two ports of a composite or a Modal entity have one name
pub record IsInOrder (net : Net) : Type 0 where
  pub wired : IsWired net
  pub class_ports : HaveClassPorts net
  pub own_names : (k : ℕ) (e : NetEntity) → slice_get net.entities.items k ≡ Some e → is_composite_class e.class ≡ true → HaveOwnNames (entity_view e).ports

-- So it is of each such net of which a tree can be built whose top has a director. Where the top is a library actor it can be otherwise: no channels come to its inputs.
abbrev pub NetsAreInOrder : Type 0
NetsAreInOrder =
    (net : Net) (starts : Starts) (e : NetEntity) (d : NetDirector) (top : Tree) → IsNetOfDocument net → AreStartedByClass net starts → IsTree net starts 0 top → slice_get net.entities.items 0 ≡ Some e → e.director ≡ Some d → IsInOrder net
