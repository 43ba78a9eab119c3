-- The inside of a DE composite, from its wiring and its children.
use Rattle.std.specs.Prelude.{◌≡◌, List, map}
use Rattle.pt_meaning.specs.NodeFacts.{next_of, whole_of}
use Rattle.pt_de_plan.specs.declared.inside.DeInside.{DeInside}
use Rattle.pt_de_plan.specs.Inside.{plan_of}
use Rattle.pt_library.specs.LibraryActor.{rows}
use Rattle.pt_node.specs.View.{Tree}
use Rattle.pt_trees.specs.Around.{Around}
use Rattle.pt_trees.specs.De.{answers_early, delayed_in}
use Rattle.pt_trees.specs.Sr.{tick_plan}

-- Its channels and places are those of the wiring. It tells of each channel whether it ends at a delay, and of each child whether it answers early, whether it takes its lists whole, and its wake now.
pub record IsInsideOf (around : Around) (kids : List Tree) (x : DeInside) : Type 0 where
  pub plan : plan_of x ≡ tick_plan around
  pub delayed : x.delayed.items ≡ delayed_in around kids
  pub early : x.early.items ≡ map answers_early kids
  pub whole : x.whole.items ≡ map (λ kid. whole_of rows kid) kids
  pub starts : x.starts.items ≡ map (λ kid. next_of rows kid) kids
