-- What the children of a top do in a block.
use Rattle.std.specs.Prelude.{◌≡◌, ℕ, ℤ, List, [], length, Bool, true, false}
use Rattle.pt_meaning.specs.Basics.{Tag}
use Rattle.pt_meaning.specs.Running.{total}
use Rattle.pt_library.specs.declared.library_actor.LibraryActor.{LibraryActor}
use Rattle.pt_sdf.specs.Clauses.{State}
use Rattle.pt_sdf.specs.Bare.{IsBare}
use Rattle.pt_block_work.specs.Work.{HasWorked}
use Rattle.pt_directors.specs.Directors.{of_sdf}
use Rattle.pt_node.specs.declared.body.Body.{Body}
use Rattle.pt_node.specs.declared.body.Body.TheVariants.{Composite}
use Rattle.pt_node.specs.Shown.{Shown}
use Rattle.pt_blocks.specs.Children.{AreOf, Each, AllNotedTo, IsBareAs, IsRecorded}

-- Where no channel had a token, the children made their firings of so many iterations, from the actors that they are to these, and gave these integers. There is a number for each place, and an entry for each child.
pub record IsMade (s : State) (iterations : ℕ) (children : List Shown) (actors : List LibraryActor) (given : List (List ℤ)) : Type 0 where
  pub bare : IsBare s
  pub placed : length s.plan.net.sources ≡ total s.plan.net.places
  pub needed : length s.needs ≡ total s.plan.net.places
  pub some : children ≡ [] → ⊥
  pub count : length actors ≡ length children
  pub rows : length given ≡ length children
  pub olds : List LibraryActor
  pub are : AreOf children olds
  pub worked : HasWorked s.plan s.needs iterations olds actors given

-- The children of a top under SDF made them, what they gave is noted, and their firings are recorded; so much of an allowance is left after these and those of the top.
pub record AreMade (body : Body) (tag : Tag) (iterations left after : ℕ) (olds news : List Shown) : Type 0 where
  pub core : State
  pub is : body ≡ Composite (of_sdf core)
  pub actors : List LibraryActor
  pub given : List (List ℤ)
  pub mids : List Shown
  pub made : IsMade core iterations olds actors given
  pub noted : AllNotedTo (length olds) core.plan.repetitions given tag iterations left olds mids after
  pub recorded : Each (IsRecorded core.plan.repetitions tag iterations actors) mids news

-- so it is, or nothing is otherwise but notes
abbrev pub ChildrenTo : Body → Tag → (iterations : ℕ) → Bool → (left after : ℕ) → (olds news : List Shown) → Type 0
ChildrenTo body tag iterations true left after olds news = AreMade body tag iterations left after olds news
ChildrenTo body tag iterations false left after olds news = (after ≡ left) × Each IsBareAs olds news
