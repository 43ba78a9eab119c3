-- A run of which no firing is made.
use Rattle.std.proofs.Common.{ℕ, None, refl, arith}
use Rattle.pt_meaning.specs.Basics.{silent}
use Rattle.pt_meaning.specs.Job.{after}
use Rattle.pt_meaning.specs.Meetings.{Meets}
use Rattle.pt_records.proofs.GrowthLaws.{grew-none}
use Rattle.pt_node.specs.Shown.{Shown}
use Rattle.pt_node.specs.View.{kept_of}
use Rattle.pt_trees.specs.declared.top.Top.{Top}
use Rattle.pt_trees.specs.Start.{IsRunnable}
use Rattle.pt_going.specs.Going.{Reached, Going}
use Rattle.pt_going.proofs.Counting.{none-counted}

at-start : (m : Meets) (j : Top) (top : Shown) → IsRunnable j top → Reached m j top 0 None top
unfolding after
at-start m j top r = record { live = r.live; outline = refl; fits = r.fits; log = silent; goes = (0, λ k l. refl); kept = grew-none (kept_of top) }

pub begins : (j : Top) (budget : ℕ) (top : Shown) → IsRunnable j top → Going j top budget 0 None top budget
begins j budget top r = record {
  live = r.live;
  outline = refl;
  reached = λ m made. at-start m j top r;
  counted = let none = none-counted top r.leaves r.start in omega (arith, none);
  few = omega arith;
}
