-- How far the run of a job has come after whole firings of its top.
use Rattle.std.specs.Prelude.{◌≡◌, ℕ, zero, suc, ◌+◌, ◌≤◌, Option, Some, None}
use Rattle.pt_meaning.specs.Basics.{Tag, Log}
use Rattle.pt_meaning.specs.Tag.{origin}
use Rattle.pt_meaning.specs.Job.{Course, Goes, after, begin}
use Rattle.pt_meaning.specs.Meetings.{Meets}
use Rattle.pt_value.specs.declared.token.Token.{Token}
use Rattle.pt_records.specs.Kept.{GrewBy}
use Rattle.pt_records.specs.Made.{AreMadeBefore}
use Rattle.pt_records.specs.Fired.{FromSome}
use Rattle.pt_library.specs.declared.library_actor.LibraryActor.{LibraryActor}
use Rattle.pt_library.specs.LibraryActor.{rows}
use Rattle.pt_node.specs.Live.{IsLive}
use Rattle.pt_node.specs.Shown.{Shown}
use Rattle.pt_node.specs.View.{node_of, kept_of, count_of, outline_of}
use Rattle.pt_trees.specs.declared.top.Top.{Top}
use Rattle.pt_trees.specs.Top.{IsJobFor}
use Rattle.pt_trees.specs.Run.{schedule}

-- a run of n firings, the last of them at this tag, after which the top stands as in the tree
abbrev pub course_at : ℕ → Option Tag → Shown → Log Token → Course Token LibraryActor
course_at n last now log = record { fired = n; last = last; top = node_of now; log = log }

-- After n firings that are done, the last of them at this tag, the tree is now, and what is kept of it went on by what they logged.
pub record Reached (m : Meets) (j : Top) (top : Shown) (n : ℕ) (last : Option Tag) (now : Shown) : Type 0 where
  pub live : IsLive now
  pub outline : outline_of now ≡ outline_of top
  pub fits : IsJobFor j (node_of now)
  pub log : Log Token
  pub goes : FromSome (λ k. after k rows m (schedule j) n (begin (node_of top)) ≡ Goes (course_at n last now log))
  pub kept : GrewBy log (kept_of top) (kept_of now)

-- After n firings, the last of them at this tag, so much of the budget is left. The tree has come so far under the meetings that it recorded of the firings that are finished.
pub record Going (j : Top) (top : Shown) (budget n : ℕ) (last : Option Tag) (now : Shown) (left : ℕ) : Type 0 where
  pub live : IsLive now
  pub outline : outline_of now ≡ outline_of top
  pub reached : (m : Meets) → AreMadeBefore m (kept_of now) → Reached m j top n last now
  pub counted : left + count_of now ≡ budget
  pub few : n ≤ count_of now

-- the tag of the last of so many firings at the origin
abbrev pub last_after : ℕ → Option Tag
last_after zero = None
last_after (suc n) = Some origin
