-- A DE composite of a tree in the middle of a reaction: what its children have done so far, and what is kept of them.
use Rattle.std.specs.Prelude.{List}
use Rattle.pt_meaning.specs.Streams.{Streams}
use Rattle.pt_meaning.specs.Log.{Log}
use Rattle.pt_meaning.specs.Meetings.{Meets}
use Rattle.pt_meaning.specs.Children.{Child, numbered, child_facts}
use Rattle.pt_meaning.specs.Tree.{Rows, Node, Nodes, list_of, heights}
use Rattle.pt_meaning.specs.NodeFacts.{facts_of}
use Rattle.pt_laws.specs.CompositeRuns.{steps_below}
use Rattle.pt_records.specs.Kept.{Kept, AllGrewBy}
use Rattle.pt_records.specs.Fired.{FromSome}
use Rattle.pt_records.specs.SoFar.{AllLow}
use Rattle.pt_de_laws.specs.State.{DeState}
use Rattle.pt_de_laws.specs.Chain.{Underway}

-- The firing began from the core `before` and the children kids. The core is in the state s, the children are now in the states now, and what was kept of them as olds is news.
-- Each child has a log of its own, by which what is kept of it went on. A child past the last is any.
pub record DeSoFar {T A : Type 0} (rows : Rows T A) (m : Meets) (before : DeState T) (kids : Nodes T A) (inputs : Streams T) (olds : List (Kept T)) (s : DeState T) (now : List (Node T A)) (news : List (Kept T)) : Type 0 where
  pub logs : List (Log T)
  pub any : Child (Node T A)
  pub run : FromSome (λ k. Underway (child_facts (facts_of rows)) (steps_below rows k (heights kids) m) before (numbered 0 (list_of kids)) inputs any s (numbered 0 now) logs)
  pub low : AllLow (heights kids) now
  pub kept : AllGrewBy logs olds news
