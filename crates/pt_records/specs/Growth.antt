-- How what is kept goes on as an engine fires the children of a composite one by one, in whatever order it fires them.
use Rattle.std.specs.Prelude.{◌≡◌, ℕ, ◌+◌, ◌<◌, List, [], length, set}
use Rattle.pt_meaning.specs.Log.{Path, Log, Firing, silent, log_then, own, log_below, within_firing, meetings_in}
use Rattle.pt_laws.specs.LogsOfRuns.{silents, logs_then, log_at}
use Rattle.pt_meaning.specs.Headline.{count_of}
use Rattle.pt_meaning.specs.Meetings.{Meets}
use Rattle.pt_records.specs.Kept.{Kept, Entry, kept_at, kept_by, GrewBy, AllGrewBy, EntryFired, count_kept}
use Rattle.pt_records.specs.Made.{meets_of, AreMade, AreMadeBefore, AllMadeBefore, IsUnmet}

-- what is kept of one node
pub record NodesGrow (T : Type 0) : Type 0 where
  -- by nothing, and by one log after another
  pub none : (k : Kept T) → GrewBy silent k k
  pub joined : (l m : Log T) (a b c : Kept T) → GrewBy l a b → GrewBy m b c → GrewBy (log_then l m) a c
  -- by the node's own record, once its firing is done
  pub own_record : (f : Firing T) (l : Log T) (e mid e' : Entry T) (olds news : List (Kept T)) → GrewBy l (kept_by e olds) (kept_by mid news) → EntryFired f.tag f.outputs mid e' → GrewBy (log_then l (own f)) (kept_by e olds) (kept_by e' news)
  -- the count goes on by the number of records in the log
  pub counted : (l : Log T) (a b : Kept T) (ps : List Path) → GrewBy l a b → count_kept b ps ≡ count_kept a ps + count_of l ps
  -- where no meetings were recorded before, those are recorded that the log tells
  pub met : (l : Log T) (a b : Kept T) → GrewBy l a b → (p : Path) (n : ℕ) → meets_of a p n ≡ [] → meetings_in n (l p) ≡ meets_of b p n
  -- the recorded meetings are those that were recorded
  pub those : (m : Meets) (k : Kept T) → ((p : Path) (n : ℕ) → m p n ≡ meets_of k p n) → AreMade m k
  -- meetings of finished firings stay as they are, so that what has them after the growth had them before
  pub made : (m : Meets) (l : Log T) (a b : Kept T) → GrewBy l a b → AreMadeBefore m b → AreMadeBefore m a
  -- where no composite within is one of Rendezvous, each list of meetings has those that were recorded
  pub unmet : (m : Meets) (k : Kept T) → IsUnmet k → AreMade m k

-- What is kept of the children of a composite in the middle of a firing. Each has its own log, and that of the composite is all of them, each below its number: it says nothing of an order between children.
pub record ChildrenGrow (T S : Type 0) : Type 0 where
  -- before any firing
  pub begin : (kids : List S) (ks : List (Kept T)) → length kids ≡ length ks → AllGrewBy (silents kids) ks ks
  -- child i goes on by a log, be it of a whole firing with its record, or of one that it didn't finish
  pub go_on : (i : ℕ) (l : Log T) (ls : List (Log T)) (olds news : List (Kept T)) (k : Kept T) → i < length news → AllGrewBy ls olds news → GrewBy l (kept_at news i) k → AllGrewBy (logs_then i l ls) olds (set news i k)
  -- each child by its own log
  pub each : (i : ℕ) (ls : List (Log T)) (olds news : List (Kept T)) → AllGrewBy ls olds news → GrewBy (log_at ls i) (kept_at olds i) (kept_at news i)
  -- what is kept of child i once it went on
  pub there : (i : ℕ) (news : List (Kept T)) (k : Kept T) → i < length news → kept_at (set news i k) i ≡ k
  -- meetings of finished firings stay as they are in each child
  pub all_made : (m : Meets) (i : ℕ) (l : Log T) (news : List (Kept T)) (k : Kept T) → i < length news → GrewBy l (kept_at news i) k → AllMadeBefore m (set news i k) → AllMadeBefore m news
  -- the composite by all of them, as within its firing of that number
  pub within : (n : ℕ) (ls : List (Log T)) (e : Entry T) (olds news : List (Kept T)) → AllGrewBy ls olds news → GrewBy (within_firing n (log_below ls)) (kept_by e olds) (kept_by e news)
