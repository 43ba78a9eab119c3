-- Which directors only move tokens.
use Rattle.std.specs.Prelude.{◌≡◌, ℕ, ◌+◌, ◌≤◌, List, [], length}
use Rattle.pt_meaning.specs.Basics.{Tag, Streams, at, Meeting}
use Rattle.pt_meaning.specs.Machine.{Stepping, Facts}
use Rattle.pt_meaning.specs.Net.{Net, Inside}
use Rattle.pt_meaning.specs.Running.{total}
use Rattle.pt_meaning.specs.Kahn.{skip_places}
use Rattle.pt_meaning.specs.Sdf.{SdfPlan, sdf}
use Rattle.pt_meaning.specs.Pn.{PnPlan, pn}
use Rattle.pt_meaning.specs.Process.{Put}
use Rattle.pt_meaning.specs.Rendezvous.{RvPlan, Places, rv}
use Rattle.pt_meaning.specs.Valuation.{TickPlan}
use Rattle.pt_meaning.specs.Sr.{sr}
use Rattle.pt_meaning.specs.De.{de}
use Rattle.pt_meaning.specs.Tree.{Sdf, Pn}
use Rattle.pt_meaning.specs.Closed.{Has, first_channel}
use Rattle.pt_laws.specs.Heights.{HasEntries}
use Rattle.pt_laws.specs.SoundRuns.{got_by, count_at}
use Rattle.pt_kinds.specs.Moves.{On, OnlyMoves}

-- there are no more streams than before, and one for each place
abbrev pub KeepsChannels : {T : Type 0} → Net → Streams T → Streams T → Type 0
KeepsChannels net X Y = (length Y ≤ length X) × (total net.places ≤ length X → total net.places ≤ length Y)

-- under Rendezvous a token stands on a channel where a child has gathered it at the place of the channel, or where a child or an own input has still to put it there
pub data InPlaces {T : Type 0} (net : Net) (X : Places T) : (channel : ℕ) → T → Type 0 where
  gathered : (i q : ℕ) (x : T) → Has x (at (got_by X.got i) q) → InPlaces net X (first_channel net.places i + q) x
  due : (i : ℕ) (u : Put T) → Has u (at X.puts i) → InPlaces net X u.channel u.token
  kept : (j : ℕ) (u : Put T) → Has u (at X.inputs j) → InPlaces net X u.channel u.token

-- there are so many children, and each gathers at its own places
pub record IsSeated {T : Type 0} (net : Net) (count : ℕ) (X : Places T) : Type 0 where
  pub places : (i : ℕ) → length (got_by X.got i) ≡ count_at net.places i
  pub got_counted : length X.got ≡ count
  pub puts_counted : length X.puts ≡ count

-- Where the plan has an entry for each child, and each place of a child its channel, SDF, PN, SR, DE and Rendezvous only move tokens. SR and DE keep none on their channels.
pub record DirectorsOnlyMove (T S : Type 0) : Type 0 where
  pub sdf_moves : (facts : Facts T S) (step : Stepping T S) (p : SdfPlan) (k : ℕ) (tag : Tag) (c : Inside (Streams T) S) (inputs : Streams T) → HasEntries (length c.kids) (Sdf p c.held) → total p.net.places ≤ length c.held →
      OnlyMoves facts step tag p.net c.kids (On c.held) inputs On (KeepsChannels p.net c.held) (length p.gives) (sdf facts step p k tag c inputs)
  pub pn_moves : (facts : Facts T S) (step : Stepping T S) (p : PnPlan) (k : ℕ) (tag : Tag) (c : Inside (Streams T) S) (inputs : Streams T) → HasEntries (length c.kids) (Pn p c.held) → total p.net.places ≤ length c.held →
      OnlyMoves facts step tag p.net c.kids (On c.held) inputs On (KeepsChannels p.net c.held) (length (skip_places p.net.places c.held)) (pn facts step p k tag c inputs)
  pub sr_moves : (facts : Facts T S) (step : Stepping T S) (p : TickPlan) (k n : ℕ) (tag : Tag) (kids : List S) (inputs : Streams T) → length p.net.places ≡ length kids → total p.net.places ≤ length p.net.sources →
      OnlyMoves facts step tag p.net kids (On []) inputs On (KeepsChannels p.net []) (length (skip_places p.net.places p.net.sources)) (sr facts step p k n tag kids inputs)
  pub de_moves : (facts : Facts T S) (step : Stepping T S) (p : TickPlan) (k : ℕ) (tag : Tag) (kids : List S) (inputs : Streams T) → length p.net.places ≡ length kids → total p.net.places ≤ length p.net.sources →
      OnlyMoves facts step tag p.net kids (On []) inputs On (KeepsChannels p.net []) (length (skip_places p.net.places p.net.sources)) (de facts step p k tag kids inputs)
  pub rv_moves : (facts : Facts T S) (step : Stepping T S) (p : RvPlan) (k n : ℕ) (ms : List Meeting) (tag : Tag) (X : Places T) (kids : List S) (inputs : Streams T) → length p.barriers ≡ length kids → IsSeated p.net (length kids) X →
      OnlyMoves facts step tag p.net kids (InPlaces p.net X) inputs (InPlaces p.net) (IsSeated p.net (length kids)) (length (skip_places p.net.places p.net.sources)) (rv facts step p k n ms tag X kids inputs)
