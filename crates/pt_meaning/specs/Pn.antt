-- PN: each child is a process, and a firing goes on until none can go on, with no bound on the channels (Kahn 1974; the book, "Process Networks and Rendezvous").
use Rattle.std.specs.Prelude.{ℕ, List, [], ◌∷◌, Bool, true, None}
use Rattle.pt_meaning.specs.Streams.{Streams}
use Rattle.pt_meaning.specs.Machine.{Stepping, Facts}
use Rattle.pt_meaning.specs.Flow.{Flow}
use Rattle.pt_meaning.specs.Net.{Net, Inside}
use Rattle.pt_meaning.specs.Rounds.{Limit}
use Rattle.pt_meaning.specs.Kahn.{Leaving, arrived, kahn}

-- the channels, and what each own input takes for a firing
pub record PnPlan : Type 0 where
  pub net : Net
  pub takes : List ℕ

-- no limit on how often a process fires or what it gives
abbrev pub pn_limits : List ℕ → List Limit
pn_limits [] = []
pn_limits (n ∷ ns) = record { firings = None; rates = None } ∷ pn_limits ns

-- a settled round is enough
abbrev pub always : {T S : Type 0} → List (Flow T S) → Bool
always fs = true

-- own outputs give all that they have
abbrev pub all_leave : Leaving
all_leave = record { given = λ ns. ns; gone = λ ns. ns }

-- PN: the least solution, in which own outputs give all that they have
abbrev pub pn : {T S : Type 0} → Facts T S → Stepping T S → PnPlan → ℕ → Stepping T (Inside (Streams T) S)
pn facts step p k tag c inputs = kahn facts step tag p.net (pn_limits p.net.places) always all_leave c.kids (arrived p.net.sources inputs c.held) k
