-- The processes and channels of a network at their start.
use Rattle.std.specs.Prelude.{◌≡◌, ℕ, List, [], ◌∷◌, length, replicate}
use Rattle.pt_meaning.specs.Machine.{Need}
use Rattle.pt_value.specs.declared.token.Token.{Token}
use Rattle.pt_pn_laws.specs.State.{Network, first_capacities}
use Rattle.pt_process.specs.Process.{Standing, at_start}
use Rattle.pt_pn.specs.declared.fresh.Fresh.{Fresh}

-- a process for each need, with its number of places
abbrev pub starting : List Need → List ℕ → List Standing
starting [] ns = []
starting (m ∷ ms) [] = []
starting (m ∷ ms) (n ∷ ns) = at_start m n ∷ starting ms ns

-- each process is at its start, and each channel has its first tokens and its first capacity; no put waits
pub record IsFresh (n : Network Token) (f : Fresh) : Type 0 where
  pub processes : f.processes.items ≡ starting n.starts n.plan.net.places
  pub capacity : f.capacity.items ≡ first_capacities n.initial n.first
  pub lists : f.queues.lists ≡ n.first
  pub spares : length f.queues.spares ≡ length n.plan.net.sources
  pub promised : f.promised.items ≡ replicate (length n.plan.net.sources) 0
