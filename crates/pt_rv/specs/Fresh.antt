-- The parties at their start.
use Rattle.std.specs.Prelude.{◌≡◌, ℕ, List, [], ◌∷◌, Bool}
use Rattle.pt_meaning.specs.Machine.{Need}
use Rattle.pt_meaning.specs.Rendezvous.{none_to_put, outlets}
use Rattle.pt_value.specs.declared.token.Token.{Token}
use Rattle.pt_rv_laws.specs.State.{Processes}
use Rattle.pt_rv_work.specs.Core.{Standing}
use Rattle.pt_rv_parts.specs.Process.{at_start}
use Rattle.pt_rv.specs.declared.parties.Parties.{Parties}
use Rattle.pt_rv.specs.Parties.{inputs_of, outputs_of}

-- a process for each need, with its number of places
abbrev pub starting : List Bool → List Need → List ℕ → List (Standing Token)
starting [] ms ns = []
starting (b ∷ bs) [] ns = []
starting (b ∷ bs) (m ∷ ms) [] = []
starting (b ∷ bs) (m ∷ ms) (n ∷ ns) = at_start b m n ∷ starting bs ms ns

-- each process is at its start, the own inputs have nothing to put, and nothing has come to the own outputs
pub record IsFresh (p : Processes) (w : Parties) : Type 0 where
  pub processes : w.team ≡ starting p.plan.barriers p.starts p.plan.net.places
  pub inputs : inputs_of w.inlets.items ≡ none_to_put p.plan.takes
  pub outputs : outputs_of w.outlets.items ≡ outlets p.plan.net.places p.plan.net.sources
