-- A core between two firings of its composite, whose channels have no tokens.
use Rattle.std.specs.Prelude.{◌≡◌, [], map}
use Rattle.pt_sdf.specs.Clauses.{State}
use Rattle.pt_sdf.specs.State.{Idle}

pub record IsBare (s : State) : Type 0 where
  pub idle : s.stage ≡ Idle
  pub held : s.held ≡ map (λ c. []) s.plan.net.sources
