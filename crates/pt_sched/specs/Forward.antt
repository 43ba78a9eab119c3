-- Graphs in which one firing of each child, in the order of their numbers, is a schedule.
use Rattle.std.specs.Prelude.{◌≡◌, ℕ, zero, suc, List, [], ◌∷◌, ◌++◌, Bool, true, ◌&&◌, ◌==◌, nat_lt, All}
use Rattle.pt_sched.specs.declared.edge.SchedEdge.{SchedEdge}

-- the channel leads to a later child, which takes as many tokens as it is given
abbrev pub leads_on : SchedEdge → Bool
leads_on channel = nat_lt channel.edge.from channel.edge.to && channel.edge.produced == channel.edge.consumed

-- each child fires once, and each channel leads on
pub record IsForward (channels : List SchedEdge) (q : List ℕ) : Type 0 where
  pub once : All (λ times. times ≡ 1) q
  pub onward : All (λ channel. leads_on channel ≡ true) channels

-- the numbers below another, in order
abbrev pub upto : ℕ → List ℕ
upto zero = []
upto (suc n) = upto n ++ n ∷ []
