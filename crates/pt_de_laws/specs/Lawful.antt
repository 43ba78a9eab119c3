-- What a plan owes: its lists fit one another, and a child is deeper than those that feed it in the same microstep.
use Rattle.std.specs.Prelude.{◌≡◌, ℕ, ◌<◌, ◌≤◌, length, true, false, get_or, Some}
use Rattle.pt_meaning.specs.Streams.{get}
use Rattle.pt_meaning.specs.Net.{Source, Own, Output}
use Rattle.pt_meaning.specs.Valuation.{TickPlan}
use Rattle.pt_meaning.specs.Running.{total}
use Rattle.pt_laws.specs.Channels.{source_in}
use Rattle.pt_laws.specs.TickRuns.{places_at}
use Rattle.pt_de_laws.specs.State.{Roles}

-- the channel begins at something that is there
abbrev pub IsNamed : TickPlan → Source → Type 0
IsNamed p (Own port) = port < p.inputs
IsNamed p (Output child port) = child < length p.net.places

-- A plan is lawful: each place ends at one channel, its channels begin at what is there, only children that are told so have delays, and over other inputs a child is fed by less deep ones alone.
pub record IsLawful (p : TickPlan) (roles : Roles) : Type 0 where
  pub depths : length roles.depths ≡ length p.net.places
  pub early : length roles.early ≡ length p.net.places
  pub whole : length roles.whole ≡ length p.net.places
  pub starts : length roles.starts ≡ length p.net.places
  pub delayed : length roles.delayed ≡ length p.net.sources
  pub channels : total p.net.places ≤ length p.net.sources
  pub named : (c : ℕ) (source : Source) → get p.net.sources c ≡ Some source → IsNamed p source
  pub delays : (i q : ℕ) → get_or (places_at p.net.places i roles.delayed) q false ≡ true → get_or roles.early i false ≡ true
  pub deeper : (i q j port : ℕ) → source_in p.net i q ≡ Some (Output j port) → get_or (places_at p.net.places i roles.delayed) q false ≡ false → get_or roles.depths j 0 < get_or roles.depths i 0
