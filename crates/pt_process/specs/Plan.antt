-- What the code's plan is among the definitions, and which channels begin at a port.
use Rattle.std.specs.Prelude.{◌≡◌, ℕ, ◌^◌, ◌<◌, List, [], ◌++◌, length, map, get_or}
use Rattle.std.specs.List.{All}
use Rattle.pt_meaning.specs.Machine.{Over}
use Rattle.pt_meaning.specs.Net as net
use Rattle.pt_meaning.specs.Process.{channels_from, listed_if, is_source}
use Rattle.pt_value.specs.declared.token.Token.{Token}
use Rattle.pt_core.specs.Source.{source_of}
use Rattle.pt_pn_laws.specs.State.{Network}
use Rattle.pt_pn_laws.specs.Lawful.{IsLawful, HasPlaces}
use Rattle.pt_process.specs.declared.plan.CorePlan.{CorePlan}
use Rattle.pt_puts.specs.Fans.{IsNamed, fan_at}
use Rattle.pt_process.specs.Process.{need_in}

abbrev pub network_of : CorePlan → Network Token
network_of p = record {
  plan = record { net = record { sources = map source_of p.sources.items; places = p.places }; takes = p.takes };
  initial = p.initial;
  maximum = p.maximum;
  first = p.first.items;
  starts = map need_in p.starts.items;
}

-- two plans are the same, list by list
pub record IsSamePlan (p q : CorePlan) : Type 0 where
  pub sources : q.sources.items ≡ p.sources.items
  pub places : q.places ≡ p.places
  pub takes : q.takes ≡ p.takes
  pub initial : q.initial ≡ p.initial
  pub maximum : q.maximum ≡ p.maximum
  pub first : q.first.items ≡ p.first.items
  pub starts : q.starts.items ≡ p.starts.items

-- A network that a core may have: it is lawful, processes and channels have numbers of 32 bits, channels begin at what is there, and each process needs a count for each of its places, or is over.
pub record IsSoundNetwork {T : Type 0} (n : Network T) : Type 0 where
  pub lawful : IsLawful n
  pub few : length n.plan.net.sources < 2 ^ 32
  pub fewer : length n.plan.net.places < 2 ^ 32
  pub named : All (IsNamed (length n.plan.net.places)) n.plan.net.sources
  pub counts : (i : ℕ) → i < length n.plan.net.places → HasPlaces (get_or n.plan.net.places i 0) (get_or n.starts i Over)

-- of each process and port the channels that begin there
abbrev pub AreFans : List net.Source → List (List (List ℕ)) → Type 0
AreFans sources fans = (i p : ℕ) → fan_at fans i p ≡ channels_from 0 (net.Output i p) sources

-- the same once channel c is noted, which begins at this source
abbrev pub FansMore : net.Source → ℕ → List (List (List ℕ)) → List (List (List ℕ)) → Type 0
FansMore s c before after = (i p : ℕ) → fan_at after i p ≡ fan_at before i p ++ listed_if (is_source (net.Output i p) s) c []
