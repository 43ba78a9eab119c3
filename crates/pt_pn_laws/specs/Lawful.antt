-- What a network owes, and what holds of a core between two firings.
use Rattle.std.specs.Prelude.{◌≡◌, ℕ, ◌<◌, ◌≤◌, List, [], length, map, get_or, true}
use Rattle.pt_meaning.specs.Streams.{at}
use Rattle.pt_meaning.specs.Machine.{Need, Over, Counts, Any, Facts}
use Rattle.pt_meaning.specs.Running.{total}
use Rattle.pt_meaning.specs.Jam.{HoldsAtMost, is_gathering}
use Rattle.pt_pn_laws.specs.State.{Network, PnState, net_of, got_of, need_at, capacity_of, greatest_of}

-- A network is lawful: each place ends at one channel, there are first tokens and needs for all, and each channel may hold a token, and grow from there.
pub record IsLawful {T : Type 0} (n : Network T) : Type 0 where
  pub channels : total n.plan.net.places ≤ length n.plan.net.sources
  pub first : length n.first ≡ length n.plan.net.sources
  pub starts : length n.starts ≡ length n.plan.net.places
  pub holds : 0 < n.initial
  pub grows : n.initial ≤ n.maximum

-- its lists have an entry for each channel, for each place of a process, and for each process
pub record IsSized {T : Type 0} (s : PnState T) : Type 0 where
  pub capacity : length s.capacity ≡ length (net_of s).sources
  pub gathered : length s.halfway.gathered ≡ total (net_of s).places
  pub queued : length s.halfway.queued ≡ length (net_of s).sources
  pub puts : length s.halfway.puts ≡ length (net_of s).places
  pub needs : length s.needs ≡ length (net_of s).places

-- each channel may hold a token, and its capacity is no more than the greatest
abbrev pub AreCapped : {T : Type 0} → PnState T → Type 0
AreCapped s = (c : ℕ) → c < length (net_of s).sources → (0 < capacity_of s c) × (capacity_of s c ≤ greatest_of s c)

-- each process has gathered in the order of its places, and no more than it needs
abbrev pub AllGather : {T : Type 0} → PnState T → Type 0
AllGather s = (i : ℕ) → i < length (net_of s).places → is_gathering (at s.halfway.puts i) (need_at s i) (got_of s i) ≡ true

-- a process with so many places needs a count for each of them, or is over
abbrev pub HasPlaces : ℕ → Need → Type 0
HasPlaces places Over = Unit {0}
HasPlaces places (Counts ns) = length ns ≡ places
HasPlaces places Any = ⊥

abbrev pub AllCount : {T : Type 0} → PnState T → Type 0
AllCount s = (i : ℕ) → i < length (net_of s).places → HasPlaces (get_or (net_of s).places i 0) (need_at s i)

-- A core fits its processes while no firing is under way: it knows what each needs, none has a put to make, and no channel is longer than its capacity.
pub record IsFor {T S : Type 0} (facts : Facts T S) (s : PnState T) (kids : List S) : Type 0 where
  pub lawful : IsLawful s.network
  pub sized : IsSized s
  pub needs : s.needs ≡ map (λ c. facts.need c) kids
  pub counts : AllCount s
  pub none : (i : ℕ) → at s.halfway.puts i ≡ []
  pub gathers : AllGather s
  pub short : HoldsAtMost (net_of s) (capacity_of s) s.halfway
  pub capped : AreCapped s
