-- What contracts see of a core, from its processes one by one.
use Rattle.std.specs.Prelude.{◌≡◌, ℕ, ◌+◌, ◌<◌, ◌≤◌, List, [], ◌∷◌, ◌++◌, Bool, true, false, nat_eq, length, map, get_or, Option, Some, None}
use Rattle.pt_meaning.specs.Tag.{Tag}
use Rattle.pt_meaning.specs.Streams.{Streams, at}
use Rattle.pt_meaning.specs.Machine.{Need, Over}
use Rattle.pt_meaning.specs.Process.{Put}
use Rattle.pt_value.specs.declared.token.Token.{Token}
use Rattle.pt_pn_laws.specs.State.{Network, PnState, Stage, MayFire, IsStopped, net_of, got_of, need_at, offset_of, lacking_place}
use Rattle.pt_process.specs.declared.process.Event.{Event}
use Rattle.pt_process.specs.declared.process.Event.TheVariants as event
use Rattle.pt_process.specs.Process.{Standing, count_on}

abbrev pub State : Type 0
State = PnState Token

-- no process
abbrev pub nobody : Standing
nobody = record { need = Over; got = []; puts = []; handed = false }

-- what the processes need, have gathered and have to put, and which have handed over what they gathered
abbrev pub needs_of : List Standing → List Need
needs_of ps = map (λ (p : Standing). p.need) ps

abbrev pub gots_of : List Standing → List (Streams Token)
gots_of ps = map (λ (p : Standing). p.got) ps

abbrev pub puts_of_all : List Standing → List (List (Put Token))
puts_of_all ps = map (λ (p : Standing). p.puts) ps

abbrev pub handed_of : List Standing → List Bool
handed_of ps = map (λ (p : Standing). p.handed) ps

-- place by place, process by process
abbrev pub gathered_of : List Standing → Streams Token
gathered_of [] = []
gathered_of (p ∷ ps) = p.got ++ gathered_of ps

-- the state of a core with these processes
abbrev pub state_with : Network Token → List Standing → List ℕ → Streams Token → Tag → Stage → State
state_with n ps capacity lists tag stage = record {
  network = n;
  needs = needs_of ps;
  capacity = capacity;
  halfway = record { gathered = gathered_of ps; queued = lists; puts = puts_of_all ps };
  tag = tag;
  stage = stage;
}

-- how many puts on the channel wait
abbrev pub staged_on : ℕ → List (List (Put Token)) → ℕ
staged_on c [] = 0
staged_on c (us ∷ puts) = count_on c us + staged_on c puts

-- process by process, each has so many places
abbrev pub ArePlaced : List ℕ → List Standing → Type 0
ArePlaced [] [] = Unit {0}
ArePlaced (n ∷ ns) (p ∷ ps) = (length p.got ≡ n) × ArePlaced ns ps
ArePlaced [] (p ∷ ps) = ⊥
ArePlaced (n ∷ ns) [] = ⊥

abbrev pub NoneHanded : List Standing → Type 0
NoneHanded ps = (i : ℕ) → get_or (handed_of ps) i false ≡ false

abbrev pub NonePuts : List Standing → Type 0
NonePuts ps = (i : ℕ) → get_or (puts_of_all ps) i [] ≡ []

-- this process, and no other, has handed over what it gathered, and has no put to make
pub record IsAlone (process : ℕ) (ps : List Standing) : Type 0 where
  pub there : process < length ps
  pub handed : get_or (handed_of ps) process false ≡ true
  pub others : (i : ℕ) → nat_eq process i ≡ false → get_or (handed_of ps) i false ≡ false
  pub none : get_or (puts_of_all ps) process [] ≡ []

-- the process puts next on this channel
pub record PutsOn (s : State) (i channel : ℕ) : Type 0 where
  pub first : Put Token
  pub rest : List (Put Token)
  pub next : at s.halfway.puts i ≡ first ∷ rest
  pub on : first.channel ≡ channel

-- the process gets next at this place
pub record LacksAt (s : State) (i place : ℕ) : Type 0 where
  pub none : at s.halfway.puts i ≡ []
  pub lacks : lacking_place (need_at s i) (got_of s i) ≡ Some place
  pub within : place < get_or (net_of s).places i 0

-- and its channel has a token
pub record GetsAt (s : State) (i place : ℕ) : Type 0 where
  pub there : i < length (net_of s).places
  pub next : LacksAt s i place
  pub some : 0 < length (at s.halfway.queued (offset_of (net_of s).places i + place))

-- what a process does next
abbrev pub Does : State → ℕ → Event → Type 0
Does s i (event.Put channel) = PutsOn s i channel
Does s i (event.Get place) = LacksAt s i place
Does s i event.Fire = MayFire s i
Does s i event.Over = IsStopped s i (at s.halfway.puts i) (need_at s i)
