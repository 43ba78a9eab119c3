-- What the events of processes make of the state that contracts see of a core.
use Rattle.std.specs.Prelude.{◌≡◌, ℕ, ◌+◌, ◌<◌, ◌≤◌, List, [], ◌∷◌, length, drop, get_or, slice_get, Option, Some}
use Rattle.pt_meaning.specs.Tag.{Tag}
use Rattle.pt_meaning.specs.Streams.{Streams, at, change_at}
use Rattle.pt_meaning.specs.Process.{Put}
use Rattle.pt_value.specs.declared.token.Token.{Token}
use Rattle.pt_recv.specs.Lines.{list_at, pushed, popped}
use Rattle.pt_pn_laws.specs.State.{Network, Stage, Asked, MayGet, offset_of, in_stage, after_get, after_put, least_full}
use Rattle.pt_process.specs.declared.process.Event.{Event}
use Rattle.pt_process.specs.Process.{Standing, DoesNext, with_token, with_put_made, with_handed}
use Rattle.pt_pn_work.specs.Core.{State, nobody, puts_of_all, state_with, ArePlaced, GetsAt, Does}
use Rattle.pt_pn_work.specs.Least.{IsBest}

-- A process that takes the front of the channel of the place that lacks a token, one that makes its next put on its channel, and one that hands over what it has gathered, as it is asked to fire, are events of the network; and what a process does next is what the network says of it.
pub record EventsAreSeen : Type 0 where
  pub gets : (n : Network Token) (ps : List Standing) (K : List ℕ) (L : Streams Token) (t : Tag) (g : Stage) → ArePlaced n.plan.net.places ps → (i place : ℕ) (x : Token) (ps' : List Standing) (L' : Streams Token) → GetsAt (state_with n ps K L t g) i place →
      slice_get (list_at L (offset_of n.plan.net.places i + place)) 0 ≡ Some x → ps' ≡ change_at i (with_token place x) ps → L' ≡ popped L (offset_of n.plan.net.places i + place) →
      MayGet (state_with n ps K L t g) i × (state_with n ps' K L' t g ≡ after_get i (state_with n ps K L t g))
  pub puts : (n : Network Token) (ps : List Standing) (K : List ℕ) (L : Streams Token) (t : Tag) (g : Stage) → ArePlaced n.plan.net.places ps → (i : ℕ) (u : Put Token) (us : List (Put Token)) (ps' : List Standing) (L' : Streams Token) → at (puts_of_all ps) i ≡ u ∷ us →
      ps' ≡ change_at i with_put_made ps → L' ≡ pushed L u.channel u.token → state_with n ps' K L' t g ≡ after_put i (state_with n ps K L t g)
  pub fires : (n : Network Token) (ps : List Standing) (K : List ℕ) (L : Streams Token) (t : Tag) (g : Stage) → ArePlaced n.plan.net.places ps → (i : ℕ) (ps' : List Standing) → ps' ≡ change_at i with_handed ps → state_with n ps' K L t (Asked i) ≡ in_stage (Asked i) (state_with n ps K L t g)
  pub does : (n : Network Token) (ps : List Standing) (K : List ℕ) (L : Streams Token) (t : Tag) (g : Stage) → ArePlaced n.plan.net.places ps → (i : ℕ) → i < length n.plan.net.places → (ev : Event) → DoesNext (get_or ps i nobody) ev → Does (state_with n ps K L t g) i ev

-- the best of the channels that some process waits to put on, as they are found process by process, is the one that grows
abbrev pub BestGrows : Type 0
BestGrows = (s : State) (o : Option (ℕ × ℕ)) (i : ℕ) → length s.halfway.puts ≤ i → ((best : ℕ × ℕ) → o ≡ Some best → best.0 < length s.capacity) → IsBest s i o → least_full s ≡ o
