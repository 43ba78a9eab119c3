-- How the channels of a net stand: in the order of their places, from ports that are there.
use Rattle.std.specs.Prelude.{◌≡◌, ℕ, suc, ◌++◌, List, [], ◌∷◌, map, filter, flat_map, Bool, true, false, ◌&&◌, nat_eq, Some, slice_get}
use Rattle.std.specs.List.{Contains}
use Rattle.pt_document.specs.declared.job.Port.{Port}
use Rattle.pt_net.specs.declared.net.Channel.{Channel}
use Rattle.pt_net.specs.declared.net.Net.{Net}
use Rattle.pt_net.specs.declared.net.NetDirector.{NetDirector}
use Rattle.pt_net.specs.declared.net.NetEntity.{NetEntity}
use Rattle.pt_scopes.specs.Scopes.{is_composite_class}
use Rattle.pt_net.specs.Inside.{children_of, comes_to, channels_in, is_input, is_output}

-- ---- channels

-- the channels that end at the places of an entity
abbrev pub arrivals : List Channel → ℕ → List Channel
arrivals ks i = filter (comes_to i) ks

-- the channel ends at an own output of this composite
abbrev pub goes_out : ℕ → Channel → Bool
goes_out c k = nat_eq k.to.entity c && nat_eq k.composite c

-- all of them
abbrev pub departures : List Channel → ℕ → List Channel
departures ks c = filter (goes_out c) ks

-- ---- ports

-- a number before others, where it is so
abbrev pub number_if : Bool → ℕ → List ℕ → List ℕ
number_if true i ns = i ∷ ns
number_if false i ns = ns

-- the numbers of the ports of one direction, from this number on
abbrev pub port_numbers : (Port → Bool) → ℕ → List Port → List ℕ
port_numbers test i [] = []
port_numbers test i (p ∷ ps) = number_if (test p) i (port_numbers test (suc i) ps)

-- ---- links

-- where a channel of a composite begins: at an input of the composite, or at an output of a child
pub data BeginsIn (net : Net) (k : Channel) : Type 0 where
  at_own : (e : NetEntity) (p : Port) → k.from.entity ≡ k.composite → slice_get net.entities.items k.from.entity ≡ Some e → slice_get e.ports.items k.from.port ≡ Some p → is_input p ≡ true → BeginsIn net k
  at_child : (e : NetEntity) (p : Port) → (k.from.entity ≡ k.composite → ⊥) → slice_get net.entities.items k.from.entity ≡ Some e → e.parent ≡ Some k.composite → slice_get e.ports.items k.from.port ≡ Some p → is_output p ≡ true → BeginsIn net k

-- The channels of a net stand in the order of their places: those to the children of a composite, child by child, and then those to its own outputs.
-- A composite that stands in one with a director has one channel to each of its inputs, and one with a director has one to each of its outputs, in the order of its ports. Refinements of a Modal entity have none.
pub record IsWired (net : Net) : Type 0 where
  pub grouped : (k : ℕ) (e : NetEntity) (d : NetDirector) → slice_get net.entities.items k ≡ Some e → e.director ≡ Some d → channels_in net.channels.items k ≡ flat_map (arrivals net.channels.items) (children_of net.entities.items k) ++ departures net.channels.items k
  pub inputs : (k c : ℕ) (e f : NetEntity) (d : NetDirector) → slice_get net.entities.items k ≡ Some e → is_composite_class e.class ≡ true → e.parent ≡ Some c → slice_get net.entities.items c ≡ Some f → f.director ≡ Some d → map (λ (x : Channel). x.to.port) (arrivals net.channels.items k) ≡ port_numbers is_input 0 e.ports.items
  pub outputs : (k : ℕ) (e : NetEntity) (d : NetDirector) → slice_get net.entities.items k ≡ Some e → e.director ≡ Some d → map (λ (x : Channel). x.to.port) (departures net.channels.items k) ≡ port_numbers is_output 0 e.ports.items
  pub begin : (k : Channel) → Contains net.channels.items k → BeginsIn net k
