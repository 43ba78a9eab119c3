-- What the ports of a library actor of a net are, by its class, and how many channels end there.
use Rattle.std.specs.Prelude.{◌≡◌, ℕ, suc, ◌++◌, List, [], ◌∷◌, map, replicate, count_by, bytes_eq, false, Some, None, slice_get}
use Rattle.std.specs.List.{AllByRecursion}
use Rattle.pt_document.specs.declared.job.Direction.{Direction}
use Rattle.pt_document.specs.declared.job.Direction.TheVariants.{Input, Output}
use Rattle.pt_document.specs.declared.classes.Arity.TheVariants.{Single}
use Rattle.pt_document.specs.Classes.{Class, ClassPort, Actor, kind_of}
use Rattle.pt_document.specs.Document.{PortTree}
use Rattle.pt_net.specs.declared.net.Channel.{Channel}
use Rattle.pt_net.specs.declared.net.Net.{Net}
use Rattle.pt_net.specs.declared.net.NetEntity.{NetEntity}
use Rattle.pt_net.specs.Table.{joined_ports, declared_port}
use Rattle.pt_net.specs.Net.{row_port, entity_view}
use Rattle.pt_scopes.specs.Scopes.{is_composite_class}
use Rattle.pt_start.specs.Started.{ends_at}
use Rattle.pt_order.specs.Wired.{arrivals}

-- no two ports have one name
abbrev pub HaveOwnNames : List PortTree → Type 0
HaveOwnNames ps = (i j : ℕ) (p q : PortTree) → slice_get ps i ≡ Some p → slice_get ps j ≡ Some q → p.name ≡ q.name → i ≡ j

-- so many channels end at each input, and they stand in the order of the ports, from this number on
abbrev pub ends_if : Direction → (count i : ℕ) → List ℕ
ends_if Input count i = replicate count i
ends_if Output count i = []

-- the same of all ports
abbrev pub ends_from : (ℕ → ℕ) → ℕ → List Direction → List ℕ
ends_from counts i [] = []
ends_from counts i (d ∷ ds) = ends_if d (counts i) i ++ ends_from counts (suc i) ds

-- how many channels end at a port of an entity
abbrev pub channels_at : Net → ℕ → ℕ → ℕ
channels_at net k i = count_by (ends_at k i) net.channels.items

-- The ports of a library actor are those of its class, and what it declares where its class allows that, in the direction that the class says and under other names. The channels to it stand in their order, and each single input has one.
pub record HasClassPorts (net : Net) (k : ℕ) (e : NetEntity) : Type 0 where
  pub class : Class
  pub declared : List PortTree
  pub kind : kind_of e.class ≡ Some (Actor class)
  pub ports : (entity_view e).ports ≡ joined_ports class.declares declared (map row_port class.ports)
  pub none : class.declares ≡ None → declared ≡ []
  pub fit : AllByRecursion (λ (p : PortTree). (class.declares ≡ Some p.direction) × AllByRecursion (λ (q : ClassPort). bytes_eq p.name q.name ≡ false) class.ports) declared
  pub ends : map (λ (c : Channel). c.to.port) (arrivals net.channels.items k) ≡ ends_from (channels_at net k) 0 (map (λ (p : PortTree). p.direction) (entity_view e).ports)
  pub single : (i : ℕ) (p : ClassPort) → slice_get (joined_ports class.declares (map declared_port declared) class.ports) i ≡ Some p → p.direction ≡ Input → p.arity ≡ Single → channels_at net k i ≡ 1

-- so it is of each library actor
abbrev pub HaveClassPorts : Net → Type 0
HaveClassPorts net = (k : ℕ) (e : NetEntity) → slice_get net.entities.items k ≡ Some e → is_composite_class e.class ≡ false → HasClassPorts net k e
