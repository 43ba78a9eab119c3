-- Where the links and the records of a job are at fault.
use Rattle.std.specs.Prelude.{◌≡◌, ◌≢◌, ℕ, ◌<◌, ◌⊎◌, List, [], length, Bool, true, false, IsTrue, not, ◌&&◌, ◌==◌, Option, Some, None, if◌then◌else◌, slice_get}
use Rattle.std.specs.List.{Contains, enumerate_from, sum_by}
use Rattle.std.specs.Option.{is_some}
use Rattle.pt_document.specs.declared.classes.Arity.{Arity}
use Rattle.pt_document.specs.declared.classes.Arity.TheVariants.{Single, Optional, Many, ManyOrNone}
use Rattle.pt_document.specs.declared.code.Code.{Code}
use Rattle.pt_document.specs.declared.code.Code.TheVariants as code
use Rattle.pt_document.specs.declared.refusal.DocFault.{DocFault}
use Rattle.pt_document.specs.declared.refusal.DocFault.TheVariants as faults
use Rattle.pt_document.specs.Document.{parts, JobTree}
use Rattle.pt_document.specs.Classes.{Kind, Composite, Modal, Actor, kind_of}
use Rattle.pt_document.specs.Names.{top_path}
use Rattle.pt_net.specs.declared.wire.Wire.{Wire}
use Rattle.pt_net.specs.Standing.{Standing, is_opaque, is_kept, is_composite}
use Rattle.pt_net.specs.Table.{PortAt, RelationAt, LinkAt, Tables, tables_of, link_path, port_path, relation_path, shown}
use Rattle.pt_net.specs.Wires.{wire_of, outside_of, inside_of, is_input, IsOneGroup, Gives, Place}
use Rattle.pt_net.specs.Net.{wires, all_places, ReachesIn, Names}

abbrev pub has_one_at_most : Arity → Bool
has_one_at_most Single = true
has_one_at_most Optional = true
has_one_at_most Many = false
has_one_at_most ManyOrNone = false

abbrev pub has_one : Arity → Bool
has_one Single = true
has_one Optional = false
has_one Many = false
has_one ManyOrNone = false

abbrev pub has_one_at_least : Arity → Bool
has_one_at_least Single = false
has_one_at_least Optional = false
has_one_at_least Many = true
has_one_at_least ManyOrNone = false

-- a port that is no multiport
abbrev pub is_single : PortAt → Bool
is_single p = has_one_at_most p.port.arity

-- a multiport with one channel at least
abbrev pub is_many : PortAt → Bool
is_many p = has_one_at_least p.port.arity

-- an input that has to have a link outside: one that is neither optional nor a multiport, of a library actor or an opaque
-- composite that is neither the top nor a refinement
abbrev pub needs_link : PortAt → Bool
needs_link p = is_input p && has_one p.port.arity && is_kept p.standing && is_some p.standing.round.outer && not p.standing.round.is_refinement

-- a port that has to have a link inside: one of a Composite with a director
abbrev pub needs_link_inside : PortAt → Bool
needs_link_inside p = is_composite (parts p.standing.tree) && p.standing.is_directed

-- the least number of channels to the inputs of an entity together
abbrev pub least_of_kind : Option Kind → ℕ
least_of_kind (Some (Actor class)) = class.least_channels
least_of_kind (Some Composite) = 0
least_of_kind (Some Modal) = 0
least_of_kind None = 0

abbrev pub least_channels : Standing → ℕ
least_channels s = least_of_kind (kind_of (parts s.tree).class)

-- the channels to an input, and those to all inputs of an entity
abbrev pub input_channels : List Wire → ℕ × PortAt → ℕ
input_channels wires q = if is_input q.1 then length (outside_of wires q.0) else 0

abbrev pub channels_in : List PortAt → List Wire → ℕ → ℕ
channels_in all wires e = sum_by (λ q. if q.1.entity == e then input_channels wires q else 0) (enumerate_from 0 all)

-- a link, a missing one, a place without a source or an actor with too few channels, at this path
pub data IsLinkFault (t : Tables) : List ℕ → Type 0 where
  -- the link names no port or no relation
  names_nothing : (l : LinkAt) → Contains t.links l → wire_of t.ports t.relations l ≡ None → IsLinkFault t (link_path l)
  -- a single port is linked twice
  twice_outside : (g : ℕ) (p : PortAt) → slice_get t.ports g ≡ Some p → IsTrue (is_single p) → 1 < length (outside_of (wires t) g) → IsLinkFault t (port_path p)
  twice_inside : (g : ℕ) (p : PortAt) → slice_get t.ports g ≡ Some p → 1 < length (inside_of (wires t) g) → IsLinkFault t (port_path p)
  -- a place has no source
  no_source : (place : Place) → Contains (all_places t) place → ((g : ℕ) (p : PortAt) → ReachesIn t g p place → ⊥) → IsLinkFault t (port_path place.at)
  no_link : (g : ℕ) (p : PortAt) → slice_get t.ports g ≡ Some p → IsTrue (needs_link p) → outside_of (wires t) g ≡ [] → IsLinkFault t (port_path p)
  -- a port of a Composite with a director has no link inside
  no_link_inside : (g : ℕ) (p : PortAt) → slice_get t.ports g ≡ Some p → IsTrue (needs_link_inside p) → inside_of (wires t) g ≡ [] → IsLinkFault t (port_path p)
  -- an own input reaches an own output of the same opaque composite
  passed_on : (g : ℕ) (p : PortAt) (place : Place) → Contains (all_places t) place → IsTrue (is_opaque place.at.standing) → IsTrue (not (is_input place.at)) → IsTrue (is_input p) → ReachesIn t g p place → p.entity ≡ place.at.entity → IsLinkFault t (port_path place.at)
  -- an actor has fewer channels than its class says
  no_channel : (g : ℕ) (p : PortAt) → slice_get t.ports g ≡ Some p → IsTrue (is_input p) → IsTrue (is_many p) → outside_of (wires t) g ≡ [] → IsLinkFault t p.standing.path
  too_few_channels : (e : ℕ) (s : Standing) → slice_get t.entities e ≡ Some s → channels_in t.ports (wires t) e < least_channels s → IsLinkFault t s.path

-- a relation group has two sources, at the path of one of its relations
pub record IsTwoSources (t : Tables) (path : List ℕ) : Type 0 where
  pub number : ℕ
  pub relation : RelationAt
  pub is : slice_get t.relations number ≡ Some relation
  pub first : ℕ
  pub first_at : PortAt
  pub first_relation : ℕ
  pub gives_first : Gives t.ports (wires t) first first_at first_relation
  pub first_in : IsOneGroup (wires t) first_relation number
  pub second : ℕ
  pub second_at : PortAt
  pub second_relation : ℕ
  pub gives_second : Gives t.ports (wires t) second second_at second_relation
  pub second_in : IsOneGroup (wires t) second_relation number
  pub apart : first ≢ second
  pub told : path ≡ relation_path relation

-- a text that is recorded names no output port of a library actor or an opaque composite, or it is repeated
pub data IsRecordFault (t : Tables) (records : List (List ℕ)) : List ℕ → Type 0 where
  names_no_port : (text : List ℕ) → Contains records text → ((p : PortAt) → Names t text p → ⊥) → IsRecordFault t records (shown text)
  repeated : (first second : ℕ) (text : List ℕ) → first < second → slice_get records first ≡ Some text → slice_get records second ≡ Some text → IsRecordFault t records (shown text)

abbrev pub most_channels : ℕ
most_channels = 100000

abbrev pub most_records : ℕ
most_records = 10000

-- too many channels or recorded ports: each place has one channel
pub record IsPastLimit (t : Tables) (records : List (List ℕ)) (path : List ℕ) : Type 0 where
  pub many : (most_channels < length (all_places t)) ⊎ (most_records < length records)
  pub told : path ≡ top_path

-- a fault is want of memory, or a refusal for this cause at such a path
abbrev pub IsTold : Code → (List ℕ → Type 0) → DocFault → Type 0
IsTold code IsPlace faults.Memory = Unit {0}
IsTold code IsPlace (faults.Refused r) = (r.code ≡ code) × IsPlace r.path

-- this cause to refuse, among those that this crate knows, stands at that path, where a job has these tables and records
-- these texts
abbrev pub StandsIn : Tables → List (List ℕ) → Code → List ℕ → Type 0
StandsIn t records code.Link path = IsLinkFault t path
StandsIn t records code.TwoSources path = IsTwoSources t path
StandsIn t records code.Record path = IsRecordFault t records path
StandsIn t records code.Limit path = IsPastLimit t records path
StandsIn t records _ path = ⊥

-- a fault is want of memory, or a refusal that stands
abbrev pub IsFaultIn : Tables → List (List ℕ) → DocFault → Type 0
IsFaultIn t records faults.Memory = Unit {0}
IsFaultIn t records (faults.Refused r) = StandsIn t records r.code r.path

-- the same in a job
abbrev pub Stands : Code → List ℕ → JobTree → Type 0
Stands code path job = StandsIn (tables_of job) job.records code path

abbrev pub IsFaultOf : JobTree → DocFault → Type 0
IsFaultOf job fault = IsFaultIn (tables_of job) job.records fault
