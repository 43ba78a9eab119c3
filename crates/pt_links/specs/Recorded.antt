-- The ports that texts name.
use Rattle.std.specs.Prelude.{◌≡◌, ℕ, ◌<◌, List, length, map, Bool, not, ◌&&◌, ◌||◌, nat_lt, Option, Some, None, if◌then◌else◌, slice_get, position}
use Rattle.std.specs.List.{filter_map, list_any, starts_with}
use Rattle.std.specs.Borrow.{Bor}
use Rattle.std.specs.Cmp.Lexicographic.{pointwise}
use Rattle.std.specs.Prelude.{nat_eq, bytes_eq, slice_index_or, []}
use Rattle.indexmap.specs.IndexMap.{get}
use Rattle.pt_net.specs.declared.net.NetPort.{NetPort}
use Rattle.pt_links.specs.declared.records.Outputs.{Outputs}
use Rattle.pt_document.specs.Names.{top_path}
use Rattle.pt_net.specs.Standing.{is_opaque}
use Rattle.pt_net.specs.Table.{PortAt, Tables, port_path}
use Rattle.pt_net.specs.Wires.{is_input}
use Rattle.pt_net.specs.Net.{net_port, Records}
use Rattle.pt_links.specs.declared.records.Recorder.{Recorder}
use Rattle.pt_survey.specs.Survey.{tables_view}

-- an output port that can be recorded: its path, and the port of the net
pub record OutputAt : Type 0 where
  pub path : List ℕ
  pub port : NetPort

abbrev pub output_of : PortAt → Option OutputAt
output_of p = if is_opaque p.standing && not (is_input p) then Some (record { path = port_path p; port = net_port p }) else None

-- the text begins with the path
abbrev pub begins_with : List ℕ → List ℕ → Bool
begins_with path text = starts_with nat_eq text path

-- a port of the entity of this path may be one that a text names: the top's may be any, and so may each where there are many texts
abbrev pub may_name : List (List ℕ) → List ℕ → Bool
may_name texts path = bytes_eq path top_path || (nat_lt 8 (length texts) || list_any (begins_with path) texts)

-- the output ports that may be named by one of the texts
abbrev pub sought_of : List (List ℕ) → PortAt → Option OutputAt
sought_of texts p = if may_name texts p.standing.path then output_of p else None

abbrev pub sought_in : List (List ℕ) → List PortAt → List OutputAt
sought_in texts ports = filter_map (sought_of texts) ports

-- what the program holds of these outputs
pub record AreOutputs (all : List OutputAt) (held : Outputs) : Type 0 where
  pub paths : held.paths.items ≡ map (λ o. o.path) all
  pub ports : held.ports.items ≡ map (λ o. o.port) all

abbrev pub Name : Type 0
Name = Bor (List ℕ)

abbrev pub name_eq : Name → Name → Bool
name_eq x y = pointwise nat_eq x.now y.now

-- no two of the texts are the same
abbrev pub AreDistinct : List (List ℕ) → Type 0
AreDistinct texts = (first second : ℕ) (text : List ℕ) → first < second → slice_get texts first ≡ Some text → slice_get texts second ≡ Some text → ⊥

-- a text that stands among the others for the first time names this port
pub record IsRecorded (t : Tables) (records : List (List ℕ)) (n : ℕ) (port : NetPort) : Type 0 where
  pub first : position (bytes_eq (slice_index_or records n [])) records ≡ Some n
  pub named : Records t (slice_index_or records n []) port

-- what the program looks texts up in
pub record Looks (t : Tables) (records : List (List ℕ)) (r : Recorder) : Type 0 where
  pub firsts : (name : Name) → get name_eq r.firsts.numbers name ≡ position (bytes_eq name.now) records
  pub places : (name : Name) → get name_eq r.places.numbers name ≡ position (bytes_eq name.now) (map (λ o. o.path) (sought_in records t.ports))
  pub ports : r.ports.now ≡ map (λ o. o.port) (sought_in records t.ports)

abbrev pub IsRecorder : Recorder → Type 0
IsRecorder r = Looks (tables_view r.tables.now) r.records.now r
