-- What each trace of a report is of.
use Rattle.std.specs.Prelude.{◌≡◌, ℕ, length, Some, true, slice_get}
use Rattle.pt_document.specs.declared.job.Port.{Port}
use Rattle.pt_document.specs.Names.{below}
use Rattle.pt_net.specs.declared.net.Net.{Net}
use Rattle.pt_net.specs.declared.net.NetEntity.{NetEntity}
use Rattle.pt_net.specs.declared.net.NetPort.{NetPort}
use Rattle.pt_net.specs.Inside.{is_output, port_number}
use Rattle.pt_node.specs.Shown.{Shown}
use Rattle.pt_node.specs.View.{outline_of, text_at}
use Rattle.pt_trees.specs.Trees.{IsEntity}
use Rattle.pt_trees.specs.Ports.{Listed, recorded_ports}

-- In a tree that is built from a net, this is the recorded port of number n. It is the output of an entity that the net records under that number; it stands
-- at the node whose text is the path of that entity, and has its number among the outputs there. It is told under the text that the document records it by,
-- which is the path of the entity with the name of the port.
pub record IsRecordedAt (net : Net) (s : Shown) (n : ℕ) (x : Listed) : Type 0 where
  pub recorded : NetPort
  pub is_recorded : slice_get net.recorded.items n ≡ Some recorded
  pub entity : NetEntity
  pub is_entity : IsEntity net recorded.entity entity
  pub port : Port
  pub is_port : slice_get entity.ports.items recorded.port ≡ Some port
  pub output : is_output port ≡ true
  pub place : text_at (outline_of s) x.path ≡ Some entity.path
  pub port_is : x.output.port ≡ port_number entity.ports.items recorded.port
  pub number_is : x.output.number ≡ n
  pub text_is : slice_get net.records.items n ≡ Some x.output.text
  pub names : x.output.text ≡ below entity.path port.name

-- the recorded ports of a tree are those of the net, one by one
pub record AreTold (net : Net) (s : Shown) : Type 0 where
  pub counted : length (recorded_ports (length net.recorded.items) s) ≡ length net.recorded.items
  pub each : (n : ℕ) (x : Listed) → slice_get (recorded_ports (length net.recorded.items) s) n ≡ Some x → IsRecordedAt net s n x
