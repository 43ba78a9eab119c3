-- The numbers of the ports of an entity, as far as they are looked at.
use Rattle.std.specs.Prelude.{◌≡◌, ℕ, ◌<◌, List, length, get_or, count_by}
use Rattle.pt_document.specs.declared.job.Port.{Port}
use Rattle.pt_wiring.specs.declared.ports.PortCounts.{PortCounts}
use Rattle.pt_net.specs.Inside.{is_input, is_output, port_number}

-- each port has its number among those of its direction
pub record ArePortNumbers (ports : List Port) (numbers : List ℕ) : Type 0 where
  pub counted : length numbers ≡ length ports
  pub each : (p : ℕ) → p < length ports → get_or numbers p 0 ≡ port_number ports p

-- how many inputs and outputs there are
pub record Count (ports : List Port) (counts : PortCounts) : Type 0 where
  pub inputs : counts.inputs ≡ count_by is_input ports
  pub outputs : counts.outputs ≡ count_by is_output ports
