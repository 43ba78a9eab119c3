-- What the program holds of frames, and of the ports of an entity by their names.
use Rattle.std.specs.Prelude.{map}
use Rattle.pt_name_map.specs.NameMap as name_map
use Rattle.pt_scopes.specs.Names.{held}
use Rattle.pt_frames.specs.declared.frames.Frame.{Frame as GivenFrame}
use Rattle.pt_frames.specs.declared.frames.Frames.{Frames as GivenFrames}
use Rattle.pt_frames.specs.declared.port_numbers.PortNumbers.{PortNumbers as GivenNumbers}
use Rattle.pt_inequalities.specs.Frames.{Frame, Frames}
use Rattle.pt_inequalities.specs.Inequalities.{PortNumbers}

abbrev pub frame_view : GivenFrame → Frame
frame_view f = record { within = f.within; parent = f.parent; values = held f.names }

abbrev pub frames_view : GivenFrames → Frames
frames_view f = record { entities = map frame_view f.entities.items; transparent = map frame_view f.transparent.items }

abbrev pub port_numbers : GivenNumbers → PortNumbers
port_numbers ports name = name_map.held ports.numbers name
