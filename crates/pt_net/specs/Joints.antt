-- What links join, in numbers of the net.
use Rattle.std.specs.Prelude.{◌≡◌, ℕ, ◌-◌, List, Bool, not, Some, slice_get, if◌then◌else◌}
use Rattle.pt_net.specs.declared.wire.Wire.{Wire}
use Rattle.pt_net.specs.declared.wire.Wire.TheVariants as wire
use Rattle.pt_net.specs.declared.net.JointPort.{JointPort}
use Rattle.pt_net.specs.declared.net.JointPort.TheVariants.{Entity, Transparent}
use Rattle.pt_net.specs.declared.net.Joint.{Joint}
use Rattle.pt_net.specs.declared.net.Joint.TheVariants.{Takes, Gives, Bond}
use Rattle.pt_net.specs.Standing.{is_kept}
use Rattle.pt_net.specs.Table.{PortAt}
use Rattle.pt_net.specs.Wires.{is_input}

-- a port of the net: that of a library actor or an opaque composite, or that of a transparent composite, which is numbered
-- among the transparent ones
abbrev pub joint_port : PortAt → JointPort
joint_port p = if is_kept p.standing then Entity p.standing.number p.number else Transparent (p.entity - p.standing.number) p.number

-- a port that takes tokens from a relation, or one that gives tokens to it
abbrev pub joint_at : Bool → PortAt → ℕ → Joint
joint_at takes p r = if takes then Takes (joint_port p) r else Gives (joint_port p) r

-- this is what a wire joins: an input takes tokens from outside and gives them inside, and an output takes them from inside and
-- gives them outside
abbrev pub IsJointOf : List PortAt → Wire → Joint → Type 0
IsJointOf ports (wire.Outside g r) joint = (p : PortAt) × (slice_get ports g ≡ Some p) × (joint ≡ joint_at (is_input p) p r)
IsJointOf ports (wire.Inside g r) joint = (p : PortAt) × (slice_get ports g ≡ Some p) × (joint ≡ joint_at (not (is_input p)) p r)
IsJointOf ports (wire.Bond a b) joint = joint ≡ Bond a b
