-- What the program looks inputs up in.
use Rattle.std.specs.Prelude.{◌≡◌, position, bytes_eq}
use Rattle.indexmap.specs.IndexMap.{get}
use Rattle.pt_scopes.specs.Scopes.{NetTree, net_view}
use Rattle.pt_job.specs.declared.lookup.Lookup.{Lookup}
use Rattle.pt_job.specs.Names.{Name, name_eq}
use Rattle.pt_job.specs.Inputs.{own_inputs, input_to, may_lack, is_timed}

-- the maps have the input ports of the top, and the first input that names each port, and it is known whether a token may be absent and whether the net is timed
pub record Looks (net : NetTree) (l : Lookup) : Type 0 where
  pub lacking : l.may_lack ≡ may_lack net
  pub timed : l.is_timed ≡ is_timed net
  pub ports : (name : Name) → get name_eq l.ports name ≡ position (bytes_eq name.now) (own_inputs net)
  pub inputs : (name : Name) → get name_eq l.inputs name ≡ input_to net name.now

abbrev pub IsLookup : Lookup → Type 0
IsLookup l = Looks (net_view l.net.now) l
