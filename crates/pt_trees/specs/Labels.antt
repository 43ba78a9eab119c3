-- How a report tells the channels of a process network: by the places where they end.
use Rattle.std.specs.Prelude.{ℕ, List, [], ◌∷◌, ◌++◌, map, Bool, true, false, nat_eq, unwrap_or, codes, bytes_eq, Option, Some, None, slice_get, if◌then◌else◌}
use Rattle.pt_document.specs.declared.classes.Director.TheVariants.{Sdf, Pn, Rendezvous, Sr, De}
use Rattle.pt_document.specs.declared.job.Port.{Port}
use Rattle.pt_document.specs.Names.{top_path}
use Rattle.pt_net.specs.declared.net.Channel.{Channel}
use Rattle.pt_net.specs.declared.net.Net.{Net}
use Rattle.pt_net.specs.declared.net.NetEntity.{NetEntity}
use Rattle.pt_net.specs.Inside.{channels_in}
use Rattle.pt_trace.specs.MeetingText.{place_text}
use Rattle.pt_trees.specs.declared.directing.Directing.{Directing}
use Rattle.pt_trees.specs.declared.directing.Directing.TheVariants.{By, Modal}
use Rattle.pt_trees.specs.Directors.{director_of}

-- what is behind a front, where a text begins with it
abbrev pub behind : (front text : List ℕ) → Option (List ℕ)
behind [] text = Some text
behind (f ∷ front) [] = None
behind (f ∷ front) (t ∷ text) = if nat_eq f t then behind front text else None

-- the path of a child, as it is below that of its composite
abbrev pub path_below : (round child : List ℕ) → List ℕ
path_below round child = if bytes_eq round top_path then child else unwrap_or (behind (round ++ codes ".") child) child

-- channel k at the port of a child: <child>.<port>.<k>
abbrev pub port_label : (child : List ℕ) → Option Port → ℕ → List ℕ
port_label child None k = []
port_label child (Some port) k = place_text (record { child = child; port = port.name; channel = k })

abbrev pub child_label : (round : List ℕ) → Option NetEntity → (port k : ℕ) → List ℕ
child_label round None port k = []
child_label round (Some child) port k = port_label (path_below round child.path) (slice_get child.ports.items port) k

-- a channel of the composite of this path, by the place of a child where it ends
abbrev pub label_of : Net → (round : List ℕ) → Channel → List ℕ
label_of net round x = child_label round (slice_get net.entities.items x.to.entity) x.to.port x.to.index

-- a director tells the channels of its composites where they are process networks
abbrev pub is_network : Directing → Bool
is_network (By Sdf) = false
is_network (By Sr) = false
is_network (By De) = false
is_network (By Rendezvous) = false
is_network (By Pn) = true
is_network Modal = false

abbrev pub has_network : Option Directing → Bool
has_network None = false
has_network (Some director) = is_network director

-- the channels of composite k, in order, where they are told
abbrev pub labels_if : Bool → Net → ℕ → (round : List ℕ) → List (List ℕ)
labels_if true net k round = map (label_of net round) (channels_in net.channels.items k)
labels_if false net k round = []

abbrev pub labels_of : Net → ℕ → NetEntity → List (List ℕ)
labels_of net k e = labels_if (has_network (director_of e)) net k e.path
