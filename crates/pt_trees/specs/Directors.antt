-- What directs the composites of a net: which director a composite has, and what each makes of it. A new one is named here, and has what is to be said of it in a module of its own.
use Rattle.std.specs.Prelude.{◌≡◌, Option, Some, None, option_map, codes, bytes_eq, if◌then◌else◌}
use Rattle.pt_document.specs.declared.classes.Director.{Director}
use Rattle.pt_document.specs.declared.classes.Director.TheVariants.{Sdf, Pn, Rendezvous, Sr, De}
use Rattle.pt_document.specs.Classes.{DirectorClass, director_row}
use Rattle.pt_net.specs.declared.net.NetDirector.{NetDirector}
use Rattle.pt_net.specs.declared.net.NetEntity.{NetEntity}
use Rattle.pt_trees.specs.declared.directing.Directing.{Directing}
use Rattle.pt_trees.specs.declared.directing.Directing.TheVariants.{By, Modal}
use Rattle.pt_trees.specs.Composing.{Composing}
use Rattle.pt_trees.specs.De.{de}
use Rattle.pt_trees.specs.Modal.{modal}
use Rattle.pt_trees.specs.Pn.{pn}
use Rattle.pt_trees.specs.Rendezvous.{rendezvous}
use Rattle.pt_trees.specs.Sdf.{sdf}
use Rattle.pt_trees.specs.Sr.{sr}

-- the director of the class that a property names
abbrev pub named : Option NetDirector → Option Director
named None = None
named (Some d) = option_map (λ (r : DirectorClass). r.director) (director_row d.class)

-- Modal, where no property names a director
abbrev pub modal_unless : Option NetDirector → Option Directing
modal_unless None = Some Modal
modal_unless (Some d) = None

-- what directs an entity, where it is a composite with a director or a Modal entity
abbrev pub director_of : NetEntity → Option Directing
director_of e = if bytes_eq e.class (codes "Composite") then option_map By (named e.director) else (if bytes_eq e.class (codes "Modal") then modal_unless e.director else None)

abbrev pub IsDirectedBy : NetEntity → Directing → Type 0
IsDirectedBy e director = director_of e ≡ Some director

-- what each makes of its composites
abbrev pub composing : Directing → Composing
composing (By Sdf) = sdf
composing (By Sr) = sr
composing (By De) = de
composing (By Pn) = pn
composing (By Rendezvous) = rendezvous
composing Modal = modal
