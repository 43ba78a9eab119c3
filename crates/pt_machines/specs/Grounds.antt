-- What is prepared for all entities of a net.
use Rattle.std.specs.Prelude.{◌≡◌, ℕ, ◌<◌, [], length, get_or, map, false, Some, slice_get}
use Rattle.pt_net.specs.declared.net.Net.{Net}
use Rattle.pt_net.specs.declared.net.NetEntity.{NetEntity}
use Rattle.pt_net.specs.Net.{entity_view}
use Rattle.pt_net.specs.Inside.{children_of}
use Rattle.pt_scopes.specs.Scopes.{net_view}
use Rattle.pt_scopes.specs.Valued.{IsValued}
use Rattle.pt_scopes.specs.Valued as valued
use Rattle.pt_typing.specs.Least.{assignment}
use Rattle.pt_inequalities.specs.Frames.{frames_of}
use Rattle.pt_frames.specs.Views.{frames_view}
use Rattle.pt_charts.specs.Readable.{AreReadable}
use Rattle.pt_machine.specs.Children.{kids_in, is_parted}
use Rattle.pt_machine.specs.Causes.{IsFaultIn}
use Rattle.pt_machine_parts.specs.Own.{IsNumbered}
use Rattle.pt_machines.specs.declared.fault.NetFault.{NetFault}
use Rattle.pt_machines.specs.declared.fault.NetFault.TheVariants.{Refused, Memory}
use Rattle.pt_machines.specs.declared.site.Site.{Site}
use Rattle.pt_machines.specs.declared.ground.Ground.{Ground}
use Rattle.pt_machines.specs.Sites.{entity_at, kids_at, values_at, typing_at}

-- what is prepared is that of the net
pub record IsPrepared (g : Ground) : Type 0 where
  pub frames : frames_view g.frames ≡ frames_of g.net.now g.values.now
  pub listed : length g.insides.children.items ≡ length g.net.now.entities.items
  pub children : (m : ℕ) → m < length g.net.now.entities.items → get_or g.insides.children.items m [] ≡ children_of g.net.now.entities.items m
  pub counted : length g.parted.items ≡ length g.net.now.entities.items
  pub parted : (m : ℕ) → m < length g.net.now.entities.items → get_or g.parted.items m false ≡ is_parted g.net.now m

-- a net that is valued and whose guards and actions are readable
pub record IsReady (g : Ground) : Type 0 where
  pub prepared : IsPrepared g
  pub valued : IsValued (net_view g.net.now) g.values.now
  pub readable : AreReadable g.net.now g.values.now

-- the entity of this number in its net
pub record IsSiteOf (g : Ground) (m : ℕ) (e : NetEntity) (s : Site) : Type 0 where
  pub number : s.number ≡ m
  pub entity : entity_at s ≡ entity_view e
  pub kids : kids_at s ≡ kids_in g.net.now m
  pub parted : s.modal.is_parted ≡ is_parted g.net.now m
  pub frames : frames_view s.frames.now ≡ frames_of g.net.now g.values.now
  pub typing : typing_at s ≡ assignment g.typing.now
  pub values : slice_get (map valued.entity_view g.values.now.entities.items) m ≡ Some (values_at s)
  pub numbered : IsNumbered s.modal

-- a fault is want of memory, or a Modal entity with the cause for which it has no machine
abbrev pub IsNetTold : Net → NetFault → Type 0
IsNetTold net (Refused why m) = IsFaultIn net m why
IsNetTold net Memory = Unit {0}
