-- What is found of a net in one walk over it: the children and the channels of each entity.
use Rattle.std.specs.Prelude.{length}
use Rattle.pt_net.specs.Inside.{AreInsides}
use Rattle.pt_within.specs.Within.{AreWithin}
use Rattle.pt_meetings.specs.declared.table.Table.{Table}

pub record IsPrepared (t : Table) : Type 0 where
  pub insides : AreInsides t.net.now.entities.items t.net.now.channels.items t.insides.children.items t.insides.places.items t.insides.sources.items
  pub channels : AreWithin (length t.net.now.entities.items) t.net.now.channels.items t.channels.items
