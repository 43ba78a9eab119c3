use Rattle.std.proofs.Common.{length, ap, ◌∙◌, subst}
use Rattle.pt_sdf_parts.specs.Rooms.{HaveRooms}
use Rattle.pt_sdf.proofs.sdf.made.at_first.Goals as goal

pub returns-clause-tables : goal.returns-clause-tables
returns-clause-tables c = c.in_ok-tables.ensures

pub returns-clause-channels : goal.returns-clause-channels
returns-clause-channels c = c.in_ok-channels.ensures

pub returns-clause-counted : goal.returns-clause-counted
returns-clause-counted c = c.in_ok-rooms.ensures.counted ∙ ap (λ v. length v) c.as_slice-2.ensures

pub returns-clause-rooms : goal.returns-clause-rooms
returns-clause-rooms c = subst (λ v. HaveRooms v c.in_ok-rooms.rooms.items 0 (length v)) c.as_slice-2.ensures c.in_ok-rooms.ensures.made

pub returns-clause-lent : goal.returns-clause-lent
returns-clause-lent c = c.in_ok-lent.ensures ∙ ap (λ v. length v) c.as_slice-3.ensures
