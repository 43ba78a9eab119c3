use Rattle.std.proofs.Common.{length, false, sym, subst, ◌∙◌}
use Rattle.pt_pn_laws.specs.Lawful.{HasPlaces}
use Rattle.pt_process.specs.Process.{HasRooms, got_in, need_kept}
use Rattle.pt_process.proofs.RoomLaws.{again-gather, again-got}
use Rattle.pt_process.proofs.StepLaws.{renewed-is, got-long, need-is, one-again, one-renewed}
use Rattle.pt_process.proofs.process.Process.need_again.Goals as goal

pub invariant_of-self : goal.invariant_of-self
invariant_of-self c = record {
  row = c.self.invariant.row;
  gathers = one-again c.self.inside c.self.invariant c.in-One.is;
}

pub returns-in-One-clause-renewed : goal.returns-in-One-clause-renewed
returns-in-One-clause-renewed c =
    renewed-is c.self.inside c.args.self.now c.self.inside.need c.args.self.now.need (got_in c.self.inside.need false 0 c.self.inside.row.items c.self.inside.lines.items)
    (one-renewed c.self.inside c.args.self.now c.self.invariant c.self.view_is c.in-One.is) (need-is c.self.inside c.args.self.now c.self.view_is) c.self.view_is

pub invariant_of-self-in-Over : goal.invariant_of-self-in-Over
invariant_of-self-in-Over c = record {
  row = c.self.invariant.row ∙ sym c.in_ok-make_rooms-in-Over.ensures.counted;
  gathers = again-gather c.self.inside.need c.self.inside.row.items c.make_rooms.new.lines.items c.in-Over.is
      (subst (λ n. HasPlaces n (need_kept c.self.inside.need)) (got-long c.self.inside c.args.self.now c.self.invariant c.self.view_is ∙ sym c.in_ok-make_rooms-in-Over.ensures.counted) (subst (λ m. HasPlaces (length c.args.self.now.got) m) (sym (need-is c.self.inside c.args.self.now c.self.view_is)) c.requires.places))
      (subst (λ ns. HasRooms ns c.make_rooms.new.lines.items) c.lined.ensures c.in_ok-make_rooms-in-Over.ensures.rooms);
}

pub returns-in_ok-make_rooms-in-Over-clause-renewed : goal.returns-in_ok-make_rooms-in-Over-clause-renewed
returns-in_ok-make_rooms-in-Over-clause-renewed c =
    renewed-is c.self.inside c.args.self.now c.self.inside.need c.args.self.now.need (got_in c.self.inside.need false 0 c.self.inside.row.items c.make_rooms.new.lines.items)
    (again-got c.self.inside.need c.self.inside.row.items c.make_rooms.new.lines.items c.in-Over.is (subst (λ ns. HasRooms ns c.make_rooms.new.lines.items) c.lined.ensures c.in_ok-make_rooms-in-Over.ensures.rooms) c.args.self.now.got (got-long c.self.inside c.args.self.now c.self.invariant c.self.view_is ∙ sym c.in_ok-make_rooms-in-Over.ensures.counted))
    (need-is c.self.inside c.args.self.now c.self.view_is) c.self.view_is
