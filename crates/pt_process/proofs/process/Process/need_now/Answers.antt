use Rattle.std.proofs.Common.{◌≡◌, [], length, replicate, false, ap, sym, subst, ◌∙◌}
use Rattle.pt_firing.specs.Need.{need_of}
use Rattle.pt_pn_laws.specs.Lawful.{HasPlaces}
use Rattle.pt_process.specs.Process.{HasRooms, got_in, need_kept}
use Rattle.pt_puts.proofs.LineLaws.{are-empty}
use Rattle.pt_process.proofs.RoomLaws.{rooms-gather, rooms-renewed, places-kept}
use Rattle.pt_process.proofs.StepLaws.{renewed-is, got-long}
use Rattle.pt_process.proofs.process.Process.need_now.Goals as goal

pub kept_need-requires : goal.kept_need-requires
kept_need-requires c = places-kept (length c.args.self.now.got) (need_of c.args.need) c.requires.places

pub invariant_of-self-2 : goal.invariant_of-self-2
invariant_of-self-2 c =
    let row : length c.empty_row_again.new.row.items ≡ length c.make_rooms.new.lines.items = c.empty_row_again.ensures.counted ∙ c.self.invariant.row ∙ sym c.in_ok-make_rooms.ensures.counted in
    record {
      row = row;
      gathers = rooms-gather c.empty_row_again.new.row.items c.make_rooms.new.lines.items (are-empty c.empty_row_again.new.row.items c.empty_row_again.ensures.empty ∙ ap (λ n. replicate n []) row) c.in_ok-need.need
          (subst (λ n. HasPlaces n (need_kept c.in_ok-need.need)) (got-long c.self.inside c.args.self.now c.self.invariant c.self.view_is ∙ sym c.in_ok-make_rooms.ensures.counted) (subst (λ m. HasPlaces (length c.args.self.now.got) m) (sym c.in_ok-need.ensures) c.requires.places))
          (subst (λ ns. HasRooms ns c.make_rooms.new.lines.items) c.lined.ensures c.in_ok-make_rooms.ensures.rooms);
    }

pub returns-clause-renewed : goal.returns-clause-renewed
returns-clause-renewed c =
    let row : length c.empty_row_again.new.row.items ≡ length c.make_rooms.new.lines.items = c.empty_row_again.ensures.counted ∙ c.self.invariant.row ∙ sym c.in_ok-make_rooms.ensures.counted in
    renewed-is c.self.inside c.args.self.now c.in_ok-need.need (need_of c.args.need) (got_in c.in_ok-need.need false 0 c.empty_row_again.new.row.items c.make_rooms.new.lines.items)
    (rooms-renewed c.empty_row_again.new.row.items c.make_rooms.new.lines.items (are-empty c.empty_row_again.new.row.items c.empty_row_again.ensures.empty ∙ ap (λ n. replicate n []) row) c.in_ok-need.need c.args.self.now.got (got-long c.self.inside c.args.self.now c.self.invariant c.self.view_is ∙ sym c.in_ok-make_rooms.ensures.counted)
    (subst (λ n. HasPlaces n (need_kept c.in_ok-need.need)) (got-long c.self.inside c.args.self.now c.self.invariant c.self.view_is ∙ sym c.in_ok-make_rooms.ensures.counted) (subst (λ m. HasPlaces (length c.args.self.now.got) m) (sym c.in_ok-need.ensures) c.requires.places))
    (subst (λ ns. HasRooms ns c.make_rooms.new.lines.items) c.lined.ensures c.in_ok-make_rooms.ensures.rooms))
    c.in_ok-need.ensures c.self.view_is
