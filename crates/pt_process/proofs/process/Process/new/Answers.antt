use Rattle.std.proofs.Common.{◌≡◌, List, [], false, length, replicate, ap, ap₂, sym, subst, ◌∙◌}
use Rattle.std.proofs.lemmas.List.{length-replicate}
use Rattle.pt_meaning.specs.Machine.{Need}
use Rattle.pt_meaning.specs.Streams.{Streams}
use Rattle.pt_value.specs.declared.token.Token.{Token}
use Rattle.pt_pn_laws.specs.Lawful.{HasPlaces}
use Rattle.pt_puts.specs.declared.puts.StagedPut.{StagedPut}
use Rattle.pt_process.specs.Process.{Standing, HasRooms, need_in}
use Rattle.pt_puts.specs.Puts.{puts_in}
use Rattle.pt_process.proofs.RoomLaws.{rooms-gather, rooms-got}
use Rattle.pt_process.proofs.process.Process.new.Goals as goal

pub invariant_of-result : goal.invariant_of-result
invariant_of-result c =
    let long : length c.make_rooms.new.lines.items ≡ c.args.places = c.in_ok-make_rooms.ensures.counted ∙ c.in_ok-lines.ensures in
    let row : c.in_ok-row.row.items ≡ replicate (length c.make_rooms.new.lines.items) [] = c.in_ok-row.ensures ∙ ap (λ n. replicate n []) (sym long) in
    record {
      row = ap (λ v. length v) row ∙ length-replicate (length c.make_rooms.new.lines.items) [];
      gathers = rooms-gather c.in_ok-row.row.items c.make_rooms.new.lines.items row c.new-need.result (subst (λ m. HasPlaces (length c.make_rooms.new.lines.items) m) (sym c.new-need.ensures) (subst (λ n. HasPlaces n (need_in c.args.need)) (sym long) c.requires))
          (subst (λ ns. HasRooms ns c.make_rooms.new.lines.items) c.lined.ensures c.in_ok-make_rooms.ensures.rooms);
    }

pub returns : goal.returns
returns c =
    let long : length c.make_rooms.new.lines.items ≡ c.args.places = c.in_ok-make_rooms.ensures.counted ∙ c.in_ok-lines.ensures in
    let row : c.in_ok-row.row.items ≡ replicate (length c.make_rooms.new.lines.items) [] = c.in_ok-row.ensures ∙ ap (λ n. replicate n []) (sym long) in
    ap₂ (λ (m : Need) (X : Streams Token). let t : Standing = record { need = m; got = X; puts = puts_in c.new.result.items; handed = false } in t) c.new-need.ensures
    (rooms-got c.in_ok-row.row.items c.make_rooms.new.lines.items row c.new-need.result (subst (λ m. HasPlaces (length c.make_rooms.new.lines.items) m) (sym c.new-need.ensures) (subst (λ n. HasPlaces n (need_in c.args.need)) (sym long) c.requires))
    (subst (λ ns. HasRooms ns c.make_rooms.new.lines.items) c.lined.ensures c.in_ok-make_rooms.ensures.rooms) ∙ ap (λ n. replicate n []) long) ∙
    ap (λ (us : List StagedPut). let t : Standing = record { need = need_in c.args.need; got = replicate c.args.places []; puts = puts_in us; handed = false } in t) c.new.ensures.items
