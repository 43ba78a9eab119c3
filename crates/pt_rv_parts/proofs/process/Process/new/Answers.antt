use Rattle.std.proofs.Common.{length, sym, ap, subst, ◌∙◌}
use Rattle.pt_rv_laws.specs.Lawful.{HasPlaces}
use Rattle.pt_rv_parts.specs.Process.{at_start, counts_in}
use Rattle.pt_puts.specs.Need.{need_in}
use Rattle.pt_rv_parts.proofs.StepLaws.{start-is, start-gathers}
use Rattle.pt_rv_parts.proofs.process.Process.new.Goals as goal

pub invariant_of-result : goal.invariant_of-result
invariant_of-result c =
    let row = c.in_ok-row.ensures.counted ∙ sym (c.in_ok-make_rooms.ensures.counted ∙ c.in_ok-lines.ensures) in
    record {
      row = row;
      gathers = start-gathers c.args.is_barrier c.narrowed-need.result c.counts_of.result.now c.in_ok-row.row.items c.make_rooms.new.lines.items (c.counts_of.ensures ∙ ap counts_in (sym c.narrowed-need.ensures)) row
          (subst (λ m. HasPlaces (length c.make_rooms.new.lines.items) m) (sym c.narrowed-need.ensures) (subst (λ n. HasPlaces n (need_in c.args.need)) (sym (c.in_ok-make_rooms.ensures.counted ∙ c.in_ok-lines.ensures)) c.requires)) c.in_ok-row.ensures.empty c.in_ok-make_rooms.ensures.rooms;
    }

pub returns : goal.returns
returns c =
    start-is c.args.is_barrier c.narrowed-need.result c.counts_of.result.now c.args.places c.in_ok-row.row.items c.make_rooms.new.lines.items c.new.result.items c.in_ok-row.ensures.counted c.in_ok-row.ensures.empty (c.in_ok-make_rooms.ensures.counted ∙ c.in_ok-lines.ensures) c.in_ok-make_rooms.ensures.rooms c.new.ensures.items ∙
    ap (λ m. at_start c.args.is_barrier m c.args.places) c.narrowed-need.ensures
