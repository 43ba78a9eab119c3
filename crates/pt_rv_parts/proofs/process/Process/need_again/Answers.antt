use Rattle.std.proofs.Common.{inl, refl, sym, ap, subst, false, None, ◌∙◌}
use Rattle.pt_value.specs.declared.token.Token.{Token}
use Rattle.pt_rv_work.specs.Core.{Standing}
use Rattle.pt_meaning.specs.Machine as machine
use Rattle.pt_rv_parts.specs.Process.{Gathers, HaveRoom, got_in}
use Rattle.pt_puts.specs.Need.{need_in}
use Rattle.pt_rv_parts.proofs.GatherLaws.{room-empty, gathers-first}
use Rattle.pt_rv_parts.proofs.StepLaws.{renewed-is, lines-emptied, row-emptied, counts-need, counted-got, alone-got, one-filled, got-long}
use Rattle.pt_rv_parts.proofs.process.Process.need_again.Goals as goal

pub take_alone-requires : goal.take_alone-requires
take_alone-requires c = (one-filled c.self.inside c.self.invariant c.in-One.is).1

pub invariant_of-self : goal.invariant_of-self
invariant_of-self c = record {
  row = c.take_alone.ensures.counted ∙ c.self.invariant.row;
  gathers = subst (λ f. Gathers c.self.inside.is_barrier c.self.inside.need false c.self.inside.full f c.take_alone.new.row.items c.self.inside.lines.items) (sym c.take_alone.ensures.filled)
      (subst (λ m. Gathers c.self.inside.is_barrier m false c.self.inside.full None c.take_alone.new.row.items c.self.inside.lines.items) (sym c.in-One.is) (c.take_alone.ensures.counted ∙ (one-filled c.self.inside c.self.invariant c.in-One.is).0, c.take_alone.ensures.empty));
}

pub returns-in-One-clause-renewed : goal.returns-in-One-clause-renewed
returns-in-One-clause-renewed c =
    renewed-is c.self.inside c.args.self.now c.self.inside.need (machine.Counts c.args.counts.now) (got_in c.self.inside.need false c.take_alone.new.row.items c.self.inside.lines.items)
    (alone-got c.self.inside.need false c.take_alone.new.row.items c.self.inside.lines.items (inl c.in-One.is) ∙ row-emptied c.self.inside c.args.self.now c.take_alone.new.row.items c.self.invariant c.self.view_is c.take_alone.ensures.empty c.take_alone.ensures.counted)
    (ap (λ (t : Standing Token). t.need) c.self.view_is ∙ c.requires.same) c.self.view_is

pub invariant_of-self-in-Over : goal.invariant_of-self-in-Over
invariant_of-self-in-Over c = record {
  row = c.self.invariant.row ∙ sym c.in_ok-make_rooms-in-Over.ensures.counted;
  gathers = subst (λ m. Gathers c.self.inside.is_barrier m false 0 c.self.inside.filled c.self.inside.row.items c.make_rooms.new.lines.items) (sym (counts-need c.self.inside c.args.self.now c.args.counts.now c.self.view_is c.in-Over.is c.requires.same))
      (λ _. gathers-first c.self.inside.is_barrier c.args.counts.now c.make_rooms.new.lines.items (c.requires.places ∙ got-long c.self.inside c.args.self.now c.self.invariant c.self.view_is ∙ sym c.in_ok-make_rooms-in-Over.ensures.counted) (subst (λ v. HaveRoom c.self.inside.is_barrier v c.make_rooms.new.lines.items) c.as_slice.ensures c.in_ok-make_rooms-in-Over.ensures.rooms));
}

pub returns-in_ok-make_rooms-in-Over-clause-renewed : goal.returns-in_ok-make_rooms-in-Over-clause-renewed
returns-in_ok-make_rooms-in-Over-clause-renewed c =
    let n = counts-need c.self.inside c.args.self.now c.args.counts.now c.self.view_is c.in-Over.is c.requires.same in
    renewed-is c.self.inside c.args.self.now c.self.inside.need (machine.Counts c.args.counts.now) (got_in c.self.inside.need false c.self.inside.row.items c.make_rooms.new.lines.items)
    (counted-got c.self.inside.need c.args.counts.now false c.self.inside.row.items c.make_rooms.new.lines.items n refl ∙
    lines-emptied c.self.inside c.args.self.now c.make_rooms.new.lines.items c.self.invariant c.self.view_is (room-empty c.self.inside.is_barrier c.as_slice.result.now c.make_rooms.new.lines.items c.in_ok-make_rooms-in-Over.ensures.rooms) c.in_ok-make_rooms-in-Over.ensures.counted) (ap need_in n) c.self.view_is
