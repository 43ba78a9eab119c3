use Rattle.std.proofs.Common.{inr, sym, ap, subst, false, None, ◌∙◌}
use Rattle.pt_meaning.specs.Machine as machine
use Rattle.pt_puts.specs.declared.need.KeptNeed.TheVariants.{Any}
use Rattle.pt_rv_parts.specs.Process.{Gathers, got_in}
use Rattle.pt_puts.specs.Need.{need_in}
use Rattle.pt_rv_parts.proofs.StepLaws.{renewed-is, row-emptied, any-need, alone-got}
use Rattle.pt_rv_parts.proofs.process.Process.any_again.Goals as goal

pub take_alone-requires : goal.take_alone-requires
take_alone-requires c =
    subst (λ m. Gathers c.self.inside.is_barrier m c.self.inside.is_handed c.self.inside.full c.self.inside.filled c.self.inside.row.items c.self.inside.lines.items) (any-need c.self.inside c.args.self.now c.self.view_is c.requires.same) c.self.invariant.gathers

pub invariant_of-self : goal.invariant_of-self
invariant_of-self c = record {
  row = c.take_alone.ensures.counted ∙ c.self.invariant.row;
  gathers = subst (λ f. Gathers c.self.inside.is_barrier c.self.inside.need false c.self.inside.full f c.take_alone.new.row.items c.self.inside.lines.items) (sym c.take_alone.ensures.filled)
      (subst (λ m. Gathers c.self.inside.is_barrier m false c.self.inside.full None c.take_alone.new.row.items c.self.inside.lines.items) (sym (any-need c.self.inside c.args.self.now c.self.view_is c.requires.same)) c.take_alone.ensures.empty);
}

pub returns : goal.returns
returns c =
    let n = any-need c.self.inside c.args.self.now c.self.view_is c.requires.same in
    renewed-is c.self.inside c.args.self.now c.self.inside.need machine.Any (got_in c.self.inside.need false c.take_alone.new.row.items c.self.inside.lines.items)
    (alone-got c.self.inside.need false c.take_alone.new.row.items c.self.inside.lines.items (inr n) ∙ row-emptied c.self.inside c.args.self.now c.take_alone.new.row.items c.self.invariant c.self.view_is c.take_alone.ensures.empty c.take_alone.ensures.counted) (ap need_in n) c.self.view_is
