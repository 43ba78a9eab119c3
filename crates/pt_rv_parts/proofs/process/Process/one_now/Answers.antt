use Rattle.std.proofs.Common.{◌∷◌, [], refl, sym, ◌∙◌}
use Rattle.pt_meaning.specs.Machine as machine
use Rattle.pt_puts.specs.declared.need.KeptNeed.TheVariants.{One}
use Rattle.pt_rv_parts.proofs.StepLaws.{renewed-is, row-emptied, got-long}
use Rattle.pt_rv_parts.proofs.process.Process.one_now.Goals as goal

pub invariant_of-self : goal.invariant_of-self
invariant_of-self c = record {
  row = c.empty_row_again.ensures.counted ∙ c.self.invariant.row;
  gathers = (c.empty_row_again.ensures.counted ∙ c.self.invariant.row ∙ sym (got-long c.self.inside c.args.self.now c.self.invariant c.self.view_is) ∙ c.requires.place, c.empty_row_again.ensures.empty);
}

pub returns : goal.returns
returns c =
    renewed-is c.self.inside c.args.self.now One (machine.Counts (1 ∷ [])) c.empty_row_again.new.row.items
    (row-emptied c.self.inside c.args.self.now c.empty_row_again.new.row.items c.self.invariant c.self.view_is c.empty_row_again.ensures.empty c.empty_row_again.ensures.counted) refl c.self.view_is
