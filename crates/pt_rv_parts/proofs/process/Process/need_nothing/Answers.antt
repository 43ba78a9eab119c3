use Rattle.std.proofs.Common.{refl, sym, ◌∙◌}
use Rattle.pt_meaning.specs.Machine as machine
use Rattle.pt_reaction.specs.Channels.{lists_of}
use Rattle.pt_puts.specs.declared.need.KeptNeed.TheVariants.{Over}
use Rattle.pt_rv_parts.proofs.StepLaws.{renewed-is, lines-emptied}
use Rattle.pt_rv_parts.proofs.process.Process.need_nothing.Goals as goal

pub invariant_of-self : goal.invariant_of-self
invariant_of-self c = record {
  row = c.self.invariant.row ∙ sym c.empty_lines_again.ensures.counted;
  gathers = tt;
}

pub returns : goal.returns
returns c =
    renewed-is c.self.inside c.args.self.now Over machine.Over (lists_of c.empty_lines_again.new.lines.items)
    (lines-emptied c.self.inside c.args.self.now c.empty_lines_again.new.lines.items c.self.invariant c.self.view_is c.empty_lines_again.ensures.empty c.empty_lines_again.ensures.counted) refl c.self.view_is
