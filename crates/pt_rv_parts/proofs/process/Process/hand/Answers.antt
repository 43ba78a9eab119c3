use Rattle.std.proofs.Common.{◌∙◌, sym, length, ap}
use Rattle.pt_puts.proofs.LineLaws.{lines-long}
use Rattle.pt_rv_parts.proofs.StepLaws.{hand-is, lines-handed, alone-handed, alone-handed-gathers}
use Rattle.pt_rv_parts.proofs.process.Process.hand.Goals as goal

pub invariant_of-self : goal.invariant_of-self
invariant_of-self c = record {
  row = ap (λ v. length v) c.hand_over.ensures.row ∙ lines-long c.self.inside.lines.items ∙ sym c.hand_over.ensures.lines;
  gathers = lines-handed c.self.inside.is_barrier c.self.inside.need c.self.inside.full c.self.inside.filled c.hand_over.new.row.items c.hand_over.new.lines.items c.in-Over.is;
}

pub returns-in-Over : goal.returns-in-Over
returns-in-Over c = hand-is c.self.inside c.args.self.now c.hand_over.new.row.items c.hand_over.new.lines.items c.self.view_is c.requires c.in-Over.is c.hand_over.ensures.row

pub invariant_of-self-in-One : goal.invariant_of-self-in-One
invariant_of-self-in-One c = record {
  row = c.self.invariant.row;
  gathers = alone-handed-gathers c.self.inside c.self.invariant c.in-One.is;
}

pub returns-in-One : goal.returns-in-One
returns-in-One c = alone-handed c.self.inside c.args.self.now c.self.view_is c.in-One.is
