use Rattle.std.proofs.Common.{length, ap, sym, ◌∙◌}
use Rattle.pt_puts.proofs.LineLaws.{lines-long}
use Rattle.pt_process.proofs.ProcessLaws.{alone-long}
use Rattle.pt_process.proofs.StepLaws.{not-handed, lines-handed, hand-is, has-one, one-long, one-handed, one-handed-gathers}
use Rattle.pt_process.proofs.process.Process.hand.Goals as goal

pub invariant_of-self : goal.invariant_of-self
invariant_of-self c = record {
  row = ap (λ v. length v) c.hand_over.ensures.row ∙ lines-long c.self.inside.lines.items ∙ sym c.hand_over.ensures.lines;
  gathers = lines-handed c.self.inside.need c.self.inside.full c.hand_over.new.row.items c.hand_over.new.lines.items c.in-Over.is;
}

pub returns-in-Over : goal.returns-in-Over
returns-in-Over c =
    hand-is c.self.inside c.args.self.now c.hand_over.new.row.items c.hand_over.new.lines.items c.in-Over.is (not-handed c.self.inside c.args.self.now c.self.view_is c.requires) c.hand_over.ensures.row c.self.view_is

pub let_go_of_used-requires : goal.let_go_of_used-requires
let_go_of_used-requires c = one-long c.self.inside c.self.invariant c.in-One.is

pub invariant_of-self-in-One : goal.invariant_of-self-in-One
invariant_of-self-in-One c = record {
  row = ap (λ v. length v) c.let_go_of_used.ensures ∙ alone-long c.self.inside.is_handed c.self.inside.full c.self.inside.row.items (has-one c.self.inside c.self.invariant c.in-One.is) ∙ c.self.invariant.row;
  gathers = one-handed-gathers c.self.inside c.let_go_of_used.new.row.items c.self.invariant c.in-One.is c.let_go_of_used.ensures;
}

pub returns-in-One : goal.returns-in-One
returns-in-One c = one-handed c.self.inside c.args.self.now c.let_go_of_used.new.row.items c.self.view_is c.in-One.is c.let_go_of_used.ensures
