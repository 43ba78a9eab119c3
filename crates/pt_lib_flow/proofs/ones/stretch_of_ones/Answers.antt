use Rattle.std.proofs.Common.{sym, subst, ◌∙◌}
use Rattle.pt_flow_base.specs.Number.{GivesStretch}
use Rattle.pt_flow_base.proofs.InTurn.{stretch-none}
use Rattle.pt_lib_flow.proofs.ones.stretch_of_ones.Goals as goal

pub returns-then-rate-ne1 : goal.returns-then-rate-ne1
returns-then-rate-ne1 g c = stretch-none g.A.Fires.step c.args.actor.now c.args.inputs.now c.args.rate c.clear.new.self.items c.clear.ensures.items

pub returns-then-is_err : goal.returns-then-is_err
returns-then-is_err g c = stretch-none g.A.Fires.step c.args.actor.now c.args.inputs.now c.args.rate c.reserve.new.self.items (c.reserve.ensures.items ∙ c.clear.ensures.items)

pub returns : goal.returns
returns g c =
    subst (λ X. GivesStretch g.A.Fires.step c.args.actor.now X c.args.rate c.put_ones-made.result c.put_ones-made.new.given.items c.put_ones-made.new.actor) c.same.ensures
    (subst (λ rate. GivesStretch g.A.Fires.step c.args.actor.now c.same.result rate c.put_ones-made.result c.put_ones-made.new.given.items c.put_ones-made.new.actor) (sym c.if-rate-ne1.false) c.put_ones-made.ensures)
