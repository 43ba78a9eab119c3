use Rattle.std.proofs.Common.{◌&&◌, not, ap, ◌∙◌, sym, arith}
use Rattle.pt_de_parts.proofs.TurnLaws.{turn-there, waits-is}
use Rattle.pt_de_parts.proofs.turns.Turns.waits.Goals as goal

pub is_marked-over-requires : goal.is_marked-over-requires
is_marked-over-requires c = omega (arith, c.self.invariant, turn-there c.self.inside.answered c.self.inside.over c.args.self.now c.args.child c.self.invariant c.self.view_is c.requires)

pub is_marked-answered-requires : goal.is_marked-answered-requires
is_marked-answered-requires c = turn-there c.self.inside.answered c.self.inside.over c.args.self.now c.args.child c.self.invariant c.self.view_is c.requires

pub returns-then-over : goal.returns-then-over
returns-then-over c =
    ap (λ x. not x && not c.is_marked-answered.result) (sym c.if-over.true) ∙
    waits-is c.self.inside.answered c.self.inside.over c.args.self.now c.args.child c.is_marked-answered.result c.is_marked-over.result c.self.invariant c.self.view_is c.requires c.is_marked-answered.ensures c.is_marked-over.ensures

pub returns : goal.returns
returns c =
    ap (λ x. not x && not c.is_marked-answered.result) (sym c.if-over.false) ∙
    waits-is c.self.inside.answered c.self.inside.over c.args.self.now c.args.child c.is_marked-answered.result c.is_marked-over.result c.self.invariant c.self.view_is c.requires c.is_marked-answered.ensures c.is_marked-over.ensures
