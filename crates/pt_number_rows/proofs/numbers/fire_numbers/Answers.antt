use Rattle.std.proofs.Common.{arith, map}
use Rattle.pt_node.specs.Acts.{acts}
use Rattle.pt_node.specs.Shown.{shown}
use Rattle.pt_turns.proofs.Acting.{acts-law}
use Rattle.pt_turns.proofs.Loop.{index-in, child-asked, child-fit, goes-on, in-turn}
use Rattle.pt_number_rows.proofs.numbers.fire_numbers.Goals as goal

pub asked-requires : goal.asked-requires
asked-requires g c =
    let r = c.requires.1 in (map shown c.loop-number.children.items, (c.loop-number.left, (c.requires.0, record { before = r.before; olds = r.olds; inputs = r.inputs; allowance = r.allowance; own = r.own; at = c.loop-number.invariant.so_far r.before r.olds c.requires.0 r.inputs r.allowance r.own r.at })))

pub returns-in_default-clause-goes : goal.returns-in_default-clause-goes
returns-in_default-clause-goes g c before olds tag X allowance own a = c.asked.ensures before olds tag X allowance own (map shown c.loop-number.children.items) c.loop-number.left (c.loop-number.invariant.so_far before olds tag X allowance own a)

pub returns-then-left-eq0-clause-goes : goal.returns-then-left-eq0-clause-goes
returns-then-left-eq0-clause-goes g c before olds tag X allowance own a = (c.in-Fire.ensures before olds tag X allowance own (map shown c.loop-number.children.items) c.loop-number.left (c.loop-number.invariant.so_far before olds tag X allowance own a))

pub index_mut-child-requires : goal.index_mut-child-requires
index_mut-child-requires g c = let h = index-in acts acts-law c.loop-number.children.items (c.in-Fire.ensures c.requires.1.before c.requires.1.olds c.requires.0 c.requires.1.inputs c.requires.1.allowance c.requires.1.own (map shown c.loop-number.children.items) c.loop-number.left (c.loop-number.invariant.so_far c.requires.1.before c.requires.1.olds c.requires.0 c.requires.1.inputs c.requires.1.allowance c.requires.1.own c.requires.1.at)) in grind (arith, h)

pub turn_of_number-requires-clause-asked : goal.turn_of_number-requires-clause-asked
turn_of_number-requires-clause-asked g c = child-asked acts acts-law c.loop-number.children.items (c.in-Fire.ensures c.requires.1.before c.requires.1.olds c.requires.0 c.requires.1.inputs c.requires.1.allowance c.requires.1.own (map shown c.loop-number.children.items) c.loop-number.left (c.loop-number.invariant.so_far c.requires.1.before c.requires.1.olds c.requires.0 c.requires.1.inputs c.requires.1.allowance c.requires.1.own c.requires.1.at)) c.index_mut-child.result.now c.index_mut-child.ensures.value

pub turn_of_number-requires-clause-fit : goal.turn_of_number-requires-clause-fit
turn_of_number-requires-clause-fit g c = child-fit acts acts-law c.loop-number.children.items (c.in-Fire.ensures c.requires.1.before c.requires.1.olds c.requires.0 c.requires.1.inputs c.requires.1.allowance c.requires.1.own (map shown c.loop-number.children.items) c.loop-number.left (c.loop-number.invariant.so_far c.requires.1.before c.requires.1.olds c.requires.0 c.requires.1.inputs c.requires.1.allowance c.requires.1.own c.requires.1.at)) c.index_mut-child.result.now c.index_mut-child.ensures.value

pub returns-in-Open-clause-goes : goal.returns-in-Open-clause-goes
returns-in-Open-clause-goes g c before olds tag X allowance own a =
    in-turn acts acts-law c.loop-number.children.items (c.in-Fire.ensures before olds tag X allowance own (map shown c.loop-number.children.items) c.loop-number.left (c.loop-number.invariant.so_far before olds tag X allowance own a)) c.index_mut-child.result.now c.index_mut-child.ensures.value c.turn_of_number.new.child c.in-Open.given (g.C.NumberCore.director c.turn_of_number.new.core) c.turn_of_number.new.left c.in-Open.ensures.goes.0 c.in-Open.ensures.spends (omega (arith, c.if-left-eq0.false)) c.in-Open.ensures.goes.1

pub loop-number-init : goal.loop-number-init
loop-number-init g c = record { lowered = omega arith; so_far = λ before olds tag X allowance own a. a }

pub loop-number-preserved : goal.loop-number-preserved
loop-number-preserved g c = record {
  lowered = omega (arith, c.in_default-turn_of_number.ensures.spends, c.loop-number.invariant.lowered);
  so_far = λ before olds tag X allowance own a.
      goes-on acts acts-law c.loop-number.children.items (c.in-Fire.ensures before olds tag X allowance own (map shown c.loop-number.children.items) c.loop-number.left (c.loop-number.invariant.so_far before olds tag X allowance own a)) c.index_mut-child.result.now c.index_mut-child.ensures.value
      c.turn_of_number.new.child (g.C.NumberCore.director c.turn_of_number.new.core) c.turn_of_number.new.left c.in_default-turn_of_number.ensures.goes c.in_default-turn_of_number.ensures.outline c.in_default-turn_of_number.ensures.counted (omega (arith, c.in_default-turn_of_number.ensures.spends));
}
