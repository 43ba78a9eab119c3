use Rattle.std.proofs.Common.{arith, map}
use Rattle.pt_directors.specs.Directors.{of_rendezvous}
use Rattle.pt_node.specs.Acts.{acts}
use Rattle.pt_node.specs.Shown.{shown}
use Rattle.pt_turns.proofs.Acting.{acts-law}
use Rattle.pt_turns.proofs.Loop.{asked-as, index-in, child-asked, child-fit, goes-on, in-turn}
use Rattle.pt_number_rows.proofs.meetings.fire_meetings.Goals as goal

pub loop-left-init : goal.loop-left-init
loop-left-init c = record { lowered = omega arith; so_far = λ before olds tag X allowance start a. a }

pub returns-then-left-eq0-clause-goes : goal.returns-then-left-eq0-clause-goes
returns-then-left-eq0-clause-goes c before olds tag X allowance start a = (omega (arith, c.if-left-eq0.true), c.loop-left.invariant.so_far before olds tag X allowance start a)

pub after_meetings-requires : goal.after_meetings-requires
after_meetings-requires c =
    let r = c.requires.1 in (map shown c.loop-left.children.items, (c.loop-left.left, (c.requires.0, record { before = r.before; olds = r.olds; inputs = r.inputs; allowance = r.allowance; start = r.start; at = c.loop-left.invariant.so_far r.before r.olds c.requires.0 r.inputs r.allowance r.start r.at })))

pub returns-in_default-clause-goes : goal.returns-in_default-clause-goes
returns-in_default-clause-goes c before olds tag X allowance start a = c.in-Some.ensures before olds tag X allowance start (map shown c.loop-left.children.items) c.loop-left.left (c.loop-left.invariant.so_far before olds tag X allowance start a)

pub returns-in-None-clause-goes : goal.returns-in-None-clause-goes
returns-in-None-clause-goes c before olds tag X allowance start a = c.in-None.ensures before olds tag X allowance start (map shown c.loop-left.children.items) c.loop-left.left (c.loop-left.invariant.so_far before olds tag X allowance start a)

pub index_mut-child-requires : goal.index_mut-child-requires
index_mut-child-requires c =
    let r = c.requires.1 in
    let h = index-in acts acts-law c.loop-left.children.items (asked-as acts acts-law c.in-Fire.is (c.in-Some.ensures r.before r.olds c.requires.0 r.inputs r.allowance r.start (map shown c.loop-left.children.items) c.loop-left.left (c.loop-left.invariant.so_far r.before r.olds c.requires.0 r.inputs r.allowance r.start r.at))) in
    grind (arith, h)

pub turn_with_records-requires-clause-asked : goal.turn_with_records-requires-clause-asked
turn_with_records-requires-clause-asked c =
    let r = c.requires.1 in
    child-asked acts acts-law c.loop-left.children.items (asked-as acts acts-law c.in-Fire.is (c.in-Some.ensures r.before r.olds c.requires.0 r.inputs r.allowance r.start (map shown c.loop-left.children.items) c.loop-left.left (c.loop-left.invariant.so_far r.before r.olds c.requires.0 r.inputs r.allowance r.start r.at))) c.index_mut-child.result.now c.index_mut-child.ensures.value

pub turn_with_records-requires-clause-fit : goal.turn_with_records-requires-clause-fit
turn_with_records-requires-clause-fit c =
    let r = c.requires.1 in
    child-fit acts acts-law c.loop-left.children.items (asked-as acts acts-law c.in-Fire.is (c.in-Some.ensures r.before r.olds c.requires.0 r.inputs r.allowance r.start (map shown c.loop-left.children.items) c.loop-left.left (c.loop-left.invariant.so_far r.before r.olds c.requires.0 r.inputs r.allowance r.start r.at))) c.index_mut-child.result.now c.index_mut-child.ensures.value

pub returns-in-Open-clause-goes : goal.returns-in-Open-clause-goes
returns-in-Open-clause-goes c before olds tag X allowance start a =
    in-turn acts acts-law c.loop-left.children.items (asked-as acts acts-law c.in-Fire.is (c.in-Some.ensures before olds tag X allowance start (map shown c.loop-left.children.items) c.loop-left.left (c.loop-left.invariant.so_far before olds tag X allowance start a))) c.index_mut-child.result.now c.index_mut-child.ensures.value c.turn_with_records.new.child c.in-Open.given (of_rendezvous c.turn_with_records.new.core) c.turn_with_records.new.left c.in-Open.ensures.goes.0 c.in-Open.ensures.spends (omega (arith, c.if-left-eq0.false)) c.in-Open.ensures.goes.1

pub loop-left-preserved : goal.loop-left-preserved
loop-left-preserved c = record {
  lowered = omega (arith, c.in_default-turn_with_records.ensures.spends, c.loop-left.invariant.lowered);
  so_far = λ before olds tag X allowance start a.
      goes-on acts acts-law c.loop-left.children.items (asked-as acts acts-law c.in-Fire.is (c.in-Some.ensures before olds tag X allowance start (map shown c.loop-left.children.items) c.loop-left.left (c.loop-left.invariant.so_far before olds tag X allowance start a))) c.index_mut-child.result.now c.index_mut-child.ensures.value
      c.turn_with_records.new.child (of_rendezvous c.turn_with_records.new.core) c.turn_with_records.new.left c.in_default-turn_with_records.ensures.goes c.in_default-turn_with_records.ensures.outline c.in_default-turn_with_records.ensures.counted (omega (arith, c.in_default-turn_with_records.ensures.spends));
}
