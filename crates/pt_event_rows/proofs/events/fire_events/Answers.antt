use Rattle.std.proofs.Common.{None, arith}
use Rattle.pt_node.specs.Acts.{acts}
use Rattle.pt_directors.specs.Directors.{of_de}
use Rattle.pt_turns.proofs.Acting.{acts-law}
use Rattle.pt_turns.proofs.Loop.{index-in, child-asked, child-fit, child-takes, goes-on, in-turn, halts-in}
use Rattle.pt_event_rows.proofs.events.fire_events.Goals as goal

pub loop-number-init : goal.loop-number-init
loop-number-init c = record { lowered = omega arith; so_far = λ before olds tag X allowance own a. a }

pub ask_on-requires : goal.ask_on-requires
ask_on-requires c =
    let r = c.requires.1 in (c.loop-number.left, (c.requires.0, record { before = r.before; olds = r.olds; inputs = r.inputs; allowance = r.allowance; own = r.own; at = c.loop-number.invariant.so_far r.before r.olds c.requires.0 r.inputs r.allowance r.own r.at }))

pub returns-in_default-clause-goes : goal.returns-in_default-clause-goes
returns-in_default-clause-goes c before olds tag X allowance own a = c.ask_on.ensures before olds tag X allowance own c.loop-number.left (c.loop-number.invariant.so_far before olds tag X allowance own a)

pub returns-then-left-eq0-clause-goes : goal.returns-then-left-eq0-clause-goes
returns-then-left-eq0-clause-goes c before olds tag X allowance own a = c.in-Fire.ensures before olds tag X allowance own c.loop-number.left (c.loop-number.invariant.so_far before olds tag X allowance own a)

pub index_mut-child-requires : goal.index_mut-child-requires
index_mut-child-requires c =
    let r = c.requires.1 in
    let h = index-in acts acts-law c.loop-number.children.items (c.in-Fire.ensures r.before r.olds c.requires.0 r.inputs r.allowance r.own c.loop-number.left (c.loop-number.invariant.so_far r.before r.olds c.requires.0 r.inputs r.allowance r.own r.at)) in
    grind (arith, h)

pub turn_of_signal-requires-clause-asked : goal.turn_of_signal-requires-clause-asked
turn_of_signal-requires-clause-asked c =
    let r = c.requires.1 in
    child-asked acts acts-law c.loop-number.children.items (c.in-Fire.ensures r.before r.olds c.requires.0 r.inputs r.allowance r.own c.loop-number.left (c.loop-number.invariant.so_far r.before r.olds c.requires.0 r.inputs r.allowance r.own r.at)) c.index_mut-child.result.now c.index_mut-child.ensures.value

pub turn_of_signal-requires-clause-fit : goal.turn_of_signal-requires-clause-fit
turn_of_signal-requires-clause-fit c =
    let r = c.requires.1 in
    child-fit acts acts-law c.loop-number.children.items (c.in-Fire.ensures r.before r.olds c.requires.0 r.inputs r.allowance r.own c.loop-number.left (c.loop-number.invariant.so_far r.before r.olds c.requires.0 r.inputs r.allowance r.own r.at)) c.index_mut-child.result.now c.index_mut-child.ensures.value

pub turn_of_signal-requires-clause-takes : goal.turn_of_signal-requires-clause-takes
turn_of_signal-requires-clause-takes c =
    let r = c.requires.1 in
    child-takes acts acts-law c.loop-number.children.items (c.in-Fire.ensures r.before r.olds c.requires.0 r.inputs r.allowance r.own c.loop-number.left (c.loop-number.invariant.so_far r.before r.olds c.requires.0 r.inputs r.allowance r.own r.at)) c.index_mut-child.result.now c.index_mut-child.ensures.value

pub returns-in-Open-clause-goes : goal.returns-in-Open-clause-goes
returns-in-Open-clause-goes c before olds tag X allowance own a =
    in-turn acts acts-law c.loop-number.children.items (c.in-Fire.ensures before olds tag X allowance own c.loop-number.left (c.loop-number.invariant.so_far before olds tag X allowance own a)) c.index_mut-child.result.now c.index_mut-child.ensures.value c.turn_of_signal.new.child None (of_de c.turn_of_signal.new.core) c.turn_of_signal.new.left c.in-Open.ensures.goes.0 c.in-Open.ensures.spends (omega (arith, c.if-left-eq0.false)) c.in-Open.ensures.goes.1

pub returns-in-Memory-clause-goes : goal.returns-in-Memory-clause-goes
returns-in-Memory-clause-goes c before olds tag X allowance own a =
    halts-in acts acts-law c.loop-number.children.items (c.in-Fire.ensures before olds tag X allowance own c.loop-number.left (c.loop-number.invariant.so_far before olds tag X allowance own a)) c.index_mut-child.result.now c.index_mut-child.ensures.value c.turn_of_signal.new.child (of_de c.turn_of_signal.new.core) c.turn_of_signal.new.left c.in-Memory.ensures.goes.0 c.in-Memory.ensures.spends c.in-Memory.ensures.goes.1

pub loop-number-preserved : goal.loop-number-preserved
loop-number-preserved c = record {
  lowered = omega (arith, c.in-Done.ensures.spends, c.loop-number.invariant.lowered);
  so_far = λ before olds tag X allowance own a.
      goes-on acts acts-law c.loop-number.children.items (c.in-Fire.ensures before olds tag X allowance own c.loop-number.left (c.loop-number.invariant.so_far before olds tag X allowance own a)) c.index_mut-child.result.now c.index_mut-child.ensures.value
      c.turn_of_signal.new.child (of_de c.turn_of_signal.new.core) c.turn_of_signal.new.left c.in-Done.ensures.goes c.in-Done.ensures.outline c.in-Done.ensures.counted (omega (arith, c.in-Done.ensures.spends));
}
