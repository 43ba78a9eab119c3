use Rattle.std.proofs.Common.{arith, ap, sym, subst, ◌∙◌, None}
use Rattle.pt_directors.specs.Directors.{of_sdf}
use Rattle.pt_node.specs.Acts.{acts}
use Rattle.pt_node.specs.Shown.{shown_node}
use Rattle.pt_stretches.specs.Stretches.{StretchTo}
use Rattle.pt_turns.proofs.Acting.{acts-law}
use Rattle.pt_turns.proofs.Loop.{index-in, child-asked, child-fit, in-turn, halts-in}
use Rattle.pt_stretches.proofs.Together.{turn-asked, row-goes-on}
use Rattle.pt_rows.proofs.stretches.fire_stretches.Goals as goal

pub loop-number-init : goal.loop-number-init
loop-number-init c = record { lowered = omega arith; so_far = λ before olds tag X allowance own a. a }

pub fire_numbers-requires : goal.fire_numbers-requires
fire_numbers-requires c = let r = c.requires.1 in (c.requires.0, record { before = r.before; olds = r.olds; inputs = r.inputs; allowance = r.allowance; own = r.own; at = c.loop-number.invariant.so_far r.before r.olds c.requires.0 r.inputs r.allowance r.own r.at })

pub returns-in_default : goal.returns-in_default
returns-in_default c = record {
  lowered = omega (arith, c.fire_numbers.ensures.lowered, c.loop-number.invariant.lowered);
  goes = λ before olds tag X allowance own a. c.fire_numbers.ensures.goes before olds tag X allowance own (c.loop-number.invariant.so_far before olds tag X allowance own a);
}

pub returns-then-is_some-clause-goes : goal.returns-then-is_some-clause-goes
returns-then-is_some-clause-goes c before olds tag X allowance own a = c.in-Turn.ensures.goes before olds tag X allowance own (c.loop-number.invariant.so_far before olds tag X allowance own a)

pub index_mut-child-requires : goal.index_mut-child-requires
index_mut-child-requires c =
    let r = c.requires.1 in
    let h = index-in acts acts-law c.fire_numbers.new.children.items (turn-asked c.in-Turn.given (sym c.is_some.ensures ∙ c.if-is_some.false) (c.in-Turn.ensures.goes r.before r.olds c.requires.0 r.inputs r.allowance r.own (c.loop-number.invariant.so_far r.before r.olds c.requires.0 r.inputs r.allowance r.own r.at))) in
    grind (arith, h)

pub fire_stretch-requires-clause-asked : goal.fire_stretch-requires-clause-asked
fire_stretch-requires-clause-asked c =
    let r = c.requires.1 in
    child-asked acts acts-law c.fire_numbers.new.children.items (turn-asked c.in-Turn.given (sym c.is_some.ensures ∙ c.if-is_some.false) (c.in-Turn.ensures.goes r.before r.olds c.requires.0 r.inputs r.allowance r.own (c.loop-number.invariant.so_far r.before r.olds c.requires.0 r.inputs r.allowance r.own r.at))) c.index_mut-child.result.now c.index_mut-child.ensures.value

pub fire_stretch-requires-clause-fit : goal.fire_stretch-requires-clause-fit
fire_stretch-requires-clause-fit c =
    let r = c.requires.1 in
    child-fit acts acts-law c.fire_numbers.new.children.items (turn-asked c.in-Turn.given (sym c.is_some.ensures ∙ c.if-is_some.false) (c.in-Turn.ensures.goes r.before r.olds c.requires.0 r.inputs r.allowance r.own (c.loop-number.invariant.so_far r.before r.olds c.requires.0 r.inputs r.allowance r.own r.at))) c.index_mut-child.result.now c.index_mut-child.ensures.value

pub returns-in-Ok-false-clause-goes : goal.returns-in-Ok-false-clause-goes
returns-in-Ok-false-clause-goes c before olds tag X allowance own a =
    let made = subst (λ b. StretchTo c.fire_numbers.new.core (shown_node c.index_mut-child.result.now) c.in-Turn.number c.in-Turn.when c.fire_numbers.new.left b c.fire_stretch.new.core (shown_node c.fire_stretch.new.child) c.fire_stretch.new.left) c.in-Ok-false.field-0-test c.in-Ok-false.ensures.made in
    let t = c.in-Turn.ensures.goes before olds tag X allowance own (c.loop-number.invariant.so_far before olds tag X allowance own a) in
    in-turn acts acts-law c.fire_numbers.new.children.items (turn-asked c.in-Turn.given (sym c.is_some.ensures ∙ c.if-is_some.false) (c.in-Turn.ensures.goes before olds tag X allowance own (c.loop-number.invariant.so_far before olds tag X allowance own a))) c.index_mut-child.result.now c.index_mut-child.ensures.value c.fire_stretch.new.child None (of_sdf c.fire_stretch.new.core) c.fire_stretch.new.left (ap (λ s. of_sdf s) made.0) made.2 t.some made.1

pub returns-in-Err-clause-goes : goal.returns-in-Err-clause-goes
returns-in-Err-clause-goes c before olds tag X allowance own a =
    halts-in acts acts-law c.fire_numbers.new.children.items (turn-asked c.in-Turn.given (sym c.is_some.ensures ∙ c.if-is_some.false) (c.in-Turn.ensures.goes before olds tag X allowance own (c.loop-number.invariant.so_far before olds tag X allowance own a))) c.index_mut-child.result.now c.index_mut-child.ensures.value c.fire_stretch.new.child (of_sdf c.fire_stretch.new.core) c.fire_stretch.new.left (ap (λ s. of_sdf s) c.in-Err.ensures.kept) c.in-Err.ensures.unspent c.in-Err.ensures.records

pub loop-number-preserved : goal.loop-number-preserved
loop-number-preserved c =
    let made = subst (λ b. StretchTo c.fire_numbers.new.core (shown_node c.index_mut-child.result.now) c.in-Turn.number c.in-Turn.when c.fire_numbers.new.left b c.fire_stretch.new.core (shown_node c.fire_stretch.new.child) c.fire_stretch.new.left) c.in-Ok-true.field-0-test c.in-Ok-true.ensures.made in
    record {
      lowered = omega (arith, made.spends, c.fire_numbers.ensures.lowered, c.loop-number.invariant.lowered);
      so_far = λ before olds tag X allowance own a. row-goes-on c.fire_numbers.new.children.items (turn-asked c.in-Turn.given (sym c.is_some.ensures ∙ c.if-is_some.false) (c.in-Turn.ensures.goes before olds tag X allowance own (c.loop-number.invariant.so_far before olds tag X allowance own a))) c.index_mut-child.result.now c.index_mut-child.ensures.value c.fire_stretch.new.child c.fire_stretch.new.core c.fire_stretch.new.left made;
    }

pub loop-number-smaller : goal.loop-number-smaller
loop-number-smaller c =
    let made = subst (λ b. StretchTo c.fire_numbers.new.core (shown_node c.index_mut-child.result.now) c.in-Turn.number c.in-Turn.when c.fire_numbers.new.left b c.fire_stretch.new.core (shown_node c.fire_stretch.new.child) c.fire_stretch.new.left) c.in-Ok-true.field-0-test c.in-Ok-true.ensures.made in
    omega (arith, made.spends, c.fire_numbers.ensures.lowered)
