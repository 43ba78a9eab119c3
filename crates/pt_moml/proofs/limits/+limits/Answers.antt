use Rattle.std.proofs.Common.{◌≡◌, ◌-◌, ◌||◌, eqb, true, false, Some, None, sym, ap, ◌∙◌, arith}
use Rattle.std.proofs.lemmas.Bool.Decides.{nat_tests}
use Rattle.pt_moml.specs.Limits.{room_behind, nest_field}
use Rattle.pt_moml.proofs.Nests.{full, stops, goes_on, is_done}
use Rattle.pt_moml.proofs.limits.+limits.Goals as goal

pub room_behind_items-returns-then-left-eq0 : goal.room_behind_items-returns-then-left-eq0
room_behind_items-returns-then-left-eq0 t c =
    let test : (eqb c.loop-item.left 0 || eqb c.args.levels 0) ≡ true = grind (arith, nat_tests, c.then-left-eq0.either) in
    full c.args.items.now c.loop-item.item-index c.item-item.result c.loop-item-test.true c.item-item.is c.args.levels c.loop-item.left _ c.loop-item.invariant test

pub room_behind_items-returns-in_err-left : goal.room_behind_items-returns-in_err-left
room_behind_items-returns-in_err-left t c =
    let test : (eqb c.loop-item.left 0 || eqb c.args.levels 0) ≡ false = grind (arith, nat_tests, c.if-left-eq0.false, c.if-levels-eq0.false) in
    let inner : room_behind (c.args.levels - 1) (c.loop-item.left - 1) (nest_field _) ≡ None = sym (ap (λ f. room_behind (c.args.levels - 1) (c.loop-item.left - 1) (nest_field f)) c.get.ensures) ∙ sym c.in_err-left.ensures in
    c.from_residual.ensures ∙ stops c.args.items.now c.loop-item.item-index c.item-item.result c.loop-item-test.true c.item-item.is c.args.levels c.loop-item.left _ c.loop-item.invariant test inner

pub room_behind_items-loop-item-preserved : goal.room_behind_items-loop-item-preserved
room_behind_items-loop-item-preserved t c =
    let test : (eqb c.loop-item.left 0 || eqb c.args.levels 0) ≡ false = grind (arith, nat_tests, c.if-left-eq0.false, c.if-levels-eq0.false) in
    let inner : room_behind (c.args.levels - 1) (c.loop-item.left - 1) (nest_field _) ≡ Some c.in_ok-left.left = sym (ap (λ f. room_behind (c.args.levels - 1) (c.loop-item.left - 1) (nest_field f)) c.get.ensures) ∙ sym c.in_ok-left.ensures in
    goes_on c.args.items.now c.loop-item.item-index c.item-item.result c.loop-item-test.true c.item-item.is c.args.levels c.loop-item.left _ c.loop-item.invariant c.in_ok-left.left test inner

pub room_behind_items-returns : goal.room_behind_items-returns
room_behind_items-returns t c = is_done c.args.items.now c.loop-item.item-index c.args.levels c.loop-item.left _ c.loop-item-test.false c.loop-item.invariant
