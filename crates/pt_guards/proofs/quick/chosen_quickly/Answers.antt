use Rattle.std.proofs.Common.{◌≡◌, ◌+◌, ◌∙◌, drop, ap, sym}
use Rattle.pt_meaning.specs.Modal.{chosen}
use Rattle.pt_guards.specs.declared.choosing.Enabled.{Enabled}
use Rattle.pt_chart.specs.Names.{names_in}
use Rattle.pt_guards.specs.Choose.{tests_in, joined}
use Rattle.pt_guards.specs.Reads.{reads_view}
use Rattle.pt_guards.proofs.PlacedLaws.{after, guard-next, all-guards}
use Rattle.pt_guards.proofs.quick.chosen_quickly.Goals as goal
use Rattle.pt_guards.proofs.quick.chosen_quickly.Goals.{then-branch, else-branch}

pub loop-number-preserved : goal.loop-number-preserved
loop-number-preserved c table ts says =
    let s = names_in table (reads_view c.args.reads.now) in
    let n = c.loop-number.number in
    let e = c.loop-number.enabled in
    let b = c.in_ok-test.field-0 in
    let made : after b e n ≡ c.if-branch.enabled = elim c.if-branch.branch [
      | then-branch w ↦ ap (λ t. after t e n) w.if-branch.true ∙ sym w.with-enabled.ensures ∙ sym w.enabled-is
      | else-branch w ↦ ap (λ t. after t e n) w.if-branch.false ∙ sym w.enabled-is
    ] in
    c.loop-number.invariant table ts says
    ∙ guard-next table s c.args.transitions.now ts n c.index-transitions-number.result e b says c.loop-number-test.true c.index-transitions-number.is (λ tree told. c.in_ok-test.ensures table tree told)
    ∙ ap (λ (x : Enabled). joined x (chosen (n + 1) (drop (n + 1) (tests_in s ts)))) made

pub returns : goal.returns
returns c table ts says =
    let s = names_in table (reads_view c.args.reads.now) in
    let n = c.loop-number.number in
    c.choice.ensures
    ∙ sym (c.loop-number.invariant table ts says ∙ ap (λ us. joined c.loop-number.enabled (chosen n us)) (all-guards table s c.args.transitions.now ts n says c.loop-number-test.false))
