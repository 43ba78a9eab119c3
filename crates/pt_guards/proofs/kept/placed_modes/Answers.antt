use Rattle.std.proofs.Common.{◌≡◌, ◌++◌, ◌∷◌, [], List, subst, sym, take, ◌+◌, rules}
use Rattle.pt_guards.specs.Placed.{Each, SaysMode}
use Rattle.pt_chart.specs.Views.{mode_view, names_view}
use Rattle.pt_guards.specs.declared.kept.PlacedMode.{PlacedMode}
use Rattle.pt_chart.specs.declared.written.Mode.{Mode}
use Rattle.pt_guards.proofs.PlacedLaws.{each-more, each-all}
use Rattle.pt_guards.proofs.kept.placed_modes.Goals as goal

pub loop-mode-preserved : goal.loop-mode-preserved
loop-mode-preserved c =
    let table = names_view c.args.names.now in
    let xs = c.args.modes.now in
    let n = c.loop-mode.mode-index in
    let p = c.in_ok-placed_mode.field-0 in
    let pushed : c.push.new.self.items ≡ c.loop-mode.placed.items ++ (p ∷ []) = first_of (cc, search rules) in
    subst (λ (ps : List PlacedMode). Each (λ (q : PlacedMode) (x : Mode). SaysMode table q (mode_view x)) ps (take (n + 1) xs)) (sym pushed)
    (each-more (λ (q : PlacedMode) (x : Mode). SaysMode table q (mode_view x)) c.loop-mode.placed.items xs n p c.mode-item.result c.loop-mode.invariant c.loop-mode-test.true c.mode-item.is c.in_ok-placed_mode.ensures)

pub returns : goal.returns
returns c =
    let table = names_view c.args.names.now in
    each-all (λ p x. SaysMode table p x) mode_view c.loop-mode.placed.items c.args.modes.now c.loop-mode.mode-index c.loop-mode.invariant c.loop-mode-test.false
