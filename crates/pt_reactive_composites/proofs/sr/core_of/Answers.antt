use Rattle.std.proofs.Common.{◌≡◌, ◌<◌, ◌^◌, Bool, List, length, map, sym, subst, refl, ℕ, IfOk}
use Rattle.pt_meaning.specs.Valuation.{TickPlan}
use Rattle.pt_sr.specs.declared.plan.CorePlan.{CorePlan}
use Rattle.pt_sr.specs.State.{started}
use Rattle.pt_node.specs.Shown.{shown}
use Rattle.pt_node.specs.View.{Tree}
use Rattle.pt_trees.specs.Around.{around_of}
use Rattle.pt_trees.specs.Sr.{tick_plan}
use Rattle.pt_trees.specs.Composite.{trees_of}
use Rattle.pt_wired.proofs.WiredLaws.{plan-is, lawful}
use Rattle.pt_reactive_composites.proofs.sr.core_of.Goals as goal

pub order_of-requires : goal.order_of-requires
order_of-requires c = subst (λ (v : List ℕ). length v < 2 ^ 32) (sym c.as_slice.ensures) c.requires.fewer

pub new-requires : goal.new-requires
new-requires c =
    let kids : List Tree = trees_of (map shown c.args.children.now) in
    let p : CorePlan = record { sources = c.args.wiring.sources; places = c.args.wiring.places; outputs = c.in_ok-outputs.outputs; nonstrict = c.in_ok-nonstrict.nonstrict; takes = c.in_ok-takes.takes; order = c.in_ok-order.order } in
    record { lawful = lawful c.args.wiring kids p c.requires refl refl c.in_ok-takes.ensures c.in_ok-nonstrict.ensures }

pub returns : goal.returns
returns c =
    let kids : List Tree = trees_of (map shown c.args.children.now) in
    let p : CorePlan = record { sources = c.args.wiring.sources; places = c.args.wiring.places; outputs = c.in_ok-outputs.outputs; nonstrict = c.in_ok-nonstrict.nonstrict; takes = c.in_ok-takes.takes; order = c.in_ok-order.order } in
    subst (λ (v : List Bool). IfOk c.new.result (λ core. core ≡ started (tick_plan (around_of c.args.wiring)) v)) c.in_ok-nonstrict.ensures
    (subst (λ (v : TickPlan). IfOk c.new.result (λ core. core ≡ started v c.in_ok-nonstrict.nonstrict.items)) (plan-is c.args.wiring kids p c.requires refl refl c.in_ok-takes.ensures c.in_ok-nonstrict.ensures) c.new.ensures)
