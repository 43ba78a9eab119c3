use Rattle.std.proofs.Common.{ℕ, Option, sym, ap, ◌∙◌}
use Rattle.pt_machine.specs.Children.{marked}
use Rattle.pt_machines.proofs.children.mark.Goals as goal

pub returns-in-Some : goal.returns-in-Some
returns-in-Some c = c.mark_one.ensures ∙ ap (λ (o : Option ℕ). marked o c.args.parted.now.items) (sym c.in-Some.is)

pub returns-in-None : goal.returns-in-None
returns-in-None c = ap (λ (o : Option ℕ). marked o c.args.parted.now.items) (sym c.in-None.is)
