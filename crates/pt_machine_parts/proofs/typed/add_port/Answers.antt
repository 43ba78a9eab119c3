use Rattle.std.proofs.Common.{◌++◌, ◌∷◌, [], ℕ, List, map, sym, ap, ◌∙◌}
use Rattle.pt_datatypes.specs.Datatype.{Datatype}
use Rattle.pt_document.specs.View.{port_view}
use Rattle.pt_scopes.proofs.Turns.{view-push}
use Rattle.pt_types.specs.Entry.{typed_entry}
use Rattle.pt_typing.specs.Least.{assignment}
use Rattle.pt_typing.specs.declared.variable.Variable.TheVariants.{Port}
use Rattle.pt_machine.specs.Names.{is_along}
use Rattle.pt_machine_parts.proofs.ListLaws.{none-added, one-added}
use Rattle.pt_machine_parts.proofs.typed.add_port.Goals as goal

pub returns-then-not-is_along : goal.returns-then-not-is_along
returns-then-not-is_along c =
    none-added (map typed_entry c.args.list.now.items) (is_along c.args.direction (port_view c.args.port.now)) (c.args.port.now.name, (assignment c.args.typing.now).types (Port c.args.entity c.args.number)) (sym c.is_along.ensures ∙ c.if-not-is_along.true)

pub returns : goal.returns
returns c =
    let old = map typed_entry c.args.list.now.items in
    one-added old (map typed_entry c.push.new.self.items) (is_along c.args.direction (port_view c.args.port.now)) (c.args.port.now.name, (assignment c.args.typing.now).types (Port c.args.entity c.args.number)) (sym c.is_along.ensures ∙ c.if-not-is_along.false)
    (ap (map typed_entry) c.in_ok-push.ensures.items ∙ view-push typed_entry c.args.list.now.items c.in_ok-entry.entry ∙ ap (λ (e : List ℕ × Datatype). old ++ e ∷ []) c.in_ok-entry.ensures)
