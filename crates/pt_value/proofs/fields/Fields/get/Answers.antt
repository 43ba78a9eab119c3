use Rattle.std.proofs.Common.{sym, ap, ◌∙◌, rules}
use Rattle.std.proofs.lemmas.Fn.{always_returns_same}
use Rattle.std.proofs.lemmas.List.Sorted.{searchable_from_sorted}
use Rattle.std.specs.Cmp.Lexicographic.{nat_list_cmp_total}
use Rattle.pt_value.specs.declared.fields.Field.{Field}
use Rattle.pt_value.specs.Record.{field_at}
use Rattle.pt_value.proofs.Names.{compare}
use Rattle.pt_value.proofs.Records.{field_at-found, field_at-split, IsSorted-from_IsRecord}
use Rattle.pt_value.proofs.fields.Fields.get.Goals as goal

pub returns-in-Ok : goal.returns-in-Ok
returns-in-Ok c =
    let p = rw c.deref.ensures.value at (c.in-Ok.ensures.position (λ (f : Field). compare f.name c.args.name.now) (always_returns_same _ _ _ (λ a r g k. (search rules, search rules)))) in
    sym (field_at-found c.self.inside.fields.items c.args.name.now c.in-Ok.at c.index.result.now c.self.invariant (rw c.deref.ensures.value at c.in-Ok.ensures.bound) c.index.ensures p) ∙ ap (λ fs. field_at fs c.args.name.now) c.self.view_is

pub returns-in-Err : goal.returns-in-Err
returns-in-Err c =
    let p = rw c.deref.ensures.value at (c.in-Err.ensures.position (λ (f : Field). compare f.name c.args.name.now) (always_returns_same _ _ _ (λ a r g k. (search rules, search rules)))) in
    sym (field_at-split c.self.inside.fields.items c.args.name.now c.in-Err.field-0 (p (searchable_from_sorted nat_list_cmp_total (λ (f : Field). f.name) c.self.inside.fields.items c.args.name.now (IsSorted-from_IsRecord c.self.inside.fields.items c.self.invariant)))) ∙ ap (λ fs. field_at fs c.args.name.now) c.self.view_is
