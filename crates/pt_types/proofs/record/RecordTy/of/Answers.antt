use Rattle.std.proofs.Common.{length, IsPermutation, map, subst, sym, ap, ◌∙◌, ◌≡◌, arith}
use Rattle.std.proofs.lemmas.Grind.{common_steps}
use Rattle.std.proofs.lemmas.List.{length-map}
use Rattle.std.proofs.lemmas.List.Sorted.{All-permutation, IsPermutation-map, length_permutation}
use Rattle.pt_types.specs.declared.record.FieldTy.{FieldTy}
use Rattle.pt_value.specs.Name.{IsName}
use Rattle.pt_types.specs.Ty.{entry_of, entry_of_pair}
use Rattle.pt_types.proofs.Records.{IsRecordType-from_sorted, IsRepeated-from_sorted}
use Rattle.pt_types.proofs.record.RecordTy.of.Goals as goal

pub invariant_of-result : goal.invariant_of-result
invariant_of-result c =
    let same = c.in_ok-list.ensures.ok in
    let long : length c.in_ok-list.list.items ≡ length c.args.fields.items = sym (length-map c.in_ok-list.list.items entry_of) ∙ ap length same ∙ length-map c.args.fields.items entry_of_pair in
    IsRecordType-from_sorted c.sort_by_name.new.list.items (grind (arith, common_steps, length_permutation _ _ c.sort_by_name.ensures.permutation)) (All-permutation (λ (f : FieldTy). IsName f.name) _ _ c.sort_by_name.ensures.permutation c.in_ok-list.ensures.named) c.sort_by_name.ensures.sorted (rw c.deref.ensures.value at c.in-None.ensures.none)

pub returns-in-None-clause-lawful : goal.returns-in-None-clause-lawful
returns-in-None-clause-lawful c = invariant_of-result c

pub returns-in-None-clause-ok : goal.returns-in-None-clause-ok
returns-in-None-clause-ok c = subst (λ l. IsPermutation l (map entry_of c.sort_by_name.new.list.items)) c.in_ok-list.ensures.ok (IsPermutation-map entry_of _ _ c.sort_by_name.ensures.permutation)

pub returns-in-Some-clause-err : goal.returns-in-Some-clause-err
returns-in-Some-clause-err c =
    IsRepeated-from_sorted c.in_ok-list.list.items c.sort_by_name.new.list.items c.args.fields.items c.in-Some.at c.swap_remove.result c.in_ok-list.ensures.ok c.sort_by_name.ensures.permutation (rw c.deref.ensures.value at c.in-Some.ensures.some.0) (rw c.deref.ensures.value at c.in-Some.ensures.some.1) c.swap_remove.ensures.value
