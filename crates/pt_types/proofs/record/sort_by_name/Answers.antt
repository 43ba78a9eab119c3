use Rattle.std.proofs.Common.{is_lt, rules}
use Rattle.std.specs.Ordering.{nat_cmp}
use Rattle.std.specs.Cmp.Lexicographic.{slice_cmp, nat_list_cmp_total}
use Rattle.std.proofs.lemmas.List.Sorted.{ranks_by, answers_always}
use Rattle.pt_types.specs.declared.record.FieldTy.{FieldTy}
use Rattle.pt_types.proofs.record.sort_by_name.Goals as goal

pub returns-clause-sorted : goal.returns-clause-sorted
returns-clause-sorted c =
    c.sort_unstable_by.ensures.sorted (λ (e f : FieldTy). is_lt (slice_cmp nat_cmp e.name f.name)) (ranks_by nat_list_cmp_total (λ (f : FieldTy). f.name)) (answers_always _ _ _ (λ f a r g h. search rules))
