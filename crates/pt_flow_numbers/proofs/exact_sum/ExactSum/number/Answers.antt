use Rattle.std.proofs.Common.{◌≡◌, ◌+ℤ◌, SomeIff, FitsSigned, to_z, of_z, w64, subst, ◌∙◌, arith}
use Rattle.std.proofs.lemmas.Int.{to_z-of_z}
use Rattle.pt_flow_numbers.proofs.exact_sum.ExactSum.number.Goals as goal

pub returns : goal.returns
returns c =
    let m = c.self.inside.first in
    let n = c.self.inside.second in
    let passed : to_z w64 (of_z w64 m) +ℤ to_z w64 (of_z w64 n) ≡ m +ℤ n = grind (arith, to_z-of_z) in
    subst (λ s. SomeIff c.checked_add.result (FitsSigned w64 s) s) (passed ∙ c.self.view_is) c.checked_add.ensures
