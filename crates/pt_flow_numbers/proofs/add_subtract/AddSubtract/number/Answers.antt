use Rattle.std.proofs.Common.{◌≡◌, Some, ◌+ℤ◌, ◌-ℤ◌, SomeIff, FitsSigned, to_z, of_z, w64, ap, ◌∙◌, sym, subst, rules, arith}
use Rattle.std.proofs.lemmas.Int.{to_z-of_z}
use Rattle.pt_flow_base.specs.Row.{sum_of, number_at}
use Rattle.pt_flow_numbers.proofs.Pairs.{difference-of, sum-of, sum-given}
use Rattle.pt_flow_numbers.proofs.add_subtract.AddSubtract.number.Goals as goal

pub returns-in_ok-number_at-in-1-eq2-2 : goal.returns-in_ok-number_at-in-1-eq2-2
returns-in_ok-number_at-in-1-eq2-2 c =
    let a = c.args.self.now in
    let X = c.args.inputs.now in
    let m = c.in_ok-number_at-in-1-eq2.field-0 in
    let n = c.in_ok-number_at-in-1-eq2-2.field-0 in
    let first : number_at X 0 ≡ Some m = search rules in
    let second : number_at X 1 ≡ Some n = search rules in
    let passed : to_z w64 (of_z w64 m) -ℤ to_z w64 (of_z w64 n) ≡ m -ℤ n = grind (arith, to_z-of_z) in
    let told : SomeIff c.checked_sub.result (FitsSigned w64 (m -ℤ n)) (m -ℤ n) = subst (λ d. SomeIff c.checked_sub.result (FitsSigned w64 d) d) passed c.checked_sub.ensures in
    sum-given a X (m -ℤ n) c.checked_sub.result (ap (λ p. sum_of p X) c.in-1-eq2.is-0 ∙ difference-of X m n (sym c.places.ensures ∙ c.in-1-eq2.is-1) first second) told

pub returns-in_ok-number_at-in-2-eq2-2 : goal.returns-in_ok-number_at-in-2-eq2-2
returns-in_ok-number_at-in-2-eq2-2 c =
    let a = c.args.self.now in
    let X = c.args.inputs.now in
    let m = c.in_ok-number_at-in-2-eq2.field-0 in
    let n = c.in_ok-number_at-in-2-eq2-2.field-0 in
    let first : number_at X 0 ≡ Some m = search rules in
    let second : number_at X 1 ≡ Some n = search rules in
    let passed : to_z w64 (of_z w64 m) +ℤ to_z w64 (of_z w64 n) ≡ m +ℤ n = grind (arith, to_z-of_z) in
    let told : SomeIff c.checked_add.result (FitsSigned w64 (m +ℤ n)) (m +ℤ n) = subst (λ s. SomeIff c.checked_add.result (FitsSigned w64 s) s) passed c.checked_add.ensures in
    sum-given a X (m +ℤ n) c.checked_add.result (ap (λ p. sum_of p X) c.in-2-eq2.is-0 ∙ sum-of X m n (sym c.places.ensures ∙ c.in-2-eq2.is-1) first second) told
