use Rattle.std.proofs.Common.{◌≡◌, ◌≤◌, ℕ, length, nat_lt, false, rules, sym, ap, ◌∙◌, arith}
use Rattle.std.proofs.lemmas.Bool.Decides.{nat_tests}
use Rattle.pt_meaning.specs.Valuation.{is_known}
use Rattle.pt_lib_time.proofs.Early.{known-past}
use Rattle.pt_lib_time.proofs.signal.is_known.Goals as goal

not-below : (a b : ℕ) → b ≤ a → nat_lt a b ≡ false
not-below a b e = first_of (grind (arith, nat_tests), search rules)

pub returns-else-place-places : goal.returns-else-place-places
returns-else-place-places c =
    let past : length c.args.partial.now ≤ c.args.place = omega arith in
    not-below c.args.place c.places.result (omega arith) ∙ ap (λ v. is_known v) (sym (known-past c.args.partial.now c.args.place past))
