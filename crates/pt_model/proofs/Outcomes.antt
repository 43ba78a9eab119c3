-- What is known of an answer that is told to be good.
use Rattle.std.specs.Prelude.{◌≡◌, refl, Result, Ok, Err, IfOk}
use Rattle.std.proofs.Common.{subst}

-- a fact of each value that the answer has, is one of the answer
pub on-ok : {A E : Type 0} {Q : A → Type 0} (r : Result A E) → ((a : A) → r ≡ Ok a → Q a) → IfOk r Q
on-ok (Ok a) f = f a refl
on-ok (Err e) f = tt

-- and the other way round
pub at-ok : {A E : Type 0} (P : A → Type 0) {r : Result A E} {a : A} → r ≡ Ok a → IfOk r P → P a
at-ok P is p = subst (λ r. IfOk r P) is p
