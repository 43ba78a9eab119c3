-- A list that is repeated, one time after another.
use Rattle.std.proofs.Common.{◌≡◌, ℕ, ◌+◌, zero, suc, List, ◌++◌, sym, ap, ◌∙◌, add-one}
use Rattle.std.proofs.lemmas.List.{append_assoc, append-nil}
use Rattle.pt_flow_base.specs.Rates.{repeated}

repeated-again : {T : Type 0} (n : ℕ) (xs : List T) → repeated n xs ++ xs ≡ repeated (suc n) xs
repeated-again zero xs = sym (append-nil xs)
repeated-again (suc n) xs = append_assoc xs (repeated n xs) xs ∙ ap (λ ys. xs ++ ys) (repeated-again n xs)

pub repeated-more : {T : Type 0} (n : ℕ) (xs : List T) → repeated n xs ++ xs ≡ repeated (n + 1) xs
repeated-more n xs = repeated-again n xs ∙ ap (λ m. repeated m xs) (sym (add-one n))
