-- A stretch behind those of an order.
use Rattle.std.proofs.Common.{◌≡◌, ℕ, suc, ◌+◌, ◌-◌, ◌<◌, List, [], ◌∷◌, ◌++◌, replicate, sym, ap, ◌∙◌, arith}
use Rattle.std.proofs.lemmas.List.{append_assoc, append-nil}
use Rattle.pt_sched.specs.Stretches.{spread}
use Rattle.pt_sched.specs.declared.stretch.Stretch.{Stretch}

spread-push : (order : List Stretch) (stretch : Stretch) → spread (order ++ stretch ∷ []) ≡ spread order ++ replicate (stretch.again + 1) stretch.child
spread-push [] stretch = append-nil (stretch.child ∷ replicate stretch.again stretch.child) ∙ ap (λ n. replicate n stretch.child) (next stretch.again)
  where
    next : (n : ℕ) → suc n ≡ n + 1
    next n = omega arith
spread-push (first ∷ order) stretch =
    ap (λ xs. (first.child ∷ replicate first.again first.child) ++ xs) (spread-push order stretch) ∙ sym (append_assoc (first.child ∷ replicate first.again first.child) (spread order) (replicate (stretch.again + 1) stretch.child))

-- so many firings of a child, of which there is one
pub spread-times : (order : List Stretch) (child times again : ℕ) → 0 < times → again ≡ times - 1 → spread (order ++ (record { child = child; again = again }) ∷ []) ≡ spread order ++ replicate times child
spread-times order child times again some e =
    spread-push order (record { child = child; again = again }) ∙ ap (λ n. spread order ++ replicate n child) (let all : again + 1 ≡ times = omega (arith, some, e) in all)
