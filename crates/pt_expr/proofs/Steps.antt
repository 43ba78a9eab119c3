-- The parts of a literal that are evaluated so far, and those that are left.
use Rattle.std.proofs.Common.{◌≡◌, List, [], ◌∷◌, ◌++◌, refl, sym, ap, ◌∙◌, append_assoc}
use Rattle.pt_value.specs.Value.{Value}
use Rattle.pt_language.specs.declared.eval_fault.EvalFault.{EvalFault}
use Rattle.pt_language.specs.Outcome.{Outcome, Gives, Stops, Wrong, and_then}

-- some parts are done, and the others come behind them
abbrev pub behind : {X : Type 0} → List X → Outcome (List X) → Outcome (List X)
behind done rest = and_then rest (λ xs. Gives (done ++ xs))

behind-next : {X : Type 0} (made : Value → X) (done : List X) (o : Outcome Value) (rest : Outcome (List X)) → behind done (and_then o (λ v. and_then rest (λ xs. Gives (made v ∷ xs)))) ≡ and_then o (λ v. behind (done ++ made v ∷ []) rest)
behind-next made done (Gives v) (Gives xs) = ap Gives (sym (append_assoc done (made v ∷ []) xs))
behind-next made done (Gives v) (Stops f) = refl
behind-next made done (Gives v) Wrong = refl
behind-next made done (Stops f) rest = refl
behind-next made done Wrong rest = refl

module _ {X : Type 0} (all : Outcome (List X)) (made : Value → X) (done : List X) (o : Outcome Value) (left : Outcome (List X)) where
  abbrev Before : Type 0
  Before = all ≡ behind done (and_then o (λ v. and_then left (λ xs. Gives (made v ∷ xs))))

  pub next-right : Before → (all ≡ Wrong → ⊥) → o ≡ Wrong → ⊥
  next-right e right wrong = right (e ∙ behind-next made done o left ∙ ap (λ p. and_then p (λ v. behind (done ++ made v ∷ []) left)) wrong)

  pub next-stops : (f : EvalFault) → Before → o ≡ Stops f → all ≡ Stops f
  next-stops f e stops = e ∙ behind-next made done o left ∙ ap (λ p. and_then p (λ v. behind (done ++ made v ∷ []) left)) stops

  pub next-gives : (v : Value) → Before → o ≡ Gives v → all ≡ behind (done ++ made v ∷ []) left
  next-gives v e gives = e ∙ behind-next made done o left ∙ ap (λ p. and_then p (λ v. behind (done ++ made v ∷ []) left)) gives

-- an operator that takes both of its operands
pub strict : (o later : Outcome Value) (go : Value → Value → Outcome Value) (x y : Value) → o ≡ Gives x → later ≡ Gives y → and_then o (λ u. and_then later (go u)) ≡ go x y
strict o later go x y first second = ap (λ p. and_then p (λ u. and_then later (go u))) first ∙ ap (λ p. and_then p (go x)) second
