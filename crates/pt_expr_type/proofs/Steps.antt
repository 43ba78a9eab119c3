-- Answers on several trees one by one.
use Rattle.std.proofs.Common.{◌≡◌, List, [], ◌∷◌, ◌++◌, refl, sym, ap, ◌∙◌, append_assoc}
use Rattle.pt_datatypes.specs.Datatype.{Datatype, Unknown}
use Rattle.pt_datatypes.specs.Join.{joined, join}
use Rattle.pt_datatypes.proofs.Joins.{normal_is_type}
use Rattle.pt_language.specs.Tree.{Trees, no_trees, tree_then}
use Rattle.pt_language.specs.declared.type_fault.TypeFault.{TypeFault}
use Rattle.pt_language.specs.Types.{Types}
use Rattle.pt_language.specs.Answer.{Answer, Gives, Stops, and_then, answer, parts_answer}
use Rattle.pt_language.proofs.JoinLaws.{join-assoc}

-- what is left, behind what is done
abbrev pub behind : {X : Type 0} → List X → Answer (List X) → Answer (List X)
behind done rest = and_then rest (λ xs. Gives (done ++ xs))

-- what is left, joined with what is done
abbrev pub joined_with : Datatype → Answer Datatype → Answer Datatype
joined_with done rest = and_then rest (λ b. Gives (join done b))

behind-next : {X : Type 0} (made : Datatype → X) (done : List X) (o : Answer Datatype) (rest : Answer (List X)) → behind done (and_then o (λ a. and_then rest (λ xs. Gives (made a ∷ xs)))) ≡ and_then o (λ a. behind (done ++ made a ∷ []) rest)
behind-next made done (Gives a) (Gives xs) = ap Gives (sym (append_assoc done (made a ∷ []) xs))
behind-next made done (Gives a) (Stops f) = refl
behind-next made done (Stops f) rest = refl

joined_with-next : (done : Datatype) (o rest : Answer Datatype) → joined_with done (and_then o (λ a. and_then rest (λ b. Gives (join a b)))) ≡ and_then o (λ a. joined_with (join done a) rest)
joined_with-next done (Gives a) (Gives b) = ap Gives (sym (join-assoc done a b))
joined_with-next done (Gives a) (Stops f) = refl
joined_with-next done (Stops f) rest = refl

module _ {X : Type 0} (all : Answer (List X)) (made : Datatype → X) (done : List X) (o : Answer Datatype) (left : Answer (List X)) where
  abbrev Before : Type 0
  Before = all ≡ behind done (and_then o (λ a. and_then left (λ xs. Gives (made a ∷ xs))))

  pub next-stops : (f : TypeFault) → Before → o ≡ Stops f → all ≡ Stops f
  next-stops f e stops = e ∙ behind-next made done o left ∙ ap (λ p. and_then p (λ a. behind (done ++ made a ∷ []) left)) stops

  pub next-gives : (a : Datatype) → Before → o ≡ Gives a → all ≡ behind (done ++ made a ∷ []) left
  next-gives a e gives = e ∙ behind-next made done o left ∙ ap (λ p. and_then p (λ b. behind (done ++ made b ∷ []) left)) gives

module _ (all : Answer Datatype) (done : Datatype) (o left : Answer Datatype) where
  abbrev BeforeJoin : Type 0
  BeforeJoin = all ≡ joined_with done (and_then o (λ a. and_then left (λ b. Gives (join a b))))

  pub join-stops : (f : TypeFault) → BeforeJoin → o ≡ Stops f → all ≡ Stops f
  join-stops f e stops = e ∙ joined_with-next done o left ∙ ap (λ p. and_then p (λ a. joined_with (join done a) left)) stops

  pub join-gives : (a : Datatype) → BeforeJoin → o ≡ Gives a → all ≡ joined_with (join done a) left
  join-gives a e gives = e ∙ joined_with-next done o left ∙ ap (λ p. and_then p (λ b. joined_with (join done b) left)) gives

unknown-joined : (s t : Datatype) → joined_with Unknown (Gives (join s t)) ≡ Gives (join s t)
unknown-joined s t = ap Gives (normal_is_type (joined s t))

-- at first nothing is joined
unknown-next : (o rest : Answer Datatype) → joined_with Unknown (and_then o (λ a. and_then rest (λ b. Gives (join a b)))) ≡ and_then o (λ a. and_then rest (λ b. Gives (join a b)))
unknown-next (Gives a) (Gives b) = unknown-joined a b
unknown-next (Gives a) (Stops f) = refl
unknown-next (Stops f) rest = refl

pub none-joined : (types : Types) (ts : Trees) → parts_answer types ts ≡ joined_with Unknown (parts_answer types ts)
none-joined types no_trees = refl
none-joined types (tree_then t ts) = sym (unknown-next (answer types t) (parts_answer types ts))
