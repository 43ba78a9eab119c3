-- What the program answers on a tree, left to right, against what stands of the tree.
use Rattle.std.proofs.Common.{◌≡◌, ◌∷◌, Bool, true, false, ◌&&◌, Option, Some, None, refl, ap, subst, ◌∙◌}
use Rattle.std.specs.Prelude.{unwrap_or, is_some}
use Rattle.pt_datatypes.specs.Datatype.{Datatype, Unknown}
use Rattle.pt_datatypes.specs.Normal.{array_of}
use Rattle.pt_datatypes.specs.Join.{join}
use Rattle.pt_datatypes.proofs.Fields.{and_both}
use Rattle.pt_language.specs.Tree as tree
use Rattle.pt_language.specs.Tree.{Tree, Trees, no_trees, tree_then, NamedTrees}
use Rattle.pt_language.specs.declared.type_fault.TypeFault.{TypeFault}
use Rattle.pt_language.specs.declared.type_fault.TypeFault.TheVariants as fault
use Rattle.pt_language.specs.Typing as typing
use Rattle.pt_language.specs.Typing.{Typing, Has, Clash}
use Rattle.pt_language.specs.Types.{Types, type_under}
use Rattle.pt_language.specs.TreeType.{tree_type, parts_type, named_types, are_bound, are_parts_bound, are_fields_bound, IsTyped, number, truth, operated, calculated, chosen, applied, field, length_of, recorded}
use Rattle.pt_language.specs.Answer.{Answer, Gives, Stops, and_then, judged, looked_up, answer, parts_answer, named_answer}
use Rattle.pt_language.specs.TypeFault.{Stands}

-- the answer agrees with the typing, where it is asked whether all names are bound
abbrev pub Agrees : {A : Type 0} → Bool → Typing A → Answer A → Type 0
Agrees bound typed (Gives t) = (bound ≡ true) × (typed ≡ Has t)
Agrees bound typed (Stops fault.Name) = bound ≡ false
Agrees bound typed (Stops fault.Clash) = typed ≡ Clash
Agrees bound typed (Stops fault.Memory) = ⊥

-- ---- one operator after the other

and-false_right : (p q : Bool) → q ≡ false → p && q ≡ false
and-false_right true q e = e
and-false_right false q e = refl

both-clash : {A B : Type 0} (o : Typing A) (go : A → Typing B) → ((a : A) → go a ≡ Clash) → typing.and_then o go ≡ Clash
both-clash (Has a) go h = h a
both-clash Clash go h = refl

judged-agrees : {A : Type 0} (t : Typing A) → Agrees true t (judged t)
judged-agrees (Has t) = (refl, refl)
judged-agrees Clash = refl

judged-agrees_with : {A : Type 0} (b : Bool) (t : Typing A) → b ≡ true → Agrees b t (judged t)
judged-agrees_with b (Has t) e = (e, refl)
judged-agrees_with b Clash e = refl

-- one operand, and what is made of it
then-agrees : {A B : Type 0} (b : Bool) (t : Typing A) (p : Answer A) (go : A → Typing B) → Agrees b t p → Agrees b (typing.and_then t go) (and_then p (λ a. judged (go a)))
then-agrees b t (Gives a) go h = rw h.1 (judged-agrees_with b (go a) h.0)
then-agrees b t (Stops fault.Name) go h = h
then-agrees b t (Stops fault.Clash) go h = ap (λ o. typing.and_then o go) h
then-agrees b t (Stops fault.Memory) go h = h

-- one more operand, and what is made of it and the rest
more-agrees : {A B : Type 0} (b c : Bool) (t : Typing A) (p : Answer A) (go : A → Typing B) (ask : A → Answer B) → Agrees b t p → ((a : A) → Agrees c (go a) (ask a)) → Agrees (b && c) (typing.and_then t go) (and_then p ask)
more-agrees b c t (Gives a) go ask h k = with-agrees (ask a) (k a)
  where
    with-agrees : (q : Answer _) → Agrees c (go a) q → Agrees (b && c) (typing.and_then t go) q
    with-agrees (Gives x) l = (and_both b c h.0 l.0, ap (λ o. typing.and_then o go) h.1 ∙ l.1)
    with-agrees (Stops fault.Name) l = and-false_right b c l
    with-agrees (Stops fault.Clash) l = ap (λ o. typing.and_then o go) h.1 ∙ l
    with-agrees (Stops fault.Memory) l = l
more-agrees b c t (Stops fault.Name) go ask h k = rw h refl
more-agrees b c t (Stops fault.Clash) go ask h k = ap (λ o. typing.and_then o go) h
more-agrees b c t (Stops fault.Memory) go ask h k = h

-- a sure type of what is given
sure-agrees : {A B : Type 0} (b : Bool) (t : Typing A) (p : Answer A) (f : A → B) → Agrees b t p → Agrees b (typing.and_then t (λ a. Has (f a))) (and_then p (λ a. Gives (f a)))
sure-agrees b t p f h = then-agrees b t p (λ a. Has (f a)) h

name-agrees : (o : Option Datatype) → Agrees (is_some o) (Has (unwrap_or o Unknown)) (looked_up o)
name-agrees (Some t) = (refl, refl)
name-agrees None = refl

-- ---- trees

mutual
  pub answer-agrees : (types : Types) (t : Tree) → Agrees (are_bound types t) (tree_type types t) (answer types t)
  answer-agrees types (tree.Int n) = (refl, refl)
  answer-agrees types (tree.Bool b) = (refl, refl)
  answer-agrees types (tree.Words xs) = (refl, refl)
  answer-agrees types (tree.Name name) = name-agrees (type_under types name)
  answer-agrees types (tree.Array ts) = sure-agrees (are_parts_bound types ts) (parts_type types ts) (parts_answer types ts) array_of (parts-agrees types ts)
  answer-agrees types (tree.Record fs) = then-agrees (are_fields_bound types fs) (named_types types fs) (named_answer types fs) recorded (named-agrees types fs)
  answer-agrees types (tree.Negate t) = then-agrees (are_bound types t) (tree_type types t) (answer types t) number (answer-agrees types t)
  answer-agrees types (tree.Not t) = then-agrees (are_bound types t) (tree_type types t) (answer types t) truth (answer-agrees types t)
  answer-agrees types (tree.Binary o s t) = more-agrees (are_bound types s) (are_bound types t) (tree_type types s) (answer types s) (λ a. typing.and_then (tree_type types t) (operated o a)) (λ a. and_then (answer types t) (λ b. judged (operated o a b))) (answer-agrees types s) (λ a. then-agrees (are_bound types t) (tree_type types t) (answer types t) (operated o a) (answer-agrees types t))
  answer-agrees types (tree.Cond s t u) = more-agrees (are_bound types s) (are_bound types t && are_bound types u) (tree_type types s) (answer types s) (λ a. typing.and_then (tree_type types t) (λ b. typing.and_then (tree_type types u) (chosen a b))) (λ a. and_then (answer types t) (λ b. and_then (answer types u) (λ c. judged (chosen a b c)))) (answer-agrees types s)
      (λ a. more-agrees (are_bound types t) (are_bound types u) (tree_type types t) (answer types t) (λ b. typing.and_then (tree_type types u) (chosen a b)) (λ b. and_then (answer types u) (λ c. judged (chosen a b c))) (answer-agrees types t) (λ b. then-agrees (are_bound types u) (tree_type types u) (answer types u) (chosen a b) (answer-agrees types u)))
  answer-agrees types (tree.Abs t) = then-agrees (are_bound types t) (tree_type types t) (answer types t) number (answer-agrees types t)
  answer-agrees types (tree.Max s t) = more-agrees (are_bound types s) (are_bound types t) (tree_type types s) (answer types s) (λ a. typing.and_then (tree_type types t) (calculated a)) (λ a. and_then (answer types t) (λ b. judged (calculated a b))) (answer-agrees types s) (λ a. then-agrees (are_bound types t) (tree_type types t) (answer types t) (calculated a) (answer-agrees types t))
  answer-agrees types (tree.Min s t) = more-agrees (are_bound types s) (are_bound types t) (tree_type types s) (answer types s) (λ a. typing.and_then (tree_type types t) (calculated a)) (λ a. and_then (answer types t) (λ b. judged (calculated a b))) (answer-agrees types s) (λ a. then-agrees (are_bound types t) (tree_type types t) (answer types t) (calculated a) (answer-agrees types t))
  answer-agrees types (tree.Apply s t) = more-agrees (are_bound types s) (are_bound types t) (tree_type types s) (answer types s) (λ a. typing.and_then (tree_type types t) (applied a)) (λ a. and_then (answer types t) (λ b. judged (applied a b))) (answer-agrees types s) (λ a. then-agrees (are_bound types t) (tree_type types t) (answer types t) (applied a) (answer-agrees types t))
  answer-agrees types (tree.Field t name) = then-agrees (are_bound types t) (tree_type types t) (answer types t) (field name) (answer-agrees types t)
  answer-agrees types (tree.Length t) = then-agrees (are_bound types t) (tree_type types t) (answer types t) length_of (answer-agrees types t)

  parts-agrees : (types : Types) (ts : Trees) → Agrees (are_parts_bound types ts) (parts_type types ts) (parts_answer types ts)
  parts-agrees types no_trees = (refl, refl)
  parts-agrees types (tree_then t ts) = more-agrees (are_bound types t) (are_parts_bound types ts) (tree_type types t) (answer types t) (λ a. typing.and_then (parts_type types ts) (λ b. Has (join a b))) (λ a. and_then (parts_answer types ts) (λ b. Gives (join a b))) (answer-agrees types t) (λ a. sure-agrees (are_parts_bound types ts) (parts_type types ts) (parts_answer types ts) (join a) (parts-agrees types ts))

  named-agrees : (types : Types) (fs : NamedTrees) → Agrees (are_fields_bound types fs) (named_types types fs) (named_answer types fs)
  named-agrees types tree.no_fields = (refl, refl)
  named-agrees types (tree.field_then n t fs) = more-agrees (are_bound types t) (are_fields_bound types fs) (tree_type types t) (answer types t) (λ a. typing.and_then (named_types types fs) (λ ps. Has ((n, a) ∷ ps))) (λ a. and_then (named_answer types fs) (λ ps. Gives ((n, a) ∷ ps))) (answer-agrees types t) (λ a. sure-agrees (are_fields_bound types fs) (named_types types fs) (named_answer types fs) (λ ps. (n, a) ∷ ps) (named-agrees types fs))

-- ---- what the program answers

agrees-gives : (b : Bool) (p : Typing Datatype) (o : Answer Datatype) (t : Datatype) → Agrees b p o → o ≡ Gives t → Agrees b p (Gives t)
agrees-gives b p o t h e = subst (Agrees b p) e h

pub typed-by_answer : (types : Types) (tree : Tree) (t : Datatype) → answer types tree ≡ Gives t → IsTyped types tree t
typed-by_answer types tree t e =
    let h = agrees-gives (are_bound types tree) (tree_type types tree) (answer types tree) t (answer-agrees types tree) e in
    record { bound = h.0; typed = h.1 }

stands-by : (types : Types) (tree : Tree) (f : TypeFault) → Agrees (are_bound types tree) (tree_type types tree) (Stops f) → Stands types tree f
stands-by types tree fault.Name h = rw h refl
stands-by types tree fault.Clash h = h
stands-by types tree fault.Memory h = tt

pub stands-by_answer : (types : Types) (tree : Tree) (f : TypeFault) → answer types tree ≡ Stops f → Stands types tree f
stands-by_answer types tree f e = stands-by types tree f (subst (Agrees (are_bound types tree) (tree_type types tree)) e (answer-agrees types tree))
