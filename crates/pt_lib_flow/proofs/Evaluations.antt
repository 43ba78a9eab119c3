-- A step of an Expression, by what its tree comes to.
use Rattle.std.proofs.Common.{◌≡◌, ℕ, List, [], ◌∷◌, true, Result, Ok, Err, ◌⊎◌, inl, inr, refl, sym, ap, subst, ◌∙◌}
use Rattle.std.specs.Prelude.{IfOk, IfErr, if◌then◌else◌}
use Rattle.pt_meaning.specs.Basics.{Streams, Tag}
use Rattle.pt_meaning.specs.Node.{Answer, Gives as Given, Fails}
use Rattle.pt_value.specs.Value.{Value}
use Rattle.pt_value.specs.Token.{value_of, token_of-value_of}
use Rattle.pt_value.specs.declared.token.Token.{Token}
use Rattle.pt_language.specs.declared.eval_fault.EvalFault.{EvalFault}
use Rattle.pt_language.specs.declared.eval_fault.EvalFault.TheVariants.{DivideByZero, Overflow, Index, Size, Absent, Memory}
use Rattle.pt_language.specs.Outcome.{Outcome, Gives, Stops}
use Rattle.pt_language.specs.Scope.{Scope}
use Rattle.pt_language.specs.Meaning.{value}
use Rattle.pt_firing.specs.Row.{rests}
use Rattle.pt_firing.specs.Step.{Makes}
use Rattle.pt_firing.specs.declared.step.Step.{Step}
use Rattle.pt_firing.specs.declared.step.Step.TheVariants as made
use Rattle.pt_formula.specs.Formula.{Formula, names, are_of, parameters, with_inputs, HasParameters}
use Rattle.pt_lib_flow.specs.Expression.{scope, outcome, answer, step, told}
use Rattle.pt_formula.proofs.Formulas.{inputs-over}

-- an environment that has the parameters, after the inputs are bound
outcome-is : (f : Formula) (X : Streams Token) (s s' : Scope) → HasParameters (names f.inputs) f.values s → ((name : List ℕ) → s' name ≡ with_inputs (names f.inputs) X s name) → value s' f.tree ≡ outcome f X
outcome-is f X s s' has bound = ap (λ u. value u f.tree) same
  where
    same : s' ≡ scope f X
    same = λ i name. (bound name ∙ inputs-over (names f.inputs) X s (parameters f.values) has name) i

pub comes-to : (f g : Formula) (X : Streams Token) (s s' : Scope) → f ≡ g → HasParameters (names f.inputs) f.values s → ((name : List ℕ) → s' name ≡ with_inputs (names f.inputs) X s name) → value s' f.tree ≡ outcome g X
comes-to f g X s s' same has bound = outcome-is f X s s' has bound ∙ ap (λ h. outcome h X) same

unmade : (a new : Formula) (r : Answer Token Formula) → new ≡ a → Makes r a made.Memory new
unmade a new (Given next streams) same = same
unmade a new (Fails code) same = same

stopped : (a new : Formula) (fault : EvalFault) → new ≡ a → Makes (answer a (Stops fault)) a (told (Err fault)) new
stopped a new DivideByZero same = (refl, same)
stopped a new Overflow same = (refl, same)
stopped a new Index same = (refl, same)
stopped a new Size same = (refl, same)
stopped a new Absent same = (refl, same)
stopped a new Memory same = same

fault-told : (a new : Formula) (o : Outcome Value) (fault : EvalFault) → (fault ≡ Memory) ⊎ (o ≡ Stops fault) → new ≡ a → Makes (answer a o) a (told (Err fault)) new
fault-told a new o fault (inl memory) same = subst (λ f. Makes (answer a o) a (told (Err f)) new) (sym memory) (unmade a new (answer a o) same)
fault-told a new o fault (inr stops) same = subst (λ p. Makes (answer a p) a (told (Err fault)) new) (sym stops) (stopped a new fault same)

all-told : (a new : Formula) (o : Outcome Value) (r : Result Token EvalFault) → IfOk r (λ t. o ≡ Gives (value_of t)) → IfErr r (λ fault. (fault ≡ Memory) ⊎ (o ≡ Stops fault)) → new ≡ a → Makes (answer a o) a (told r) new
all-told a new o (Ok t) given faulty same = subst (λ p. Makes (answer a p) a (told (Ok t)) new) (sym given) (ap (λ u. (u ∷ []) ∷ []) (sym (token_of-value_of t)), same)
all-told a new o (Err fault) given faulty same = fault-told a new o fault faulty same

pub step-told : (tag : Tag) (a new : Formula) (X : Streams Token) (r : Result Token EvalFault) (s : Step) → are_of a.inputs X ≡ true → IfOk r (λ t. outcome a X ≡ Gives (value_of t)) → IfErr r (λ fault. (fault ≡ Memory) ⊎ (outcome a X ≡ Stops fault)) → new ≡ a → s ≡ told r →
    Makes (step tag a X) a s new
step-told tag a new X r s present given faulty same is =
    subst (λ b. Makes (if b then answer a (outcome a X) else rests a) a s new) (sym present) (
    subst (λ t. Makes (answer a (outcome a X)) a t new) (sym is) (all-told a new (outcome a X) r given faulty same))
