-- What is told of a text, from what is told of its parts.
use Rattle.std.proofs.Common.{◌≡◌, ◌⊎◌, inl, inr, ℕ, List, None, sym, subst, ◌∙◌}
use Rattle.std.specs.Prelude.{Some, [], refl}
use Rattle.std.specs.List.{Contains}
use Rattle.pt_value.specs.Value.{Value, Int}
use Rattle.pt_datatypes.specs.Datatype as datatype
use Rattle.pt_language.specs.Tree as tree
use Rattle.pt_parameter.specs.Literals.{literal_of}
use Rattle.pt_datatypes.specs.Datatype.{Datatype}
use Rattle.pt_document.specs.declared.code.Code.{Code}
use Rattle.pt_document.specs.declared.code.Code.TheVariants as code
use Rattle.pt_language.specs.declared.eval_fault.EvalFault.{EvalFault}
use Rattle.pt_language.specs.declared.eval_fault.EvalFault.TheVariants as evaluation
use Rattle.pt_language.specs.Outcome.{Stops}
use Rattle.pt_language.specs.Scope.{Scope}
use Rattle.pt_language.specs.Meaning.{value}
use Rattle.pt_language.specs.Tree.{Tree}
use Rattle.pt_language.specs.Types.{Types}
use Rattle.pt_language.specs.TreeType.{IsTyped}
use Rattle.pt_scopes.specs.declared.fault.TextFault.{TextFault}
use Rattle.pt_scopes.specs.declared.fault.TextFault.TheVariants.{Refused, Memory}
use Rattle.pt_scopes.specs.TextFault.{of_evaluation, IsTold}
use Rattle.pt_scopes.specs.Texts.{IsRead, IsBound, IsReaderFault, IsTextFault, HasValue, names_in}
use Rattle.pt_scopes.specs.Binding.{AreBound, HasStrange, TreeGives, IsTreeValueFault}
use Rattle.pt_parameter.proofs.Binding.{none, has-value, has-clash, has-fault}

pub weaker : (P Q : Code → Type 0) → ((cause : Code) → P cause → Q cause) → (fault : TextFault) → IsTold P fault → IsTold Q fault
weaker P Q go (Refused cause) h = go cause h
weaker P Q go Memory h = tt

-- a fault of the reader
pub reader_told : (scope : Scope) (text : List ℕ) (cause : Code) → IsReaderFault text cause → IsTextFault scope text cause
reader_told scope text code.Limit h = h
reader_told scope text code.ExprSyntax h = h
reader_told scope text _ h = absurd h

unbound : (scope : Scope) (name : List ℕ) → scope name ≡ None → IsBound scope name → ⊥
unbound scope name none b = let differ : Some b.held ≡ None = sym b.is ∙ none in cc

-- a strange name
pub strange_told : (scope : Scope) (text : List ℕ) (t : Tree) → IsRead text t → (cause : Code) → (cause ≡ code.ExprName) × HasStrange scope (names_in t) → IsTextFault scope text cause
strange_told scope text t read cause h =
    subst (IsTextFault scope text) (sym h.0) (record { read = t; is_read = read; name = h.1.name; stands = h.1.stands; strange = unbound scope h.1.name h.1.strange })

-- a fault of the tree
pub tree_told : (scope env : Scope) (types : Types) (text : List ℕ) (t : Tree) → AreBound scope env types (names_in t) → IsRead text t → (cause : Code) → IsTreeValueFault env types t cause → IsTextFault scope text cause
tree_told scope env types text t bound read code.Type h = has-clash scope env types t bound text read h
tree_told scope env types text t bound read code.Value h = has-fault scope env types t bound text read h.type h.typed h.fault h.stops
tree_told scope env types text t bound read _ h = absurd h

pub tree_gives : (scope env : Scope) (types : Types) (text : List ℕ) (t : Tree) (v : Value) → AreBound scope env types (names_in t) → IsRead text t → TreeGives env types t v → HasValue scope text v
tree_gives scope env types text t v bound read h = has-value scope env types t bound text read h.type h.typed v h.gives

-- a fault of the evaluation
pub evaluation_told : (env : Scope) (types : Types) (t : Tree) (s : Datatype) → IsTyped types t s → (f : EvalFault) → (f ≡ evaluation.Memory) ⊎ (value env t ≡ Stops f) → IsTold (IsTreeValueFault env types t) (of_evaluation f)
evaluation_told env types t s typed f (inl e) = subst (λ g. IsTold (IsTreeValueFault env types t) (of_evaluation g)) (sym e) tt
evaluation_told env types t s typed evaluation.Memory (inr e) = tt
evaluation_told env types t s typed evaluation.DivideByZero (inr e) = record { type = s; typed = typed; fault = evaluation.DivideByZero; stops = e }
evaluation_told env types t s typed evaluation.Overflow (inr e) = record { type = s; typed = typed; fault = evaluation.Overflow; stops = e }
evaluation_told env types t s typed evaluation.Index (inr e) = record { type = s; typed = typed; fault = evaluation.Index; stops = e }
evaluation_told env types t s typed evaluation.Size (inr e) = record { type = s; typed = typed; fault = evaluation.Size; stops = e }
evaluation_told env types t s typed evaluation.Absent (inr e) = record { type = s; typed = typed; fault = evaluation.Absent; stops = e }

-- a literal comes to its value, whatever is seen
pub literal_value : (scope : Scope) (text : List ℕ) (t : Tree) (v : Value) → Some v ≡ literal_of t → IsRead text t → HasValue scope text v
literal_value scope text (tree.Int n) v e read =
    let same : Int n ≡ v = cc in
    subst (HasValue scope text) same (record { read = tree.Int n; is_read = read; known = λ name there. unnamed name there; type = datatype.Int; typed = refl; gives = refl })
  where
    unnamed : (name : List ℕ) → Contains [] name → (x : Value) × (scope name ≡ Some (Some x))
    unnamed name there = absurd (none name there)
literal_value scope text _ v e read = absurd cc
