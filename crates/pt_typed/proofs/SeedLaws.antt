-- The tokens that parameters give are of the type of the row of their entity.
use Rattle.std.proofs.Common.{◌≡◌, ℕ, List, [], ◌∷◌, length, map, Bool, true, false, not, ◌||◌, Option, Some, None, refl, ap, subst, ◌∙◌, arith, if◌then◌else◌}
use Rattle.std.specs.Prelude.{codes, bytes_eq}
use Rattle.std.specs.List.{AllByRecursion}
use Rattle.std.proofs.lemmas.Slice.Eq.{bytes_eq-Decides}
use Rattle.std.proofs.lemmas.Option.{same_Some}
use Rattle.pt_value.specs.Value.{Value, Values, no_values, value_then, values_of}
use Rattle.pt_value.specs.Token.{value_of, token_of}
use Rattle.pt_value.specs.declared.token.Token.{Token}
use Rattle.pt_datatypes.specs.Datatype.{Datatype, Int}
use Rattle.pt_datatypes.specs.Order.{IsBelow}
use Rattle.pt_datatypes.specs.Join.{join}
use Rattle.pt_datatypes.specs.Token.{type_of_value}
use Rattle.pt_datatypes.proofs.Order.{below-trans, below-refl}
use Rattle.pt_language.proofs.JoinLaws.{join-first, join-second}
use Rattle.pt_document.specs.Document.{PropertyTree, property_name}
use Rattle.pt_firing.specs.Params.{value_under}
use Rattle.pt_scopes.specs.Given.{held_view}
use Rattle.pt_scopes.specs.Agreement.{standard_of}
use Rattle.pt_scopes.specs.Forms.{forms}
use Rattle.pt_scopes.specs.declared.parameter_value.ParameterValue.{ParameterValue}
use Rattle.pt_scopes.specs.declared.parameter_value.ParameterValue.TheVariants as parameter
use Rattle.pt_typing.specs.declared.variable.Variable.TheVariants.{Row}
use Rattle.pt_typing.specs.Terms.{Fixed}
use Rattle.pt_typing.specs.Least.{Assignment, IsMet}
use Rattle.pt_inequalities.specs.declared.row.Seed.{Seed}
use Rattle.pt_inequalities.specs.declared.row.Seed.TheVariants as seed
use Rattle.pt_inequalities.specs.Rows.{seedings, seed_of, seeded, joined_values}
use Rattle.pt_inequalities.specs.Inequalities.{of_seed, of_parameters, of_standards, is_given}
use Rattle.pt_start.specs.Started.{own_tokens, given_tree}
use Rattle.pt_typed.specs.TokenTypes.{IsTokenOf}
use Rattle.pt_typed.specs.TypedFlow.{IsValueOf}
use Rattle.pt_typed.specs.NetRows.{IsTokenHeld}
use Rattle.pt_typed.proofs.TypeLaws.{of-value}
use Rattle.pt_typed.proofs.PortFacts.{all-front, all-back}

-- ---- a parameter that is given

seed-met : (typing : Assignment) (k : ℕ) (o : Option Seed) (s : Seed) (v : Value) → o ≡ Some s → AllByRecursion (IsMet typing) (of_seed k o v) → IsBelow (seeded s v) (typing.types (Row k))
seed-met typing k None s v e a = absurd (cc)
seed-met typing k (Some r) s v e a = subst (λ x. IsBelow (seeded x v) (typing.types (Row k))) (same_Some r s e) a.0

-- the token under a name is below the type of the row, as its seed says
pub value-met : (typing : Assignment) (k : ℕ) (class name : List ℕ) (s : Seed) (ps : List PropertyTree) (vs : List ParameterValue) (t : Token) → seed_of class name ≡ Some s → length vs ≡ length ps → AllByRecursion IsTokenHeld vs →
    AllByRecursion (IsMet typing) (of_parameters k class ps (map held_view vs)) → value_under name (own_tokens ps vs) ≡ Some t → IsBelow (seeded s (value_of t)) (typing.types (Row k))
unfolding value_under
value-met typing k class name s [] vs t e n h a found = absurd (cc)
value-met typing k class name s (p ∷ ps) [] t e n h a found = absurd (cc)
value-met typing k class name s (p ∷ ps) (parameter.Tree x ∷ vs) t e n h a found = absurd h.0
value-met typing k class name s (p ∷ ps) (parameter.Word ∷ vs) t e n h a found = absurd h.0
value-met typing k class name s (p ∷ ps) (parameter.Token x ∷ vs) t e n h a found =
    by_test (bytes_eq (property_name p) name) refl found (value-met typing k class name s ps vs t e (omega (arith, n)) h.1 (all-back (IsMet typing) (of_seed k (seed_of class (property_name p)) (value_of x)) (of_parameters k class ps (map held_view vs)) a))
  where
    by_test : (b : Bool) → bytes_eq (property_name p) name ≡ b → (if b then Some x else value_under name (own_tokens ps vs)) ≡ Some t → (value_under name (own_tokens ps vs) ≡ Some t → IsBelow (seeded s (value_of t)) (typing.types (Row k))) → IsBelow (seeded s (value_of t)) (typing.types (Row k))
    by_test true d f more =
        subst (λ y. IsBelow (seeded s (value_of y)) (typing.types (Row k))) (same_Some x t f)
        (seed-met typing k (seed_of class (property_name p)) s (value_of x) (ap (seed_of class) ((bytes_eq-Decides (property_name p) name).0 d) ∙ e) (all-front (IsMet typing) (of_seed k (seed_of class (property_name p)) (value_of x)) (of_parameters k class ps (map held_view vs)) a))
    by_test false d f more = more f

-- one that isn't given
pub not-given : (name : List ℕ) (ps : List PropertyTree) (vs : List ParameterValue) → length vs ≡ length ps → AllByRecursion IsTokenHeld vs → value_under name (own_tokens ps vs) ≡ None → is_given ps name ≡ false
unfolding value_under
not-given name [] vs n h e = refl
not-given name (p ∷ ps) [] n h e = absurd (omega (arith, n))
not-given name (p ∷ ps) (parameter.Tree x ∷ vs) n h e = absurd h.0
not-given name (p ∷ ps) (parameter.Word ∷ vs) n h e = absurd h.0
not-given name (p ∷ ps) (parameter.Token x ∷ vs) n h e = by_test (bytes_eq (property_name p) name) e (not-given name ps vs (omega (arith, n)) h.1)
  where
    by_test : (b : Bool) → (if b then Some x else value_under name (own_tokens ps vs)) ≡ None → (value_under name (own_tokens ps vs) ≡ None → is_given ps name ≡ false) → (b || is_given ps name) ≡ false
    by_test true f more = absurd (cc)
    by_test false f more = more f

-- there is no tree
pub no-tree : (vs : List ParameterValue) → AllByRecursion IsTokenHeld vs → given_tree vs ≡ None
no-tree [] h = refl
no-tree (parameter.Token t ∷ vs) h = no-tree vs h.1
no-tree (parameter.Tree e ∷ vs) h = absurd h.0
no-tree (parameter.Word ∷ vs) h = absurd h.0

-- ---- elements

joined-grows : (t : Datatype) (vs : Values) → IsBelow t (joined_values t vs)
joined-grows t no_values = below-refl t
joined-grows t (value_then v vs) = below-trans t (join t (type_of_value v)) (joined_values (join t (type_of_value v)) vs) (join-first t (type_of_value v)) (joined-grows (join t (type_of_value v)) vs)

pub elements-below : (t u : Datatype) (vs : List Value) → IsBelow (joined_values t (values_of vs)) u → AllByRecursion (IsValueOf u) vs
elements-below t u [] h = tt
elements-below t u (v ∷ vs) h =
    let next = join t (type_of_value v) in
    let whole = joined_values next (values_of vs) in
    (below-trans (type_of_value v) whole u (below-trans (type_of_value v) next whole (join-second t (type_of_value v)) (joined-grows next (values_of vs))) h, elements-below next u vs h)

pub tokens-of-values : (u : Datatype) (vs : List Value) → AllByRecursion (IsValueOf u) vs → AllByRecursion (IsTokenOf u) (map token_of vs)
tokens-of-values u [] h = tt
tokens-of-values u (v ∷ vs) h = (of-value u v h.0, tokens-of-values u vs h.1)

-- ---- the seeds of the classes

pub const-seed : seed_of (codes "Const") (codes "value") ≡ Some seed.Whole
unfolding seed_of seedings
const-seed = refl

pub sequence-seed : seed_of (codes "Sequence") (codes "values") ≡ Some seed.Elements
unfolding seed_of seedings
sequence-seed = refl

pub delay-seed : seed_of (codes "SampleDelay") (codes "initialOutputs") ≡ Some seed.Elements
unfolding seed_of seedings
delay-seed = refl

pub non-strict-delay-seed : seed_of (codes "NonStrictDelay") (codes "initialValue") ≡ Some seed.Whole
unfolding seed_of seedings
non-strict-delay-seed = refl

pub pre-seed : seed_of (codes "Pre") (codes "initialValue") ≡ Some seed.Whole
unfolding seed_of seedings
pre-seed = refl

pub clock-seed : seed_of (codes "DiscreteClock") (codes "values") ≡ Some seed.Elements
unfolding seed_of seedings
clock-seed = refl

pub event-seed : seed_of (codes "SingleEvent") (codes "value") ≡ Some seed.Whole
unfolding seed_of seedings
event-seed = refl

pub sampler-seed : seed_of (codes "Sampler") (codes "initialValue") ≡ Some seed.Whole
unfolding seed_of seedings
sampler-seed = refl

pub register-seed : seed_of (codes "Register") (codes "initialValue") ≡ Some seed.Whole
unfolding seed_of seedings
register-seed = refl

-- what stands for first tokens that aren't given is an integer
pub delay-standard : (typing : Assignment) (k : ℕ) (ps : List PropertyTree) → is_given ps (codes "initialOutputs") ≡ false → AllByRecursion (IsMet typing) (of_standards k (codes "SampleDelay") ps seedings) → IsBelow Int (typing.types (Row k))
unfolding seedings standard_of forms
delay-standard typing k ps e a = by_test (is_given ps (codes "initialOutputs")) e (all-front (IsMet typing) _ [] a)
  where
    by_test : (b : Bool) → b ≡ false → AllByRecursion (IsMet typing) (if not b then (Row k, Fixed Int) ∷ [] else []) → IsBelow Int (typing.types (Row k))
    by_test true d h = absurd (cc)
    by_test false d h = h.0

-- so are the values of a DiscreteClock
pub clock-standard : (typing : Assignment) (k : ℕ) (ps : List PropertyTree) → is_given ps (codes "values") ≡ false → AllByRecursion (IsMet typing) (of_standards k (codes "DiscreteClock") ps seedings) → IsBelow Int (typing.types (Row k))
unfolding seedings standard_of forms
clock-standard typing k ps e a = by_test (is_given ps (codes "values")) e (all-front (IsMet typing) _ [] a)
  where
    by_test : (b : Bool) → b ≡ false → AllByRecursion (IsMet typing) (if not b then (Row k, Fixed Int) ∷ [] else []) → IsBelow Int (typing.types (Row k))
    by_test true d h = absurd (cc)
    by_test false d h = h.0

-- and the value of a SingleEvent
pub event-standard : (typing : Assignment) (k : ℕ) (ps : List PropertyTree) → is_given ps (codes "value") ≡ false → AllByRecursion (IsMet typing) (of_standards k (codes "SingleEvent") ps seedings) → IsBelow Int (typing.types (Row k))
unfolding seedings standard_of forms
event-standard typing k ps e a = by_test (is_given ps (codes "value")) e (all-front (IsMet typing) _ [] a)
  where
    by_test : (b : Bool) → b ≡ false → AllByRecursion (IsMet typing) (if not b then (Row k, Fixed Int) ∷ [] else []) → IsBelow Int (typing.types (Row k))
    by_test true d h = absurd (cc)
    by_test false d h = h.0
