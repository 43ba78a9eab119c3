-- Whether an expression has a type, and the types of all names.
use Rattle.std.proofs.Common.{◌≡◌, ℕ, List, Bool, true, false, ◌&&◌, refl, sym, ap, ◌∙◌}
use Rattle.pt_datatypes.specs.Datatype.{Datatype}
use Rattle.pt_datatypes.proofs.Fields.{and_both}
use Rattle.pt_language.specs.Tree.{Tree}
use Rattle.pt_language.specs.Typing.{Clash}
use Rattle.pt_language.specs.Types.{Types}
use Rattle.pt_language.specs.TreeType.{tree_type, are_bound, IsTyped}
use Rattle.pt_formula.specs.Formula.{parameter_types, with_types, has_type}
use Rattle.pt_chart.specs.Machine.{NameTable}
use Rattle.pt_chart.specs.Typed.{types_of, is_typed}

pub has-type : (types : Types) (tree : Tree) (t : Datatype) → IsTyped types tree t → true ≡ is_typed types tree
has-type types tree t h = sym (and_both (are_bound types tree) (has_type (tree_type types tree)) h.bound (ap has_type h.typed))

pub not-bound : (types : Types) (tree : Tree) → are_bound types tree ≡ false → false ≡ is_typed types tree
not-bound types tree h = sym (ap (λ b. b && has_type (tree_type types tree)) h)

no-clash : (b : Bool) → false ≡ (b && false)
no-clash true = refl
no-clash false = refl

pub clashes : (types : Types) (tree : Tree) → tree_type types tree ≡ Clash → false ≡ is_typed types tree
clashes types tree h = no-clash (are_bound types tree) ∙ sym (ap (λ p. are_bound types tree && has_type p) h)

-- three kinds of names, bound one after another
pub all-types : (table : NameTable) (t0 t1 t2 t3 : Types) → ((name : List ℕ) → t0 name ≡ parameter_types table.parameters name) → ((name : List ℕ) → t1 name ≡ with_types table.variables t0 name) → ((name : List ℕ) → t2 name ≡ with_types table.outputs t1 name) → ((name : List ℕ) → t3 name ≡ with_types table.inputs t2 name) → (name : List ℕ) → t3 name ≡ types_of table name
all-types table t0 t1 t2 t3 z a b c name =
    c name
    ∙ (λ i. with_types table.inputs (λ m. b m i) name)
    ∙ (λ i. with_types table.inputs (with_types table.outputs (λ m. a m i)) name)
    ∙ (λ i. with_types table.inputs (with_types table.outputs (with_types table.variables (λ m. z m i))) name)
