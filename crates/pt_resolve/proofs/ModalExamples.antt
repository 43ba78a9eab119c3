-- By hand: a Modal entity M with an input `x`, an output `y` and a Variable `n`, and a refinement R with ports of these names.
use Rattle.std.proofs.Common.{◌≡◌, ℕ, pos, true, false, List, [], ◌∷◌, None, Some, refl}
use Rattle.std.specs.Prelude.{codes}
use Rattle.pt_value.specs.Value as value
use Rattle.pt_document.specs.declared.job.Direction.{Direction}
use Rattle.pt_document.specs.declared.job.Direction.TheVariants.{Input, Output}
use Rattle.pt_document.specs.declared.job.OutputAction.{OutputAction}
use Rattle.pt_document.specs.declared.job.SetAction.{SetAction}
use Rattle.pt_document.specs.Document.{PortTree, property, no_properties, TransitionTree}
use Rattle.pt_datatypes.specs.Datatype.{Datatype, Unknown, Int, Boolean}
use Rattle.pt_language.specs.declared.expr.BinaryOp.TheVariants.{Equal}
use Rattle.pt_language.specs.Tree.{Tree, Name}
use Rattle.pt_language.specs.Tree as tree
use Rattle.pt_net.specs.Net.{NetEntityTree}
use Rattle.pt_scopes.specs.Valued.{EntityView}
use Rattle.pt_typing.specs.declared.variable.Variable.TheVariants.{Port}
use Rattle.pt_typing.specs.Terms.{Same, TreeOf}
use Rattle.pt_typing.specs.Least.{Assignment}
use Rattle.pt_inequalities.specs.Inequalities.{below}
use Rattle.pt_inequalities.specs.ModalScopes.{ModalScope, modal_scope, is_in_scope}
use Rattle.pt_inequalities.specs.Modals.{refined, of_action}
use Rattle.pt_resolve.specs.ModalFaults.{guard_fails, output_fails, set_fails}
use Rattle.pt_charts.specs.Readable.{texts_of}

abbrev port : List ℕ → Direction → PortTree
port name direction = record { name = name; direction = direction; declared = None; properties = [] }

abbrev ports : List PortTree
ports = port (codes "x") Input ∷ port (codes "y") Output ∷ []

abbrev top : NetEntityTree
top = record { path = codes "."; class = codes "Composite"; director = None; parent = None; within = None; ports = []; parameters = []; variables = []; states = []; initial = None; transitions = [] }

abbrev machine : NetEntityTree
machine = record { path = codes "M"; class = codes "Modal"; director = None; parent = Some 0; within = None; ports = ports; parameters = []; variables = property (codes "n") (Some (codes "0")) (Some (codes "Variable")) no_properties ∷ []; states = []; initial = None; transitions = [] }

abbrev refinement : NetEntityTree
refinement = record { path = codes "M.R"; class = codes "Composite"; director = None; parent = Some 1; within = None; ports = ports; parameters = []; variables = []; states = []; initial = None; transitions = [] }

-- what is at `x` of M is below what is at `x` of R, and what is at `y` of R below what is at `y` of M
of_refinement : refined (top ∷ machine ∷ refinement ∷ []) ≡ below (Port 2 0) (Same (Port 1 0)) ∷ below (Port 1 1) (Same (Port 2 1)) ∷ []
of_refinement = refl

-- nothing comes of a child of a composite, nor of what stands in a transparent composite
of_composite : refined (top ∷ record machine { class = codes "Composite" } ∷ refinement ∷ []) ≡ []
of_composite = refl

of_transparent : refined (top ∷ machine ∷ record refinement { within = Some 0 } ∷ []) ≡ []
of_transparent = refl

abbrev values : EntityView
values = record { parameters = []; director = []; variables = value.Int (pos 0) ∷ []; rates = [] }

abbrev scope : ModalScope
scope = modal_scope (record { entities = []; transparent = [] }) 1 machine values

-- `n` on `y`: the integer of the Variable is below the port; on `z`, which isn't there, it asks nothing
of_variable : of_action scope (codes "y", Some (Name (codes "n"))) ≡ below (Port 1 1) (TreeOf (Name (codes "n")) [] ((codes "n", Int) ∷ [])) ∷ []
of_variable = refl

of_nowhere : of_action scope (codes "z", Some (Name (codes "n"))) ≡ []
of_nowhere = refl

-- `x` on `y`: what is at the one port is below the other
of_port : of_action scope (codes "y", Some (Name (codes "x"))) ≡ below (Port 1 1) (TreeOf (Name (codes "x")) ((codes "x", Port 1 0) ∷ []) []) ∷ []
of_port = refl

abbrev all_of : Datatype → Assignment
all_of t = record { types = λ v. t; elsewhere = Unknown }

-- `x == n` is a truth value where `x` takes integers, and has no type where it takes truth values
equal : guard_fails (all_of Int) scope (Some (tree.Binary Equal (Name (codes "x")) (Name (codes "n")))) ≡ false
equal = refl

unlike : guard_fails (all_of Boolean) scope (Some (tree.Binary Equal (Name (codes "x")) (Name (codes "n")))) ≡ true
unlike = refl

-- `x` is no guard where it takes integers, but `x_isPresent` is; what stands for a Variable has none of that
number : guard_fails (all_of Int) scope (Some (Name (codes "x"))) ≡ true
number = refl

presence : guard_fails (all_of Int) scope (Some (Name (codes "x_isPresent"))) ≡ false
presence = refl

no_presence : guard_fails (all_of Int) scope (Some (Name (codes "n_isPresent"))) ≡ true
no_presence = refl

-- `-n` can be given on a port, and `-x` can't where `x` takes truth values
negated : output_fails (all_of Boolean) scope (codes "y", Some (tree.Negate (Name (codes "n")))) ≡ false
negated = refl

clashing : output_fails (all_of Boolean) scope (codes "y", Some (tree.Negate (Name (codes "x")))) ≡ true
clashing = refl

-- the Variable takes integers and no truth values, and one that isn't there asks nothing
integers : set_fails (all_of Boolean) scope (codes "n", Some (tree.Int (pos 1))) ≡ false
integers = refl

truth_values : set_fails (all_of Boolean) scope (codes "n", Some (tree.Bool true)) ≡ true
truth_values = refl

no_variable : set_fails (all_of Boolean) scope (codes "k", Some (tree.Bool true)) ≡ false
no_variable = refl

-- ports may be named and asked about, outputs too; a Variable may be named and not asked about; and nothing else is in scope
output_named : is_in_scope scope (codes "y") ≡ true
output_named = refl

output_asked : is_in_scope scope (codes "y_isPresent") ≡ true
output_asked = refl

variable_named : is_in_scope scope (codes "n") ≡ true
variable_named = refl

variable_asked : is_in_scope scope (codes "n_isPresent") ≡ false
variable_asked = refl

other_named : is_in_scope scope (codes "k") ≡ false
other_named = refl

abbrev transition : List ℕ → List OutputAction → List SetAction → TransitionTree
transition guard output set = record { from = []; to = []; guard = guard; preemptive = false; history = true; output = output; set = set }

-- the texts of two transitions, in the order in which they are read
texts_read : (a b c d : List ℕ) → texts_of (transition a (record { port = codes "y"; value = b } ∷ []) (record { name = codes "n"; value = c } ∷ []) ∷ transition d [] [] ∷ []) ≡ a ∷ b ∷ c ∷ d ∷ []
texts_read a b c d = refl
