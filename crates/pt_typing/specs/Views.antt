-- The inequalities that the program holds.
use Rattle.std.specs.Prelude.{◌≡◌, ℕ, List, map, box_value}
use Rattle.pt_types.specs.declared.ty.Ty.{Ty}
use Rattle.pt_datatypes.specs.Datatype.{Datatype}
use Rattle.pt_datatypes.specs.Rules.{type_at}
use Rattle.pt_types.specs.Ty.{type_of}
use Rattle.pt_language.specs.Expr.{tree_of}
use Rattle.pt_typing.specs.declared.variable.Variable.{Variable}
use Rattle.pt_typing.specs.declared.term.Term.{Term as GivenTerm}
use Rattle.pt_typing.specs.declared.term.Term.TheVariants as given
use Rattle.pt_typing.specs.declared.term.TreeTerm.{TreeTerm}
use Rattle.pt_typing.specs.declared.term.Inequality.{Inequality as GivenInequality}
use Rattle.pt_typing.specs.declared.numbers.Numbers.{Numbers}
use Rattle.pt_typing.specs.declared.rule.Bound.{Bound}
use Rattle.pt_typing.specs.Terms.{Term, Same, Fixed, ArrayOf, ElementOf, FieldOf, RecordOf, TreeOf, meaning}
use Rattle.pt_typing.specs.Numbers.{number_in}

-- a name with the type that it has
abbrev pub known_entry : List ℕ × Ty → List ℕ × Datatype
known_entry f = (f.0, type_of f.1)

abbrev pub tree_view : TreeTerm → Term Variable
tree_view t = TreeOf (tree_of t.tree) t.ports.items (map known_entry t.known.items)

abbrev pub term_view : GivenTerm → Term Variable
term_view (given.Same v) = Same v
term_view (given.Fixed t) = Fixed (type_of t)
term_view (given.ArrayOf v) = ArrayOf v
term_view (given.ElementOf v) = ElementOf v
term_view (given.FieldOf v name) = FieldOf v name
term_view (given.RecordOf fs) = RecordOf fs.items
term_view (given.TreeOf t) = tree_view (box_value t)

-- a variable, and the term that is below it
abbrev pub Inequality : Type 0
Inequality = Variable × Term Variable

abbrev pub inequality_view : GivenInequality → Inequality
inequality_view q = (q.variable, term_view q.term)

-- the type of each variable, where there is one for each number
abbrev pub assigned : Numbers → List Datatype → Variable → Datatype
assigned numbers types v = type_at types (number_in numbers v)

-- what the term of a rule means where the numbers have these types
abbrev pub bound_meaning : Bound → List Datatype → Datatype
bound_meaning b types = meaning (assigned b.numbers.now types) (term_view b.inequality.now.term)

-- the rule of an inequality
pub record IsRuleOf (numbers : Numbers) (q : GivenInequality) (b : Bound) : Type 0 where
  pub target : b.target ≡ number_in numbers q.variable
  pub means : (types : List Datatype) → bound_meaning b types ≡ meaning (assigned numbers types) (term_view q.term)
