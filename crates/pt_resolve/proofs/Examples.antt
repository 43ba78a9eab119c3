-- By hand: a comparator, and an expression that negates an input, with inputs of different types.
use Rattle.std.proofs.Common.{◌≡◌, ℕ, true, false, List, [], ◌∷◌, None, Some, refl}
use Rattle.std.specs.Prelude.{codes}
use Rattle.pt_document.specs.declared.job.Direction.TheVariants.{Input}
use Rattle.pt_document.specs.Document.{PortTree}
use Rattle.pt_datatypes.specs.Datatype.{Datatype, Unknown, Int, Boolean}
use Rattle.pt_net.specs.Net.{NetEntityTree}
use Rattle.pt_language.specs.Tree as tree
use Rattle.pt_language.specs.Types.{Types}
use Rattle.pt_scopes.specs.Given as held
use Rattle.pt_typing.specs.Least.{Assignment}
use Rattle.pt_inequalities.specs.Rows.{port_type, port_rows}
use Rattle.pt_said.specs.SaidWords.{begin, go_on, leads, type_in}
use Rattle.pt_resolve.specs.Broken.{has_port_above, has_port_over, lacks_type}

abbrev left : PortTree
left = record { name = codes "left"; direction = Input; declared = None; properties = [] }

abbrev comparator : NetEntityTree
comparator = record { path = codes ".m.c"; class = codes "Comparator"; director = None; parent = Some 0; within = None; ports = left ∷ []; parameters = []; variables = []; states = []; initial = None; transitions = [] }

abbrev all_of : Datatype → Assignment
all_of t = record { types = λ v. t; elsewhere = Unknown }

-- integers, or nothing, are within its row, and truth values are not
integers : has_port_above (all_of Int) 1 (codes "Comparator") 0 (left ∷ []) ≡ false
unfolding port_type port_rows
integers = refl

nothing : has_port_above (all_of Unknown) 1 (codes "Comparator") 0 (left ∷ []) ≡ false
unfolding port_type port_rows
nothing = refl

truth_values : has_port_above (all_of Boolean) 1 (codes "Comparator") 0 (left ∷ []) ≡ true
unfolding port_type port_rows
truth_values = refl

-- the same where the port declares `int`, whatever its row says, and a text that is no type's asks nothing
abbrev declared : List ℕ → PortTree
declared text = record { name = codes "left"; direction = Input; declared = Some text; properties = [] }

declared_integers : has_port_over (all_of Int) 1 0 (declared (codes "int") ∷ []) ≡ false
unfolding type_in leads begin go_on
declared_integers = refl

declared_nothing : has_port_over (all_of Unknown) 1 0 (declared (codes "int") ∷ []) ≡ false
unfolding type_in leads begin go_on
declared_nothing = refl

declared_truth_values : has_port_over (all_of Boolean) 1 0 (left ∷ declared (codes "int") ∷ []) ≡ true
unfolding type_in leads begin go_on
declared_truth_values = refl

declared_no_type : has_port_over (all_of Boolean) 1 0 (declared (codes "integer") ∷ []) ≡ false
unfolding type_in leads begin go_on
declared_no_type = refl

abbrev nothing_seen : Types
nothing_seen name = None

-- `-left` has a type where the input `left` takes integers, and none where it takes truth values; `-right` names nothing
negated_integers : lacks_type (all_of Int) 1 comparator nothing_seen (held.Read (tree.Negate (tree.Name (codes "left")))) ≡ false
negated_integers = refl

negated_truth_values : lacks_type (all_of Boolean) 1 comparator nothing_seen (held.Read (tree.Negate (tree.Name (codes "left")))) ≡ true
negated_truth_values = refl

unbound : lacks_type (all_of Int) 1 comparator nothing_seen (held.Read (tree.Negate (tree.Name (codes "right")))) ≡ true
unbound = refl
