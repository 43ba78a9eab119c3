-- What a check tells of the children of composites: how often each fires in an iteration of an SDF composite, and the depth of each in a DE composite.
use Rattle.std.specs.Prelude.{ℕ, List, [], ◌∷◌, ◌++◌, zip}
use Rattle.pt_meaning.specs.Tree as tree
use Rattle.pt_value.specs.declared.token.Token.{Token}
use Rattle.pt_core.specs.declared.either.Either.TheVariants.{First, Other}
use Rattle.pt_directors.specs.Directors.{Director}
use Rattle.pt_node.specs.declared.body.Body.{Body}
use Rattle.pt_node.specs.declared.body.Body.TheVariants.{Actor, Composite}
use Rattle.pt_node.specs.Shown.{Shown, AllShown, Branch, none, more}
use Rattle.pt_node.specs.View.{core_of}

-- how often each child fires in an iteration: SDF plans it, and no other director does
abbrev pub core_repetitions : tree.Core Token → List ℕ
core_repetitions (tree.Sdf p X) = p.repetitions
core_repetitions (tree.Pn p X) = []
core_repetitions (tree.Sr p) = []
core_repetitions (tree.De p) = []
core_repetitions (tree.Rv p X) = []
core_repetitions (tree.Modal chart m) = []

abbrev pub repetitions_of : Body → List ℕ
repetitions_of (Actor held) = []
repetitions_of (Composite director) = core_repetitions (core_of director)

-- the depth of each child: DE plans it, and no other director does
abbrev pub director_depths : Director → List ℕ
director_depths (First sdf) = []
director_depths (Other (First sr)) = []
director_depths (Other (Other (First de))) = de.roles.depths
director_depths (Other (Other (Other other))) = []

abbrev pub depths_of : Body → List ℕ
depths_of (Actor held) = []
depths_of (Composite director) = director_depths director

-- the path of a node, and those of some nodes
abbrev pub path_of : Shown → List ℕ
path_of (Branch f ks) = f.path

abbrev pub paths_of : AllShown → List (List ℕ)
paths_of none = []
paths_of (more s ss) = path_of s ∷ paths_of ss

-- the numbers of the children of each composite in a tree, each with the path of its child: those of a composite before those of the composites within it, in the order of the document
abbrev mutual
  pub told_in : (Body → List ℕ) → Shown → List (List ℕ × ℕ)
  told_in numbers (Branch f ks) = zip (paths_of ks) (numbers f.body) ++ told_below numbers ks

  pub told_below : (Body → List ℕ) → AllShown → List (List ℕ × ℕ)
  told_below numbers none = []
  told_below numbers (more s ss) = told_in numbers s ++ told_below numbers ss
