-- The literals of values: what the printed text of a token reads as.
use Rattle.std.specs.Prelude.{IsTrue}
use Rattle.pt_value.specs.Value as val
use Rattle.pt_value.specs.Value.{Value, Values, no_values, value_then, Named, fields_of}
use Rattle.pt_value.specs.Record.{IsRecord}
use Rattle.pt_language.specs.Tree as tree
use Rattle.pt_language.specs.Tree.{Tree, Trees, no_trees, tree_then, NamedTrees}
use Rattle.pt_language.specs.Meaning.{fits}

-- an integer, a truth value, a text, an array or a record as it is written
abbrev mutual
  pub literal : Value → Tree
  literal (val.Int n) = tree.Int n
  literal (val.Bool b) = tree.Bool b
  literal (val.Words text) = tree.Words text
  literal (val.Array vs) = tree.Array (literals vs)
  literal (val.Record fs) = tree.Record (named_literals fs)

  -- of the parts of an array
  pub literals : Values → Trees
  literals no_values = no_trees
  literals (value_then v vs) = tree_then (literal v) (literals vs)

  -- of the fields of a record
  pub named_literals : Named → NamedTrees
  named_literals val.no_fields = tree.no_fields
  named_literals (val.field_then name v fs) = tree.field_then name (literal v) (named_literals fs)

-- what an expression can write: integers of 64 bits, and lawful records, at each level
abbrev mutual
  pub IsWritable : Value → Type 0
  IsWritable (val.Int n) = IsTrue (fits n)
  IsWritable (val.Bool b) = Unit {0}
  IsWritable (val.Words text) = Unit {0}
  IsWritable (val.Array vs) = AreWritable vs
  IsWritable (val.Record fs) = IsRecord (fields_of fs) × HaveWritable fs

  pub AreWritable : Values → Type 0
  AreWritable no_values = Unit {0}
  AreWritable (value_then v vs) = IsWritable v × AreWritable vs

  pub HaveWritable : Named → Type 0
  HaveWritable val.no_fields = Unit {0}
  HaveWritable (val.field_then name v fs) = IsWritable v × HaveWritable fs
