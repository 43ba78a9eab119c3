-- What a director makes of a composite, by its wiring and its children.
use Rattle.std.specs.Prelude.{ℕ, List, Option}
use Rattle.pt_meaning.specs.Tree.{Core}
use Rattle.pt_value.specs.declared.token.Token.{Token}
use Rattle.pt_document.specs.declared.code.Code.{Code}
use Rattle.pt_records.specs.Kept.{Made}
use Rattle.pt_node.specs.View.{Tree}
use Rattle.pt_trees.specs.Around.{Around}

-- What is to be said of each director: which core a composite has at its start, and when it has none, how many tokens its channels may hold, and whether its meetings are recorded.
pub record Composing : Type 1 where
  -- the composite with this wiring round these children has this core at its start
  pub IsCore : Around → List Tree → Core Token → Type 0
  -- it isn't built: it doesn't have the form that the director asks for
  pub IsMisfit : Around → List Tree → Type 0
  -- it is refused with this code
  pub IsRefused : Around → List Tree → Code → Type 0
  -- the maximum capacity of its channels, 0 where there is none
  pub maximum : Around → ℕ
  -- the record of meetings that it begins with: one of none, where its children meet, and else no record
  pub meetings : Option Made
