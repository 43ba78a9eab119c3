-- How many firings a run made.
use Rattle.std.specs.Prelude.{◌≡◌, ℕ}
use Rattle.pt_meaning.specs.Basics.{Path, Log, firings_in}
use Rattle.pt_meaning.specs.Headline.{count_in}
use Rattle.pt_value.specs.declared.token.Token.{Token}
use Rattle.pt_node.specs.Shown.{Shown}
use Rattle.pt_node.specs.View.{node_of}
use Rattle.pt_trees.specs.Run.{counts_of}

-- A tree that became another made so many firings: so many has each log that has of each path as many as the other tree has counted there. The log of a run is such a one.
abbrev pub IsCount : (old new : Shown) → ℕ → Type 0
IsCount old new firings = (log : Log Token) → ((p : Path) → firings_in (log p) ≡ counts_of new p) → firings ≡ count_in log (node_of old)
