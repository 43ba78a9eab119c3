-- What comes to own inputs, and the room that puts need at own outputs.
use Rattle.std.specs.Prelude.{◌≡◌, ℕ, ◌+◌, ◌<◌, ◌≤◌, List, [], ◌++◌, length, map}
use Rattle.pt_meaning.specs.Process.{Put}
use Rattle.pt_value.specs.declared.token.Token.{Token}
use Rattle.pt_reaction.specs.Spared.{Spared}
use Rattle.pt_rv_plan.specs.Ends.{Arriving}
use Rattle.pt_rv.specs.Parties.{weights_of, each, on, spare_at}

abbrev pub no_inlet : Arriving
no_inlet = record { puts = []; coming = [] }

-- what is to come to each own input, and what it has to put once that has come
abbrev pub comings_of : List Arriving → List (List (Put Token))
comings_of is = map (λ (i : Arriving). i.coming) is

abbrev pub arrived_in : List Arriving → List (List (Put Token))
arrived_in is = map (λ (i : Arriving). i.puts ++ i.coming) is

-- Own outputs have room for so much more: for each of these puts on a channel that ends there. And there is room for a meeting for each put.
pub record PromisedMore (inner : ℕ) (before after : List (Spared Token)) (spare more : ℕ) (puts : List (List (Put Token))) : Type 0 where
  pub counted : length after ≡ length before
  pub rooms : (o : ℕ) → o < length before → spare_at before o + weights_of (on (inner + o)) puts ≤ spare_at after o
  pub meets : spare + weights_of each puts ≤ more
