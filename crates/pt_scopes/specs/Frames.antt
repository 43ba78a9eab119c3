-- What the program has of the composites that it has gone through.
use Rattle.std.specs.Prelude.{◌≡◌, ℕ, ◌<◌, List, [], length, Option, Some, None, option_map, slice_get}
use Rattle.std.specs.List.{All}
use Rattle.pt_scopes.specs.declared.names.Names.{Names}
use Rattle.pt_scopes.specs.Names.{in_chain}
use Rattle.pt_scopes.specs.declared.scopes.Scopes.{Scopes}
use Rattle.pt_scopes.specs.Scopes.{NetTree, Bindings, bound, Sees}

-- which frames are seen in a composite, where it is gone through
abbrev pub chain_at : Scopes → Option ℕ → Option ℕ → Option (List ℕ)
chain_at s (Some t) parent = option_map (λ chain. chain.items) (slice_get s.transparent.items t)
chain_at s None (Some k) = option_map (λ chain. chain.items) (slice_get s.opaque.items k)
chain_at s None None = Some []

-- these frames hold what these bindings say
abbrev pub Means : List Names → List ℕ → Bindings → Type 0
Means frames chain bindings = (name : List ℕ) → option_map Some (in_chain frames chain name) ≡ bound bindings name

-- what is seen in a composite, as these frames hold it
pub record IsSeenIn (net : NetTree) (frames : List Names) (within parent : Option ℕ) (chain : List ℕ) : Type 0 where
  pub bindings : Bindings
  pub sees : Sees net within parent bindings
  pub means : Means frames chain bindings
  pub inside : All (λ k. k < length frames) chain

-- what is seen in each composite that is gone through
abbrev pub AreScopes : NetTree → Scopes → Type 0
AreScopes net s = (within parent : Option ℕ) (chain : List ℕ) → chain_at s within parent ≡ Some chain → IsSeenIn net s.frames.items within parent chain
