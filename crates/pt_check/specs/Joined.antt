-- Where channels begin and end.
use Rattle.std.specs.Prelude.{ℕ, List, [], ◌∷◌, flat_map, Bool, ◌&&◌, nat_eq}
use Rattle.std.specs.List.{list_any}
use Rattle.pt_net.specs.declared.net.Channel.{Channel}
use Rattle.pt_net.specs.declared.net.End.{End}

-- the ends of some channels
abbrev pub ends_of : List Channel → List End
ends_of channels = flat_map (λ k. k.from ∷ k.to ∷ []) channels

-- an end is at port i of entity k
abbrev pub is_at : (k i : ℕ) → End → Bool
is_at k i e = nat_eq e.entity k && nat_eq e.port i

-- a channel begins or ends there
abbrev pub is_joined : List Channel → (k i : ℕ) → Bool
is_joined channels k i = list_any (is_at k i) (ends_of channels)
