use Rattle.std.proofs.Common.{◌≡◌, ℕ, ◌<◌, [], ◌∷◌, length, map, get_or}
use Rattle.pt_graph.proofs.groups.Groups.apart.Given as goal

abbrev pub invariant-loop-thing : goal.invariant-loop-thing
invariant-loop-thing l = (length l.group.items ≡ l.thing) × (length l.members.items ≡ l.thing) × ((t : ℕ) → t < l.thing → get_or l.group.items t 0 ≡ t) × ((t : ℕ) → t < l.thing → get_or (map (λ v. v.items) l.members.items) t [] ≡ t ∷ [])
