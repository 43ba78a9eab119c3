-- Joins of several types.
use Rattle.std.proofs.Common.{◌≡◌}
use Rattle.pt_datatypes.specs.Datatype.{Datatype}
use Rattle.pt_datatypes.specs.Order.{IsBelow}
use Rattle.pt_datatypes.specs.Normal.{IsType}
use Rattle.pt_datatypes.specs.Join.{join}
use Rattle.pt_datatypes.proofs.Order.{below-trans, below-antisymm}
use Rattle.pt_datatypes.proofs.Joins.{join-is_join}

pub join-first : (s t : Datatype) → IsBelow s (join s t)
join-first s t = (join-is_join s t).first

pub join-second : (s t : Datatype) → IsBelow t (join s t)
join-second s t = (join-is_join s t).second

pub join-is_type : (s t : Datatype) → IsType (join s t)
join-is_type s t = (join-is_join s t).is_type

pub join-least : (s t u : Datatype) → IsType u → IsBelow s u → IsBelow t u → IsBelow (join s t) u
join-least s t u = (join-is_join s t).least u

pub join-assoc : (s t u : Datatype) → join (join s t) u ≡ join s (join t u)
join-assoc s t u =
    let first : IsBelow s (join (join s t) u) = below-trans s (join s t) (join (join s t) u) (join-first s t) (join-first (join s t) u) in
    let second : IsBelow t (join (join s t) u) = below-trans t (join s t) (join (join s t) u) (join-second s t) (join-first (join s t) u) in
    let third : IsBelow t (join s (join t u)) = below-trans t (join t u) (join s (join t u)) (join-first t u) (join-second s (join t u)) in
    let fourth : IsBelow u (join s (join t u)) = below-trans u (join t u) (join s (join t u)) (join-second t u) (join-second s (join t u)) in
    below-antisymm (join (join s t) u) (join s (join t u))
    (join-least (join s t) u (join s (join t u)) (join-is_type s (join t u)) (join-least s t (join s (join t u)) (join-is_type s (join t u)) (join-first s (join t u)) third) fourth)
    (join-least s (join t u) (join (join s t) u) (join-is_type (join s t) u) first (join-least t u (join (join s t) u) (join-is_type (join s t) u) second (join-second (join s t) u)))
