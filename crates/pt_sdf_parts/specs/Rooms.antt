-- Room for the tokens of a place whose child needs several of them.
use Rattle.std.specs.Prelude.{◌≡◌, ℕ, ◌+◌, ◌<◌, ◌≤◌, List, [], get_or, Option, Some, None, Vec, vec_capacity}
use Rattle.std.specs.Global.{Global}
use Rattle.pt_value.specs.declared.token.Token.{Token}

-- there is room for n tokens; one or none needs no room
abbrev pub HasRoom : ℕ → Option (Vec Token Global) → Type 0
HasRoom n None = n ≤ 1
HasRoom n (Some room) = (n ≤ vec_capacity room) × (room.items ≡ [])

-- each of n places from this one on has room for what it needs
abbrev pub HaveRooms : (needs : List ℕ) → List (Option (Vec Token Global)) → (from n : ℕ) → Type 0
HaveRooms needs rooms from n = (k : ℕ) → k < n → HasRoom (get_or needs (from + k) 0) (get_or rooms (from + k) None)
