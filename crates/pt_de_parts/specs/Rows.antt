-- The rows of a child that fires: the one that it is lent, and those that are left.
use Rattle.std.specs.Prelude.{◌≡◌, ℕ, ◌+◌, ◌^◌, ◌<◌, ◌≤◌, List, length, map, take, drop, refl}
use Rattle.std.specs.Coded.{Coded, code_by, coded×, coded_ℕ, coded_list}
use Rattle.pt_meaning.specs.Streams.{Streams}
use Rattle.pt_meaning.specs.De.{rows_from}
use Rattle.pt_value.specs.declared.token.Token.{Token}
use Rattle.pt_reaction.specs.Channels.{lists_of}
use Rattle.pt_reaction.specs.Spared.{Spared}
use Rattle.pt_de_parts.specs.declared.rows.Rows.TheInside.{Inside}

-- the row that is lent, those that are left after it, and the room for the places of a child
pub record Rowing (T : Type 0) : Type 0 where
  pub row : Streams T
  pub rest : List (Streams T)
  pub width : ℕ

abbrev pub rowing_code : {T : Type 0} → Coded T → Coded (Rowing T)
rowing_code {T} c =
    code_by (Streams T × (List (Streams T) × ℕ)) (coded× (coded_list (coded_list c)) (coded× (coded_list (coded_list (coded_list c))) coded_ℕ)) (λ s. (s.row, (s.rest, s.width))) (λ p. record { row = p.0; rest = p.1.0; width = p.1.1 }) (λ _. refl)

-- what is left of some lists behind so many tokens of each
abbrev pub behind : {T : Type 0} → ℕ → Streams T → Streams T
behind n X = map (λ xs. drop n xs) X

abbrev pub rows_seen : {T : Type 0} → Streams T → List (Spared T) → (places number left : ℕ) → Rowing T
rows_seen row lines places number left = record { row = take places row; rest = rows_from left (behind number (lists_of (take places lines))); width = length lines }

abbrev pub rows_in : Inside → Rowing Token
rows_in r = rows_seen r.row.items r.lines.items r.places r.number r.left

pub record AreRows (r : Inside) : Type 0 where
  pub same : length r.row.items ≡ length r.lines.items
  pub places : r.places ≤ length r.lines.items
  pub counted : r.number + r.left < 2 ^ 64
