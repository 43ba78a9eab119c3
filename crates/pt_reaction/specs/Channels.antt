-- The tokens of channels, of which those that weren't used have none.
use Rattle.std.specs.Prelude.{ℕ, List, [], ◌∷◌, Bool, true, false, map, get_or, refl}
use Rattle.std.specs.Coded.{Coded, code_by, coded×, coded_ℕ, coded_list}
use Rattle.pt_meaning.specs.Streams.{Streams}
use Rattle.pt_reaction.specs.Spared.{Spared}

-- the tokens of each channel, and the room for so many more
pub record Lanes (T : Type 0) : Type 0 where
  pub lists : Streams T
  pub spares : List ℕ

abbrev pub lanes_code : {T : Type 0} → Coded T → Coded (Lanes T)
lanes_code {T} c = code_by (Streams T × List ℕ) (coded× (coded_list (coded_list c)) (coded_list coded_ℕ)) (λ s. (s.lists, s.spares)) (λ p. record { lists = p.0; spares = p.1 }) (λ _. refl)

abbrev pub spare_at : List ℕ → ℕ → ℕ
spare_at spares c = get_or spares c 0

module _ {T : Type 0} where
  abbrev pub list_if : Bool → Spared T → List T
  list_if true l = l.list
  list_if false l = []

  abbrev pub spare_if : Bool → Spared T → ℕ
  spare_if true l = l.spare
  spare_if false l = 0

  abbrev pub lists_in : List Bool → List (Spared T) → Streams T
  lists_in [] lines = []
  lists_in (b ∷ bs) [] = []
  lists_in (b ∷ bs) (l ∷ ls) = list_if b l ∷ lists_in bs ls

  abbrev pub spares_in : List Bool → List (Spared T) → List ℕ
  spares_in [] lines = []
  spares_in (b ∷ bs) [] = []
  spares_in (b ∷ bs) (l ∷ ls) = spare_if b l ∷ spares_in bs ls

  -- the tokens of each line
  abbrev pub lists_of : List (Spared T) → Streams T
  lists_of lines = map (λ l. l.list) lines

  -- what contracts see
  abbrev pub lanes_in : List Bool → List (Spared T) → Lanes T
  lanes_in used lines = record { lists = lists_in used lines; spares = spares_in used lines }
