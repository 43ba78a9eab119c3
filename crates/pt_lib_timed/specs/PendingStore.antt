-- How the list of what is pending is kept: with a mark where its tags ascend, so that what is due stands in front.
use Rattle.std.specs.Prelude.{◌≡◌, ℕ, List, [], ◌∷◌, ◌++◌, Bool, true, false, Option, Some, None, option_map, refl}
use Rattle.std.specs.List.{AllByRecursion}
use Rattle.std.specs.Coded.{Coded, code_by, coded_ℕ, coded×}
use Rattle.pt_meaning.specs.Tag.{Tag, tag_le}
use Rattle.pt_value.specs.Token.{coded_token}
use Rattle.pt_firing.specs.declared.fault.RunFault.TheVariants.{TimeLimit}
use Rattle.pt_firing.specs.declared.step.StepFault.{StepFault}
use Rattle.pt_firing.specs.declared.step.StepFault.TheVariants.{Run, Memory}
use Rattle.pt_lib_timed.specs.Pending.{Event}

-- each tag is at or before all that stand behind it
abbrev pub IsAscending : List Event → Type 0
IsAscending [] = Unit {0}
IsAscending (e ∷ es) = AllByRecursion (λ f. tag_le e.0 f.0 ≡ true) es × IsAscending es

-- one may be put behind the last where that is at or before its tag
abbrev pub is_behind : Tag → Option Tag → Bool
is_behind tag None = true
is_behind tag (Some last) = tag_le last tag

-- the first one is due at a tag
abbrev pub is_front_due : Tag → List Event → Bool
is_front_due tag [] = false
is_front_due tag (e ∷ es) = tag_le e.0 tag

-- where it is marked
abbrev pub IsMarked : Bool → List Event → Type 0
IsMarked mark es = mark ≡ true → IsAscending es

-- those that arrive behind the others
abbrev pub behind : List Event → Option (List Event) → Option (List Event)
behind pending arrived = option_map (λ es. pending ++ es) arrived

-- a fault of those that arrive: a tag would pass the limits
abbrev pub IsLate : StepFault → Option (List Event) → Type 0
IsLate (Run kind) arrived = (kind ≡ TimeLimit) × (arrived ≡ None)
IsLate Memory arrived = Unit {0}

-- the codes of a tag and of an event
abbrev pub coded_tag : Coded Tag
coded_tag = code_by (ℕ × ℕ) (coded× coded_ℕ coded_ℕ) (λ t. (t.time, t.step)) (λ p. record { time = p.0; step = p.1 }) (λ _. refl)

abbrev pub coded_event : Coded Event
coded_event = coded× coded_tag coded_token
