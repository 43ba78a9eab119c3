-- Sources: they give at every firing, or with a trigger where a token is present there, and so often as their limit says.
use Rattle.std.specs.Prelude.{ℕ, zero, suc, ◌-◌, pos, unsigned_abs, List, [], ◌∷◌, Bool, true, false, Option, option_map, codes, if◌then◌else◌}
use Rattle.pt_meaning.specs.Basics.{Streams}
use Rattle.pt_meaning.specs.Machine.{Need, Over}
use Rattle.pt_meaning.specs.Node.{Answer}
use Rattle.pt_value.specs.declared.token.Token.{Token}
use Rattle.pt_flow_base.specs.declared.limit.Limit.{Limit}
use Rattle.pt_flow_base.specs.declared.limit.Limit.TheVariants.{Endless, Left}
use Rattle.pt_firing.specs.Params.{int_within}
use Rattle.pt_flow_base.specs.Row.{one_each, rests}

-- the limit by a firingCountLimit, of which 0 is none
abbrev pub limit_of : ℕ → Limit
limit_of zero = Endless
limit_of (suc count) = Left (suc count)

-- the limit that firingCountLimit says, from 0 to 10^9
abbrev pub limit_in : List (List ℕ × Token) → Option Limit
limit_in values = option_map (λ count. limit_of (unsigned_abs count)) (int_within (codes "firingCountLimit") (pos 0) (pos 0) (pos 1000000000) values)

-- no firing is left
abbrev pub is_over : Limit → Bool
is_over Endless = false
is_over (Left zero) = true
is_over (Left (suc count)) = false

-- it is never over
abbrev pub is_endless : Limit → Bool
is_endless Endless = true
is_endless (Left count) = false

-- after one firing
abbrev pub after_one : Limit → Limit
after_one Endless = Endless
after_one (Left count) = Left (count - 1)

-- a source without a trigger, or with a token there
abbrev pub is_called : Streams Token → Bool
is_called [] = true
is_called ([] ∷ X) = false
is_called ((token ∷ tokens) ∷ X) = true

-- a source that is over, or isn't called, gives nothing
abbrev pub source : {A : Type 0} → Bool → Streams Token → A → Answer Token A → Answer Token A
source over X actor answer = if over then rests actor else if is_called X then answer else rests actor

-- a source that is over fires no more
abbrev pub source_need : Bool → ℕ → Need
source_need over places = if over then Over else one_each places
