-- Register: for each token of its trigger, the latest input that was kept at an earlier tag.
use Rattle.std.specs.Prelude.{ℕ, List, [], ◌∷◌, length, replicate, Option, Some, None, codes, if◌then◌else◌}
use Rattle.pt_meaning.specs.Tag.{tag_le}
use Rattle.pt_meaning.specs.Basics.{Tag, Streams, at}
use Rattle.pt_meaning.specs.Machine.{Need, Partial, Unknown, Known, partial_at}
use Rattle.pt_meaning.specs.Node.{Answer, Gives}
use Rattle.pt_value.specs.declared.token.Token.{Token}
use Rattle.pt_firing.specs.Params.{value_under}
use Rattle.pt_firing.specs.Row.{one_each}
use Rattle.pt_flow_base.specs.declared.params.Params.{Params}
use Rattle.pt_lib_timed.specs.declared.register.Register.{Register}
use Rattle.pt_lib_timed.specs.Pending.{Event}

abbrev pub need : Register → Need
need actor = one_each actor.places

-- the latest one, where it was kept at an earlier tag, and else the one before its tag
abbrev pub kept_by : Tag → Option Event → Option Token → Option Token
kept_by tag None before = before
kept_by tag (Some latest) before = if tag_le tag latest.0 then before else Some latest.1

-- what it gives at a tag
abbrev pub given : Tag → Register → Option Token
given tag actor = kept_by tag actor.latest actor.before

-- it, so many times
abbrev pub repeated : ℕ → Option Token → List Token
repeated n None = []
repeated n (Some token) = replicate n token

-- the last of some tokens, if there is any
abbrev pub last_of : List Token → Option Token
last_of [] = None
last_of (t ∷ []) = Some t
last_of (t ∷ u ∷ ts) = last_of (u ∷ ts)

-- the last token of the input is kept from then on
abbrev pub keeping : Tag → Register → Option Token → Register
keeping tag actor None = actor
keeping tag actor (Some token) = record actor { before = given tag actor; latest = Some (tag, token) }

abbrev pub step : Tag → Register → Streams Token → Answer Token Register
step tag actor X = Gives (keeping tag actor (last_of (at X 0))) (repeated (length (at X 1)) (given tag actor) ∷ [])

-- how many tokens are known
abbrev pub count_known : Partial Token → Option ℕ
count_known Unknown = None
count_known (Known tokens) = Some (length tokens)

-- what it gives is known once its trigger is
abbrev pub by_trigger : Option Token → Partial Token → Partial Token
by_trigger given Unknown = Unknown
by_trigger given (Known triggers) = Known (repeated (length triggers) given)

abbrev pub early : Tag → Register → List (Partial Token) → List (Partial Token)
early tag actor vs = by_trigger (given tag actor) (partial_at vs 1) ∷ []

-- before the first input there is initialValue, or nothing
abbrev pub start : Params → Option Register
start params = Some (record { before = value_under (codes "initialValue") params.values; latest = None; places = 2 })
