-- The list of tokens that an actor holds back, each with the tag at which it is due.
use Rattle.std.specs.Prelude.{ℕ, List, [], ◌∷◌, ◌++◌, map, Bool, Option, Some, None, option_map, if◌then◌else◌}
use Rattle.pt_meaning.specs.Tag.{Tag, tag_le, tag_after, within_limits, least}
use Rattle.pt_meaning.specs.Node.{Answer, Gives, Fails}
use Rattle.pt_value.specs.declared.token.Token.{Token}
use Rattle.pt_firing.specs.RunFault.{code_of}
use Rattle.pt_firing.specs.declared.fault.RunFault.TheVariants.{TimeLimit}

-- a token, behind the tag at which it is due
abbrev pub Event : Type 0
Event = Tag × Token

-- The tokens that are due at a tag, those at or before it, in the list's order. After a return to an earlier microstep they may stand anywhere in it.
abbrev pub due : Tag → List Event → List Token
due tag [] = []
due tag (e ∷ es) = if tag_le e.0 tag then e.1 ∷ due tag es else due tag es

-- the others
abbrev pub left : Tag → List Event → List Event
left tag [] = []
left tag (e ∷ es) = if tag_le e.0 tag then left tag es else e ∷ left tag es

-- the least tag that is pending, if there is any
abbrev pub wake : List Event → Option Tag
wake es = least (map (λ e. Some e.0) es)

-- the tag of the last one
abbrev pub last_tag : List Event → Option Tag
last_tag [] = None
last_tag (e ∷ []) = Some e.0
last_tag (e ∷ f ∷ es) = last_tag (f ∷ es)

-- the greater of a tag and another, if there is one
abbrev pub later_of : Tag → Option Tag → Tag
later_of tag None = tag
later_of tag (Some other) = if tag_le other tag then tag else other

-- a token due at that tag before those that come then, where there is such a tag
abbrev pub before : Token → Option Tag → (Tag → Option (List Event)) → Option (List Event)
before token None more = None
before token (Some end) more = option_map (λ es. (end, token) ∷ es) (more end)

-- Tokens that arrive, each due after a delay: from the same moment, or in turn, each from when the one before it is due. There are none where a tag would pass the limits.
abbrev pub arriving : (in_turn : Bool) → (from : Tag) → (delay : ℕ) → List Token → Option (List Event)
arriving in_turn from delay [] = Some []
arriving in_turn from delay (x ∷ xs) = before x (within_limits (tag_after from delay)) (λ end. arriving in_turn (if in_turn then end else from) delay xs)

-- what is due is given, and then the tokens that arrive are held back; stuck where a tag would pass the limits
abbrev pub given_then : Tag → List Event → Option (List Event) → Answer Token (List Event)
given_then tag pending None = Fails (code_of TimeLimit)
given_then tag pending (Some arrived) = Gives (left tag pending ++ arrived) (due tag pending ∷ [])

-- the answer of an actor that holds such a list
abbrev pub held_in : {A : Type 0} → (List Event → A) → Answer Token (List Event) → Answer Token A
held_in held (Gives pending out) = Gives (held pending) out
held_in held (Fails code) = Fails code
