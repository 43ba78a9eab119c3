-- What a row of feeds gives, on its way to the channels.
use Rattle.std.specs.Prelude.{ℕ, List, [], ◌∷◌, ◌++◌, set}
use Rattle.pt_meaning.specs.Machine.{Partial, partial_at}
use Rattle.pt_meaning.specs.Streams.{Streams, at}
use Rattle.pt_firing.specs.TriState.{tokens_known}
use Rattle.pt_reaction.specs.declared.feeds.Feed.{Feed}
use Rattle.pt_reaction.specs.Feeds.{Target}

-- what each of some feeds gives, the last first
abbrev pub gifts : {T : Type 0} → (ℕ → List T) → List Feed → List (List T)
gifts given [] = []
gifts given (f ∷ fs) = gifts given fs ++ given f.port ∷ []

-- the tokens of the channels once some targets got what is given, one after another
abbrev pub put_on : {T : Type 0} → (ℕ → List T) → List Target → Streams T → Streams T
put_on given [] X = X
put_on given (t ∷ ts) X = put_on given ts (set X t.channel (at X t.channel ++ given t.port))

-- the tokens of each port that is known, and none of one that isn't
abbrev pub known_on : {T : Type 0} → List (Partial T) → ℕ → List T
known_on vs port = tokens_known (partial_at vs port)
