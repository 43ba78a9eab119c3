-- What a row of feeds gives, on its way to the channels.
use Rattle.std.specs.Prelude.{ℕ, List, [], ◌∷◌, ◌++◌, set, Option}
use Rattle.pt_meaning.specs.Machine.{Partial, partial_at}
use Rattle.pt_sr.specs.declared.feeds.Feed.{Feed}
use Rattle.pt_sr.specs.Feeds.{Target}
use Rattle.pt_sr.specs.State.{learnt}

-- what each of some feeds gives, the last first
abbrev pub gifts : {T : Type 0} → (ℕ → Option (List T)) → List Feed → List (Option (List T))
gifts given [] = []
gifts given (f ∷ fs) = gifts given fs ++ given f.port ∷ []

-- what is known of the channels once some targets gave, one after another
abbrev pub learn_on : {T : Type 0} → (ℕ → Option (List T)) → List Target → List (Partial T) → List (Partial T)
learn_on given [] V = V
learn_on given (t ∷ ts) V = learn_on given ts (set V t.channel (learnt (partial_at V t.channel) (given t.port)))
