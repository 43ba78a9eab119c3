-- The fields of a tick, and what contracts see of it.
use Rattle.std.specs.Prelude.{◌≡◌, ℕ, ◌+◌, ◌<◌, ◌⊎◌, List, [], ◌∷◌, length, true, false, get_or}
use Rattle.pt_value.specs.declared.token.Token.{Token}
use Rattle.pt_sr.specs.declared.tick.Tick.TheInside.{Inside}
use Rattle.pt_sr.specs.declared.tick.Look.{Look}
use Rattle.pt_sr.specs.declared.tick.Look.TheVariants as look
use Rattle.pt_sr.specs.declared.tick.Next.{Next}
use Rattle.pt_sr.specs.declared.tick.Next.TheVariants as next
use Rattle.pt_sr.specs.Plan.{plan_of, IsLawful}
use Rattle.pt_sr.specs.Feeds.{AreFeeds}
use Rattle.pt_sr.specs.State.{TickState, MayFire, MayAnswer, HasNothing}

-- where the places of each child begin, and where those of all end
abbrev pub begins : ℕ → List ℕ → List ℕ
begins o [] = o ∷ []
begins o (p ∷ ps) = o ∷ begins (o + p) ps

abbrev pub seen_in : Inside → TickState Token
seen_in t = record { plan = plan_of t.plan; nonstrict = t.plan.nonstrict.items; known = t.signals; fired = t.fired.items; heard = t.heard.items }

-- what a tick keeps: its plan is lawful, and its tables and lists fit it
pub record IsSound (t : Inside) : Type 0 where
  pub lawful : IsLawful (plan_of t.plan) t.plan.nonstrict.items t.plan.takes
  pub offsets : t.offsets.items ≡ begins 0 t.plan.places
  pub fed : AreFeeds (length t.plan.places) (plan_of t.plan).net.sources t.feeds.items
  pub signals : length t.signals ≡ length t.plan.sources.items
  pub fired : length t.fired.items ≡ length t.plan.places
  pub heard : length t.heard.items ≡ length t.plan.places

-- how a child stands
abbrev pub LooksAt : TickState Token → ℕ → Look → Type 0
LooksAt s i look.Fired = get_or s.fired i false ≡ true
LooksAt s i look.Ready = MayFire s i
LooksAt s i look.Tells = MayAnswer s i
LooksAt s i look.Waits = HasNothing s i

-- the child has fired, or nothing is to be learnt of it now
abbrev pub IsPassed : TickState Token → ℕ → Type 0
IsPassed s i = (get_or s.fired i false ≡ true) ⊎ HasNothing s i

-- nothing more can be learnt of any child
abbrev pub IsSettled : TickState Token → Type 0
IsSettled s = (i : ℕ) → i < length s.plan.net.places → IsPassed s i

-- what comes next in a tick
abbrev pub Comes : TickState Token → Next → Type 0
Comes s (next.Fire i) = MayFire s i
Comes s (next.Early i) = MayAnswer s i
Comes s next.Finished = (i : ℕ) → i < length s.plan.net.places → get_or s.fired i false ≡ true
Comes s next.Stuck = IsSettled s × ((w : ℕ) × (w < length s.plan.net.places) × (get_or s.fired w false ≡ false))
