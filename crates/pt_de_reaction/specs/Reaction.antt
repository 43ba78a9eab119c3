-- What contracts see of a reaction, and what its parts keep.
use Rattle.std.specs.Prelude.{◌≡◌, ℕ, ◌<◌, ◌≤◌, List, [], ◌∷◌, ◌++◌, Bool, true, false, length, get_or, Option, refl}
use Rattle.std.specs.Coded.{Coded, code_by, coded×, coded_ℕ, coded_list}
use Rattle.pt_meaning.specs.Tag.{Tag}
use Rattle.pt_meaning.specs.Streams.{Streams}
use Rattle.pt_value.specs.declared.token.Token.{Token}
use Rattle.pt_wakes.specs.Due.{DueSet}
use Rattle.pt_reaction.specs.Channels.{spare_at}
use Rattle.pt_reaction.specs.Feeds.{Target}
use Rattle.pt_de_laws.specs.State.{Turn, Stage, Idle, Open, DeState, MayFire, MayAnswer, IsOver, at_rest}
use Rattle.pt_de_laws.specs.Lawful.{IsLawful}
use Rattle.pt_de_due.specs.Due.{IsShaped, AreDue, AreLast, none_due}
use Rattle.pt_de_parts.specs.Net.{Planned}
use Rattle.pt_de_parts.specs.StateCode.{coded_state}
use Rattle.pt_de_reaction.specs.declared.reaction.Reaction.TheInside.{Inside}
use Rattle.pt_de_reaction.specs.declared.reaction.Next.{Next}
use Rattle.pt_de_reaction.specs.declared.reaction.Next.TheVariants as next

-- the state, and the room of each channel for so many more tokens
pub record Flow : Type 0 where
  pub state : DeState Token
  pub spares : List ℕ

abbrev pub coded_flow : Coded Flow
coded_flow = code_by (DeState Token × List ℕ) (coded× coded_state (coded_list coded_ℕ)) (λ s. (s.state, s.spares)) (λ p. record { state = p.0; spares = p.1 }) (λ _. refl)

-- a reaction is open, or none is under way
abbrev pub stage_if : Bool → Stage Token
stage_if true = Open
stage_if false = Idle

abbrev pub state_of : Planned → List (Option Tag) → Streams Token → List Turn → Tag → Bool → DeState Token
state_of net wakes tokens turns tag under_way = record { plan = net.plan; roles = net.roles; wakes = wakes; tokens = tokens; turns = turns; tag = tag; stage = stage_if under_way }

abbrev pub flow_in : Inside → Flow
flow_in r = record { state = state_of r.net r.agenda.wakes r.channels.lists r.turns r.tag r.under_way; spares = r.channels.spares }

-- just those children are in a set that are due in the state, or that fire after all others: none where no reaction is under way
abbrev pub DueFits : Bool → DeState Token → DueSet → Type 0
DueFits true s d = AreDue s d
DueFits false s d = d ≡ none_due s

abbrev pub LastFits : Bool → DeState Token → DueSet → Type 0
LastFits true s d = AreLast s d
LastFits false s d = d ≡ none_due s

-- what the parts of a reaction keep: where none is under way nothing has come
pub record IsSound (s : DeState Token) (under_way : Bool) (due last : DueSet) : Type 0 where
  pub lawful : IsLawful s.plan s.roles
  pub shaped : IsShaped s
  pub dues : DueFits under_way s due
  pub lasts : LastFits under_way s last
  pub rests : under_way ≡ false → s ≡ at_rest s.plan s.roles s.wakes

abbrev pub IsReaction : Inside → Type 0
IsReaction r = IsSound (flow_in r).state r.under_way r.agenda.set r.last

-- what each of some targets is given, the last first
abbrev pub gifts_on : {T : Type 0} → (ℕ → List T) → List Target → List (List T)
gifts_on given [] = []
gifts_on given (t ∷ ts) = gifts_on given ts ++ given t.port ∷ []

abbrev pub no_target : Target
no_target = record { channel = 0; port = 0 }

-- it is staged what each target is given, and there is room for it
pub record IsStaged (given : ℕ → List Token) (ts : List Target) (staged : List (List Token)) (spares : List ℕ) : Type 0 where
  pub lists : staged ≡ gifts_on given ts
  pub room : (k : ℕ) → k < length ts → length (given (get_or ts k no_target).port) ≤ spare_at spares (get_or ts k no_target).channel

-- what comes next in a reaction
abbrev pub Comes : DeState Token → Next → Type 0
Comes s (next.Fire i) = MayFire s i
Comes s (next.Early i) = MayAnswer s i
Comes s next.Finished = IsOver s
