-- A reaction worked by hand: who reads which channel, and whom a token makes due. Tokens are numbers.
use Rattle.std.proofs.Common.{◌≡◌, ℕ, [], ◌∷◌, true, false, Some, None, refl, map}
use Rattle.pt_meaning.specs.Tag.{Tag}
use Rattle.pt_meaning.specs.Streams.{at}
use Rattle.pt_meaning.specs.Net.{Output}
use Rattle.pt_meaning.specs.Valuation.{TickPlan}
use Rattle.pt_wakes.specs.Moved.{with_woken}
use Rattle.pt_de_laws.specs.State.{Roles, DeState, started, begun, asked, after_told, is_due_child, is_last_child}
use Rattle.pt_reaction.specs.Feeds.{targets}
use Rattle.pt_reaction.specs.Given.{put_on}
use Rattle.pt_de_due.specs.Due.{reader_of, makes_due, makes_last, none_due}

abbrev start : Tag
start = record { time = 0; step = 0 }

-- A clock feeds a delay, which is child 1, and the first place of a sum, which is child 2. The delay feeds the second place of the sum, whose output is the own one.
abbrev plan : TickPlan
plan = record { net = record { sources = Output 0 0 ∷ Output 0 0 ∷ Output 1 0 ∷ Output 2 0 ∷ []; places = 0 ∷ 1 ∷ 2 ∷ [] }; inputs = 0 }

abbrev roles : Roles
roles = record { depths = 0 ∷ 0 ∷ 1 ∷ []; delayed = true ∷ false ∷ false ∷ false ∷ []; early = false ∷ true ∷ false ∷ []; whole = false ∷ true ∷ false ∷ []; starts = Some start ∷ None ∷ None ∷ [] }

abbrev first : DeState ℕ
first = begun start [] (started plan roles)

-- the channels are read by the delay, by the sum at two places, and by none for the own output
readers : map (λ c. reader_of first c) (0 ∷ 1 ∷ 2 ∷ 3 ∷ []) ≡ 1 ∷ 2 ∷ 2 ∷ 3 ∷ []
readers = refl

-- the clock is due by its wake
clock-due : (with_woken start first.wakes (none_due first)).due ≡ true ∷ false ∷ false ∷ []
clock-due = refl

-- a token that it gives is put on the first two channels
clock-feeds : targets 3 0 0 plan.net.sources ≡ record { channel = 0; port = 0 } ∷ record { channel = 1; port = 0 } ∷ []
clock-feeds = refl

clock-puts : put_on (λ port. at ((7 ∷ []) ∷ []) port) (targets 3 0 0 plan.net.sources) first.tokens ≡ (7 ∷ []) ∷ (7 ∷ []) ∷ [] ∷ [] ∷ []
clock-puts = refl

-- it makes the sum due, and the delay fires after all others
sum-due : makes_due first 1 (7 ∷ []) ≡ true
sum-due = refl

delay-rests : makes_due first 0 (7 ∷ []) ≡ false
delay-rests = refl

delay-last : makes_last first 0 (7 ∷ []) ≡ true
delay-last = refl

-- what comes to an own output, or no token at all, makes nothing due
own-output : makes_due first 3 (7 ∷ []) ≡ false
own-output = refl

no-token : makes_due first 1 [] ≡ false
no-token = refl

-- so it is once the clock is told
abbrev told : DeState ℕ
told = after_told 0 ((7 ∷ []) ∷ []) (Some (record { time = 2; step = 0 })) (asked 0 first)

told-due : map (λ i. is_due_child told i) (0 ∷ 1 ∷ 2 ∷ []) ≡ false ∷ false ∷ true ∷ []
told-due = refl

told-last : map (λ i. is_last_child told i) (0 ∷ 1 ∷ 2 ∷ []) ≡ false ∷ true ∷ false ∷ []
told-last = refl

-- as the sum is asked to fire its inputs leave their channels, and no token makes it due again at this tag
sum-asked : (asked 2 told).tokens ≡ (7 ∷ []) ∷ [] ∷ [] ∷ [] ∷ []
sum-asked = refl

sum-over : makes_due (asked 2 told) 2 (5 ∷ []) ≡ false
sum-over = refl
