-- What the rows of library actors have in common. Types are checked before a run, so a token of another type than a place has never comes there; a row takes it as none.
use Rattle.std.specs.Prelude.{ℕ, ◌^◌, nat_lt, List, [], ◌∷◌, Bool, true, ◌&&◌, Option, is_some, Some, None, replicate, ℤ, pos, negsuc, if◌then◌else◌}
use Rattle.pt_meaning.specs.Basics.{Streams, at}
use Rattle.pt_meaning.specs.Machine.{Need, Counts}
use Rattle.pt_meaning.specs.Node.{Answer, Gives, Fails}
use Rattle.pt_value.specs.declared.token.Token.{Token}
use Rattle.pt_value.specs.declared.token.Token.TheVariants as token
use Rattle.pt_firing.specs.RunFault.{code_of}
use Rattle.pt_firing.specs.declared.fault.RunFault.TheVariants.{Overflow}

-- one token on each of so many places
abbrev pub one_each : ℕ → Need
one_each places = Counts (replicate places 1)

-- a firing of an actor with one output that gives one token
abbrev pub gives : {A : Type 0} → A → Token → Answer Token A
gives after given = Gives after ((given ∷ []) ∷ [])

-- one that gives nothing
abbrev pub rests : {A : Type 0} → A → Answer Token A
rests after = Gives after ([] ∷ [])

-- a number that 64 bits with a sign hold
abbrev pub fits_i64 : ℤ → Bool
fits_i64 (pos n) = nat_lt n (2 ^ 63)
fits_i64 (negsuc n) = nat_lt n (2 ^ 63)

-- a firing that gives the exact number, and is stuck where that doesn't fit
abbrev pub exactly : {A : Type 0} → A → ℤ → Answer Token A
exactly after number = if fits_i64 number then gives after (token.Int number) else Fails (code_of Overflow)

-- the first token of a place, if there is one
abbrev pub first_in : {T : Type 0} → List T → Option T
first_in [] = None
first_in (t ∷ ts) = Some t

abbrev pub token_at : {T : Type 0} → Streams T → ℕ → Option T
token_at X place = first_in (at X place)

-- the number that it is
abbrev pub number_of : Option Token → Option ℤ
number_of None = None
number_of (Some (token.Int n)) = Some n
number_of (Some t) = None

abbrev pub number_in : List Token → Option ℤ
number_in tokens = number_of (first_in tokens)

abbrev pub number_at : Streams Token → ℕ → Option ℤ
number_at X place = number_in (at X place)

-- the truth value that it is
abbrev pub truth_of : Option Token → Option Bool
truth_of None = None
truth_of (Some (token.Bool b)) = Some b
truth_of (Some t) = None

abbrev pub truth_in : List Token → Option Bool
truth_in tokens = truth_of (first_in tokens)

abbrev pub truth_at : Streams Token → ℕ → Option Bool
truth_at X place = truth_in (at X place)

-- a place has a token
abbrev pub is_present : {T : Type 0} → Streams T → ℕ → Bool
is_present X place = is_some (token_at X place)

-- each place has one
abbrev pub all_present : {T : Type 0} → Streams T → Bool
all_present [] = true
all_present (xs ∷ X) = is_some (first_in xs) && all_present X

-- an actor that gives nothing and keeps its state where its input is absent
abbrev pub on_present : {A T : Type 0} → A → (T → Answer Token A) → Option T → Answer Token A
on_present actor step None = rests actor
on_present actor step (Some x) = step x
