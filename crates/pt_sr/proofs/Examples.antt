-- Ticks worked by hand, call by call. Tokens are numbers.
use Rattle.std.proofs.Common.{◌≡◌, ℕ, ◌+◌, [], ◌∷◌, true, false, refl}
use Rattle.pt_meaning.specs.Tag.{origin}
use Rattle.pt_meaning.specs.Machine.{Unknown, Known}
use Rattle.pt_meaning.specs.Net.{Own, Output}
use Rattle.pt_meaning.specs.Valuation.{TickPlan}
use Rattle.pt_sr.specs.State.{SrState, Wrong, inputs_of, unknown_in, lent_of, own_of, started, begun, asked, listening, after_told, after_heard, waits}

-- Two multiplexers m and n in a loop: n feeds the first input of m, and m that of n; a Const 5 feeds the second input of m, a Const 7 that of n; m selects the first and n the second.
-- Children are m, n, the two Consts, and the two that select; m is the own output.
abbrev loop : TickPlan
loop = record {
  net = record { sources = Output 1 0 ∷ Output 2 0 ∷ Output 4 0 ∷ Output 0 0 ∷ Output 3 0 ∷ Output 5 0 ∷ Output 0 0 ∷ []; places = 3 ∷ 3 ∷ 0 ∷ 0 ∷ 0 ∷ 0 ∷ [] };
  inputs = 0;
}

abbrev gives : ℕ → ℕ → SrState ℕ → SrState ℕ
gives i x s = after_told i ((x ∷ []) ∷ []) (asked i s)

-- the children without inputs have fired
abbrev fed : SrState ℕ
fed = gives 5 1 (gives 4 0 (gives 3 7 (gives 2 5 (begun origin [] (started loop (true ∷ true ∷ false ∷ false ∷ false ∷ false ∷ []))))))

-- each multiplexer waits for the other
m-waits : inputs_of fed.tick 0 ≡ Unknown ∷ Known (5 ∷ []) ∷ Known (0 ∷ []) ∷ []
m-waits = refl

n-waits : inputs_of fed.tick 1 ≡ Unknown ∷ Known (7 ∷ []) ∷ Known (1 ∷ []) ∷ []
n-waits = refl

-- m has nothing to tell early, and n tells 7
abbrev told : SrState ℕ
told = after_heard 1 (Known (7 ∷ []) ∷ []) (listening 1 (after_heard 0 (Unknown ∷ []) (listening 0 fed)))

m-may-fire : unknown_in (inputs_of told.tick 0) ≡ 0
m-may-fire = refl

m-takes : lent_of told 0 ≡ (7 ∷ []) ∷ (5 ∷ []) ∷ (0 ∷ []) ∷ []
m-takes = refl

-- m fires and gives 7, and then n, which gives what it told
abbrev ends : SrState ℕ
ends = gives 1 7 (gives 0 7 told)

all-fired : ends.tick.fired ≡ true ∷ true ∷ true ∷ true ∷ true ∷ true ∷ []
all-fired = refl

gives-seven : own_of ends ≡ (7 ∷ []) ∷ []
gives-seven = refl

-- an early answer lowers the number of those that may still be asked for
fewer : waits fed ≡ 4 + 4 + 1 + 1 + 1 + 1
fewer = refl

fewer-then : waits told ≡ 1 + 1 + 1 + 1 + 1 + 1
fewer-then = refl

-- A strict child that feeds itself: its input stays unknown, and nothing more can be learnt.
abbrev self : SrState ℕ
self = begun origin [] (started (record { net = record { sources = Output 0 0 ∷ []; places = 1 ∷ [] }; inputs = 0 }) (false ∷ []))

waits-for-itself : inputs_of self.tick 0 ≡ Unknown ∷ []
waits-for-itself = refl

-- A child that gives two tokens on one port.
abbrev two : SrState ℕ
two = after_told 0 ((0 ∷ 0 ∷ []) ∷ []) (asked 0 (begun origin [] (started (record { net = record { sources = Output 0 0 ∷ []; places = 0 ∷ [] }; inputs = 0 }) (false ∷ []))))

is-wrong : two.stage ≡ Wrong 0
is-wrong = refl

-- An own input that is absent is known to be so.
abbrev absent : SrState ℕ
absent = begun origin ([] ∷ []) (started (record { net = record { sources = Own 0 ∷ []; places = 1 ∷ [] }; inputs = 1 }) (false ∷ []))

absent-is-known : unknown_in (inputs_of absent.tick 0) ≡ 0
absent-is-known = refl
