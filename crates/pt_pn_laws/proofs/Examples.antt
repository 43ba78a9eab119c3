-- Firings worked by hand, event by event. Tokens are numbers.
use Rattle.std.proofs.Common.{◌≡◌, ℕ, zero, suc, [], ◌∷◌, true, false, Some, refl, arith}
use Rattle.pt_meaning.specs.Tag.{origin}
use Rattle.pt_meaning.specs.Streams.{at}
use Rattle.pt_meaning.specs.Machine.{Over, Counts, Takes, front}
use Rattle.pt_meaning.specs.Net.{Output}
use Rattle.pt_pn_laws.specs.State.{Network, PnState, AllStopped, IsOver, IsFull, got_of, need_at, wanted, has_room, least_full, held_of, own_of, started, begun, after_get, after_put, after_grow, after_told, closed, blocked_of, waits}

-- A source feeds a scale by 2, whose output is the own one. Channels begin with capacity 1 and grow to 2. The source gives 7, and is over.
abbrev pipe : Network ℕ
pipe = record { plan = record { net = record { sources = Output 0 0 ∷ Output 1 0 ∷ []; places = 0 ∷ 1 ∷ [] }; takes = [] }; initial = 1; maximum = 2; first = [] ∷ [] ∷ []; starts = Counts [] ∷ Counts (1 ∷ []) ∷ [] }

abbrev at-first : PnState ℕ
at-first = begun origin [] (started pipe)

-- the source may fire, and the scale waits for a token on channel 0, which is empty
source-ready : front (need_at at-first 0) (got_of at-first 0) ≡ Takes (got_of at-first 0) []
source-ready = refl

scale-wants : wanted at-first 1 ≡ Some 0
scale-wants = refl

-- it has 7 to put, for which there is room
abbrev source-told : PnState ℕ
source-told = after_told 0 ((7 ∷ []) ∷ []) Over at-first

one-put : source-told.halfway.puts ≡ (record { channel = 0; token = 7 } ∷ []) ∷ [] ∷ []
one-put = refl

put-room : has_room source-told 0 ≡ true
put-room = refl

-- once it is put the channel is full
abbrev source-put : PnState ℕ
source-put = after_put 0 source-told

on-channel : source-put.halfway.queued ≡ (7 ∷ []) ∷ [] ∷ []
on-channel = refl

then-full : has_room source-put 0 ≡ false
then-full = refl

-- the scale gets it, and may fire on it
abbrev scale-got : PnState ℕ
scale-got = after_get 1 source-put

scale-has : got_of scale-got 1 ≡ (7 ∷ []) ∷ []
scale-has = refl

scale-ready : front (need_at scale-got 1) (got_of scale-got 1) ≡ Takes (got_of scale-got 1) ([] ∷ [])
scale-ready = refl

-- each event leaves less to wait for
they-wait : (waits source-told ≡ 4) × (waits source-put ≡ 3) × (waits scale-got ≡ 2)
they-wait = (refl, refl, refl)

-- it puts 14 to the own output, which is never full
abbrev scale-put : PnState ℕ
scale-put = after_put 1 (after_told 1 ((14 ∷ []) ∷ []) (Counts (1 ∷ [])) scale-got)

used-up : scale-put.halfway.gathered ≡ [] ∷ []
used-up = refl

gives-fourteen : own_of scale-put ≡ (14 ∷ []) ∷ []
gives-fourteen = refl

out-room : has_room scale-put 1 ≡ true
out-room = refl

-- the source is over and the scale lacks a token: the firing is done, and nothing is kept
pipe-over : IsOver scale-put
pipe-over = record { stopped = stopped; none = none }
  where
    stopped : AllStopped scale-put
    stopped zero l = tt
    stopped (suc zero) l = (0, refl, refl)
    stopped (suc (suc i)) l = absurd (omega (arith, l))

    none : (i : ℕ) → at scale-put.halfway.puts i ≡ []
    none zero = refl
    none (suc zero) = refl
    none (suc (suc i)) = refl

nothing-kept : held_of (closed scale-put) ≡ [] ∷ [] ∷ []
nothing-kept = refl

-- A process adds 1 to what it got, and feeds itself and the own output. Its channel has the first token 5.
abbrev counter : Network ℕ
counter = record { plan = record { net = record { sources = Output 0 0 ∷ Output 0 0 ∷ []; places = 1 ∷ [] }; takes = [] }; initial = 1; maximum = 1; first = (5 ∷ []) ∷ [] ∷ []; starts = Counts (1 ∷ []) ∷ [] }

abbrev counter-got : PnState ℕ
counter-got = after_get 0 (begun origin [] (started counter))

counter-has : got_of counter-got 0 ≡ (5 ∷ []) ∷ []
counter-has = refl

-- it puts 6 on both channels, in order of their numbers, and gets 6 next
abbrev counter-told : PnState ℕ
counter-told = after_told 0 ((6 ∷ []) ∷ []) (Counts (1 ∷ [])) counter-got

two-puts : counter-told.halfway.puts ≡ (record { channel = 0; token = 6 } ∷ record { channel = 1; token = 6 } ∷ []) ∷ []
two-puts = refl

abbrev counter-again : PnState ℕ
counter-again = after_get 0 (after_put 0 (after_put 0 counter-told))

counter-next : got_of counter-again 0 ≡ (6 ∷ []) ∷ []
counter-next = refl

counter-gave : own_of counter-again ≡ (6 ∷ []) ∷ []
counter-gave = refl

-- Two scales in a ring without a token: neither goes further, and none waits to put, so the firing is done.
abbrev ring : Network ℕ
ring = record { plan = record { net = record { sources = Output 1 0 ∷ Output 0 0 ∷ []; places = 1 ∷ 1 ∷ [] }; takes = [] }; initial = 1; maximum = 2; first = [] ∷ [] ∷ []; starts = Counts (1 ∷ []) ∷ Counts (1 ∷ []) ∷ [] }

ring-over : IsOver (begun origin [] (started ring))
ring-over = record { stopped = stopped; none = none }
  where
    stopped : AllStopped (begun origin [] (started ring))
    stopped zero l = (0, refl, refl)
    stopped (suc zero) l = (0, refl, refl)
    stopped (suc (suc i)) l = absurd (omega (arith, l))

    none : (i : ℕ) → at (begun origin [] (started ring)).halfway.puts i ≡ []
    none zero = refl
    none (suc zero) = refl
    none (suc (suc i)) = refl

-- A counter from 0 feeds the first place of an adder, whose second is fed by a scale in a ring with itself that has no token. Channels begin with capacity 1 and grow to 2.
abbrev adder : Network ℕ
adder = record {
  plan = record { net = record { sources = Output 0 0 ∷ Output 2 0 ∷ Output 2 0 ∷ []; places = 0 ∷ 2 ∷ 1 ∷ [] }; takes = [] };
  initial = 1;
  maximum = 2;
  first = [] ∷ [] ∷ [] ∷ [];
  starts = Counts [] ∷ Counts (1 ∷ 1 ∷ []) ∷ Counts (1 ∷ []) ∷ [];
}

abbrev counts : ℕ → PnState ℕ → PnState ℕ
counts n s = after_told 0 ((n ∷ []) ∷ []) (Counts []) s

-- the adder gathers 0, then 1 is on the channel, and the counter waits to put 2
abbrev short-one : PnState ℕ
short-one = counts 2 (after_put 0 (counts 1 (after_get 1 (after_put 0 (counts 0 (begun origin [] (started adder)))))))

gathers-zero : got_of short-one 1 ≡ (0 ∷ []) ∷ [] ∷ []
gathers-zero = refl

short-stopped : AllStopped short-one
short-stopped zero l = refl
short-stopped (suc zero) l = (1, refl, refl)
short-stopped (suc (suc zero)) l = (0, refl, refl)
short-stopped (suc (suc (suc i))) l = absurd (omega (arith, l))

-- channel 0 may grow from 1, and then 2 is put
may-grow : least_full short-one ≡ Some (0, 1)
may-grow = refl

abbrev grown : PnState ℕ
grown = after_grow short-one

grown-room : has_room grown 0 ≡ true
grown-room = refl

-- 1 and 2 are on the channel, and the counter waits to put 3: no channel may grow, and the line of the full one tells its length
abbrev jammed : PnState ℕ
jammed = counts 3 (after_put 0 grown)

two-lie : jammed.halfway.queued ≡ (1 ∷ 2 ∷ []) ∷ [] ∷ [] ∷ []
two-lie = refl

is-full : IsFull jammed
is-full = record { stopped = stopped; process = 0; channel = 0; waits = (record { channel = 0; token = 3 }, [], refl, refl); none = refl }
  where
    stopped : AllStopped jammed
    stopped zero l = refl
    stopped (suc zero) l = (1, refl, refl)
    stopped (suc (suc zero)) l = (0, refl, refl)
    stopped (suc (suc (suc i))) l = absurd (omega (arith, l))

full-line : blocked_of jammed ≡ (0, 2) ∷ []
full-line = refl

-- Of two full channels that may grow the one of less capacity does, and of two alike the former: the source has 3 on channel 0, whose capacity is 3 by its first tokens, and waits for channel 1 at 1.
abbrev lopsided : Network ℕ
lopsided = record {
  plan = record { net = record { sources = Output 0 0 ∷ Output 1 0 ∷ Output 1 0 ∷ []; places = 0 ∷ 0 ∷ 3 ∷ [] }; takes = [] };
  initial = 1;
  maximum = 4;
  first = (1 ∷ 2 ∷ 3 ∷ []) ∷ (1 ∷ []) ∷ (1 ∷ []) ∷ [];
  starts = Counts [] ∷ Counts [] ∷ Over ∷ [];
}

abbrev both-wait : PnState ℕ
both-wait = after_told 1 ((8 ∷ []) ∷ []) Over (after_told 0 ((9 ∷ []) ∷ []) Over (begun origin [] (started lopsided)))

first-of-least : least_full both-wait ≡ Some (1, 1)
first-of-least = refl
