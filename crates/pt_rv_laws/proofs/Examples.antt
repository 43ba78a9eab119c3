-- Firings worked by hand, meeting by meeting. Tokens are numbers.
use Rattle.std.proofs.Common.{◌≡◌, ℕ, [], ◌∷◌, true, false, refl}
use Rattle.pt_meaning.specs.Tag.{origin}
use Rattle.pt_meaning.specs.Log.{Meeting, Channel, Barrier}
use Rattle.pt_meaning.specs.Machine.{Over, Counts, Any}
use Rattle.pt_meaning.specs.Net.{Own, Output}
use Rattle.pt_meaning.specs.Meetings.{is_legal}
use Rattle.pt_rv_laws.specs.State.{Processes, RvState, need_facts, MayFire, AllRest, IsLegal, IsOver, net_of, scene_in, got_of, started, begun, after_meet, after_told, closed, waits}

abbrev IsIllegal : {T : Type 0} → RvState T → Meeting → Type 0
IsIllegal s m = is_legal need_facts (net_of s) (scene_in s) m ≡ false

-- Two sources, which give 1 and 2, feed a Merge, and that feeds a sink: processes 0 to 3, on channels 0 to 2.
abbrev merge : Processes
merge = record {
  plan = record { net = record { sources = Output 0 0 ∷ Output 1 0 ∷ Output 2 0 ∷ []; places = 0 ∷ 0 ∷ 2 ∷ 1 ∷ [] }; barriers = false ∷ false ∷ false ∷ false ∷ []; takes = [] };
  starts = Counts [] ∷ Counts [] ∷ Any ∷ Counts (1 ∷ []) ∷ [];
}

abbrev at-first : RvState ℕ
at-first = begun origin [] (started merge)

-- the sources may fire, and the Merge and the sink wait
sources-ready : MayFire at-first 0 × MayFire at-first 1
sources-ready = (refl, refl)

-- once both have fired each of their meetings with the Merge is legal, and no other
abbrev offered : RvState ℕ
offered = after_told 1 ((2 ∷ []) ∷ []) Over (after_told 0 ((1 ∷ []) ∷ []) Over at-first)

all-at-rest : AllRest offered
all-at-rest = refl

either-first : IsLegal offered (Channel 0) × IsLegal offered (Channel 1) × IsIllegal offered (Channel 2) × IsIllegal offered (Barrier 2)
either-first = (refl, refl, refl, refl)

-- the second comes first: the Merge has its token, and the first source still waits
abbrev second-met : RvState ℕ
second-met = after_meet (Channel 1) offered

merge-has : got_of second-met 2 ≡ [] ∷ (2 ∷ []) ∷ []
merge-has = refl

first-waits : second-met.places.puts ≡ (record { channel = 0; token = 1 } ∷ []) ∷ [] ∷ [] ∷ [] ∷ []
first-waits = refl

merge-ready : MayFire second-met 2
merge-ready = refl

-- it fires, and gets no other token before it has put this one
abbrev merged : RvState ℕ
merged = after_told 2 ((2 ∷ []) ∷ []) Any second-met

only-on : IsLegal merged (Channel 2) × IsIllegal merged (Channel 0)
only-on = (refl, refl)

-- each meeting leaves less to wait for
they-wait : (waits offered ≡ 2) × (waits second-met ≡ 1) × (waits merged ≡ 2) × (waits (after_meet (Channel 2) merged) ≡ 1)
they-wait = (refl, refl, refl, refl)

-- to the end
abbrev passed-on : RvState ℕ
passed-on = after_told 3 [] (Counts (1 ∷ [])) (after_meet (Channel 2) merged)

abbrev both-merged : RvState ℕ
both-merged = after_told 3 [] (Counts (1 ∷ [])) (after_meet (Channel 2) (after_told 2 ((1 ∷ []) ∷ []) Any (after_meet (Channel 0) passed-on)))

merge-over : IsOver both-merged
merge-over = refl

these-met : both-merged.met ≡ Channel 1 ∷ Channel 2 ∷ Channel 0 ∷ Channel 2 ∷ []
these-met = refl

then-closed : (closed both-merged).met ≡ []
then-closed = refl

-- A Barrier in place of the Merge gathers both at once.
abbrev barrier : Processes
barrier = record {
  plan = record { net = merge.plan.net; barriers = false ∷ false ∷ true ∷ false ∷ []; takes = [] };
  starts = Counts [] ∷ Counts [] ∷ Counts (1 ∷ 1 ∷ []) ∷ Counts (1 ∷ []) ∷ [];
}

abbrev one-ready : RvState ℕ
one-ready = after_told 0 ((1 ∷ []) ∷ []) Over (begun origin [] (started barrier))

not-yet : IsIllegal one-ready (Barrier 2) × IsIllegal one-ready (Channel 0)
not-yet = (refl, refl)

abbrev both-ready : RvState ℕ
both-ready = after_told 1 ((2 ∷ []) ∷ []) Over one-ready

at-once : IsLegal both-ready (Barrier 2) × IsIllegal both-ready (Channel 0)
at-once = (refl, refl)

barrier-has : got_of (after_meet (Barrier 2) both-ready) 2 ≡ (1 ∷ []) ∷ (2 ∷ []) ∷ []
barrier-has = refl

-- A scale between the own input and the own output: what comes in meets the scale, and what that gives meets the own output.
abbrev scale : Processes
scale = record {
  plan = record { net = record { sources = Own 0 ∷ Output 0 0 ∷ []; places = 1 ∷ [] }; barriers = false ∷ []; takes = 1 ∷ [] };
  starts = Counts (1 ∷ []) ∷ [];
}

abbrev came-in : RvState ℕ
came-in = begun origin ((1 ∷ []) ∷ []) (started scale)

in-meets : IsLegal came-in (Channel 0) × IsIllegal came-in (Channel 1)
in-meets = (refl, refl)

abbrev went-out : RvState ℕ
went-out = after_meet (Channel 1) (after_told 0 ((3 ∷ []) ∷ []) (Counts (1 ∷ [])) (after_meet (Channel 0) came-in))

out-has : went-out.outputs ≡ (3 ∷ []) ∷ []
out-has = refl

scale-over : IsOver went-out
scale-over = refl

-- nothing is left there, and nothing is to put
then-empty : ((closed went-out).outputs ≡ [] ∷ []) × (waits went-out ≡ 0)
then-empty = (refl, refl)
