-- The example of a jam is one.
use Rattle.std.proofs.Common.{◌≡◌, ◌⊎◌, inl, inr, ℕ, zero, suc, max, List, [], ◌∷◌, ◌++◌, Some, None, pos, length, refl, subst, arith}
use Rattle.pt_meaning.specs.Tag.{origin}
use Rattle.pt_meaning.specs.Streams.{Streams, at}
use Rattle.pt_meaning.specs.Machine.{Stepping, Facts}
use Rattle.pt_meaning.specs.Flow.{flow}
use Rattle.pt_meaning.specs.Rounds.{gave, round}
use Rattle.pt_meaning.specs.Kahn.{kahn}
use Rattle.pt_meaning.specs.Pn.{pn_limits}
use Rattle.pt_meaning.specs.Meetings.{below_child}
use Rattle.pt_meaning.specs.Children.{Child, numbered, child_facts, child_step}
use Rattle.pt_meaning.specs.Tree.{Node, Actor, unfired}
use Rattle.pt_meaning.specs.NodeFacts.{facts_of}
use Rattle.pt_meaning.specs.Step.{step_at, no_meetings}
use Rattle.pt_meaning.specs.Job.{after, begin}
use Rattle.pt_meaning.specs.Running.{Running, runs}
use Rattle.pt_meaning.specs.Places.{Halfway, due}
use Rattle.pt_meaning.specs.Jam.{HoldsAtMost, IsBetween, IsPutting, WaitsFor}
use Rattle.pt_examples.specs.Small.{Token, int, Act, Ramp, Add, Scale, ramp, rows}
use Rattle.pt_examples.specs.Jams.{children, channels, jamming, JamExample}

abbrev facts : Facts Token (Child (Node Token Act))
facts = child_facts (facts_of rows)

abbrev step : Stepping Token (Child (Node Token Act))
step = child_step (λ i. step_at rows 1 1 (below_child i no_meetings))

abbrev greatest : ℕ → ℕ
greatest c = max 2 (length (at {T = Token} ([] ∷ [] ∷ [] ∷ []) c))

abbrev made : List ℕ
made = 4 ∷ 0 ∷ 0 ∷ []

abbrev counted : Child (Node Token Act)
counted = record { number = 0; node = Actor (record { made = 4; last = Some 0 }) ramp (Ramp 0 None (pos 4)) }

abbrev now : List (Child (Node Token Act))
now = counted ∷ record { number = 1; node = Actor unfired (Add 2) (Add 2) } ∷ record { number = 2; node = Actor unfired (Scale (pos 1)) (Scale (pos 1)) } ∷ []

abbrev held : Streams Token
held = (int 0 ∷ int 1 ∷ int 2 ∷ int 3 ∷ []) ∷ [] ∷ [] ∷ []

abbrev halfway : Halfway Token
halfway = record {
  gathered = (int 0 ∷ []) ∷ [] ∷ [] ∷ [];
  queued = (int 1 ∷ int 2 ∷ []) ∷ [] ∷ [] ∷ [];
  puts = (record { channel = 0; token = int 3 } ∷ []) ∷ [] ∷ [] ∷ [];
}

four_firings : Running facts step origin channels (pn_limits channels.places) (numbered 0 children) ([] ∷ [] ∷ [] ∷ []) (4 ∷ 0 ∷ 0 ∷ []) now held
unfolding flow round step_at
four_firings = record {
  all = held;
  each = refl;
  fits = (omega arith, (omega arith, (omega arith, tt)));
  made = (refl, (refl, (refl, tt)));
  states = refl;
  left = refl;
  fed = refl;
  caused = ((refl, (refl, (refl, (refl, tt)))), (tt, (tt, tt)));
  few = (omega arith, (omega arith, (omega arith, tt)));
}

parts : (c : ℕ) → at held c ≡ at halfway.gathered c ++ (at halfway.queued c ++ due channels halfway.puts c)
parts zero = refl
parts (suc zero) = refl
parts (suc (suc zero)) = refl
parts (suc (suc (suc c))) = refl

short : HoldsAtMost channels greatest halfway
short zero b = omega arith
short (suc zero) b = omega arith
short (suc (suc zero)) b = omega arith
short (suc (suc (suc c))) b = omega arith

between : (i c : ℕ) → WaitsFor halfway i c → IsBetween channels c
between zero c w = subst (λ d. IsBetween channels d) zero-is (refl, omega arith)
  where
    zero-is : 0 ≡ c
    zero-is = let u = w.2 in let e = w.3 in cc
between (suc zero) c w = absurd (cc)
between (suc (suc zero)) c w = absurd (cc)
between (suc (suc (suc i))) c w = absurd (cc)

-- the Ramp has its one last put to make
remaining : (i : ℕ) → (at halfway.puts i ≡ []) ⊎ IsPutting facts step origin channels (numbered 0 children) held made halfway i
unfolding flow round step_at
remaining zero = inr (record { before = 3; outputs = (int 3 ∷ []) ∷ []; put = []; fired = refl; last = last; rest = refl })
  where
    last : (port : ℕ) →
        gave (runs facts step origin channels.places (pn_limits channels.places) made (numbered 0 children) held) 0 port ≡ gave (runs facts step origin channels.places (pn_limits channels.places) (3 ∷ 0 ∷ 0 ∷ []) (numbered 0 children) held) 0 port ++ at ((int 3 ∷ []) ∷ []) port
    last zero = refl
    last (suc port) = refl
remaining (suc zero) = inl refl
remaining (suc (suc zero)) = inl refl
remaining (suc (suc (suc i))) = inl refl

pub jam_example : JamExample
unfolding after step_at kahn round flow four_firings
jam_example = record {
  fuel = 1;
  course = begin jamming;
  tag = origin;
  inputs = [];
  before = refl;
  next = refl;
  jam = (
    refl,
    record {
      made = made;
      now = now;
      halfway = halfway;
      jam = record {
        consistent = record { held = held; wide = refl; running = four_firings; split = parts };
        gathers = (refl, (refl, (refl, tt)));
        puts = remaining;
        fits = short;
        stop = (refl, ((1, refl, refl), ((0, refl, refl), tt)));
        waits = (0, 0, (record { channel = 0; token = int 3 }, [], refl, refl));
        between = between;
      };
      lengths = refl;
    },
    (refl, (refl, (refl, tt))),
  );
}
