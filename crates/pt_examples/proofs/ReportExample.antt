-- The example of a report is one.
use Rattle.std.proofs.Common.{◌≡◌, ◌≤◌, ◌⊎◌, inl, inr, ℕ, zero, suc, List, [], ◌∷◌, ◌++◌, length, Some, None, Bool, true, false, nat_le, refl, sym, ap, subst, arith}
use Rattle.pt_meaning.specs.Tag.{origin}
use Rattle.pt_meaning.specs.Streams.{IsPrefix, get}
use Rattle.pt_meaning.specs.Log.{Path, Firing, Event, Finished, Log, meetings_in, firings_in}
use Rattle.pt_meaning.specs.Flow.{flow}
use Rattle.pt_meaning.specs.Rounds.{round}
use Rattle.pt_meaning.specs.Kahn.{kahn}
use Rattle.pt_meaning.specs.Step.{step_at, no_meetings}
use Rattle.pt_meaning.specs.Job.{Course, Standing, Goes, Ended, Halted, Iterations, after, begin, meaning, log_of}
use Rattle.pt_meaning.specs.Closed.{Has, UnderWay, CameWithin, rounds_of, core_at, these_if, taken, HasBegun, IsCausedAt}
use Rattle.pt_meaning.specs.Net.{Output}
use Rattle.pt_meaning.specs.Tree.{Core, Sdf}
use Rattle.pt_laws.proofs.MeaningLaws.{meaning_grows}
use Rattle.pt_examples.specs.Small.{Token, Act, int, rows}
use Rattle.pt_examples.specs.Dataflow.{doubled}
use Rattle.pt_examples.proofs.Parts.{part-of-all, prefix-has}
use Rattle.pt_examples.specs.Reports.{once, one_each, scale_alone, ReportExample, UnclosedExample}
use Rattle.pt_examples.proofs.SmallLaws.{small_is_lawful}

-- the three firings, and the log of them
abbrev of_top : Firing Token
of_top = record { number = 0; tag = origin; inputs = []; outputs = [] }

abbrev of_ramp : Firing Token
of_ramp = record { number = 0; tag = origin; inputs = []; outputs = (int 0 ∷ []) ∷ [] }

abbrev of_scale : Firing Token
of_scale = record { number = 0; tag = origin; inputs = (int 0 ∷ []) ∷ []; outputs = (int 0 ∷ []) ∷ [] }

abbrev all_told : Log Token
all_told [] = Finished [] of_top ∷ []
all_told (zero ∷ []) = Finished (0 ∷ []) of_ramp ∷ []
all_told (suc zero ∷ []) = Finished (0 ∷ []) of_scale ∷ []
all_told (i ∷ p) = []

abbrev start : Core Token
start = Sdf (record { net = record { sources = Output 0 0 ∷ []; places = 0 ∷ 1 ∷ [] }; repetitions = 1 ∷ 1 ∷ []; takes = []; gives = []; rates = (1 ∷ []) ∷ (1 ∷ []) ∷ [] }) ([] ∷ [])

abbrev course_of : Standing Token Act → Course Token Act
course_of (Goes c) = c
course_of (Ended e c) = c
course_of (Halted fs l) = begin doubled

abbrev course : Course Token Act
course = course_of (after 5 rows no_meetings once 5 (begin doubled))

is_all : (p : Path) → all_told p ≡ course.log p
unfolding after step_at kahn round flow
is_all [] = refl
is_all (zero ∷ []) = refl
is_all (suc zero ∷ []) = refl
is_all (suc (suc i) ∷ []) = refl
is_all (zero ∷ j ∷ p) = refl
is_all (suc zero ∷ j ∷ p) = refl
is_all (suc (suc i) ∷ j ∷ p) = refl

ends : (k : ℕ) → 5 ≤ k → after k rows no_meetings once k (begin doubled) ≡ Ended Iterations course
unfolding after step_at kahn round flow
ends k h = meaning_grows rows small_is_lawful no_meetings once doubled 5 k h

is_meaning : (k : ℕ) → 5 ≤ k → (p : Path) → all_told p ≡ meaning k rows no_meetings once doubled p
is_meaning k h p = let e : log_of (after k rows no_meetings once k (begin doubled)) p ≡ course.log p = ap (λ s. log_of s p) (ends k h) in let f = is_all p in cc

prefix-same : {A : Type 0} (xs : List A) → IsPrefix xs xs
prefix-same [] = tt
prefix-same (x ∷ xs) = (refl, prefix-same xs)

is_prefix : (p : Path) → IsPrefix (all_told p) (meaning 5 rows no_meetings once doubled p)
is_prefix p = subst (λ xs. IsPrefix (all_told p) xs) (is_meaning 5 (omega arith) p) (prefix-same (all_told p))

no_meeting : (p : Path) (n : ℕ) → no_meetings p n ≡ meetings_in n (all_told p)
no_meeting [] n = refl
no_meeting (zero ∷ []) n = refl
no_meeting (suc zero ∷ []) n = refl
no_meeting (suc (suc i) ∷ []) n = refl
no_meeting (zero ∷ j ∷ p) n = refl
no_meeting (suc zero ∷ j ∷ p) n = refl
no_meeting (suc (suc i) ∷ j ∷ p) n = refl

-- nothing came but in the top's firing
few_rounds : (p : Path) (e : Event Token) → Has e (all_told p) → (rounds_of e ≡ []) ⊎ (rounds_of e ≡ 0 ∷ [])
few_rounds [] e (inl x) = inl (ap rounds_of x)
few_rounds [] e (inr x) = absurd x
few_rounds (zero ∷ []) e (inl x) = inr (ap rounds_of x)
few_rounds (zero ∷ []) e (inr x) = absurd x
few_rounds (suc zero ∷ []) e (inl x) = inr (ap rounds_of x)
few_rounds (suc zero ∷ []) e (inr x) = absurd x
few_rounds (suc (suc i) ∷ []) e h = absurd h
few_rounds (zero ∷ j ∷ p) e h = absurd h
few_rounds (suc zero ∷ j ∷ p) e h = absurd h
few_rounds (suc (suc i) ∷ j ∷ p) e h = absurd h

within_first : (p : Path) (n : ℕ) (r : Path) (e : Event Token) → CameWithin all_told p n r e → (p ≡ []) × (n ≡ 0)
within_first p n r e h = go p (rounds_of e) (few_rounds (p ++ r) e h.0) h.1
  where
    go : (p : Path) (ns : List ℕ) → (ns ≡ []) ⊎ (ns ≡ 0 ∷ []) → get ns (length p) ≡ Some n → (p ≡ []) × (n ≡ 0)
    go p ns (inl a) g = absurd (let f : get [] (length p) ≡ Some n = subst (λ xs. get xs (length p) ≡ Some n) a g in cc)
    go [] ns (inr a) g = let f : get (0 ∷ []) 0 ≡ Some n = subst (λ xs. get xs 0 ≡ Some n) a g in (refl, cc)
    go (i ∷ p) ns (inr a) g = absurd (let f : get (0 ∷ []) (suc (length p)) ≡ Some n = subst (λ xs. get xs (suc (length p)) ≡ Some n) a g in cc)

abbrev none_under_way : UnderWay Token
none_under_way p = None

-- no firing of the top is under way
all_finished : (p : Path) (n : ℕ) (r : Path) (e : Event Token) → CameWithin all_told p n r e → firings_in (all_told p) ≡ n → ⊥
all_finished p n r e w f = let z = within_first p n r e w in let g : firings_in (all_told []) ≡ n = subst (λ s. firings_in (all_told s) ≡ n) z.0 f in let y = z.1 in omega (arith, g, y)

-- The one token taken, by the Scale, was given by the Ramp; no other child takes any.
given_is_taken : (b c : Bool) (x : Token) → IsPrefix (these_if b (x ∷ []) [] ++ these_if c [] []) (these_if b (x ∷ []) [])
given_is_taken true true x = (refl, tt)
given_is_taken true false x = (refl, tt)
given_is_taken false true x = tt
given_is_taken false false x = tt

none_taken : (b c : Bool) (Y : List Token) → IsPrefix (these_if b [] [] ++ these_if c [] []) Y
none_taken true true Y = tt
none_taken true false Y = tt
none_taken false true Y = tt
none_taken false false Y = tt

none_there : (c : Bool) (Y : List Token) → IsPrefix (these_if c [] []) Y
none_there true Y = tt
none_there false Y = tt

caused_at : (i q n : ℕ) → IsCausedAt rows doubled all_told none_under_way [] start i q n
caused_at zero q n = inl (0, omega arith, inl refl, none_taken (nat_le 0 n) (nat_le 1 n) _)
caused_at (suc zero) zero n = inl (0, omega arith, inl refl, given_is_taken (nat_le 0 n) (nat_le 1 n) (int 0))
caused_at (suc zero) (suc q) n = inl (0, omega arith, inl refl, none_taken (nat_le 0 n) (nat_le 1 n) _)
caused_at (suc (suc i)) q n = inl (0, omega arith, inl refl, none_there (nat_le 1 n) _)

has_cause : (p : Path) (c : Core Token) → core_at p doubled ≡ Some c → (i q n : ℕ) → HasBegun all_told none_under_way p n → IsCausedAt rows doubled all_told none_under_way p c i q n
has_cause [] c e i q n h = subst (λ d. IsCausedAt rows doubled all_told none_under_way [] d i q n) (cc) (caused_at i q n)
has_cause (zero ∷ []) c e i q n h = absurd (cc)
has_cause (suc zero ∷ []) c e i q n h = absurd (cc)
has_cause (suc (suc j) ∷ p) c e i q n h = absurd (cc)
has_cause (zero ∷ j ∷ p) c e i q n h = absurd (cc)
has_cause (suc zero ∷ j ∷ p) c e i q n h = absurd (cc)

all_counted : (p : Path) → firings_in (all_told p) ≡ one_each p
all_counted [] = refl
all_counted (zero ∷ []) = refl
all_counted (suc zero ∷ []) = refl
all_counted (suc (suc i) ∷ []) = refl
all_counted (zero ∷ j ∷ p) = refl
all_counted (suc zero ∷ j ∷ p) = refl
all_counted (suc (suc i) ∷ j ∷ p) = refl

-- at each fuel the meaning's log is a part of it
all_there : (k : ℕ) (p : Path) (n : ℕ) (r : Path) (e : Event Token) → CameWithin (meaning k rows no_meetings once doubled) p n r e → Has e (all_told (p ++ r))
all_there k p n r e w = prefix-has e (meaning k rows no_meetings once doubled (p ++ r)) (all_told (p ++ r)) (subst (λ xs. IsPrefix (meaning k rows no_meetings once doubled (p ++ r)) xs) (sym (is_all (p ++ r))) (part-of-all small_is_lawful once doubled 5 Iterations course (ends 5 (omega arith)) k (p ++ r))) w.0

pub report_example : ReportExample
unfolding after
report_example = record {
  log = all_told;
  counted = all_counted;
  legal = λ p n. (0, refl);
  met = no_meeting;
  prefix = (5, is_prefix);
  under_way = none_under_way;
  shut = λ k h. record {
    inside = record {
      caused = has_cause;
      begun = λ p n r e w f. absurd (all_finished p n r e w f);
      enclosed = λ p i b e. absurd (cc);
      finished = λ p n r e w. let z = within_first p n r e w in let y = z.1 in omega (arith, y);
      whole = λ p n l r e w. all_there k p n r e w;
    };
    next = λ p b e. absurd (cc);
  };
  told = (refl, tt);
  caused = ((5, is_meaning), (5, course, ends 5 (omega arith)), omega arith);
}

-- the Scale's token was given by no firing of the log, and in dataflow nothing is given early
pub unclosed_example : UnclosedExample
unclosed_example whole way closed = let now = closed.begun [] 0 (1 ∷ []) (Finished (0 ∷ []) of_scale) (inl refl, refl) refl in go (closed.caused [] start refl 1 0 0 (inr (refl, now.0, now.1)))
  where
    go : IsCausedAt rows doubled scale_alone way [] start 1 0 0 → ⊥
    go (inl (r, few, inl zero_is, below)) = subst (λ c. IsPrefix (taken rows doubled scale_alone way [] 1 0 c 0) []) zero_is below
    go (inl (r, few, inr modal, below)) = absurd (cc)
    go (inr (tick, b, begun, now, xs, known, below)) = absurd (cc)
