-- Where an SDF composite may be left off, as one of any director: between two firings of its children, and within one.
use Rattle.std.proofs.Common.{◌≡◌, ℕ, zero, suc, ◌+◌, ◌≤◌, ◌<◌, List, [], ◌∷◌, length, drop, Option, Some, None, inl, refl, sym, ap, ap₂, arith, ◌∙◌}
use Rattle.pt_meaning.specs.Tag.{Tag}
use Rattle.pt_meaning.specs.Streams.{Streams, get}
use Rattle.pt_meaning.specs.Log.{Log, LogBelow, log_below, within_firing}
use Rattle.pt_meaning.specs.Machine.{Fault, Stepping, Facts}
use Rattle.pt_meaning.specs.Rounds.{Net, Limit}
use Rattle.pt_meaning.specs.Dataflow.{SdfPlan}
use Rattle.pt_meaning.specs.Meetings.{Meets, below_child}
use Rattle.pt_meaning.specs.Children.{Child, numbered, child_facts}
use Rattle.pt_meaning.specs.Tree.{Rows, Core, Sdf, Past, Node, Nodes, Composite, list_of, height, heights}
use Rattle.pt_meaning.specs.NodeFacts.{facts_of}
use Rattle.pt_meaning.specs.Step.{step_at}
use Rattle.pt_meaning.specs.Lawful.{LawfulRows}
use Rattle.pt_meaning.specs.Kahn.{states_of}
use Rattle.pt_meaning.specs.Running.{runs, Asks}
use Rattle.pt_laws.specs.Heights.{IsFitting}
use Rattle.pt_laws.specs.LogsOfRuns.{RunningWith, logs_then, log_in}
use Rattle.pt_laws.specs.CompositeRuns.{SdfRun, steps_below, sdf_bounds, sdf_start}
use Rattle.pt_laws.proofs.HeightLaws.{numbered-length, sdf-bounds-count}
use Rattle.pt_laws.proofs.AskedLaws.{run-asks}
use Rattle.pt_records.specs.Shut.{IsShut}
use Rattle.pt_records.specs.Middle.{IsBetween, IsIn, below_place}
use Rattle.pt_records.proofs.MiddleLaws.{asked-there, asks-numbered, turns_now, made-now, none-now, now-long, taken-now}
use Rattle.pt_records.proofs.PauseShut.{pauses-are-shut}

numbered-there : {S : Type 0} (b i n : ℕ) (ss : List S) (s : S) → n ≡ b + i → get ss i ≡ Some s → get (numbered b ss) i ≡ Some (record { number = n; node = s })
numbered-there b i n [] s o e = absurd (cc)
numbered-there {S} b zero n (x ∷ ss) s o e = let same : x ≡ s = cc in let a : b ≡ n = omega (arith, o) in ap₂ (λ (j : ℕ) (y : S). let c : Child S = record { number = j; node = y } in Option.Some c) a same
numbered-there b (suc i) n (x ∷ ss) s o e = numbered-there (suc b) i n ss s (omega (arith, o)) e

-- no more have run than there are children
runs-short : {T S : Type 0} (facts : Facts T S) (step : Stepping T S) (tag : Tag) (ns : List ℕ) (cs : List Limit) (ms : List ℕ) (ss : List S) (X : Streams T) → length (states_of (runs facts step tag ns cs ms ss X)) ≤ length ss
runs-short facts step tag [] cs ms ss X = omega arith
runs-short facts step tag (n ∷ ns) [] ms ss X = omega arith
runs-short facts step tag (n ∷ ns) (c ∷ cs) [] ss X = omega arith
runs-short facts step tag (n ∷ ns) (c ∷ cs) (m ∷ ms) [] X = omega arith
runs-short facts step tag (n ∷ ns) (c ∷ cs) (m ∷ ms) (s ∷ ss) X = let r = runs-short facts step tag ns cs ms ss (drop n X) in omega (arith, r)

now-short : {T S : Type 0} (facts : Facts T S) (step : Stepping T S) (tag : Tag) (net : Net) (limits : List Limit) (kids : List S) (start : Streams T) (ms : List ℕ) (now : List S) (held : Streams T) (ls : List (Log T)) → RunningWith facts step tag net limits kids start ms now held ls → length now ≤ length kids
now-short facts step tag net limits kids start ms now held ls w = let e = ap (λ v. length v) w.running.states in omega (arith, e, runs-short facts step tag net.places limits ms kids w.running.all)

module _ {T A : Type 0} (rows : Rows T A) (law : LawfulRows rows) (m : Meets) (tag : Tag) (h : Past) (c : Core T) (p : SdfPlan) (X : Streams T) (kids : Nodes T A) (inputs : Streams T) (ms : List ℕ) (now : List (Node T A)) (held : Streams T) (ls : List (Log T)) where
  -- at a fuel
  module _ (k : ℕ) (run : SdfRun rows k (heights kids) m tag p X kids inputs ms (numbered 0 now) held ls) (fits : IsFitting (Composite h c (Sdf p X) kids)) where
    abbrev facts : Facts T (Child (Node T A))
    facts = child_facts (facts_of rows)

    abbrev step : Stepping T (Child (Node T A))
    step = steps_below rows k (heights kids) m

    abbrev its : List (Child (Node T A))
    its = numbered 0 (list_of kids)

    abbrev bounds_long : length (sdf_bounds p X inputs) ≡ length p.net.places
    bounds_long = sdf-bounds-count _ p.repetitions p.rates (length p.net.places) (fits.1.1 ∙ sym fits.1.0) (fits.1.2 ∙ sym fits.1.0)

    abbrev its_long : length its ≡ length p.net.places
    its_long = numbered-length 0 (list_of kids) ∙ sym fits.1.0

    sdf-between : IsBetween rows k m tag (Sdf p X) kids inputs now ls
    sdf-between = record {
      turns = turns_now facts step tag p.net (sdf_bounds p X inputs) its X inputs ms (numbered 0 now) held ls run bounds_long its_long;
      made = λ i s e. let y = made-now facts step tag p.net (sdf_bounds p X inputs) its X inputs ms (numbered 0 now) held ls run bounds_long its_long i s e in record { end = y.end; there = y.there; chain = y.chain };
      none = λ i g. none-now facts step tag p.net (sdf_bounds p X inputs) its X inputs ms (numbered 0 now) held ls run bounds_long its_long i (omega (arith, g, numbered-length 0 (list_of kids)));
      takes = λ i q. inl (taken-now facts step tag p.net (sdf_bounds p X inputs) its X inputs ms (numbered 0 now) held ls run bounds_long its_long i q None tt);
      count =
          let short = now-short facts step tag p.net (sdf_bounds p X inputs) its (sdf_start p X inputs) ms (numbered 0 now) held ls run in
          omega (arith, short, numbered-length 0 now, numbered-length 0 (list_of kids));
      logged =
          let long = now-long facts step tag p.net (sdf_bounds p X inputs) its X inputs ms (numbered 0 now) held ls run bounds_long its_long in
          omega (arith, long, numbered-length 0 now);
    }

    -- child i takes got, and has logged inside of that firing, as stuck at a place of the child where one is given
    sdf-in : (i : ℕ) (child : Node T A) (got left : Streams T) (place : Option Fault) (inside : Log T) → get now i ≡ Some child → Asks (facts_of rows) i p.net.places (sdf_bounds p X inputs) ms now held got left → height child ≤ heights kids → IsShut rows (below_child i m) child tag got place inside →
        LogBelow inside (log_in (step_at rows k (height child) (below_child i m) tag child got)) → IsIn rows k m tag h (Sdf p X) kids inputs now ls (turns_now facts step tag p.net (sdf_bounds p X inputs) its X inputs ms (numbered 0 now) held ls run bounds_long its_long) i child tag got place inside
    sdf-in i child got left place inside there asks low shut below = record {
      there = there;
      low = low;
      at_tag = refl;
      takes = λ q. inl (taken-now facts step tag p.net (sdf_bounds p X inputs) its X inputs ms (numbered 0 now) held ls run bounds_long its_long i q (Some (record { tag = tag; inputs = got })) (asked-there (facts_of rows) i p.net.places (sdf_bounds p X inputs) ms now held got left asks q));
      asks = (
        refl,
        run-asks facts step tag p.net (sdf_bounds p X inputs) its (sdf_start p X inputs) ms (numbered 0 now) held run.running i got left (record { number = i; node = child }) (asks-numbered (facts_of rows) 0 i p.net.places (sdf_bounds p X inputs) ms now held got left asks)
            (numbered-there 0 i i now child (omega arith) there),
      );
      below = below;
      shut = shut;
    }

  pub between-is-shut : (k₀ : ℕ) → ((k : ℕ) → k₀ ≤ k → SdfRun rows k (heights kids) m tag p X kids inputs ms (numbered 0 now) held ls) → IsShut rows m (Composite h c (Sdf p X) kids) tag inputs None (within_firing h.made (log_below ls))
  between-is-shut k₀ w = pauses-are-shut.between rows law m tag h c (Sdf p X) kids inputs now ls k₀ (λ fits k o. sdf-between k (w k o) fits)

  pub within-is-shut : (i : ℕ) (child : Node T A) (got left : Streams T) (place : Option Fault) (inside : Log T) → get now i ≡ Some child → Asks (facts_of rows) i p.net.places (sdf_bounds p X inputs) ms now held got left → height child ≤ heights kids → i < length ls → IsShut rows (below_child i m) child tag got place inside → (k₀ : ℕ) →
      ((k : ℕ) → k₀ ≤ k → SdfRun rows k (heights kids) m tag p X kids inputs ms (numbered 0 now) held ls × LogBelow inside (log_in (step_at rows k (height child) (below_child i m) tag child got))) → IsShut rows m (Composite h c (Sdf p X) kids) tag inputs (below_place i place) (within_firing h.made (log_below (logs_then i inside ls)))
  unfolding sdf-between
  within-is-shut i child got left place inside there asks low long shut k₀ w =
      pauses-are-shut.within rows law m tag h c (Sdf p X) kids inputs now ls i child tag got place inside k₀ (λ fits k o. (sdf-between k (w k o).0 fits, sdf-in k (w k o).0 fits i child got left place inside there asks low shut (w k o).1))
