-- Where a PN composite may be left off: between two firings of its children, and within one.
use Rattle.std.proofs.Common.{◌≡◌, ℕ, zero, suc, ◌+◌, ◌≤◌, List, [], ◌∷◌, length, Option, Some, None, inl, refl, ap, ap₂, subst, ◌∙◌, arith}
use Rattle.pt_meaning.specs.Streams.{Streams, get}
use Rattle.pt_meaning.specs.Log.{Log, LogBelow}
use Rattle.pt_meaning.specs.Machine.{Fault, Stepping, Facts}
use Rattle.pt_meaning.specs.Net.{Net}
use Rattle.pt_meaning.specs.Pn.{pn_limits}
use Rattle.pt_meaning.specs.Running.{Asks}
use Rattle.pt_meaning.specs.Meetings.{Meets, below_child}
use Rattle.pt_meaning.specs.Children.{Child, numbered, child_facts}
use Rattle.pt_meaning.specs.Tree.{Rows, Core, Pn, Past, Node, Nodes, list_of, height, heights}
use Rattle.pt_meaning.specs.NodeFacts.{facts_of}
use Rattle.pt_meaning.specs.Step.{step_at}
use Rattle.pt_meaning.specs.Asked.{IsAsked}
use Rattle.pt_laws.specs.CompositeRuns.{steps_below}
use Rattle.pt_laws.specs.LogsOfRuns.{RunningWith, log_in}
use Rattle.pt_laws.proofs.AskedLaws.{run-asks}
use Rattle.pt_laws.proofs.HeightLaws.{numbered-length}
use Rattle.pt_records.specs.Shut.{IsShut}
use Rattle.pt_records.specs.Middle.{IsBetween, IsIn}
use Rattle.pt_records.proofs.MiddleLaws.{asked-there, turns_now, made-now, none-now, now-long, taken-now}
use Rattle.pt_pn_laws.specs.State.{Network, PnState, MayFire, net_of, got_of, held_of, start_of}
use Rattle.pt_pn_laws.specs.Chain.{Underway}
use Rattle.pt_pn_laws.proofs.BeginLaws.{limits-length}
use Rattle.pt_pn_laws.proofs.FireLaws as fire

numbered-there : {S : Type 0} (b i n : ℕ) (ss : List S) (s : S) → n ≡ b + i → get ss i ≡ Some s → get (numbered b ss) i ≡ Some (record { number = n; node = s })
numbered-there b i n [] s o e = absurd (cc)
numbered-there {S} b zero n (x ∷ ss) s o e = let same : x ≡ s = cc in let a : b ≡ n = omega (arith, o) in ap₂ (λ (j : ℕ) (y : S). let c : Child S = record { number = j; node = y } in Option.Some c) a same
numbered-there b (suc i) n (x ∷ ss) s o e = numbered-there (suc b) i n ss s (omega (arith, o)) e

-- at a fuel
module _ {T A : Type 0} (rows : Rows T A) (k : ℕ) (m : Meets) (h : Past) (before : PnState T) (kids : Nodes T A) (inputs : Streams T) (s : PnState T) (ms : List ℕ) (now : List (Node T A)) (ls : List (Log T))
    (u : Underway (child_facts (facts_of rows)) (steps_below rows k (heights kids) m) before (numbered 0 (list_of kids)) inputs s ms (numbered 0 now) ls) where
  abbrev facts : Facts T (Child (Node T A))
  facts = child_facts (facts_of rows)

  abbrev step : Stepping T (Child (Node T A))
  step = steps_below rows k (heights kids) m

  abbrev its : List (Child (Node T A))
  its = numbered 0 (list_of kids)

  abbrev first_net : Net
  first_net = net_of before

  abbrev state : Core T
  state = Pn before.network.plan (held_of before)

  abbrev Run : Network T → Type 0
  Run n = RunningWith facts step s.tag n.plan.net (pn_limits n.plan.net.places) its (start_of before inputs) ms (numbered 0 now) u.consistent.held ls

  run : Run before.network
  run = subst (λ n. Run n) u.network (fire.run facts step before its inputs s ms (numbered 0 now) ls u)

  its-long : length its ≡ length first_net.places
  its-long = u.children ∙ ap (λ (n : Network T). length n.plan.net.places) u.network

  now-count : length (numbered 0 now) ≡ length first_net.places
  now-count = fire.now-long facts step before its inputs s ms (numbered 0 now) ls u ∙ ap (λ (n : Network T). length n.plan.net.places) u.network

  bounds-long : length (pn_limits first_net.places) ≡ length first_net.places
  bounds-long = limits-length first_net.places

  pub pn-between : IsBetween rows k m s.tag state kids inputs now ls
  pn-between = record {
    turns = turns_now facts step s.tag first_net (pn_limits first_net.places) its (held_of before) inputs ms (numbered 0 now) u.consistent.held ls run bounds-long its-long;
    made = λ i z e. let y = made-now facts step s.tag first_net (pn_limits first_net.places) its (held_of before) inputs ms (numbered 0 now) u.consistent.held ls run bounds-long its-long i z e in record { end = y.end; there = y.there; chain = y.chain };
    none = λ i g. none-now facts step s.tag first_net (pn_limits first_net.places) its (held_of before) inputs ms (numbered 0 now) u.consistent.held ls run bounds-long its-long i (let a = numbered-length 0 (list_of kids) in omega (arith, g, a));
    takes = λ i q. inl (taken-now facts step s.tag first_net (pn_limits first_net.places) its (held_of before) inputs ms (numbered 0 now) u.consistent.held ls run bounds-long its-long i q None tt);
    count = let a = its-long in let b = now-count in let c = numbered-length 0 now in let d = numbered-length 0 (list_of kids) in omega (arith, a, b, c, d);
    logged = let a = now-long facts step s.tag first_net (pn_limits first_net.places) its (held_of before) inputs ms (numbered 0 now) u.consistent.held ls run bounds-long its-long in let c = numbered-length 0 now in omega (arith, a, c);
  }

  -- child i takes what it gathered
  module _ (i : ℕ) (may : MayFire s i) (child : Node T A) (there : get now i ≡ Some child) where
    abbrev it : Child (Node T A)
    it = record { number = i; node = child }

    abbrev left : Streams T
    left = fire.left facts step before its inputs s ms (numbered 0 now) ls u i may

    abbrev AskedBy : Network T → Type 0
    AskedBy n = Asks facts i n.plan.net.places (pn_limits n.plan.net.places) ms (numbered 0 now) u.consistent.held (got_of s i) left

    asked : AskedBy before.network
    asked = subst (λ n. AskedBy n) u.network (fire.asks facts step before its inputs s ms (numbered 0 now) ls u i may it)

    -- which the composite's firing asks for
    pub pn-asks : IsAsked facts step (m [] h.made) h.made state its s.tag inputs i it s.tag (got_of s i)
    pn-asks = (
      refl,
      run-asks facts step s.tag first_net (pn_limits first_net.places) its (start_of before inputs) ms (numbered 0 now) u.consistent.held run.running i (got_of s i) left it asked (numbered-there 0 i i now child (omega arith) there),
    )

    -- it has logged inside of that firing, as stuck at a place of the child where one is given
    module _ (place : Option Fault) (inside : Log T) (low : height child ≤ heights kids) (below : LogBelow inside (log_in (step_at rows k (height child) (below_child i m) s.tag child (got_of s i)))) (shut : IsShut rows (below_child i m) child s.tag (got_of s i) place inside) where
      pub pn-in : (b : IsBetween rows k m s.tag state kids inputs now ls) × IsIn rows k m s.tag h state kids inputs now ls b.turns i child s.tag (got_of s i) place inside
      unfolding pn-between
      pn-in = (
        pn-between,
        record {
          there = there;
          low = low;
          at_tag = refl;
          takes = λ q. inl
              (taken-now facts step s.tag first_net (pn_limits first_net.places) its (held_of before) inputs ms (numbered 0 now) u.consistent.held ls run bounds-long its-long i q (Some (record { tag = s.tag; inputs = got_of s i }))
              (asked-there facts i first_net.places (pn_limits first_net.places) ms (numbered 0 now) u.consistent.held (got_of s i) left asked q));
          asks = pn-asks;
          below = below;
          shut = shut;
        },
      )
