-- A firing of a Modal in which its refinement is to fire: what comes of it.
use Rattle.std.proofs.Common.{◌≡◌, inl, ℕ, suc, ◌<◌, ◌≤◌, List, [], length, set, Option, Some, None, refl, sym, ap, subst, ◌∙◌, arith}
use Rattle.pt_meaning.specs.Tag.{Tag}
use Rattle.pt_meaning.specs.Streams.{Streams, get}
use Rattle.pt_meaning.specs.Log.{Log, LogBelow, log_then, own, log_below, within_firing}
use Rattle.pt_meaning.specs.Machine.{Fault, Outcome, Done, Stuck, Stepping, Facts}
use Rattle.pt_meaning.specs.Net.{Inside, prefixed}
use Rattle.pt_meaning.specs.Modal.{Chart, Modes, first_modes, lag_of, below_number}
use Rattle.pt_meaning.specs.Meetings.{below_child}
use Rattle.pt_meaning.specs.Children.{Child, numbered, child_facts, with_number}
use Rattle.pt_meaning.specs.Tree.{Rows, Core, Modal, Past, Node, Composite, list_of, made_of, height, heights}
use Rattle.pt_meaning.specs.NodeFacts.{facts_of, next_of}
use Rattle.pt_meaning.specs.Step.{as_node, step_at, Step}
use Rattle.pt_meaning.specs.Asked.{IsAsked}
use Rattle.pt_meaning.specs.Lawful.{LawfulRows}
use Rattle.pt_laws.specs.CompositeRuns.{steps_below}
use Rattle.pt_laws.specs.LogsOfRuns.{silents, logs_then, log_in}
use Rattle.pt_laws.proofs.CompositeLaws.{as-stuck, log-as-node, below-stuck}
use Rattle.pt_laws.proofs.FuelLaw.{within-below}
use Rattle.pt_laws.proofs.HeightLaws.{levels-agree, numbered-length}
use Rattle.pt_laws.proofs.LogLaws.{log-trans}
use Rattle.pt_laws.proofs.Order.{IsPrefix-append}
use Rattle.pt_laws.proofs.StuckLaws.{in-prefixed}
use Rattle.pt_value.specs.declared.token.Token.{Token}
use Rattle.pt_records.specs.Kept.{Kept, Entry, kept_at, kept_by, GrewBy}
use Rattle.pt_records.specs.Fired.{FromSome, FiresTo, SticksAt, LeavesOff}
use Rattle.pt_records.specs.Shut.{IsShut}
use Rattle.pt_records.specs.Middle.{IsBetween, below_place}
use Rattle.pt_records.proofs.GrowthLaws.{all-begin, all-go-on, grew-within}
use Rattle.pt_records.proofs.PauseShut.{pauses-are-shut}
use Rattle.pt_records.proofs.SoFarLaws.{numbered-set, low-get, low-kids, recorded-done}
use Rattle.pt_core.specs.Acts.{Beginning, Acts}
use Rattle.pt_core.specs.Lawful.{IsLentTo, IsStuck, IsLeftOff, outcome, below_fault}
use Rattle.pt_core.specs.Reached.{Becomes, Stays, Fires}
use Rattle.pt_modal_laws.specs.State.{Asked, in_stage, with_wake, chart_in, after_told}
use Rattle.pt_modal_laws.specs.Chain.{IsKnown, IsDue, due_from, firing_from, local_of, inputs_for}
use Rattle.pt_modal_laws.specs.ModalActs.{State, Begins, Going, Knows, modal_acts}
use Rattle.pt_modal_laws.proofs.PartLaws.{numbered-get, map-set, silents-below, silents-at, silents-long, number-below, number-grows, picked-exact, picked-long, known-log, Keeps, given-keeps}
use Rattle.pt_modal_laws.proofs.NodeLaws.{suits-set}
use Rattle.pt_modal_laws.proofs.ReactionLaws.{calls-are-modal}

-- the composite's step is that of its director
pub modal-at : {M A : Type 0} (reads : M → Chart Token) (rows : Rows Token A) (k : ℕ) (b : Beginning A (State M)) (h : Past) (c : Core Token) →
    step_at rows k (suc (heights b.kids)) b.meets b.tag (Composite h c (Modal (chart_in reads b.before) b.before.modes) b.kids) b.inputs ≡
    as_node b.tag h c (Modal (chart_in reads b.before)) (firing_from reads (child_facts (facts_of rows)) (steps_below rows k (heights b.kids) b.meets) h.made b.before (numbered 0 (list_of b.kids)) b.tag b.inputs)
unfolding step_at
modal-at reads rows k b h c = refl

module _ {M A : Type 0} (reads : M → Chart Token) (rows : Rows Token A) (law : LawfulRows rows) (b : Beginning A (State M)) where
  abbrev pub a : Acts rows (State M)
  a = modal_acts reads rows

  abbrev pub kids : List (Node Token A)
  kids = list_of b.kids

  abbrev pub first : List (Child (Node Token A))
  first = numbered 0 kids

  abbrev pub its-facts : Facts Token (Child (Node Token A))
  its-facts = child_facts (facts_of rows)

  abbrev pub steps : ℕ → Stepping Token (Child (Node Token A))
  steps k = steps_below rows k (heights b.kids) b.meets

  abbrev pub core : Core Token
  core = Modal (chart_in reads b.before) b.before.modes

  abbrev pub start : Core Token
  start = Modal (chart_in reads b.before) (first_modes (chart_in reads b.before) (length b.before.plan.starts))

  abbrev pub quiet : List (Log Token)
  quiet = silents first

  abbrev pub fired-so : Past → ℕ → Outcome Token (Inside (Modes Token) (Child (Node Token A)))
  fired-so h k = firing_from reads its-facts (steps k) h.made b.before first b.tag b.inputs

  pub composite-at : (h : Past) (k : ℕ) → outcome a b h k ≡ as_node b.tag h start (Modal (chart_in reads b.before)) (fired-so h k)
  composite-at h k = modal-at reads rows k b h start

  pub log-at : (h : Past) (k : ℕ) (l : Log Token) → LogBelow l (log_in (fired-so h k)) → LogBelow (within_firing h.made l) (log_in (outcome a b h k))
  log-at h k l g =
      subst (λ (r : Outcome Token (Node Token A)). LogBelow (within_firing h.made l) (log_in r)) (sym (composite-at h k))
      (subst (λ n. LogBelow (within_firing h.made l) n) (sym (log-as-node b.tag h start (Modal (chart_in reads b.before)) (fired-so h k))) (within-below h.made l (log_in (fired-so h k)) g))

  -- no child has fired
  between-begins : (k : ℕ) → IsBetween rows k b.meets b.tag core b.kids b.inputs kids quiet
  between-begins k = record {
    turns = λ j. [];
    made = λ j s e. record { end = s; there = e; chain = (refl, silents-at first j) };
    none = λ j g. (silents-at first j, refl);
    takes = λ j q. inl tt;
    count = omega arith;
    logged = omega (arith, silents-long Token first, numbered-length 0 kids);
  }

  module _ (w : Begins reads rows b) (i : ℕ) (d : IsDue reads b.before b.tag b.inputs i) where
    abbrev pub due : State M
    due = due_from b.before b.tag b.inputs i

    abbrev pub asked : State M
    asked = in_stage (Asked i) due

    abbrev pub when : Tag
    when = local_of b.before b.tag i

    abbrev pub got : Streams Token
    got = inputs_for reads b.before b.inputs i

    pub within : i < length kids
    within = w.suits.named b.before.modes.mode i d.current

    within-first : i < length first
    within-first = omega (arith, within, numbered-length 0 kids)

    within-olds : i < length b.olds
    within-olds = omega (arith, within, w.kept)

    kept-begins : (l : Log Token) (k : Kept Token) → GrewBy l (kept_at b.olds i) k → (h : Past) (e : Entry Token) → GrewBy (within_firing h.made (log_below (logs_then i l quiet))) (kept_by e b.olds) (kept_by e (set b.olds i k))
    kept-begins l k g h e = grew-within h.made (logs_then i l quiet) e b.olds (set b.olds i k) (all-go-on i l quiet b.olds b.olds k within-olds (all-begin first b.olds (numbered-length 0 kids ∙ w.kept)) g)

    pub off-begins : (h : Past) (e : Entry Token) → IsLeftOff a b h e due b.olds
    off-begins h e = record {
      log = within_firing h.made (log_below quiet);
      beginning = (0, λ k o. log-at h k (log_below quiet) (subst (λ (l : Log Token). LogBelow l (log_in (fired-so h k))) (sym (silents-below first)) (λ p. tt)));
      kept = grew-within h.made quiet e b.olds b.olds (all-begin first b.olds (numbered-length 0 kids ∙ w.kept));
      part = pauses-are-shut.between rows law b.meets b.tag h start core b.kids b.inputs kids quiet 0 (λ fits k o. between-begins k);
    }

    -- the child that is the refinement
    module _ (child : Node Token A) (there : get kids i ≡ Some child) where
      abbrev it : Child (Node Token A)
      it = record { number = i; node = child }

      it-is : get first i ≡ Some it
      it-is = numbered-get 0 i i kids child (omega arith) there

      low : height child ≤ heights b.kids
      low = low-get (heights b.kids) kids i child (low-kids (heights b.kids) b.kids (omega arith)) there

      its-step : (k : ℕ) (r : Outcome Token (Node Token A)) → step_at rows k (height child) (below_child i b.meets) when child got ≡ r → steps k when it got ≡ with_number i r
      its-step k r g = ap (λ v. with_number i v) (levels-agree rows k (heights b.kids) (height child) (below_child i b.meets) when child got low (omega arith) ∙ g)

      -- the composite's firing asks for that of it
      pub asks-one : (h : Past) → FromSome (λ k. IsAsked its-facts (steps k) (b.meets [] h.made) h.made core first b.tag b.inputs i it when got)
      asks-one h = (0, λ k o. (refl, d.calm, d.current, it-is, refl))

      pub lends-one : IsLentTo rows child got
      lends-one = record { places = λ ns n. picked-long ((chart_in reads b.before).in_ports i) b.inputs ∙ sym (w.suits.places i child there child (Stays child) ns n) }

      -- its firing is recorded
      module _ (next : Node Token A) (out : Streams Token) (k : Kept Token) (f : FiresTo (λ fuel. Step fuel rows (below_child i b.meets) child when got) next out (kept_at b.olds i) k) where
        abbrev after : State M
        after = after_told reads i out (next_of rows next) asked

        keeps : Keeps reads (with_wake i (next_of rows next) asked) after
        keeps = given-keeps reads _ (with_wake i (next_of rows next) asked)

        becomes : (later : Node Token A) → Becomes rows next later → Becomes rows child later
        becomes later m =
            let r = recorded-done (made_of child) when got (step_at rows f.done.0 (height child) (below_child i b.meets) when child got) next out f.log (f.done.1 f.done.0 (omega arith)) in
            Fires child next later f.done.0 (height child) (below_child i b.meets) when got out r.0 r.1 m

        known-after : (j : ℕ) → f.done.0 ≤ j → (made : ℕ) → IsKnown its-facts.reset made after (numbered 0 (set kids i next)) (log_below (logs_then i f.log quiet)) (firing_from reads its-facts (steps j) made b.before first b.tag b.inputs)
        known-after j o made =
            let r = recorded-done (made_of child) when got (step_at rows j (height child) (below_child i b.meets) when child got) next out f.log (f.done.1 j o) in
            let z : Child (Node Token A) = record { number = i; node = next } in
            let on = (calls-are-modal reads).goes_on its-facts (steps j) made b.before first b.tag b.inputs i d it z out r.0 (next_of rows next) it-is (its-step j (Done next out r.0) r.1) in
            subst (λ (l : Log Token). IsKnown its-facts.reset made after (numbered 0 (set kids i next)) l (firing_from reads its-facts (steps j) made b.before first b.tag b.inputs)) (ap (λ (l : Log Token). below_number i l) r.2 ∙ number-below i f.log first within-first)
            (subst (λ ns. IsKnown its-facts.reset made after ns (below_number i (log_then r.0 (own (record { number = made_of child; tag = when; inputs = got; outputs = out })))) (firing_from reads its-facts (steps j) made b.before first b.tag b.inputs)) (numbered-set 0 kids i i next (omega arith)) on)

        pub goes-one : Going reads rows b after (set kids i next) (set b.olds i k)
        goes-one = Knows after (set kids i next) (set b.olds i k) (record {
          plan = keeps.plan;
          suits = suits-set reads rows b.before.plan kids i child next there becomes w.suits;
          wakes = keeps.wakes ∙ ap (λ (ws : List (Option Tag)). set ws i (next_of rows next)) w.wakes ∙ map-set (next_of rows) kids i next;
          there = λ j g. let m = keeps.reset j g in (suits-set reads rows b.before.plan kids i child next there becomes w.suits).named m.0 j m.1;
          logs = logs_then i f.log quiet;
          known = (f.done.0, λ j o made. known-after j o made);
          kept = all-go-on i f.log quiet b.olds b.olds k within-olds (all-begin first b.olds (numbered-length 0 kids ∙ w.kept)) f.kept;
        })

      -- it isn't finished
      module _ (h : Past) (e : Entry Token) (k : Kept Token) where
        abbrev its-outcome : ℕ → Outcome Token (Node Token A)
        its-outcome fuel = step_at rows fuel (height child) (below_child i b.meets) when child got

        abbrev so-far : Log Token → Log Token
        so-far l = within_firing h.made (log_below (logs_then i l quiet))

        shut-within : (place : Option Fault) (l : Log Token) (k₀ : ℕ) → ((j : ℕ) → k₀ ≤ j → LogBelow l (log_in (its-outcome j))) → IsShut rows (below_child i b.meets) child when got place l → IsShut rows b.meets (Composite h start core b.kids) b.tag b.inputs (below_place i place) (so-far l)
        unfolding between-begins
        shut-within place l k₀ below shut = pauses-are-shut.within rows law b.meets b.tag h start core b.kids b.inputs kids quiet i child when got place l k₀ (λ fits j o. (
          between-begins j,
          record {
            there = there;
            low = low;
            at_tag = (lag_of b.before.modes.stays i, refl);
            takes = λ q. inl (picked-exact ((chart_in reads b.before).in_ports i) b.inputs q (λ n. []));
            asks = (refl, d.calm, d.current, it-is, refl);
            below = below j o;
            shut = shut;
          },
        ))

        log-within : (j : ℕ) (l n : Log Token) → LogBelow l n → LogBelow (log_below (logs_then i l quiet)) (below_number i n)
        log-within j l n g = subst (λ (m : Log Token). LogBelow m (below_number i n)) (number-below i l first within-first) (number-grows i l n g)

        pub sticks-one : (f : Fault) → SticksAt its-outcome (IsShut rows (below_child i b.meets) child when got (Some f)) f (kept_at b.olds i) k → IsStuck a b h e due (below_fault i f) (set b.olds i k)
        sticks-one f x = record {
          log = so-far x.log;
          stuck = (
            x.stuck.0,
            λ j o.
                let r = x.stuck.1 j o in
                let s = (calls-are-modal reads).sticks its-facts (steps j) h.made b.before first b.tag b.inputs i d it r.0 r.1 it-is (its-step j (Stuck r.0 r.1) r.2) in
                below-stuck (outcome a b h j) i f h.made (prefixed i r.0) (below_number i r.1) (log_below (logs_then i x.log quiet))
                (composite-at h j ∙ as-stuck b.tag h start (Modal (chart_in reads b.before)) (fired-so h j) (prefixed i r.0) (below_number i r.1) s) (in-prefixed i f r.0 r.3) (log-within j x.log r.1 r.4),
          );
          kept = kept-begins x.log k x.kept h e;
          part = shut-within (Some f) x.log x.stuck.0 (λ j o. let r = x.stuck.1 j o in subst (λ v. LogBelow x.log (log_in v)) (sym r.2) r.4) x.part;
        }

        -- the log of the composite, whether its refinement is done or stuck
        log-of-it : (j : ℕ) (r : Outcome Token (Node Token A)) → its-outcome j ≡ r → (l : Log Token) → LogBelow l (log_in r) → LogBelow (log_below (logs_then i l quiet)) (log_in (fired-so h j))
        log-of-it j (Done z out n) g l x =
            let s : Child (Node Token A) = record { number = i; node = z } in
            let m : Log Token = log_then n (own (record { number = made_of child; tag = when; inputs = got; outputs = out })) in
            let t : State M = after_told reads i out None asked in
            let k = (calls-are-modal reads).goes_on its-facts (steps j) h.made b.before first b.tag b.inputs i d it s out n None it-is (its-step j (Done z out n) g) in
            subst (λ v. LogBelow (log_below (logs_then i l quiet)) v) (sym (known-log its-facts.reset h.made t.modes t.outputs (set first i s) (below_number i m) (fired-so h j) t.stage k))
            (log-within j l m (log-trans l n m x (λ p. IsPrefix-append (n p) (own (record { number = made_of child; tag = when; inputs = got; outputs = out }) p))))
        log-of-it j (Stuck fs n) g l x =
            subst (λ v. LogBelow (log_below (logs_then i l quiet)) (log_in v)) (sym ((calls-are-modal reads).sticks its-facts (steps j) h.made b.before first b.tag b.inputs i d it fs n it-is (its-step j (Stuck fs n) g)))
            (log-within j l n x)

        pub within-one : LeavesOff its-outcome (IsShut rows (below_child i b.meets) child when got None) (kept_at b.olds i) k → IsLeftOff a b h e due (set b.olds i k)
        within-one x = record {
          log = so-far x.log;
          beginning = (x.beginning.0, λ j o. log-at h j (log_below (logs_then i x.log quiet)) (log-of-it j (its-outcome j) refl x.log (x.beginning.1 j o)));
          kept = kept-begins x.log k x.kept h e;
          part = shut-within None x.log x.beginning.0 x.beginning.1 x.part;
        }
