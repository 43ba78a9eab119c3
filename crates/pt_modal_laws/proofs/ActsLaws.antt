-- The calls of the core are lawful.
use Rattle.std.proofs.Common.{◌≡◌, ◌⊎◌, inl, inr, ℕ, suc, ◌<◌, ◌≤◌, List, [], ◌∷◌, true, false, length, map, get_or, set, Option, Some, None, refl, sym, ap, subst, ◌∙◌, arith}
use Rattle.std.specs.Prelude.{IsSome}
use Rattle.pt_meaning.specs.Tag.{Tag}
use Rattle.pt_meaning.specs.Streams.{Streams, get}
use Rattle.pt_meaning.specs.Log.{Log, LogBelow, silent, log_below, within_firing}
use Rattle.pt_meaning.specs.Machine.{Fault, Outcome, Done}
use Rattle.pt_meaning.specs.Modal.{Chart, Modes, first_modes, chosen, modal_wake}
use Rattle.pt_meaning.specs.Net.{Inside}
use Rattle.pt_meaning.specs.Meetings.{below_child}
use Rattle.pt_meaning.specs.Children.{Child, numbered, child_facts}
use Rattle.pt_meaning.specs.Tree.{Rows, Modal, Past, Node, Composite, list_of, nodes_of, reset_of, fired_at, height, heights}
use Rattle.pt_meaning.specs.NodeFacts.{facts_of, next_of}
use Rattle.pt_meaning.specs.Step.{step_at, Step}
use Rattle.pt_meaning.specs.Asked.{IsAsked}
use Rattle.pt_meaning.specs.Lawful.{LawfulRows}
use Rattle.pt_laws.specs.CompositeRuns.{steps_below}
use Rattle.pt_laws.specs.LogsOfRuns.{silents, log_in}
use Rattle.pt_laws.proofs.CompositeLaws.{as-done, as-stuck, log-as-node}
use Rattle.pt_laws.proofs.HeightLaws.{numbered-length}
use Rattle.pt_laws.proofs.LogLaws.{log-refl}
use Rattle.pt_value.specs.declared.token.Token.{Token}
use Rattle.pt_firing.specs.declared.ask.Ask.{Ask}
use Rattle.pt_firing.specs.declared.ask.Ask.TheVariants as ask
use Rattle.pt_firing.specs.declared.fault.RunFault.{RunFault}
use Rattle.pt_firing.specs.RunFault.{code_of}
use Rattle.pt_records.specs.Kept.{Kept, Entry, kept_at, kept_by}
use Rattle.pt_records.specs.Fired.{FromSome, FiresTo, SticksAt, LeavesOff}
use Rattle.pt_records.specs.Shut.{IsShut}
use Rattle.pt_records.proofs.GrowthLaws.{all-begin, grew-within}
use Rattle.pt_records.proofs.ShutSteps.{stepped-is-shut, at-own-place}
use Rattle.pt_records.proofs.SoFarLaws.{numbered-set, numbered-nodes}
use Rattle.pt_core.specs.Acts.{Beginning}
use Rattle.pt_core.specs.Lawful.{Lawful, Middle, IsUsual, IsMove, IsLentTo, IsStuck, IsLeftOff, node, outcome, own_fault, below_fault}
use Rattle.pt_core.specs.Reached.{Stays, Resets}
use Rattle.pt_core.proofs.MetLaws.{tells-none}
use Rattle.pt_modal_laws.specs.State.{ModalPlan, Stage, Due, Asked, Over, Closed, Failed, resets_in, in_stage, opened, with_wake, after_reset, closed, chart_in, after_preemptive, begun, after_told}
use Rattle.pt_modal_laws.specs.State as state
use Rattle.pt_modal_laws.specs.Chain.{IsKnownIn, IsKnown, firing_from, IsDue, due_from, local_of, inputs_for}
use Rattle.pt_modal_laws.specs.ModalActs.{State, Suits, MayAsk, Settles, Begins, Going, Waits, Knows, Gives, modal_calls, modal_acts}
use Rattle.pt_modal_laws.proofs.PartLaws.{numbered-get, silents-below, map-set, due-number, known-asks, known-log, never-due, Keeps, preemptive-keeps, pared-keeps, given-asks}
use Rattle.pt_modal_laws.proofs.NodeLaws.{wakes-are, again-starts, suits-set, suits-again}
use Rattle.pt_modal_laws.proofs.FiringLaws.{start, composite-at, within, off-begins, asks-one, lends-one, goes-one, sticks-one, within-one}
use Rattle.pt_modal_laws.proofs.ReactionLaws.{calls-are-modal}

clash : true ≡ false → ⊥
clash e = cc

usual-one : {M : Type 0} (s : State M) (answer : Ask) → Gives s answer → IsUsual answer
usual-one s (ask.Fire child tag) q = tt
usual-one s (ask.Early child tag) q = absurd q
usual-one s ask.Finished q = tt
usual-one s (ask.Faulted kind (Some child)) q = absurd q
usual-one s (ask.Faulted kind None) q = tt
usual-one s (ask.Reset child) q = tt
usual-one s (ask.Get child) q = absurd q
usual-one s (ask.Put child) q = absurd q
usual-one s ask.Grow q = absurd q
usual-one s (ask.Meet meeting) q = absurd q
usual-one s ask.Await q = q
usual-one s ask.Full q = absurd q

-- it makes no moves
none-moves : {M : Type 0} (s : State M) (a : Ask) → IsMove a → Gives s a → ⊥
none-moves s (ask.Get child) m q = q
none-moves s (ask.Put child) m q = q
none-moves s ask.Grow m q = q
none-moves s (ask.Fire child tag) m q = m
none-moves s (ask.Early child tag) m q = m
none-moves s (ask.Reset child) m q = m
none-moves s ask.Finished m q = m
none-moves s (ask.Faulted kind child) m q = m
none-moves s ask.Full m q = m
none-moves s (ask.Meet meeting) m q = q
none-moves s ask.Await m q = m

-- a stage is not another
due-resets : (i j : ℕ) → Due i ≡ state.Resets j → ⊥
due-resets i j e = cc

due-over : (i : ℕ) → Due i ≡ Over → ⊥
due-over i e = cc

due-failed : (i code : ℕ) → Due i ≡ Failed code → ⊥
due-failed i code e = cc

over-resets : (i : ℕ) → Over ≡ state.Resets i → ⊥
over-resets i e = cc

-- of a child that is asked for no reset
none-left : {M : Type 0} (s : State M) (i : ℕ) → s.stage ≡ state.Resets i → resets_in Over < resets_in s.stage
none-left s i e = let one : resets_in s.stage ≡ 1 = ap (λ t. resets_in t) e in omega (arith, one)

module _ {M A : Type 0} (reads : M → Chart Token) (rows : Rows Token A) (law : LawfulRows rows) (b : Beginning A (State M)) where
  -- the refinement is to fire
  module _ (w : Begins reads rows b) (i : ℕ) (d : IsDue reads b.before b.tag b.inputs i) where
    abbrev due : State M
    due = due_from b.before b.tag b.inputs i

    -- what is owed of a firing of child j at a tag
    record IsFired (j : ℕ) (when : Tag) : Type 0 where
      there : j < length (list_of b.kids)
      lends : (child : Node Token A) → get (list_of b.kids) j ≡ Some child → IsLentTo rows child (inputs_for reads b.before b.inputs j)
      goes : (child next : Node Token A) (out : Streams Token) (k : Kept Token) → get (list_of b.kids) j ≡ Some child → FiresTo (λ fuel. Step fuel rows (below_child j b.meets) child when (inputs_for reads b.before b.inputs j)) next out (kept_at b.olds j) k →
          Going reads rows b (after_told reads j out (next_of rows next) (in_stage (Asked j) due)) (set (list_of b.kids) j next) (set b.olds j k)
      sticks : (child : Node Token A) (k : Kept Token) (f : Fault) → get (list_of b.kids) j ≡ Some child → SticksAt (λ fuel. step_at rows fuel (height child) (below_child j b.meets) when child (inputs_for reads b.before b.inputs j)) (IsShut rows (below_child j b.meets) child when (inputs_for reads b.before b.inputs j) (Some f)) f (kept_at b.olds j) k →
          (h : Past) (e : Entry Token) → IsStuck (modal_acts reads rows) b h e due (below_fault j f) (set b.olds j k)
      off : (child : Node Token A) (k : Kept Token) → get (list_of b.kids) j ≡ Some child → LeavesOff (λ fuel. step_at rows fuel (height child) (below_child j b.meets) when child (inputs_for reads b.before b.inputs j)) (IsShut rows (below_child j b.meets) child when (inputs_for reads b.before b.inputs j) None) (kept_at b.olds j) k →
          (h : Past) (e : Entry Token) → IsLeftOff (modal_acts reads rows) b h e due (set b.olds j k)
      asks : (child : Node Token A) → get (list_of b.kids) j ≡ Some child → (h : Past) →
          FromSome (λ k. IsAsked (child_facts (facts_of rows)) (steps_below rows k (heights b.kids) b.meets) (b.meets [] h.made) h.made (Modal (chart_in reads b.before) b.before.modes) (numbered 0 (list_of b.kids)) b.tag b.inputs j (record { number = j; node = child }) when (inputs_for reads b.before b.inputs j))

    fired-so-one : IsFired i (local_of b.before b.tag i)
    fired-so-one = record {
      there = within reads rows law b w i d;
      lends = λ child e. lends-one reads rows law b w i d child e;
      goes = λ child next out k e f. goes-one reads rows law b w i d child e next out k f;
      sticks = λ child k f e x h c. sticks-one reads rows law b w i d child e h c k f x;
      off = λ child k e x h c. within-one reads rows law b w i d child e h c k x;
      asks = λ child e h. asks-one reads rows law b w i d child e h;
    }

    asked-so : (j : ℕ) (when : Tag) → Gives due (ask.Fire j when) → IsFired j when
    asked-so j when q = subst (λ t. IsFired j t) (sym q.1) (subst (λ n. IsFired n (local_of b.before b.tag n)) (due-number i j q.0) fired-so-one)

    waits-so : Middle (modal_acts reads rows) b due (list_of b.kids) b.olds
    waits-so = record {
      asks = tt;
      usual = usual-one due;
      fires_one = λ j when q. (asked-so j when q).there;
      lends = λ j when q child e. (asked-so j when q).lends child e;
      goes_on = λ j when q child next out k e f ok. (asked-so j when q).goes child next out k e f;
      refuses = λ j when q child next out k e f no. absurd (clash no);
      sticks = λ j when q child k f e x h c met. (asked-so j when q).sticks child k f e x h c;
      asks_as = λ j when q child e h met. (asked-so j when q).asks child e h;
      listens = λ j when q. absurd q;
      hears = λ j when q child e. absurd q;
      learns = λ j when q early. absurd q;
      resets_one = λ j q. absurd (due-resets i j q);
      resets = λ j q child e. absurd (due-resets i j q);
      rests = λ j q. absurd (due-resets i j q);
      moves = λ answer m q. absurd (none-moves due answer m q);
      ends = λ q h c met. absurd (due-over i q);
      fits = λ q. absurd (due-over i q);
      faults = λ kind q. absurd (due-failed i (code_of kind) q);
      jams = λ q. absurd q;
      off = λ h c met. off-begins reads rows law b w i d h c;
      off_within = λ j when q child k e x h c met. (asked-so j when q).off child k e x h c;
    }

  -- it is known what the firing comes to
  module _ (s : State M) (now : List (Node Token A)) (news : List (Kept Token)) (x : Settles reads rows b s now news) where
    abbrev reset : Child (Node Token A) → Child (Node Token A)
    reset = (child_facts (facts_of rows)).reset

    abbrev so : ℕ → ℕ → Outcome Token (Inside (Modes Token) (Child (Node Token A)))
    so made k = firing_from reads (child_facts (facts_of rows)) (steps_below rows k (heights b.kids) b.meets) made b.before (numbered 0 (list_of b.kids)) b.tag b.inputs

    known-in : (k : ℕ) → x.known.0 ≤ k → (made : ℕ) → (stage : Stage) → s.stage ≡ stage → IsKnownIn reset made s.modes s.outputs (numbered 0 now) (log_below x.logs) (so made k) stage
    known-in k o made stage e = subst (λ t. IsKnownIn reset made s.modes s.outputs (numbered 0 now) (log_below x.logs) (so made k) t) e (x.known.1 k o made)

    at-first : IsKnown reset 0 s (numbered 0 now) (log_below x.logs) (so 0 x.known.0)
    at-first = x.known.1 x.known.0 (omega arith) 0

    never : (i : ℕ) → s.stage ≡ Due i → ⊥
    never i e = never-due reset 0 s.modes s.outputs (numbered 0 now) (log_below x.logs) (so 0 x.known.0) i s.stage at-first e

    log-so : (h : Past) (k : ℕ) → x.known.0 ≤ k → log_in (outcome (modal_acts reads rows) b h k) ≡ within_firing h.made (log_below x.logs)
    log-so h k o =
        ap (λ r. log_in r) (composite-at reads rows law b h k) ∙ log-as-node b.tag h (start reads rows law b) (Modal (chart_in reads b.before)) (so h.made k) ∙
        ap (λ (l : Log Token). within_firing h.made l) (known-log reset h.made s.modes s.outputs (numbered 0 now) (log_below x.logs) (so h.made k) s.stage (x.known.1 k o h.made))

    module _ (h : Past) (e : Entry Token) where
      abbrev the_log : Log Token
      the_log = within_firing h.made (log_below x.logs)

      abbrev before-node : Node Token A
      before-node = node (modal_acts reads rows) h b.before b.kids

      shut-so : IsShut rows b.meets before-node b.tag b.inputs None the_log
      shut-so = subst (λ (l : Log Token). IsShut rows b.meets before-node b.tag b.inputs None l) (log-so h x.known.0 (omega arith)) (stepped-is-shut rows law b.meets before-node x.known.0 (suc (heights b.kids)) (omega arith) b.tag b.inputs)

      off-so : IsLeftOff (modal_acts reads rows) b h e s news
      off-so = record {
        log = the_log;
        beginning = (x.known.0, λ k o. subst (λ (l : Log Token). LogBelow the_log l) (sym (log-so h k o)) (log-refl the_log));
        kept = grew-within h.made x.logs e b.olds news x.kept;
        part = shut-so;
      }

      faults-so : (kind : RunFault) → s.stage ≡ Failed (code_of kind) → IsStuck (modal_acts reads rows) b h e s (own_fault h kind) news
      faults-so kind q = record {
        log = the_log;
        stuck = (
          x.known.0,
          λ k o. (
            own_fault h kind ∷ [],
            the_log,
            composite-at reads rows law b h k ∙ as-stuck b.tag h (start reads rows law b) (Modal (chart_in reads b.before)) (so h.made k) (own_fault h kind ∷ []) (log_below x.logs) (known-in k o h.made (Failed (code_of kind)) q),
            inl refl,
            log-refl the_log,
          ),
        );
        kept = grew-within h.made x.logs e b.olds news x.kept;
        part = at-own-place rows b.meets before-node b.tag b.inputs the_log (own_fault h kind) refl refl shut-so;
      }

      ends-so : s.stage ≡ Over → FiresTo (outcome (modal_acts reads rows) b h) (node (modal_acts reads rows) (fired_at b.tag h) (closed (in_stage Closed s)) (nodes_of now)) s.outputs (kept_by e b.olds) (kept_by e news)
      ends-so q =
          subst (λ (p : ModalPlan M). FiresTo (outcome (modal_acts reads rows) b h) (Composite (fired_at b.tag h) (Modal (reads p.machine) (first_modes (reads p.machine) (length p.starts))) (Modal (reads p.machine) s.modes) (nodes_of now)) s.outputs (kept_by e b.olds) (kept_by e news)) (sym x.plan) (record {
            log = the_log;
            done = (
              x.known.0,
              λ k o.
                  composite-at reads rows law b h k ∙
                  as-done b.tag h (start reads rows law b) (Modal (chart_in reads b.before)) (so h.made k) (record { held = s.modes; kids = numbered 0 now }) s.outputs (log_below x.logs) (known-in k o h.made Over q) ∙
                  ap (λ (ns : List (Node Token A)). let r : Outcome Token (Node Token A) = Done (Composite (fired_at b.tag h) (start reads rows law b) (Modal (chart_in reads b.before) s.modes) (nodes_of ns)) s.outputs the_log in r) (numbered-nodes 0 now),
            );
            kept = grew-within h.made x.logs e b.olds news x.kept;
          })

    -- a refinement is reset
    resets-so : (i : ℕ) → s.stage ≡ state.Resets i → (child : Node Token A) → get now i ≡ Some child → Going reads rows b (after_reset i s) (set now i (reset_of child)) news
    resets-so i q child there = Knows (after_reset i s) (set now i (reset_of child)) news (record {
      plan = x.plan;
      suits = suits-set reads rows b.before.plan now i child (reset_of child) there (λ later m. Resets child later m) x.suits;
      wakes =
          ap (λ (ws : List (Option Tag)). set ws i (get_or s.plan.starts i None)) x.wakes ∙
          ap (λ (v : Option Tag). set (map (next_of rows) now) i v) (ap (λ (p : ModalPlan M). get_or p.starts i None) x.plan ∙ sym (x.suits.starts i child there child (Stays child))) ∙ map-set (next_of rows) now i (reset_of child);
      there = λ j e. absurd (over-resets j e);
      logs = x.logs;
      known = (
        x.known.0,
        λ k o made.
            let c : Child (Node Token A) = record { number = i; node = child } in
            subst (λ (ns : List (Child (Node Token A))). IsKnown reset made (after_reset i s) ns (log_below x.logs) (so made k)) (numbered-set 0 now i i (reset_of child) (omega arith))
            ((calls-are-modal reads).resets reset made s (numbered 0 now) (log_below x.logs) (so made k) (x.known.1 k o made) i c q (numbered-get 0 i i now child (omega arith) there)),
      );
      kept = x.kept;
    })

    fits-so : (closed (in_stage Closed s)).wakes ≡ map (next_of rows) now × Suits reads rows s.plan now
    fits-so = (x.wakes, subst (λ (p : ModalPlan M). Suits reads rows p now) (sym x.plan) x.suits)

    knows-so : Middle (modal_acts reads rows) b s now news
    knows-so = record {
      asks = known-asks reset 0 s.modes s.outputs (numbered 0 now) (log_below x.logs) (so 0 x.known.0) s.stage at-first;
      usual = usual-one s;
      fires_one = λ i when q. absurd (never i q.0);
      lends = λ i when q child e. absurd (never i q.0);
      goes_on = λ i when q child next out k e f ok. absurd (never i q.0);
      refuses = λ i when q child next out k e f no. absurd (clash no);
      sticks = λ i when q child k f e x h c met. absurd (never i q.0);
      asks_as = λ i when q child e h met. absurd (never i q.0);
      listens = λ i when q. absurd q;
      hears = λ i when q child e. absurd q;
      learns = λ i when q early. absurd q;
      resets_one = λ i q. x.there i q;
      resets = λ i q child e. resets-so i q child e;
      rests = λ i q. none-left s i q;
      moves = λ answer m q. absurd (none-moves s answer m q);
      ends = λ q h c met. ends-so h c q;
      fits = λ q. (refl, fits-so.0, fits-so.1);
      faults = λ kind q h c met. faults-so h c kind q;
      jams = λ q. absurd q;
      off = λ h c met. off-so h c;
      off_within = λ i when q child k e x h c met. absurd (never i q.0);
    }

  -- a reaction begins
  abbrev its : List (Child (Node Token A))
  its = numbered 0 (list_of b.kids)

  abbrev opening : State M
  opening = begun reads b.tag b.inputs b.before

  abbrev firing : (made k : ℕ) → Outcome Token (Inside (Modes Token) (Child (Node Token A)))
  firing made k = firing_from reads (child_facts (facts_of rows)) (steps_below rows k (heights b.kids) b.meets) made b.before its b.tag b.inputs

  abbrev IsKnownAt : (made k : ℕ) → Type 0
  IsKnownAt made k = IsKnown (child_facts (facts_of rows)).reset made opening its silent (firing made k)

  abbrev OpensOr : Type 0 → Type 0
  OpensOr K = ((i : ℕ) × IsDue reads b.before b.tag b.inputs i × (opening ≡ due_from b.before b.tag b.inputs i)) ⊎ K

  opens : (made k : ℕ) → OpensOr (IsKnownAt made k)
  opens made k = (calls-are-modal reads).begins (child_facts (facts_of rows)) (steps_below rows k (heights b.kids) b.meets) made b.before its b.tag b.inputs

  -- what is known at one fuel is so at each
  known-everywhere : IsKnownAt 0 0 → (made k : ℕ) → IsKnownAt made k
  known-everywhere z made k = one (opens made k)
    where
      one : OpensOr (IsKnownAt made k) → IsKnownAt made k
      one (inl r) = absurd (never-due (child_facts (facts_of rows)).reset 0 opening.modes opening.outputs its silent (firing 0 0) r.0 opening.stage z (ap (λ (t : State M). t.stage) r.2))
      one (inr y) = y

  opening-keeps : Keeps reads (opened b.tag b.inputs b.before) opening
  opening-keeps =
      let first = chosen 0 ((chart_in reads b.before).preemptive b.before.modes.mode b.before.modes.values b.inputs) in
      let start = opened b.tag b.inputs b.before in
      pared-keeps reads start (after_preemptive reads first start) (preemptive-keeps reads first start)

  begins-so : Begins reads rows b → Going reads rows b opening (list_of b.kids) b.olds
  begins-so w = by (opens 0 0)
    where
      by : OpensOr (IsKnownAt 0 0) → Going reads rows b opening (list_of b.kids) b.olds
      by (inl r) = subst (λ (t : State M). Going reads rows b t (list_of b.kids) b.olds) (sym r.2) (Waits r.0 w r.1)
      by (inr z) = Knows opening (list_of b.kids) b.olds (record {
        plan = opening-keeps.plan;
        suits = w.suits;
        wakes = opening-keeps.wakes ∙ w.wakes;
        there = λ i e. let m = opening-keeps.reset i e in w.suits.named m.0 i m.1;
        logs = silents its;
        known = (0, λ k o made. subst (λ (l : Log Token). IsKnown (child_facts (facts_of rows)).reset made opening its l (firing made k)) (sym (silents-below its)) (known-everywhere z made k));
        kept = all-begin its b.olds (numbered-length 0 (list_of b.kids) ∙ w.kept);
      })

  middle-so : (s : State M) (now : List (Node Token A)) (news : List (Kept Token)) → Going reads rows b s now news → Middle (modal_acts reads rows) b s now news
  middle-so s now news (Waits i w d) = waits-so w i d
  middle-so s now news (Knows t ns ks x) = knows-so t ns ks x

asked-asks : {M : Type 0} (reads : M → Chart Token) (s : State M) (i : ℕ) (out : Streams Token) (wake : Option Tag) → MayAsk (after_told reads i out wake s).stage
asked-asks reads s i out wake = given-asks reads _ (with_wake i wake s)

pub modal-is-lawful : {M A : Type 0} (reads : M → Chart Token) (rows : Rows Token A) → LawfulRows rows → Lawful (modal_acts reads rows)
modal-is-lawful reads rows law = record {
  agree = record {
    asked = λ s i when q. refl;
    listened = λ s i when q. absurd q;
    hands = λ s i e. (subst (λ v. IsSome v) (sym e) refl, e, refl);
    hands_on = λ s i e out wake need. (refl, refl, refl);
    asks_on = λ s i out wake need e. asked-asks reads s i out wake;
    tells = λ s i out wake need e. refl;
    finishes = λ s q. refl;
    restarts = λ s. (refl, refl);
    keeps_maximum = record { begun = λ tag inputs s. refl; asking = λ answer s. refl; handed = λ s. refl; told = λ i out wake need s. refl; heard = λ i early s. refl; closed = λ s. refl; restarted = λ s. refl };
    tells_meetings = tells-none (modal_calls reads) (λ s. refl) (λ m s q. q);
  };
  idle = λ s kids f. f.0;
  wakes = λ s kids f. ap (λ ws. modal_wake ((chart_in reads s).refinement s.modes.mode) s.modes.stays ws) (f.1 ∙ wakes-are rows kids);
  fits_again = λ s kids f. (refl, again-starts reads rows s.plan kids f.2, suits-again reads rows s.plan kids f.2);
  begins = λ b f t o. begins-so reads rows law b (record { suits = f.2; wakes = f.1; kept = o });
  middle = λ b s now news g. middle-so reads rows law b s now news g;
}
