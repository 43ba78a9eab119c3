-- The calls of the core are lawful.
use Rattle.std.proofs.Common.{◌≡◌, ◌⊎◌, inl, inr, ℕ, zero, suc, ◌+◌, ◌<◌, ◌≤◌, List, [], ◌∷◌, Bool, true, false, not, length, map, get_or, set, take, drop, Some, None, refl, sym, ap, subst, ◌∙◌, arith, length-set, length-drop}
use Rattle.std.specs.Prelude.{IsSome}
use Rattle.std.proofs.lemmas.Bool.{cases_eq}
use Rattle.std.proofs.lemmas.List.{length-map, length-take-le}
use Rattle.pt_meaning.specs.Tag.{Tag}
use Rattle.pt_meaning.specs.Streams.{Streams, get}
use Rattle.pt_meaning.specs.Machine.{Fault, Partial, Unknown, Known}
use Rattle.pt_meaning.specs.Valuation.{TickPlan, tokens_of}
use Rattle.pt_meaning.specs.Sr.{all_single}
use Rattle.pt_meaning.specs.Running.{total}
use Rattle.pt_meaning.specs.Lawful.{LawfulRows}
use Rattle.pt_meaning.specs.Meetings.{below_child}
use Rattle.pt_meaning.specs.Children.{numbered, child_facts}
use Rattle.pt_meaning.specs.Tree.{Rows, Core, Sr, Past, Node, Composite, list_of, nodes_of, made_of, reset_of, fired_at, height, heights}
use Rattle.pt_meaning.specs.NodeFacts.{facts_of, early_of}
use Rattle.pt_meaning.specs.Step.{step_at, Step}
use Rattle.pt_meaning.specs.Asked as meant
use Rattle.pt_laws.specs.CompositeRuns.{steps_below}
use Rattle.pt_value.specs.declared.token.Token.{Token}
use Rattle.pt_firing.specs.declared.ask.Ask.{Ask}
use Rattle.pt_firing.specs.declared.ask.Ask.TheVariants as ask
use Rattle.pt_firing.specs.declared.fault.RunFault.TheVariants.{SecondToken, Causality}
use Rattle.pt_records.specs.Kept.{Kept, Entry, kept_at, kept_by}
use Rattle.pt_records.specs.Fired.{FromSome, FiresTo, SticksAt, LeavesOff}
use Rattle.pt_records.specs.Shut.{IsShut}
use Rattle.pt_records.proofs.SoFarLaws.{recorded-done}
use Rattle.pt_core.specs.Acts.{Beginning, Acts}
use Rattle.pt_core.specs.Lawful.{Lawful, IsUsual, IsMove, IsLentTo, IsStuck, IsLeftOff, node, outcome, child_outcome, below_fault, own_fault, child_fault}
use Rattle.pt_core.specs.Reached.{Becomes, Stays, Fires, Always, AllAlways}
use Rattle.pt_core.proofs.MetLaws.{tells-none}
use Rattle.pt_core.proofs.ReachedLaws.{always-reset}
use Rattle.pt_sr.specs.State.{Stage, Open, Wrong, Closed, MayFire, MayAnswer, asked, listening, in_stage, begun, if_told, after_told, after_heard, inputs_of, unknown_in, lent_of, own_of, closed, at_first, all_of, known_of}
use Rattle.pt_sr.specs.Clauses.{State, MayAsk, IsAsked}
use Rattle.pt_sr.specs.Chain.{IsFor, AllFired, NothingComes}
use Rattle.pt_sr.specs.SoFar.{SrSoFar, sr_node, sr_outcome}
use Rattle.pt_sr.specs.SrActs.{IsStrictIf, HasPlaces, Suits, Going, Gives, asking, is_wrong, sr_calls, sr_acts}
use Rattle.pt_sr.proofs.KnownLaws.{after-long}
use Rattle.pt_sr.proofs.OffsetLaws.{total-within}
use Rattle.pt_sr.proofs.ChainLaws.{get-or-there, total-set}
use Rattle.pt_sr.proofs.SoFarLaws.{sr-begins, sr-goes-on, sr-hears, sr-is-done, sr-lacks, sr-is-stuck, sr-gives-two, sr-is-left-off, sr-is-left-off-within, asks-planned}

-- the answer that a contract tells
pub answered : (s : State) (a : Ask) (t : State) → IsAsked s a t → Gives s a × (t ≡ asking a s)
answered s (ask.Fire child tag) t q = ((q.0, q.1, q.2), q.3)
answered s (ask.Early child tag) t q = ((q.0, q.1, q.2), q.3)
answered s ask.Finished t q = ((q.0, q.1), q.2)
answered s (ask.Faulted kind (Some child)) t q = ((q.0, q.1), q.2)
answered s (ask.Faulted kind None) t q = ((q.0, q.1, q.2), q.3)
answered s (ask.Reset child) t q = absurd q
answered s (ask.Get child) t q = absurd q
answered s (ask.Put child) t q = absurd q
answered s ask.Grow t q = absurd q
answered s (ask.Meet meeting) t q = absurd q
answered s ask.Await t q = absurd q
answered s ask.Full t q = absurd q

-- what holds of all that a list of nodes becomes, where one of them has fired
get-set-same : {B : Type 0} (xs : List B) (i : ℕ) (x y : B) → get (set xs i x) i ≡ Some y → y ≡ x
get-set-same [] i x y e = absurd (cc)
get-set-same (z ∷ xs) zero x y e = cc
get-set-same (z ∷ xs) (suc i) x y e = get-set-same xs i x y e

get-set-other : {B : Type 0} (xs : List B) (i j : ℕ) (x : B) → (j ≡ i → ⊥) → get (set xs i x) j ≡ get xs j
get-set-other [] i j x z = refl
get-set-other (y ∷ xs) zero zero x z = absurd (z refl)
get-set-other (y ∷ xs) zero (suc j) x z = refl
get-set-other (y ∷ xs) (suc i) zero x z = refl
get-set-other (y ∷ xs) (suc i) (suc j) x z = get-set-other xs i j x (λ e. z (ap (λ n. suc n) e))

always-set : {T A : Type 0} (rows : Rows T A) (P : ℕ → Node T A → Type 0) (nodes : List (Node T A)) (i : ℕ) (first next : Node T A) → get nodes i ≡ Some first → ((later : Node T A) → Becomes rows next later → Becomes rows first later) → AllAlways rows P nodes → AllAlways rows P (set nodes i next)
always-set {T} {A} rows P nodes i first next e more all j other f = by (cases_eq j i)
  where
    by : (j ≡ i) ⊎ (j ≡ i → ⊥) → Always rows (P j) other
    by (inr z) = all j other (sym (get-set-other nodes i j next z) ∙ f)
    by (inl z) = λ later b. all j first (ap (λ n. get nodes n) z ∙ e) later (more later (subst (λ (n : Node T A). Becomes rows n later) (get-set-same nodes i next other (sym (ap (λ n. get (set nodes i next) n) z) ∙ f)) b))

tokens-long : {T : Type 0} (vs : List (Partial T)) → length (tokens_of vs) ≡ length vs
tokens-long [] = refl
tokens-long (Unknown ∷ vs) = ap (λ n. suc n) (tokens-long vs)
tokens-long (Known xs ∷ vs) = ap (λ n. suc n) (tokens-long vs)

dropped-long : {B : Type 0} (m n : ℕ) (xs : List B) → m + n ≤ length xs → n ≤ length (drop m xs)
dropped-long m n xs h = omega (arith, h, length-drop m xs)

open-not-wrong : (stage : Stage) (child : ℕ) → stage ≡ Open → stage ≡ Wrong child → ⊥
open-not-wrong stage child o w = absurd (cc)

told-asks : (b : Bool) (i : ℕ) (out : Streams Token) (s : State) → MayAsk (if_told b i out s).stage
told-asks true i out s = tt
told-asks false i out s = tt

told-wrong : (b : Bool) (i : ℕ) (out : Streams Token) (s : State) → is_wrong (if_told b i out s).stage ≡ not b
told-wrong true i out s = refl
told-wrong false i out s = refl

module _ {A : Type 0} (rows : Rows Token A) (law : LawfulRows rows) where
  usual-one : (b : Beginning A State) (s : State) (now : List (Node Token A)) (news : List (Kept Token)) → Going rows b s now news → (a : Ask) → Gives s a → IsUsual a
  usual-one b s now news g (ask.Fire child tag) q = tt
  usual-one b s now news g (ask.Early child tag) q = tt
  usual-one b s now news g ask.Finished q = tt
  usual-one b s now news g (ask.Faulted kind (Some child)) q = open-not-wrong s.stage child g.stage q.1
  usual-one b s now news g (ask.Faulted kind None) q = tt
  usual-one b s now news g (ask.Reset child) q = absurd q
  usual-one b s now news g (ask.Get child) q = absurd q
  usual-one b s now news g (ask.Put child) q = absurd q
  usual-one b s now news g ask.Grow q = absurd q
  usual-one b s now news g (ask.Meet meeting) q = absurd q
  usual-one b s now news g ask.Await q = q
  usual-one b s now news g ask.Full q = absurd q

  -- it makes no moves
  none-moves : (s : State) (a : Ask) → IsMove a → Gives s a → ⊥
  none-moves s (ask.Get child) m q = q
  none-moves s (ask.Put child) m q = q
  none-moves s ask.Grow m q = q
  none-moves s (ask.Fire child tag) m q = m
  none-moves s (ask.Early child tag) m q = m
  none-moves s (ask.Reset child) m q = m
  none-moves s ask.Finished m q = m
  none-moves s (ask.Faulted kind child) m q = m
  none-moves s ask.Full m q = m
  none-moves s (ask.Meet meeting) m q = q
  none-moves s ask.Await m q = m

  -- it fits the children as they are now
  suits-for : (s : State) (kids : List (Node Token A)) → Suits rows s.tick.plan s.tick.nonstrict kids → IsFor (facts_of rows) s kids
  suits-for s kids f = record { children = f.children; strict = λ i d l q. by i d l (get_or s.tick.nonstrict i false) q (f.strict i (get_or kids i d) (get-or-there kids i d l) (get_or kids i d) (Stays (get_or kids i d))) }
    where
      by : (i : ℕ) (d : Node Token A) → i < length kids → (b : Bool) → b ≡ false → IsStrictIf rows b (get_or kids i d) → IsStrictIf rows false (get_or kids i d)
      by i d l true q h = absurd (cc)
      by i d l false q h = h

  begins-one : (b : Beginning A State) → Suits rows b.before.tick.plan b.before.tick.nonstrict (list_of b.kids) → length (list_of b.kids) ≡ length b.olds → Going rows b (begun b.tag b.inputs b.before) (list_of b.kids) b.olds
  begins-one b f o = record {
    stage = refl;
    tag = refl;
    plan = refl;
    channels = length-map b.before.tick.plan.net.sources (λ c. at_first b.inputs c);
    suits = f;
    so_far = sr-begins rows law b.meets b.tag b.before b.kids b.inputs b.olds (suits-for b.before (list_of b.kids) f) o;
  }

  module _ (b : Beginning A State) (s : State) (now : List (Node Token A)) (news : List (Kept Token)) (g : Going rows b s now news) where
    child-within : (i : ℕ) → i < length s.tick.plan.net.places → i < length now
    child-within i l = omega (arith, l, g.suits.children)

    lends-one : (i : ℕ) (child : Node Token A) → i < length s.tick.plan.net.places → get now i ≡ Some child → IsLentTo rows child (lent_of s i)
    lends-one i child l e = record {
      places = λ ns n.
          let w = total-within s.tick.plan.net.places i l in
          let long = dropped-long (total (take i s.tick.plan.net.places)) (get_or s.tick.plan.net.places i 0) s.tick.known (omega (arith, w, g.suits.channels, g.channels)) in
          tokens-long (inputs_of s.tick i) ∙ length-take-le (get_or s.tick.plan.net.places i 0) (drop (total (take i s.tick.plan.net.places)) s.tick.known) long ∙ sym (g.suits.places i child e child (Stays child) ns n);
    }

    module _ (i : ℕ) (child : Node Token A) (e : get now i ≡ Some child) where
      goes-one : MayFire s.tick i → (next : Node Token A) (out : Streams Token) (k : Kept Token) → FiresTo (λ fuel. Step fuel rows (below_child i b.meets) child s.tag (lent_of s i)) next out (kept_at news i) k → all_single out ≡ true →
          Going rows b (after_told i out (asked i s)) (set now i next) (set news i k)
      goes-one may next out k f single =
          let on = sr-goes-on rows b.meets b.before b.kids b.inputs b.olds s now news g.so_far i child next out k e may f single in
          subst (λ v. Going rows b (if_told v i out (asked i s)) (set now i next) (set news i k)) (sym single)
          (record {
            stage = refl;
            tag = g.tag;
            plan = g.plan;
            channels = after-long i (all_of out) s.tick.plan.net.sources s.tick.known ∙ g.channels;
            suits = record {
              children = length-set now i next ∙ g.suits.children;
              channels = g.suits.channels;
              strict = always-set rows (λ i node. IsStrictIf rows (get_or s.tick.nonstrict i false) node) now i child next e becomes g.suits.strict;
              places = always-set rows (λ i node. HasPlaces rows (get_or s.tick.plan.net.places i 0) node) now i child next e becomes g.suits.places;
            };
            so_far = subst (λ v. SrSoFar rows b.meets b.before b.kids b.inputs b.olds (if_told v i out (asked i s)) (set now i next) (set news i k)) single on;
          })
        where
          becomes : (later : Node Token A) → Becomes rows next later → Becomes rows child later
          becomes later m =
              let r = recorded-done (made_of child) s.tag (lent_of s i) (step_at rows f.done.0 (height child) (below_child i b.meets) s.tag child (lent_of s i)) next out f.log (f.done.1 f.done.0 (omega arith)) in
              Fires child next later f.done.0 (height child) (below_child i b.meets) s.tag (lent_of s i) out r.0 r.1 m

      -- the composite's firing asks for that
      module _ (may : MayFire s.tick i) (h : Past) where
        abbrev AskedFor : Tag → Tag → Type 0
        AskedFor tag when = FromSome (λ k. meant.IsAsked (child_facts (facts_of rows)) (steps_below rows k (heights b.kids) b.meets) (b.meets [] h.made) h.made (Sr b.before.tick.plan) (numbered 0 (list_of b.kids)) tag b.inputs i (record { number = i; node = child }) when (lent_of s i))

        asks-one : (when : Tag) → when ≡ s.tag → AskedFor b.tag when
        asks-one when q =
            subst (λ t. AskedFor b.tag t) (sym q)
            (subst (λ t. AskedFor t s.tag) g.tag (g.so_far.run.0, λ k o. asks-planned rows k b.meets h b.before b.kids b.inputs g.so_far.any s now g.so_far.logs (g.so_far.run.1 k o) i child e may))

      hears-one : MayAnswer s.tick i → Going rows b (after_heard i (early_of rows s.tag child (inputs_of s.tick i)) (listening i s)) now news
      hears-one may = record {
        stage = refl;
        tag = g.tag;
        plan = g.plan;
        channels = after-long i (known_of (early_of rows s.tag child (inputs_of s.tick i))) s.tick.plan.net.sources s.tick.known ∙ g.channels;
        suits = record { children = g.suits.children; channels = g.suits.channels; strict = g.suits.strict; places = g.suits.places };
        so_far = sr-hears rows b.meets b.before b.kids b.inputs b.olds s now news g.so_far i child e may;
      }

    abbrev a : Acts rows State
    a = sr_acts rows

    -- over the plan from which the firing began, and at its tag
    module _ (h : Past) (e : Entry Token) where
      abbrev start : Core Token
      start = Sr b.before.tick.plan

      ends-one : AllFired s.tick → FiresTo (outcome a b h) (node a (fired_at b.tag h) (closed (in_stage Closed s)) (nodes_of now)) (own_of s) (kept_by e b.olds) (kept_by e news)
      ends-one f =
          subst (λ (p : TickPlan). FiresTo (outcome a b h) (Composite (fired_at b.tag h) (Sr p) (Sr p) (nodes_of now)) (own_of s) (kept_by e b.olds) (kept_by e news)) (sym g.plan)
          (subst (λ t. FiresTo (sr_outcome rows b.meets h start b.before b.kids t b.inputs) (sr_node (fired_at t h) start b.before (nodes_of now)) (own_of s) (kept_by e b.olds) (kept_by e news)) g.tag
          (sr-is-done rows b.meets h start b.before b.kids b.inputs e b.olds s now news g.so_far f))

      off-one : IsLeftOff a b h e s news
      off-one =
          subst (λ t. LeavesOff (sr_outcome rows b.meets h start b.before b.kids t b.inputs) (IsShut rows b.meets (sr_node h start b.before b.kids) t b.inputs None) (kept_by e b.olds) (kept_by e news)) g.tag
          (sr-is-left-off rows law b.meets h start b.before b.kids b.inputs e b.olds s now news g.so_far)

      stuck-so : Tag → Fault → List (Kept Token) → Type 0
      stuck-so t f ks = SticksAt (sr_outcome rows b.meets h start b.before b.kids t b.inputs) (IsShut rows b.meets (sr_node h start b.before b.kids) t b.inputs (Some f)) f (kept_by e b.olds) (kept_by e ks)

      lacks-one : NothingComes s.tick → (w : ℕ) → w < length s.tick.plan.net.places → get_or s.tick.fired w false ≡ false → IsStuck a b h e s (own_fault h Causality) news
      unfolding stuck-so
      lacks-one n w l q = subst (λ t. stuck-so t (own_fault h Causality) news) g.tag (sr-lacks rows law b.meets h start b.before b.kids b.inputs e b.olds s now news g.so_far n w l q)

      module _ (i : ℕ) (child : Node Token A) (there : get now i ≡ Some child) (may : MayFire s.tick i) (k : Kept Token) where
        sticks-one : (f : Fault) → SticksAt (child_outcome a b (asked i s) i s.tag child) (IsShut rows (below_child i b.meets) child s.tag (lent_of s i) (Some f)) f (kept_at news i) k → IsStuck a b h e s (below_fault i f) (set news i k)
        unfolding stuck-so
        sticks-one f x = subst (λ t. stuck-so t (below_fault i f) (set news i k)) g.tag (sr-is-stuck rows law b.meets h start b.before b.kids b.inputs e b.olds s now news g.so_far i child k f there may x)

        refuses-one : (next : Node Token A) (out : Streams Token) → FiresTo (child_outcome a b (asked i s) i s.tag child) next out (kept_at news i) k → all_single out ≡ false → IsStuck a b h e s (child_fault i child SecondToken) (set news i k)
        unfolding stuck-so
        refuses-one next out f twice = subst (λ t. stuck-so t (child_fault i child SecondToken) (set news i k)) g.tag (sr-gives-two rows law b.meets h start b.before b.kids b.inputs e b.olds s now news g.so_far i child next out k there may f twice)

        within-one : LeavesOff (child_outcome a b (asked i s) i s.tag child) (IsShut rows (below_child i b.meets) child s.tag (lent_of s i) None) (kept_at news i) k → IsLeftOff a b h e s (set news i k)
        within-one x =
            subst (λ t. LeavesOff (sr_outcome rows b.meets h start b.before b.kids t b.inputs) (IsShut rows b.meets (sr_node h start b.before b.kids) t b.inputs None) (kept_by e b.olds) (kept_by e (set news i k))) g.tag
            (sr-is-left-off-within rows law b.meets h start b.before b.kids b.inputs e b.olds s now news g.so_far i child k there may x)

  suits-again : (plan : TickPlan) (nonstrict : List Bool) (kids : List (Node Token A)) → Suits rows plan nonstrict kids → Suits rows plan nonstrict (map reset_of kids)
  suits-again plan nonstrict kids u = record {
    children = length-map kids reset_of ∙ u.children;
    channels = u.channels;
    strict = always-reset rows (λ i node. IsStrictIf rows (get_or nonstrict i false) node) kids u.strict;
    places = always-reset rows (λ i node. HasPlaces rows (get_or plan.net.places i 0) node) kids u.places;
  }

  pub sr-is-lawful : Lawful (sr_acts rows)
  sr-is-lawful = record {
    agree = record {
      asked = λ s i when q. refl;
      listened = λ s i when q. refl;
      hands = λ s i e. (subst (λ v. IsSome v) (sym e) refl, e, refl);
      hands_on = λ s i e out wake need. (refl, refl, refl);
      asks_on = λ s i out wake need q. told-asks (all_single out) i out s;
      tells = λ s i out wake need q. told-wrong (all_single out) i out s;
      finishes = λ s q. refl;
      restarts = λ s. (refl, refl);
      keeps_maximum = record { begun = λ tag inputs s. refl; asking = λ answer s. refl; handed = λ s. refl; told = λ i out wake need s. refl; heard = λ i early s. refl; closed = λ s. refl; restarted = λ s. refl };
      tells_meetings = tells-none sr_calls (λ s. refl) (λ m s q. q);
    };
    idle = λ s kids f. f.0;
    wakes = λ s kids f. refl;
    fits_again = λ s kids f. (refl, suits-again s.tick.plan s.tick.nonstrict kids f.1);
    begins = λ b f t o. begins-one b f.1 o;
    middle = λ b s now news g. record {
      asks = subst (λ v. MayAsk v) (sym g.stage) tt;
      usual = usual-one b s now news g;
      fires_one = λ i when q. child-within b s now news g i q.1.there;
      lends = λ i when q child e. lends-one b s now news g i child q.1.there e;
      goes_on = λ i when q child next out k e f single. goes-one b s now news g i child e q.1 next out k (subst (λ t. FiresTo (λ fuel. Step fuel rows (below_child i b.meets) child t (lent_of s i)) next out (kept_at news i) k) q.2 f) single;
      refuses = λ i when q child next out k there f twice h e met. refuses-one b s now news g h e i child there q.1 k next out (subst (λ t. FiresTo (child_outcome (sr_acts rows) b (asked i s) i t child) next out (kept_at news i) k) q.2 f) twice;
      sticks = λ i when q child k f there x h e met. sticks-one b s now news g h e i child there q.1 k f (subst (λ t. SticksAt (child_outcome (sr_acts rows) b (asked i s) i t child) (IsShut rows (below_child i b.meets) child t (lent_of s i) (Some f)) f (kept_at news i) k) q.2 x);
      asks_as = λ i when q child there h met. asks-one b s now news g i child there q.1 h when q.2;
      listens = λ i when q. child-within b s now news g i q.1.there;
      hears = λ i when q child e. subst (λ t. Going rows b (after_heard i (early_of rows t child (inputs_of s.tick i)) (listening i s)) now news) (sym q.2) (hears-one b s now news g i child e q.1);
      learns = λ i when q early. total-set s.tick.heard i (unknown_in (inputs_of s.tick i)) (omega (arith, q.1.there, (g.so_far.run.1 g.so_far.run.0 (omega arith)).numbers)) q.1.news;
      resets_one = λ i q. absurd q;
      resets = λ i q child e. absurd q;
      rests = λ i q. absurd q;
      moves = λ answer m q. absurd (none-moves s answer m q);
      ends = λ q h e met. ends-one b s now news g h e q.1;
      fits = λ q. (refl, record { children = g.suits.children; channels = g.suits.channels; strict = g.suits.strict; places = g.suits.places });
      faults = λ kind q h e met. subst (λ v. IsStuck (sr_acts rows) b h e s (own_fault h v) news) (sym q.0) (lacks-one b s now news g h e q.2.0 q.2.1.0 q.2.1.1 q.2.1.2);
      jams = λ q. absurd q;
      off = λ h e met. off-one b s now news g h e;
      off_within = λ i when q child k there x h e met. within-one b s now news g h e i child there q.1 k (subst (λ t. LeavesOff (child_outcome (sr_acts rows) b (asked i s) i t child) (IsShut rows (below_child i b.meets) child t (lent_of s i) None) (kept_at news i) k) q.2 x);
    };
  }
