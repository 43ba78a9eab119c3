-- The calls of the core are lawful.
use Rattle.std.proofs.Common.{◌≡◌, ◌⊎◌, inl, inr, ℕ, zero, suc, ◌+◌, ◌<◌, ◌≤◌, List, [], ◌∷◌, ◌++◌, Bool, true, false, not, length, map, get_or, set, take, drop, Option, Some, None, refl, sym, ap, ap₂, subst, ◌∙◌, arith, length-append, length-set}
use Rattle.std.proofs.lemmas.Bool.{cases_eq}
use Rattle.std.proofs.lemmas.List.{length-take-le}
use Rattle.pt_meaning.specs.Streams.{Streams, get}
use Rattle.pt_meaning.specs.Machine.{Fault, Facts, Front, Takes, Lacks, Ends, counted, if_long, front}
use Rattle.pt_meaning.specs.Rounds.{Limit, has_rates}
use Rattle.pt_meaning.specs.Kahn.{arrived, firsts, behind}
use Rattle.pt_meaning.specs.Sdf.{SdfPlan, iterations, sdf_limits, times, leaves}
use Rattle.pt_meaning.specs.Running.{Asks, total, puts}
use Rattle.pt_meaning.specs.Lawful.{LawfulRows}
use Rattle.pt_meaning.specs.Meetings.{below_child}
use Rattle.pt_meaning.specs.Children.{Child, numbered, child_facts}
use Rattle.pt_meaning.specs.Tree.{Rows, Core, Sdf, Past, Node, Composite, list_of, nodes_of, made_of, reset_of, fired_at, height, heights}
use Rattle.pt_meaning.specs.NodeFacts.{facts_of, need_of}
use Rattle.pt_meaning.specs.Step.{step_at, Step}
use Rattle.pt_meaning.specs.Asked as meant
use Rattle.pt_laws.specs.CompositeRuns.{steps_below, sdf_start, sdf_bounds, outlets_of}
use Rattle.pt_laws.specs.LogsOfRuns.{rates_at}
use Rattle.pt_laws.proofs.AskedLaws.{run-asks}
use Rattle.pt_laws.proofs.FiringLaws.{arrived-long}
use Rattle.pt_laws.proofs.RunLaws.{plus-length}
use Rattle.pt_value.specs.declared.token.Token.{Token}
use Rattle.pt_firing.specs.declared.ask.Ask.{Ask}
use Rattle.pt_firing.specs.declared.ask.Ask.TheVariants as ask
use Rattle.pt_firing.specs.declared.fault.RunFault.TheVariants.{Rate}
use Rattle.pt_records.specs.Kept.{Kept, Entry, kept_at, kept_by}
use Rattle.pt_records.specs.Fired.{FromSome, FiresTo, SticksAt, LeavesOff}
use Rattle.pt_records.specs.Shut.{IsShut}
use Rattle.pt_records.specs.SoFar as so_far
use Rattle.pt_records.specs.SoFar.{SoFar, SdfSoFar}
use Rattle.pt_records.proofs.MiddleLaws.{asks-numbered}
use Rattle.pt_records.proofs.SoFarLaws.{recorded-done, so-far-begins, so-far-goes-on, sdf-is-done, sdf-is-stuck, sdf-is-unrated, sdf-is-left-off, sdf-is-left-off-within}
use Rattle.pt_core.specs.Acts.{Beginning, Acts}
use Rattle.pt_core.specs.Lawful.{Lawful, IsUsual, IsMove, IsLentTo, IsStuck, IsLeftOff, node, outcome, child_outcome, below_fault, child_fault}
use Rattle.pt_core.specs.Reached.{Becomes, Stays, Fires, Resets, Always}
use Rattle.pt_core.proofs.MetLaws.{tells-none}
use Rattle.pt_core.proofs.ReachedLaws.{got-reset}
use Rattle.pt_sdf_parts.specs.ByNeed.{by_need, needs_of, place_of}
use Rattle.pt_sdf.specs.State.{Stage, Idle, Open, Asked, Handed, Wrong, Closed, Allows, IsEnough, asked_child, lent_in, hand, handed, IsHanded, needs_at, lent_of, left_of, is_wrong, in_stage, begun, asked, if_told, after_told, closed, own_of, owed}
use Rattle.pt_sdf.specs.Chain.{IsFor}
use Rattle.pt_sdf.specs.Clauses.{State, MayAsk, IsAsked}
use Rattle.pt_sdf.specs.SdfActs.{AllSteady, Going, Gives, asking, Fits, sdf_calls, sdf_acts}
use Rattle.pt_sdf_parts.proofs.NeedLaws.{asks-as, needs-length, needs-kept, planned-length, skip-length, limits-length, limits-rates, all-fit}

-- the answer that a contract tells
pub answered : (s : State) (a : Ask) (t : State) → IsAsked s a t → Gives s a × (t ≡ asking a s)
answered s (ask.Fire child tag) t q = ((q.0, q.1, q.2, q.3), q.4)
answered s ask.Finished t q = ((q.0, q.1), q.2)
answered s (ask.Faulted kind (Some child)) t q = ((q.0, q.1), q.2)
answered s (ask.Faulted kind None) t q = absurd q
answered s (ask.Early child tag) t q = absurd q
answered s (ask.Reset child) t q = absurd q
answered s (ask.Get child) t q = absurd q
answered s (ask.Put child) t q = absurd q
answered s ask.Grow t q = absurd q
answered s (ask.Meet meeting) t q = absurd q
answered s ask.Await t q = absurd q
answered s ask.Full t q = absurd q

-- lists by number
get-or-of : {B : Type 0} (xs : List B) (i : ℕ) (d x : B) → get xs i ≡ Some x → get_or xs i d ≡ x
get-or-of [] i d x e = absurd (cc)
get-or-of (y ∷ xs) zero d x e = cc
get-or-of (y ∷ xs) (suc i) d x e = get-or-of xs i d x e

get-short : {B : Type 0} (xs : List B) (i : ℕ) (x : B) → get xs i ≡ Some x → i < length xs
get-short [] i x e = absurd (cc)
get-short (y ∷ xs) zero x e = omega arith
get-short (y ∷ xs) (suc i) x e = let r = get-short xs i x e in omega (arith, r)

get-set-same : {B : Type 0} (xs : List B) (i : ℕ) (x y : B) → get (set xs i x) i ≡ Some y → y ≡ x
get-set-same [] i x y e = absurd (cc)
get-set-same (z ∷ xs) zero x y e = cc
get-set-same (z ∷ xs) (suc i) x y e = get-set-same xs i x y e

get-set-other : {B : Type 0} (xs : List B) (i j : ℕ) (x : B) → (j ≡ i → ⊥) → get (set xs i x) j ≡ get xs j
get-set-other [] i j x z = refl
get-set-other (y ∷ xs) zero zero x z = absurd (z refl)
get-set-other (y ∷ xs) zero (suc j) x z = refl
get-set-other (y ∷ xs) (suc i) zero x z = refl
get-set-other (y ∷ xs) (suc i) (suc j) x z = get-set-other xs i j x (λ e. z (ap (λ n. suc n) e))

numbered-there : {S : Type 0} (b i n : ℕ) (ss : List S) (s : S) → n ≡ b + i → get ss i ≡ Some s → get (numbered b ss) i ≡ Some (record { number = n; node = s })
numbered-there b i n [] s o e = absurd (cc)
numbered-there {S} b zero n (x ∷ ss) s o e = let same : x ≡ s = cc in let a : b ≡ n = omega (arith, o) in ap₂ (λ (j : ℕ) (y : S). let c : Child S = record { number = j; node = y } in Option.Some c) a same
numbered-there b (suc i) n (x ∷ ss) s o e = numbered-there (suc b) i n ss s (omega (arith, o)) e

-- a steady child stays so as it fires
steady-set : {A : Type 0} (rows : Rows Token A) (nodes : List (Node Token A)) (i : ℕ) (first next : Node Token A) → get nodes i ≡ Some first → ((later : Node Token A) → Becomes rows next later → Becomes rows first later) → AllSteady rows nodes → AllSteady rows (set nodes i next)
steady-set {A} rows nodes i first next e more all j other f = by (cases_eq j i)
  where
    by : (j ≡ i) ⊎ (j ≡ i → ⊥) → Always rows (λ n. need_of rows n ≡ need_of rows other) other
    by (inr z) = all j other (sym (get-set-other nodes i j next z) ∙ f)
    by (inl z) =
        let same : other ≡ next = get-set-same nodes i next other (sym (ap (λ n. get (set nodes i next) n) z) ∙ f) in
        subst (λ (x : Node Token A). Always rows (λ n. need_of rows n ≡ need_of rows x) x) (sym same) (λ later b. all i first e later (more later b) ∙ sym (all i first e next (more next (Stays next))))

-- what a child takes has a list for each count of its need
long-front : {T : Type 0} (n : ℕ) (ns : List ℕ) (xs : List T) (b : Bool) (f : Front T) (got left : Streams T) → ((g l : Streams T) → f ≡ Takes g l → length g ≡ length ns) → if_long b n xs f ≡ Takes got left → length got ≡ suc (length ns)
long-front n ns xs false f got left h e = absurd (cc)
long-front n ns xs true (Takes g l) got left h e = let a : got ≡ take n xs ∷ g = cc in rw a (ap (λ v. suc v) (h g l refl))
long-front n ns xs true Lacks got left h e = absurd (cc)
long-front n ns xs true Ends got left h e = absurd (cc)

long-counted : {T : Type 0} (ns : List ℕ) (X got left : Streams T) → counted ns X ≡ Takes got left → length got ≡ length ns
long-counted [] [] got left e = let a : got ≡ [] = cc in rw a refl
long-counted [] (xs ∷ X) got left e = absurd (cc)
long-counted (n ∷ ns) [] got left e = absurd (cc)
long-counted (n ∷ ns) (xs ∷ X) got left e = long-front n ns xs _ (counted ns X) got left (λ g l q. long-counted ns X g l q) e

asks-front : {T S : Type 0} (facts : Facts T S) (i : ℕ) (ns : List ℕ) (cs : List Limit) (ms : List ℕ) (ss : List S) (held got left : Streams T) (s : S) → Asks facts i ns cs ms ss held got left → get ss i ≡ Some s → (Y rest : Streams T) × (front (facts.need s) Y ≡ Takes got rest)
asks-front {T} {S} facts zero (n ∷ ns) (c ∷ cs) (m ∷ ms) (x ∷ ss) held got left s a e = let same : x ≡ s = cc in (take n held, a.0, subst (λ v. front (facts.need v) (take n held) ≡ Takes got a.0) same a.2)
asks-front facts (suc i) (n ∷ ns) (c ∷ cs) (m ∷ ms) (x ∷ ss) held got left s a e = asks-front facts i ns cs ms ss (drop n held) got a.0 s a.1 e
asks-front facts i [] cs ms ss held got left s a e = absurd a
asks-front facts i (n ∷ ns) [] ms ss held got left s a e = absurd a
asks-front facts i (n ∷ ns) (c ∷ cs) [] ss held got left s a e = absurd a
asks-front facts i (n ∷ ns) (c ∷ cs) (m ∷ ms) [] held got left s a e = absurd a

open-not-wrong : {T : Type 0} (stage : Stage T) (child : ℕ) → stage ≡ Open → stage ≡ Wrong child → ⊥
open-not-wrong stage child o w = absurd (cc)

told-asks : (b : Bool) (i : ℕ) (out : Streams Token) (s : State) → MayAsk (if_told b i out s).stage
told-asks true i out s = tt
told-asks false i out s = tt

told-wrong : (b : Bool) (i : ℕ) (out : Streams Token) (s : State) → is_wrong (if_told b i out s).stage ≡ not b
told-wrong true i out s = refl
told-wrong false i out s = refl

told-handed : (b : Bool) (i : ℕ) (out : Streams Token) (s : State) → if_told b i out (handed s) ≡ if_told b i out s
told-handed true i out s = refl
told-handed false i out s = refl

hands-one : (stage : Stage Token) (i : ℕ) → asked_child stage ≡ Some i → IsHanded (hand stage) × (asked_child (hand stage) ≡ Some i) × (lent_in (hand stage) ≡ lent_in stage)
hands-one Idle i e = absurd (cc)
hands-one Open i e = absurd (cc)
hands-one (Asked child inputs) i e = (tt, e, refl)
hands-one (Handed child inputs) i e = (tt, e, refl)
hands-one (Wrong child) i e = absurd (cc)
hands-one Closed i e = absurd (cc)

longer : {A : Type 0} (n : ℕ) (X Y : List A) → n ≤ length X → n ≤ length (take n X ++ Y)
longer n X Y h = omega (arith, length-take-le n X h, length-append (take n X) Y)

module _ {A : Type 0} (rows : Rows Token A) where
  children-long : (s : State) (kids : List (Node Token A)) → IsFor (facts_of rows) s kids → length kids ≡ length s.plan.net.places
  children-long s kids f = sym (needs-length (facts_of rows) kids) ∙ ap (λ v. length v) f.needs ∙ planned-length s.plan.net.places s.needs

  begins-one : (b : Beginning A State) → Fits rows b.before (list_of b.kids) → length (list_of b.kids) ≡ length b.olds → Going rows b (begun b.tag b.inputs b.before) (list_of b.kids) b.olds
  begins-one b fits o =
      let f : IsFor (facts_of rows) b.before (list_of b.kids) = fits.fitting in
      let p : SdfPlan = b.before.plan in
      let X : Streams Token = arrived p.net.sources b.inputs b.before.held in
      let long : total p.net.places ≤ length X = omega (arith, f.channels, arrived-long p.net.sources b.inputs b.before.held) in
      record {
        stage = refl;
        tag = refl;
        plan = refl;
        first = refl;
        turns = refl;
        count = sym o;
        fitting = record { repetitions = f.repetitions; rates = f.rates; channels = long; needs = f.needs };
        starts = fits.starts;
        steady = fits.steady;
        so_far =
            so-far-begins rows b.meets b.tag p.net (sdf_limits (iterations p X) p.repetitions p.rates) b.kids X b.olds (limits-length (iterations p X) p.repetitions p.rates (f.repetitions ∙ sym f.rates) ∙ f.repetitions)
            (children-long b.before (list_of b.kids) f) (all-fit p.net.places X long) o;
      }

  usual-one : (b : Beginning A State) (s : State) (now : List (Node Token A)) (news : List (Kept Token)) → Going rows b s now news → (a : Ask) → Gives s a → IsUsual a
  usual-one b s now news g (ask.Fire child tag) q = tt
  usual-one b s now news g (ask.Early child tag) q = tt
  usual-one b s now news g ask.Finished q = tt
  usual-one b s now news g (ask.Faulted kind (Some child)) q = open-not-wrong s.stage child g.stage q.1
  usual-one b s now news g (ask.Faulted kind None) q = tt
  usual-one b s now news g (ask.Reset child) q = absurd q
  usual-one b s now news g (ask.Get child) q = absurd q
  usual-one b s now news g (ask.Put child) q = absurd q
  usual-one b s now news g ask.Grow q = absurd q
  usual-one b s now news g (ask.Meet meeting) q = absurd q
  usual-one b s now news g ask.Await q = q
  usual-one b s now news g ask.Full q = absurd q

  -- it makes no moves
  none-moves : (s : State) (a : Ask) → IsMove a → Gives s a → ⊥
  none-moves s (ask.Get child) m q = q
  none-moves s (ask.Put child) m q = q
  none-moves s ask.Grow m q = q
  none-moves s (ask.Fire child tag) m q = m
  none-moves s (ask.Early child tag) m q = m
  none-moves s (ask.Reset child) m q = m
  none-moves s ask.Finished m q = m
  none-moves s (ask.Faulted kind child) m q = m
  none-moves s ask.Full m q = m
  none-moves s (ask.Meet meeting) m q = q
  none-moves s ask.Await m q = m

  module _ (b : Beginning A State) (s : State) (now : List (Node Token A)) (news : List (Kept Token)) (g : Going rows b s now news) where
    abbrev limits : List Limit
    limits = sdf_limits s.turns s.plan.repetitions s.plan.rates

    abbrev before_plan : SdfPlan
    before_plan = b.before.plan

    child-within : (i : ℕ) → i < length s.plan.net.places → i < length now
    child-within i l = omega (arith, l, children-long s now g.fitting)

    kept-within : (i : ℕ) → i < length now → i < length news
    kept-within i l = omega (arith, l, g.count)

    asked-now : (i : ℕ) (child : Node Token A) → get now i ≡ Some child → Allows s i → so_far.IsAsked rows s.plan.net limits s.fired now s.held i child (lent_of s i) (left_of s i)
    asked-now i child e allows = record {
      state = e;
      asks = asks-as (facts_of rows) i s.plan.net.places limits s.fired now s.held (lent_of s i) (left_of s i) (subst (λ v. Asks by_need i s.plan.net.places limits s.fired v s.held (lent_of s i) (left_of s i)) (sym g.fitting.needs) allows);
    }

    lends-one : (i : ℕ) (child : Node Token A) → get now i ≡ Some child → Allows s i → IsLentTo rows child (lent_of s i)
    lends-one i child e allows = record {
      places = λ ns n.
          let r = asks-front (facts_of rows) i s.plan.net.places limits s.fired now s.held (lent_of s i) (left_of s i) child (asked-now i child e allows).asks e in
          long-counted ns r.0 (lent_of s i) r.1 (ap (λ v. front v r.0) (sym n) ∙ r.2);
    }

    rates-one : (i : ℕ) → i < length now → rates_at limits i ≡ Some (get_or s.plan.rates i [])
    rates-one i l = limits-rates s.turns s.plan.repetitions s.plan.rates i (g.fitting.repetitions ∙ sym g.fitting.rates) (omega (arith, l, children-long s now g.fitting, g.fitting.repetitions))

    -- a child has fired
    goes-one : (i : ℕ) (child next : Node Token A) (out : Streams Token) (k : Kept Token) → get now i ≡ Some child → Allows s i → FiresTo (λ fuel. Step fuel rows (below_child i b.meets) child b.tag (lent_of s i)) next out (kept_at news i) k → has_rates (get_or s.plan.rates i []) out ≡ true →
        Going rows b (after_told i out (asked i s)) (set now i next) (set news i k)
    goes-one i child next out k e allows f rated =
        let here : i < length now = get-short now i child e in
        subst (λ v. Going rows b (if_told v i out (asked i s)) (set now i next) (set news i k)) (sym rated)
        (record {
          stage = refl;
          tag = g.tag;
          plan = g.plan;
          first = g.first;
          turns = g.turns;
          count = length-set news i k ∙ g.count ∙ sym (length-set now i next);
          fitting = record {
            repetitions = g.fitting.repetitions;
            rates = g.fitting.rates;
            channels = omega (arith, g.fitting.channels, plus-length (left_of s i) (puts i out s.plan.net.sources), skip-length (place_of s.plan.net.places i) (needs_at s i) s.held);
            needs = needs-kept (facts_of rows) now i child next (g.steady i child e next (becomes next (Stays next)) ∙ ap (λ n. need_of rows n) (sym (get-or-of now i child child e))) ∙ g.fitting.needs;
          };
          starts = g.starts;
          steady = steady-set rows now i child next e becomes g.steady;
          so_far =
              so-far-goes-on rows b.meets (heights b.kids) b.tag s.plan.net limits (list_of b.kids) (arrived s.plan.net.sources b.inputs b.before.held) b.olds s.fired now s.held news g.so_far i child next (lent_of s i) (left_of s i) out k (asked-now i child e allows) (kept-within i here) f
              (subst (λ r. so_far.GivesRates r out) (sym (rates-one i here)) rated);
        })
      where
        becomes : (later : Node Token A) → Becomes rows next later → Becomes rows child later
        becomes later m =
            let r = recorded-done (made_of child) b.tag (lent_of s i) (step_at rows f.done.0 (height child) (below_child i b.meets) b.tag child (lent_of s i)) next out f.log (f.done.1 f.done.0 (omega arith)) in
            Fires child next later f.done.0 (height child) (below_child i b.meets) b.tag (lent_of s i) out r.0 r.1 m

    -- over the plan from which the firing began
    abbrev limits-in : SdfPlan → List Limit
    limits-in p = sdf_limits s.turns p.repetitions p.rates

    same-limits : limits ≡ sdf_bounds b.before.plan b.before.held b.inputs
    same-limits = ap (λ p. limits-in p) g.plan ∙ ap (λ t. sdf_limits t b.before.plan.repetitions b.before.plan.rates) g.turns

    sdf-so-far : SdfSoFar rows b.meets b.tag b.before.plan b.before.held b.kids b.inputs b.olds s.fired now s.held news
    sdf-so-far =
        subst (λ cs. SoFar rows b.meets (heights b.kids) b.tag b.before.plan.net cs (list_of b.kids) (arrived b.before.plan.net.sources b.inputs b.before.held) b.olds s.fired now s.held news) same-limits
        (subst (λ (p : SdfPlan). SoFar rows b.meets (heights b.kids) b.tag p.net limits (list_of b.kids) (arrived p.net.sources b.inputs b.before.held) b.olds s.fired now s.held news) g.plan g.so_far)

    sdf-asked : (i : ℕ) (child : Node Token A) → get now i ≡ Some child → Allows s i → so_far.IsAsked rows b.before.plan.net (sdf_bounds b.before.plan b.before.held b.inputs) s.fired now s.held i child (lent_of s i) (left_of s i)
    sdf-asked i child e allows =
        subst (λ cs. so_far.IsAsked rows b.before.plan.net cs s.fired now s.held i child (lent_of s i) (left_of s i)) same-limits
        (subst (λ (p : SdfPlan). so_far.IsAsked rows p.net limits s.fired now s.held i child (lent_of s i) (left_of s i)) g.plan (asked-now i child e allows))

    -- the composite's firing asks for that of a child
    asks-one : (i : ℕ) (child : Node Token A) → get now i ≡ Some child → Allows s i → (h : Past) →
        FromSome (λ k. meant.IsAsked (child_facts (facts_of rows)) (steps_below rows k (heights b.kids) b.meets) (b.meets [] h.made) h.made (Sdf b.before.plan b.before.held) (numbered 0 (list_of b.kids)) b.tag b.inputs i (record { number = i; node = child }) b.tag (lent_of s i))
    asks-one i child e allows h = (
      sdf-so-far.run.0,
      λ k o. (
        refl,
        run-asks (child_facts (facts_of rows)) (steps_below rows k (heights b.kids) b.meets) b.tag b.before.plan.net (sdf_bounds b.before.plan b.before.held b.inputs) (numbered 0 (list_of b.kids)) (sdf_start b.before.plan b.before.held b.inputs) s.fired (numbered 0 now) s.held (sdf-so-far.run.1 k o).running i (lent_of s i) (left_of s i)
            (record { number = i; node = child }) (asks-numbered (facts_of rows) 0 i b.before.plan.net.places (sdf_bounds b.before.plan b.before.held b.inputs) s.fired now s.held (lent_of s i) (left_of s i) (sdf-asked i child e allows).asks) (numbered-there 0 i i now child (omega arith) e),
      ),
    )

    abbrev a : Acts rows State
    a = sdf_acts rows

    module _ (law : LawfulRows rows) (h : Past) (e : Entry Token) where
      abbrev start : Core Token
      start = Sdf b.before.plan b.before.first

      off-one : IsLeftOff a b h e s news
      off-one = sdf-is-left-off rows law b.meets b.tag h start b.before.plan b.before.held b.kids b.inputs e b.olds s.fired now s.held news sdf-so-far

      abbrev Ended : SdfPlan → Streams Token → ℕ → Type 0
      Ended p first turns = FiresTo (outcome a b h) (Composite (fired_at b.tag h) (Sdf p first) (Sdf p (take (total p.net.places) s.held ++ behind (times turns (leaves p)) (outlets_of p.net s.held))) (nodes_of now)) (firsts (times turns p.gives) (outlets_of p.net s.held)) (kept_by e b.olds) (kept_by e news)

      ends-one : IsEnough s → FiresTo (outcome a b h) (node a (fired_at b.tag h) (closed (in_stage Closed s)) (nodes_of now)) (firsts (owed s) (own_of s)) (kept_by e b.olds) (kept_by e news)
      ends-one enough =
          subst (λ p. Ended p s.first s.turns) (sym g.plan)
          (subst (λ f. Ended b.before.plan f s.turns) (sym g.first)
          (subst (λ t. Ended b.before.plan b.before.first t) (sym g.turns)
          (sdf-is-done rows b.meets b.tag h start b.before.plan b.before.held b.kids b.inputs e b.olds s.fired now s.held news sdf-so-far
          (enough ∙ ap (λ t. times t s.plan.repetitions) g.turns ∙ ap (λ (p : SdfPlan). times (iterations b.before.plan (sdf_start b.before.plan b.before.held b.inputs)) p.repetitions) g.plan))))

      module _ (i : ℕ) (child : Node Token A) (there : get now i ≡ Some child) (allows : Allows s i) (k : Kept Token) where
        here : i < length now
        here = get-short now i child there

        sticks-one : (f : Fault) → SticksAt (child_outcome a b (asked i s) i b.tag child) (IsShut rows (below_child i b.meets) child b.tag (lent_of s i) (Some f)) f (kept_at news i) k → IsStuck a b h e s (below_fault i f) (set news i k)
        sticks-one f x = sdf-is-stuck rows law b.meets b.tag h start b.before.plan b.before.held b.kids b.inputs e b.olds s.fired now s.held news sdf-so-far i child (lent_of s i) (left_of s i) k f (sdf-asked i child there allows) (kept-within i here) x

        refuses-one : (next : Node Token A) (out : Streams Token) → FiresTo (child_outcome a b (asked i s) i b.tag child) next out (kept_at news i) k → has_rates (get_or s.plan.rates i []) out ≡ false → IsStuck a b h e s (child_fault i child Rate) (set news i k)
        refuses-one next out f unrated =
            sdf-is-unrated rows law b.meets b.tag h start b.before.plan b.before.held b.kids b.inputs e b.olds s.fired now s.held news sdf-so-far i child next (lent_of s i) (left_of s i) out k (get_or s.plan.rates i []) (sdf-asked i child there allows) (kept-within i here) f
            (ap (λ cs. rates_at cs i) (sym same-limits) ∙ rates-one i here) unrated

        within-one : LeavesOff (child_outcome a b (asked i s) i b.tag child) (IsShut rows (below_child i b.meets) child b.tag (lent_of s i) None) (kept_at news i) k → IsLeftOff a b h e s (set news i k)
        within-one x = sdf-is-left-off-within rows law b.meets b.tag h start b.before.plan b.before.held b.kids b.inputs e b.olds s.fired now s.held news sdf-so-far i child (lent_of s i) (left_of s i) k (sdf-asked i child there allows) (kept-within i here) x

    fits-one : IsFor (facts_of rows) (closed (in_stage Closed s)) now
    fits-one = record {
      repetitions = g.fitting.repetitions;
      rates = g.fitting.rates;
      channels = longer (total s.plan.net.places) s.held (behind (times s.turns (leaves s.plan)) (own_of s)) g.fitting.channels;
      needs = g.fitting.needs;
    }

  -- children that are brought back to their starts need what they needed
  reset-need : (kids : List (Node Token A)) → AllSteady rows kids → (i : ℕ) (child : Node Token A) → get kids i ≡ Some child → need_of rows (reset_of child) ≡ need_of rows child
  reset-need kids steady i child e = steady i child e (reset_of child) (Resets child (reset_of child) (Stays (reset_of child)))

  reset-needs : (kids : List (Node Token A)) → AllSteady rows kids → needs_of (facts_of rows) (map reset_of kids) ≡ needs_of (facts_of rows) kids
  reset-needs [] steady = refl
  reset-needs (x ∷ xs) steady = ap₂ (λ v vs. v ∷ vs) (reset-need (x ∷ xs) steady 0 x refl) (reset-needs xs (λ i child e. steady (suc i) child e))

  reset-steady : (kids : List (Node Token A)) → AllSteady rows kids → AllSteady rows (map reset_of kids)
  reset-steady kids steady i z e =
      let r = got-reset rows kids i z e in
      subst (λ (v : Node Token A). Always rows (λ node. need_of rows node ≡ need_of rows v) v) (sym r.is) (λ later t. steady i r.was r.there later (Resets r.was later t) ∙ sym (reset-need kids steady i r.was r.there))

  again-one : (s : State) (kids : List (Node Token A)) → Fits rows s kids → Fits rows (sdf_calls.restarted s) (map reset_of kids)
  again-one s kids f = record {
    idle = refl;
    fitting = record { repetitions = f.fitting.repetitions; rates = f.fitting.rates; channels = f.starts; needs = reset-needs kids f.steady ∙ f.fitting.needs };
    starts = f.starts;
    steady = reset-steady kids f.steady;
  }

  pub sdf-is-lawful : LawfulRows rows → Lawful (sdf_acts rows)
  sdf-is-lawful law = record {
    agree = record {
      asked = λ s i when q. refl;
      listened = λ s i when q. absurd q;
      hands = λ s i e. hands-one s.stage i e;
      hands_on = λ s i e out wake need. (told-handed (has_rates (get_or s.plan.rates i []) out) i out s, refl, refl);
      asks_on = λ s i out wake need q. told-asks (has_rates (get_or s.plan.rates i []) out) i out s;
      tells = λ s i out wake need q. told-wrong (has_rates (get_or s.plan.rates i []) out) i out s;
      finishes = λ s q. refl;
      restarts = λ s. (refl, refl);
      keeps_maximum = record { begun = λ tag inputs s. refl; asking = λ answer s. refl; handed = λ s. refl; told = λ i out wake need s. refl; heard = λ i early s. refl; closed = λ s. refl; restarted = λ s. refl };
      tells_meetings = tells-none sdf_calls (λ s. refl) (λ m s q. q);
    };
    idle = λ s kids f. f.idle;
    wakes = λ s kids f. refl;
    fits_again = again-one;
    begins = λ b f t o. begins-one b f o;
    middle = λ b s now news g. record {
      asks = subst (λ v. MayAsk v) (sym g.stage) tt;
      usual = usual-one b s now news g;
      fires_one = λ i when q. child-within b s now news g i q.1;
      lends = λ i when q child e. lends-one b s now news g i child e q.2;
      goes_on = λ i when q child next out k e f rated. goes-one b s now news g i child next out k e q.2 (subst (λ t. FiresTo (λ fuel. Step fuel rows (below_child i b.meets) child t (lent_of s i)) next out (kept_at news i) k) (q.3 ∙ g.tag) f) rated;
      refuses = λ i when q child next out k there f unrated h e met. refuses-one b s now news g law h e i child there q.2 k next out (subst (λ t. FiresTo (child_outcome (sdf_acts rows) b (asked i s) i t child) next out (kept_at news i) k) (q.3 ∙ g.tag) f) unrated;
      sticks = λ i when q child k f there x h e met. sticks-one b s now news g law h e i child there q.2 k f (subst (λ t. SticksAt (child_outcome (sdf_acts rows) b (asked i s) i t child) (IsShut rows (below_child i b.meets) child t (lent_of s i) (Some f)) f (kept_at news i) k) (q.3 ∙ g.tag) x);
      asks_as = λ i when q child there h met. subst (λ t. FromSome (λ k. meant.IsAsked (child_facts (facts_of rows)) (steps_below rows k (heights b.kids) b.meets) (b.meets [] h.made) h.made (Sdf b.before.plan b.before.held) (numbered 0 (list_of b.kids)) b.tag b.inputs i (record { number = i; node = child }) t (lent_of s i))) (sym (q.3 ∙ g.tag)) (asks-one b s now news g i child there q.2 h);
      listens = λ i when q. absurd q;
      hears = λ i when q child e. absurd q;
      learns = λ i when q early. absurd q;
      resets_one = λ i q. absurd q;
      resets = λ i q child e. absurd q;
      rests = λ i q. absurd q;
      moves = λ answer m q. absurd (none-moves s answer m q);
      ends = λ q h e met. ends-one b s now news g law h e q.1;
      fits = λ q. record { idle = refl; fitting = fits-one b s now news g; starts = g.starts; steady = g.steady };
      faults = λ kind q h e met. absurd q;
      jams = λ q. absurd q;
      off = λ h e met. off-one b s now news g law h e;
      off_within = λ i when q child k there x h e met. within-one b s now news g law h e i child there q.2 k (subst (λ t. LeavesOff (child_outcome (sdf_acts rows) b (asked i s) i t child) (IsShut rows (below_child i b.meets) child t (lent_of s i) None) (kept_at news i) k) (q.3 ∙ g.tag) x);
    };
  }
