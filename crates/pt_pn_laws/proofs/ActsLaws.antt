-- The calls of the core are lawful.
use Rattle.std.proofs.Common.{◌≡◌, ◌⊎◌, inl, inr, ℕ, zero, suc, ◌<◌, List, [], ◌∷◌, true, false, length, map, set, get_or, take, Option, Some, None, refl, sym, ap, ap₂, subst, ◌∙◌, arith, length-set}
use Rattle.std.specs.Prelude.{IsSome}
use Rattle.std.proofs.lemmas.Bool.{cases_eq}
use Rattle.std.proofs.lemmas.List.{length-map}
use Rattle.pt_meaning.specs.Tag.{Tag}
use Rattle.pt_meaning.specs.Streams.{Streams, get, joined}
use Rattle.pt_meaning.specs.Log.{Path}
use Rattle.pt_meaning.specs.Machine.{Fault, Need, Over}
use Rattle.pt_meaning.specs.Process.{emptied}
use Rattle.pt_meaning.specs.Running.{total}
use Rattle.pt_meaning.specs.Meetings.{below_child}
use Rattle.pt_meaning.specs.Children.{numbered, child_facts}
use Rattle.pt_meaning.specs.Tree.{Rows, Past, Node, list_of, nodes_of, made_of, reset_of, fired_at, height, heights}
use Rattle.pt_meaning.specs.Tree as tree
use Rattle.pt_meaning.specs.NodeFacts.{facts_of, need_of}
use Rattle.pt_meaning.specs.Step.{step_at, Step}
use Rattle.pt_meaning.specs.Lawful.{LawfulRows}
use Rattle.pt_meaning.specs.Asked.{IsAsked, HaveMade, IsJammed}
use Rattle.pt_laws.specs.CompositeRuns.{steps_below}
use Rattle.pt_value.specs.declared.token.Token.{Token}
use Rattle.pt_firing.specs.declared.ask.Ask.{Ask}
use Rattle.pt_firing.specs.declared.ask.Ask.TheVariants as ask
use Rattle.pt_records.specs.Kept.{Kept, Entry, kept_at, kept_by}
use Rattle.pt_records.specs.Fired.{FromSome, FiresTo, SticksAt, LeavesOff}
use Rattle.pt_records.specs.Shut.{IsShut}
use Rattle.pt_records.proofs.SoFarLaws.{recorded-done}
use Rattle.pt_core.specs.Acts.{Beginning, Acts}
use Rattle.pt_core.specs.Lawful.{Lawful, IsUsual, IsMove, IsLentTo, IsStuck, IsLeftOff, node, outcome, below_fault}
use Rattle.pt_core.specs.Reached.{Becomes, Stays, Fires, Resets, Always, AllAlways}
use Rattle.pt_core.proofs.MetLaws.{tells-none}
use Rattle.pt_core.proofs.ReachedLaws.{always-reset}
use Rattle.pt_pn_laws.specs.State.{Network, Closed, MayFire, MayGrow, IsFull, IsOver, net_of, got_of, held_of, in_stage, grown_by, begun, least_full, after_grow, after_told, own_of, closed, restarted, started, blocked_of, waits}
use Rattle.pt_pn_laws.specs.Lawful.{HasPlaces, AllCount}
use Rattle.pt_pn_laws.specs.SoFar.{PnSoFar, composite_of, outcome_of, child_outcome}
use Rattle.pt_pn_laws.specs.PnActs.{State, MayAsk, Gives, asking, Going, Fits, pn_calls, pn_acts}
use Rattle.pt_pn_laws.proofs.ListLaws.{length-part}
use Rattle.pt_pn_laws.proofs.ChainLaws.{calls-are-pn}
use Rattle.pt_pn_laws.proofs.PauseLaws.{pn-asks}
use Rattle.pt_pn_laws.proofs.SoFarLaws.{pn-begins, pn-get, pn-put, pn-grow, pn-goes-on, pn-rests, under, firings-are-pn}

-- what holds of all that a list of nodes becomes, where one of them has fired
get-set-same : {B : Type 0} (xs : List B) (i : ℕ) (x y : B) → get (set xs i x) i ≡ Some y → y ≡ x
get-set-same [] i x y e = absurd (cc)
get-set-same (z ∷ xs) zero x y e = cc
get-set-same (z ∷ xs) (suc i) x y e = get-set-same xs i x y e

get-set-other : {B : Type 0} (xs : List B) (i j : ℕ) (x : B) → (j ≡ i → ⊥) → get (set xs i x) j ≡ get xs j
get-set-other [] i j x z = refl
get-set-other (y ∷ xs) zero zero x z = absurd (z refl)
get-set-other (y ∷ xs) zero (suc j) x z = refl
get-set-other (y ∷ xs) (suc i) zero x z = refl
get-set-other (y ∷ xs) (suc i) (suc j) x z = get-set-other xs i j x (λ e. z (ap (λ n. suc n) e))

always-set : {T A : Type 0} (rows : Rows T A) (P : ℕ → Node T A → Type 0) (nodes : List (Node T A)) (i : ℕ) (first next : Node T A) → get nodes i ≡ Some first → ((later : Node T A) → Becomes rows next later → Becomes rows first later) → AllAlways rows P nodes → AllAlways rows P (set nodes i next)
always-set {T} {A} rows P nodes i first next e more all j other f = by (cases_eq j i)
  where
    by : (j ≡ i) ⊎ (j ≡ i → ⊥) → Always rows (P j) other
    by (inr z) = all j other (sym (get-set-other nodes i j next z) ∙ f)
    by (inl z) = λ later b. all j first (ap (λ n. get nodes n) z ∙ e) later (more later (subst (λ (n : Node T A). Becomes rows n later) (get-set-same nodes i next other (sym (ap (λ n. get (set nodes i next) n) z) ∙ f)) b))

get-short : {B : Type 0} (xs : List B) (i : ℕ) (x : B) → get xs i ≡ Some x → i < length xs
get-short [] i x e = absurd (cc)
get-short (y ∷ xs) zero x e = omega arith
get-short (y ∷ xs) (suc i) x e = let r = get-short xs i x e in omega (arith, r)

get-there : {B : Type 0} (xs : List B) (i : ℕ) → i < length xs → (x : B) × (get xs i ≡ Some x)
get-there [] i l = absurd (omega (arith, l))
get-there (x ∷ xs) zero l = (x, refl)
get-there (x ∷ xs) (suc i) l = get-there xs i (omega (arith, l))

-- the needs of children at their starts
starts-are : {T A : Type 0} (rows : Rows T A) (needs : List Need) (kids : List (Node T A)) → length needs ≡ length kids → ((i : ℕ) (node : Node T A) → get kids i ≡ Some node → need_of rows (reset_of node) ≡ get_or needs i Over) → needs ≡ map (λ c. need_of rows c) (map reset_of kids)
starts-are rows [] [] e h = refl
starts-are rows [] (z ∷ kids) e h = absurd (omega (arith, e))
starts-are rows (n ∷ needs) [] e h = absurd (omega (arith, e))
starts-are rows (n ∷ needs) (z ∷ kids) e h = ap₂ (λ v vs. v ∷ vs) (sym (h 0 z refl)) (starts-are rows needs kids (omega (arith, e)) (λ i node w. h (suc i) node w))

module _ {A : Type 0} (rows : Rows Token A) where
  begins-one : (b : Beginning A State) → Fits rows b.before (list_of b.kids) → length (list_of b.kids) ≡ length b.olds → Going rows b (begun b.tag b.inputs b.before) (list_of b.kids) b.olds
  begins-one b f o = record {
    stage = refl;
    tag = refl;
    suits = record { children = f.suits.children; counts = f.suits.counts; starts = f.suits.starts };
    so_far = pn-begins rows b.meets b.tag b.before b.kids b.inputs b.olds f.fitting o;
  }

  module _ (b : Beginning A State) (s : State) (now : List (Node Token A)) (news : List (Kept Token)) (g : Going rows b s now news) where
    grow-one : MayGrow s → Going rows b (after_grow s) now news × (waits (after_grow s) < waits s)
    grow-one m =
        let r = pn-grow rows b.meets b.before b.kids b.inputs b.olds s now news g.so_far m in
        let t : PnSoFar rows b.meets b.before b.kids b.inputs b.olds (grown_by (Some m.least) s) now news = subst (λ o. PnSoFar rows b.meets b.before b.kids b.inputs b.olds (grown_by o s) now news) m.grows r.0 in
        (subst (λ o. Going rows b (grown_by o s) now news) (sym m.grows) (record { stage = g.stage; tag = g.tag; suits = record { children = g.suits.children; counts = g.suits.counts; starts = g.suits.starts }; so_far = t }), r.1)

    moves-one : (answer : Ask) → IsMove answer → Gives s answer → Going rows b (asking answer s) now news × (waits (asking answer s) < waits s)
    moves-one (ask.Get child) m q =
        let r = pn-get rows b.meets b.before b.kids b.inputs b.olds s now news g.so_far child q.1 in
        (record { stage = g.stage; tag = g.tag; suits = record { children = g.suits.children; counts = g.suits.counts; starts = g.suits.starts }; so_far = r.0 }, r.1)
    moves-one (ask.Put child) m q =
        let r = pn-put rows b.meets b.before b.kids b.inputs b.olds s now news g.so_far child q.1 in
        (record { stage = g.stage; tag = g.tag; suits = record { children = g.suits.children; counts = g.suits.counts; starts = g.suits.starts }; so_far = r.0 }, r.1)
    moves-one ask.Grow m q = grow-one q.1
    moves-one (ask.Fire child tag) m q = absurd m
    moves-one ask.Finished m q = absurd m
    moves-one ask.Full m q = absurd m
    moves-one (ask.Early child tag) m q = absurd m
    moves-one (ask.Reset child) m q = absurd m
    moves-one (ask.Faulted kind child) m q = absurd m
    moves-one (ask.Meet meeting) m q = absurd q
    moves-one ask.Await m q = absurd m

    lends-one : (i : ℕ) → i < length (net_of s).places → (child : Node Token A) → get now i ≡ Some child → IsLentTo rows child (got_of s i)
    lends-one i l child e = record {
      places = λ ns n.
          let u = under rows b.meets b.before b.kids b.inputs b.olds s now news g.so_far in
          let h = u.sized.gathered in
          let c : length ns ≡ get_or (net_of s).places i 0 = subst (λ v. HasPlaces (get_or (net_of s).places i 0) v) n (g.suits.counts i child e child (Stays child)) in
          length-part (net_of s).places i s.halfway.gathered l (omega (arith, h)) ∙ sym c;
    }

    goes-one : (i : ℕ) (when : Tag) → Gives s (ask.Fire i when) → (child next : Node Token A) (out : Streams Token) (k : Kept Token) → get now i ≡ Some child → FiresTo (λ fuel. Step fuel rows (below_child i b.meets) child when (got_of s i)) next out (kept_at news i) k →
        Going rows b (after_told i out (need_of rows next) (asking (ask.Fire i when) s)) (set now i next) (set news i k)
    goes-one i when q child next out k e fires =
        let f : FiresTo (λ fuel. Step fuel rows (below_child i b.meets) child s.tag (got_of s i)) next out (kept_at news i) k = subst (λ t. FiresTo (λ fuel. Step fuel rows (below_child i b.meets) child t (got_of s i)) next out (kept_at news i) k) q.2 fires in
        record {
          stage = refl;
          tag = g.tag;
          suits = record {
            children = length-set now i next ∙ g.suits.children;
            counts = always-set rows (λ j n. HasPlaces (get_or (net_of s).places j 0) (need_of rows n)) now i child next e (becomes f) g.suits.counts;
            starts = always-set rows (λ j n. need_of rows (reset_of n) ≡ get_or s.network.starts j Over) now i child next e (becomes f) g.suits.starts;
          };
          so_far = pn-goes-on rows b.meets b.before b.kids b.inputs b.olds s now news g.so_far i q.1 child e next out k f (g.suits.counts i child e next (becomes f next (Stays next)));
        }
      where
        becomes : (f : FiresTo (λ fuel. Step fuel rows (below_child i b.meets) child s.tag (got_of s i)) next out (kept_at news i) k) → (later : Node Token A) → Becomes rows next later → Becomes rows child later
        becomes f later m =
            let r = recorded-done (made_of child) s.tag (got_of s i) (step_at rows f.done.0 (height child) (below_child i b.meets) s.tag child (got_of s i)) next out f.log (f.done.1 f.done.0 (omega arith)) in
            Fires child next later f.done.0 (height child) (below_child i b.meets) s.tag (got_of s i) out r.0 r.1 m

    fits-one : Gives s ask.Finished → Fits rows (closed (asking ask.Finished s)) now
    fits-one q = record {
      idle = refl;
      fitting = pn-rests rows b.meets b.before b.kids b.inputs b.olds s now news g.so_far q.1;
      suits = record { children = g.suits.children; counts = g.suits.counts; starts = g.suits.starts };
    }

  again-one : (s : State) (kids : List (Node Token A)) → Fits rows s kids → Fits rows (restarted s) (map reset_of kids)
  again-one s kids f = record {
    idle = refl;
    fitting = calls-are-pn.starts (facts_of rows) s.network (map reset_of kids) f.fitting.lawful (starts-are rows s.network.starts kids (f.fitting.lawful.starts ∙ sym f.suits.children) (λ i node e. f.suits.starts i node e node (Stays node))) counts;
    suits = record {
      children = length-map kids reset_of ∙ f.suits.children;
      counts = always-reset rows (λ j n. HasPlaces (get_or (net_of s).places j 0) (need_of rows n)) kids f.suits.counts;
      starts = always-reset rows (λ j n. need_of rows (reset_of n) ≡ get_or s.network.starts j Over) kids f.suits.starts;
    };
  }
    where
      counts : AllCount (started s.network)
      counts i l =
          let c = get-there kids i (let e = f.suits.children in omega (arith, l, e)) in
          subst (λ v. HasPlaces (get_or (net_of s).places i 0) v) (f.suits.starts i c.0 c.1 c.0 (Stays c.0)) (f.suits.counts i c.0 c.1 (reset_of c.0) (Resets c.0 (reset_of c.0) (Stays (reset_of c.0))))

-- at the start the channels hold the first tokens, of which none is gathered
joined-first : {T : Type 0} (n : ℕ) (X : Streams T) → joined (emptied (take n X)) X ≡ X
joined-first zero X = refl
joined-first (suc n) [] = refl
joined-first (suc n) (x ∷ X) = ap (λ v. x ∷ v) (joined-first n X)

usual-one : (s : State) (answer : Ask) → Gives s answer → IsUsual answer
usual-one s (ask.Fire child tag) q = tt
usual-one s (ask.Get child) q = tt
usual-one s (ask.Put child) q = tt
usual-one s ask.Grow q = tt
usual-one s ask.Finished q = tt
usual-one s ask.Full q = tt
usual-one s (ask.Early child tag) q = absurd q
usual-one s (ask.Reset child) q = absurd q
usual-one s (ask.Faulted kind (Some child)) q = absurd q
usual-one s (ask.Faulted kind None) q = absurd q
usual-one s (ask.Meet meeting) q = absurd q
usual-one s ask.Await q = absurd q

clash : true ≡ false → ⊥
clash e = cc

module _ {A : Type 0} (rows : Rows Token A) (law : LawfulRows rows) (b : Beginning A State) (s : State) (now : List (Node Token A)) (news : List (Kept Token)) (g : Going rows b s now news) where
  abbrev a : Acts rows State
  a = pn_acts rows

  -- at the tag at which the firing began
  module _ (h : Past) (e : Entry Token) where
    ends-one : IsOver s → FiresTo (outcome a b h) (node a (fired_at b.tag h) (closed (in_stage Closed s)) (nodes_of now)) (own_of s) (kept_by e b.olds) (kept_by e news)
    ends-one o =
        subst (λ t. FiresTo (outcome_of rows b.meets h b.before b.kids t b.inputs) (composite_of (fired_at t h) (closed s) (nodes_of now)) (own_of s) (kept_by e b.olds) (kept_by e news)) g.tag
        (firings-are-pn.ends rows b.meets b.before b.kids b.inputs b.olds s now news g.so_far o h e)

    off-one : IsLeftOff a b h e s news
    off-one =
        subst (λ t. LeavesOff (outcome_of rows b.meets h b.before b.kids t b.inputs) (IsShut rows b.meets (composite_of h b.before b.kids) t b.inputs None) (kept_by e b.olds) (kept_by e news)) g.tag
        (firings-are-pn.off rows law b.meets b.before b.kids b.inputs b.olds s now news g.so_far h e)

    module _ (i : ℕ) (may : MayFire s i) (child : Node Token A) (k : Kept Token) (there : get now i ≡ Some child) where
      sticks-one : (f : Fault) → SticksAt (child_outcome rows b.meets s i child) (IsShut rows (below_child i b.meets) child s.tag (got_of s i) (Some f)) f (kept_at news i) k → IsStuck a b h e s (below_fault i f) (set news i k)
      sticks-one f x =
          subst (λ t. SticksAt (outcome_of rows b.meets h b.before b.kids t b.inputs) (IsShut rows b.meets (composite_of h b.before b.kids) t b.inputs (Some (below_fault i f))) (below_fault i f) (kept_by e b.olds) (kept_by e (set news i k))) g.tag
          (firings-are-pn.sticks rows law b.meets b.before b.kids b.inputs b.olds s now news g.so_far i may child k f there x h e)

      within-one : LeavesOff (child_outcome rows b.meets s i child) (IsShut rows (below_child i b.meets) child s.tag (got_of s i) None) (kept_at news i) k → IsLeftOff a b h e s (set news i k)
      within-one x =
          subst (λ t. LeavesOff (outcome_of rows b.meets h b.before b.kids t b.inputs) (IsShut rows b.meets (composite_of h b.before b.kids) t b.inputs None) (kept_by e b.olds) (kept_by e (set news i k))) g.tag
          (firings-are-pn.off_within rows law b.meets b.before b.kids b.inputs b.olds s now news g.so_far i may child k there x h e)

  -- the firing of a child is one that the composite's firing asks for
  module _ (i : ℕ) (may : MayFire s i) (child : Node Token A) (there : get now i ≡ Some child) (h : Past) where
    abbrev AskedFor : Tag → Tag → Type 0
    AskedFor tag when = FromSome (λ k. IsAsked (child_facts (facts_of rows)) (steps_below rows k (heights b.kids) b.meets) (b.meets [] h.made) h.made (tree.Pn b.before.network.plan (held_of b.before)) (numbered 0 (list_of b.kids)) tag b.inputs i (record { number = i; node = child }) when (got_of s i))

    asks-one : (when : Tag) → when ≡ s.tag → AskedFor b.tag when
    asks-one when e =
        subst (λ t. AskedFor b.tag t) (sym e)
        (subst (λ t. AskedFor t s.tag) g.tag (g.so_far.run.0, λ k o. pn-asks rows k b.meets h b.before b.kids b.inputs s g.so_far.made now g.so_far.logs (g.so_far.run.1 k o) i may child there))

  jams-one : IsFull s → (h : Past) (maximum count : Path → ℕ) → maximum [] ≡ b.before.network.maximum → h.made ≡ count [] → HaveMade count (numbered 0 now) → FromSome (λ k. IsJammed rows k [] b.meets maximum count (node a h b.before b.kids) b.tag b.inputs (blocked_of s))
  jams-one full h maximum count most made each =
      let same = (under rows b.meets b.before b.kids b.inputs b.olds s now news g.so_far).network in
      subst (λ t. FromSome (λ k. IsJammed rows k [] b.meets maximum count (composite_of h b.before b.kids) t b.inputs (blocked_of s))) g.tag
      (firings-are-pn.jams rows b.meets b.before b.kids b.inputs b.olds s now news g.so_far full h maximum count (most ∙ ap (λ (n : Network Token). n.maximum) (sym same)) made each)

-- no event of the core changes the maximum capacity
grown-keeps : (least : Option (ℕ × ℕ)) (s : State) → (grown_by least s).network.maximum ≡ s.network.maximum
grown-keeps None s = refl
grown-keeps (Some least) s = refl

asking-keeps : (answer : Ask) (s : State) → pn_calls.maximum (pn_calls.asking answer s) ≡ pn_calls.maximum s
asking-keeps (ask.Fire child tag) s = refl
asking-keeps (ask.Get child) s = refl
asking-keeps (ask.Put child) s = refl
asking-keeps ask.Grow s = grown-keeps (least_full s) s
asking-keeps ask.Finished s = refl
asking-keeps ask.Full s = refl
asking-keeps (ask.Early child tag) s = refl
asking-keeps (ask.Reset child) s = refl
asking-keeps (ask.Faulted kind child) s = refl
asking-keeps (ask.Meet meeting) s = refl
asking-keeps ask.Await s = refl

pub pn-is-lawful : {A : Type 0} (rows : Rows Token A) → LawfulRows rows → Lawful (pn_acts rows)
pn-is-lawful rows law = record {
  agree = record {
    asked = λ s i when q. refl;
    listened = λ s i when q. absurd q;
    hands = λ s i e. (subst (λ v. IsSome v) (sym e) refl, e, refl);
    hands_on = λ s i e out wake need. (refl, refl, refl);
    asks_on = λ s i out wake need e. tt;
    tells = λ s i out wake need e. refl;
    finishes = λ s q. refl;
    restarts = λ s. (ap (λ X. tree.Pn s.network.plan X) (joined-first (total s.network.plan.net.places) s.network.first), refl);
    keeps_maximum = record { begun = λ tag inputs s. refl; asking = asking-keeps; handed = λ s. refl; told = λ i out wake need s. refl; heard = λ i early s. refl; closed = λ s. refl; restarted = λ s. refl };
    tells_meetings = tells-none pn_calls (λ s. refl) (λ m s q. q);
  };
  idle = λ s kids f. f.idle;
  wakes = λ s kids f. refl;
  fits_again = again-one rows;
  begins = λ b f t o. begins-one rows b f o;
  middle = λ b s now news g. record {
    asks = subst (λ v. MayAsk v) (sym g.stage) tt;
    usual = usual-one s;
    fires_one = λ i when q. let m = q.1 in let l = m.there in let e = g.suits.children in omega (arith, l, e);
    lends = λ i when q child e. lends-one rows b s now news g i q.1.there child e;
    goes_on = λ i when q child next out k e f ok. goes-one rows b s now news g i when q child next out k e f;
    refuses = λ i when q child next out k there f no. absurd (clash no);
    sticks = λ i when q child k f there x h e met. sticks-one rows law b s now news g h e i q.1 child k there f (subst (λ t. SticksAt (λ fuel. step_at rows fuel (height child) (below_child i b.meets) t child (got_of s i)) (IsShut rows (below_child i b.meets) child t (got_of s i) (Some f)) f (kept_at news i) k) q.2 x);
    asks_as = λ i when q child there h met. asks-one rows law b s now news g i q.1 child there h when q.2;
    listens = λ i when q. absurd q;
    hears = λ i when q child e. absurd q;
    learns = λ i when q early. absurd q;
    resets_one = λ i q. absurd q;
    resets = λ i q child e. absurd q;
    rests = λ i q. absurd q;
    moves = λ answer m q. moves-one rows b s now news g answer m q;
    ends = λ q h e met. ends-one rows law b s now news g h e q.1;
    fits = λ q. fits-one rows b s now news g q;
    faults = λ kind q. absurd q;
    jams = λ q h met maximum count most made each. jams-one rows law b s now news g q.1 h maximum count most made each;
    off = λ h e met. off-one rows law b s now news g h e;
    off_within = λ i when q child k there x h e met. within-one rows law b s now news g h e i q.1 child k there (subst (λ t. LeavesOff (λ fuel. step_at rows fuel (height child) (below_child i b.meets) t child (got_of s i)) (IsShut rows (below_child i b.meets) child t (got_of s i) None) (kept_at news i) k) q.2 x);
  };
}
