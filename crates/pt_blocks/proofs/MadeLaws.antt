-- A block that is made is so many firings of the top, one after another.
use Rattle.std.proofs.Common.{◌≡◌, ℕ, ℤ, zero, suc, ◌+◌, ◌*◌, ◌<◌, List, [], ◌∷◌, length, map, get_or, Some, refl, sym, ap, ap₂, subst, ◌∙◌, arith}
use Rattle.pt_meaning.specs.Basics.{Tag}
use Rattle.pt_meaning.specs.Streams.{Streams, get}
use Rattle.pt_meaning.specs.Sdf.{SdfPlan}
use Rattle.pt_meaning.specs.Tree as tree
use Rattle.pt_value.specs.declared.token.Token.{Token}
use Rattle.pt_library.specs.declared.library_actor.LibraryActor.{LibraryActor}
use Rattle.pt_library.specs.LibraryActor.{rows}
use Rattle.pt_sdf.specs.Clauses.{State}
use Rattle.pt_sdf.specs.SdfActs.{Fits}
use Rattle.pt_directors.specs.Directors.{of_sdf}
use Rattle.pt_past.specs.Recorded.{RecordedPort, recording}
use Rattle.pt_node.specs.declared.body.Body.TheVariants.{Composite}
use Rattle.pt_node.specs.Shown.{Shown, Frame, Branch, all_of}
use Rattle.pt_node.specs.Firing.{recorded_times, fired_times}
use Rattle.pt_node.specs.View.{Tree, Trees, Heading, Named, node_of, nodes_of, node_with, outline_of, heading_of, maximum_in, count_of}
use Rattle.pt_node.specs.Live.{IsLive, IsReadyBody, met_in}
use Rattle.pt_past.specs.Meetings.{Serves}
use Rattle.pt_block_laws.specs.Iteration.{fuel_for}
use Rattle.pt_block_laws.specs.Block.{empty}
use Rattle.pt_block_laws.specs.Workers.{Worker, past_after, workers_at, top_at, log_in_iteration}
use Rattle.pt_block_laws.proofs.WorkLaws.{block-is-run}
use Rattle.pt_blocks.specs.Children.{AreOf, Each, EachTo, IsRecorded, AllNotedTo}
use Rattle.pt_blocks.specs.Block.{IsMade, AreMade}
use Rattle.pt_blocks.specs.Made.{MadeInTurn}
use Rattle.pt_blocks.proofs.EachLaws.{get-any, each-long}
use Rattle.pt_blocks.proofs.ChildLaws.{each-get, past_in, start_in, actor-node, after-node, IsAfter, all-after, get-node, nodes-long, children-long, outlines-after, counts-after, fits-after}
use Rattle.pt_blocks.proofs.WorkedLaws.{Head, needs_by, row_of, worker_of, IsReadyBlock, worked-block, worked-some, worked-counted, worked-ends, worked-steady}
use Rattle.pt_blocks.proofs.KeptLaws.{AreAfter, kept-block}

-- the past after some firings at a tag
times-after : (tag : Tag) (k : ℕ) (h : tree.Past) → past_after tag (suc k) h ≡ fired_times tag (suc k) h
times-after tag zero h = ap (λ m. let p : tree.Past = record { made = m; last = Some tag.time } in p) {x = suc h.made} {y = h.made + 1} (omega arith)
times-after tag (suc k) h =
    ap (λ p. tree.fired_at tag p) (times-after tag k h)
    ∙ ap (λ m. let p : tree.Past = record { made = m; last = Some tag.time } in p) {x = suc (h.made + suc k)} {y = h.made + suc (suc k)} (omega arith)

past-times : (tag : Tag) (k : ℕ) (h : tree.Past) → 0 < k → past_after tag k h ≡ fired_times tag k h
past-times tag zero h l = absurd (omega (arith, l))
past-times tag (suc k) h l = times-after tag k h

-- children, each of which is a worker before an iteration
pub nodes-at : (tag : Tag) (t : ℕ) (qs : List ℕ) (workers : ℕ → Worker Token LibraryActor) (ss : List Shown) (d : Shown) → length qs ≡ length ss →
    ((i : ℕ) → i < length ss → node_of (get_or ss i d) ≡ tree.Actor (past_after tag (t * get_or qs i 0) (workers i).past) (workers i).start ((workers i).does.state (t * get_or qs i 0))) →
    nodes_of (all_of ss) ≡ tree.nodes_of (workers_at tag t qs workers)
nodes-at tag t [] workers [] d long each = refl
nodes-at tag t [] workers (s ∷ ss) d long each = absurd (omega (arith, long))
nodes-at tag t (q ∷ qs) workers [] d long each = absurd (omega (arith, long))
nodes-at tag t (q ∷ qs) workers (s ∷ ss) d long each = ap₂ (λ n ns. tree.more n ns) (each 0 (omega arith)) (nodes-at tag t qs (λ i. workers (suc i)) ss d (omega (arith, long)) (λ i l. each (suc i) (omega (arith, l))))

headings-recorded : (rs : List RecordedPort) → map heading_of (map recording rs) ≡ map heading_of rs
headings-recorded [] = refl
headings-recorded (r ∷ rs) = ap (λ hs. heading_of r ∷ hs) (headings-recorded rs)

module _ (tag : Tag) (n left after : ℕ) (f : Frame) (s : State) (olds mids news : List Shown) (actors : List LibraryActor) (given : List (List ℤ)) (is : f.body ≡ Composite (of_sdf s)) (none : f.records ≡ []) (live : IsLive (Branch f (all_of olds))) (made : IsMade s n olds actors given) (noted : AllNotedTo (length olds) s.plan.repetitions given tag n left olds mids after) (recorded : Each (IsRecorded s.plan.repetitions tag n actors) mids news) where
  abbrev p : SdfPlan
  p = s.plan

  abbrev kids : List Tree
  kids = tree.list_of (nodes_of (all_of olds))

  abbrev laters : List Tree
  laters = tree.list_of (nodes_of (all_of news))

  fits : Fits rows s kids
  fits = subst (λ b. IsReadyBody b (all_of olds)) is live.1.0

  long : length olds ≡ length p.net.places
  long = children-long s olds fits

  within : (i : ℕ) → i < length p.net.places → i < length olds
  within i l = let h = long in omega (arith, l, h)

  module _ (d : LibraryActor) (e : Shown) where
    each : EachTo (IsAfter p.repetitions given actors tag n d) (length olds) olds news
    each = all-after p.repetitions given actors tag n d olds mids news noted.each recorded

    abbrev heads : ℕ → Head
    heads i = record { past = past_in (get_or olds i e); start = start_in d (get_or olds i e); now = get_or made.olds i d }

    abbrev workers : ℕ → Worker Token LibraryActor
    workers = worker_of tag p s.needs given heads

    abbrev order : List ℕ
    order = made.worked.done

    ready : IsReadyBlock tag p s.needs n made.olds actors given heads kids
    ready = record {
      worked = made.worked;
      repetitions = fits.fitting.repetitions;
      rates = fits.fitting.rates;
      placed = made.placed;
      needed = made.needed;
      begins = λ i l a. get-any made.olds i a d (let o = within i l in let c = made.are.count in omega (arith, o, c));
      children = λ i l. get-node olds i e (within i l) ∙ ap (λ (v : Tree). Some v) (actor-node (get_or olds i e) d (get_or made.olds i d) (made.are.each i (within i l) e d));
      fitting = fits.fitting.needs;
      steady = fits.steady;
    }

    counted : length p.repetitions ≡ length olds
    counted = fits.fitting.repetitions ∙ sym long

    count : length news ≡ length olds
    count = each-long (IsAfter p.repetitions given actors tag n d) (length olds) olds news each

    inside : (i : ℕ) → i < length olds → i < length p.net.places
    inside i l = let h = long in omega (arith, l, h)

    -- each child before the block and after it
    at-first : (i : ℕ) → i < length olds → node_of (get_or olds i e) ≡ tree.Actor (past_after tag (0 * get_or p.repetitions i 0) (workers i).past) (workers i).start ((workers i).does.state (0 * get_or p.repetitions i 0))
    at-first i l =
        subst (λ k. node_of (get_or olds i e) ≡ tree.Actor (past_after tag k (workers i).past) (workers i).start ((workers i).does.state k)) {x = 0} {y = 0 * get_or p.repetitions i 0} (omega arith)
        (actor-node (get_or olds i e) d (get_or made.olds i d) (made.are.each i l e d))

    after-firings : (i : ℕ) → i < length olds → node_of (get_or news i e) ≡ tree.Actor (past_after tag (n * get_or p.repetitions i 0) (heads i).past) (heads i).start (get_or actors i d)
    after-firings i l =
        ap (λ v. node_of v) (each-get (IsAfter p.repetitions given actors tag n d) olds news each i l e)
        ∙ after-node tag (get_or p.repetitions i 0 * n) (get_or given i []) (get_or olds i e) d (get_or actors i d) (get_or made.olds i d) (made.are.each i l e d)
        ∙ ap (λ k. let t : Tree = tree.Actor (fired_times tag k (heads i).past) (heads i).start (get_or actors i d) in t) {x = get_or p.repetitions i 0 * n} {y = n * get_or p.repetitions i 0} (grind arith)
        ∙ ap (λ h. let t : Tree = tree.Actor h (heads i).start (get_or actors i d) in t) (sym (past-times tag (n * get_or p.repetitions i 0) (heads i).past (worked-some tag p s.needs n made.olds actors given heads kids ready i (inside i l))))

    at-last : (i : ℕ) → i < length olds → node_of (get_or news i e) ≡ tree.Actor (past_after tag (n * get_or p.repetitions i 0) (workers i).past) (workers i).start ((workers i).does.state (n * get_or p.repetitions i 0))
    at-last i l =
        after-firings i l
        ∙ ap (λ a. let t : Tree = tree.Actor (past_after tag (n * get_or p.repetitions i 0) (heads i).past) (heads i).start a in t) (sym (worked-ends tag p s.needs n made.olds actors given heads kids ready i (inside i l) d))

    later : (i : ℕ) → i < length p.net.places → get laters i ≡ Some (tree.Actor (past_after tag (n * get_or p.repetitions i 0) (heads i).past) (heads i).start (get_or actors i (heads i).now))
    later i l =
        get-node news i e (let o = within i l in let c = count in omega (arith, o, c))
        ∙ ap (λ (v : Tree). Some v) (after-firings i (within i l) ∙ ap (λ a. let t : Tree = tree.Actor (past_after tag (n * get_or p.repetitions i 0) (heads i).past) (heads i).start a in t) (get-any actors i d (heads i).now (let o = within i l in let c = made.count in omega (arith, o, c))))

    -- the top among the definitions
    top-is : (h : tree.Past) (ns : Trees) → node_with h f.body ns ≡ tree.Composite h (tree.Sdf p s.first) (tree.Sdf p (empty p.net.sources)) ns
    top-is h ns =
        ap (λ b. node_with h b ns) is
        ∙ ap (λ (X : Streams Token). let t : Tree = tree.Composite h (tree.Sdf p s.first) (tree.Sdf p X) ns in t) made.bare.held

    begins : top_at tag f.past (tree.Sdf p s.first) p workers 0 ≡ node_of (Branch f (all_of olds))
    begins = sym (top-is f.past (nodes_of (all_of olds)) ∙ ap (λ (ns : Trees). let t : Tree = tree.Composite f.past (tree.Sdf p s.first) (tree.Sdf p (empty p.net.sources)) ns in t) (nodes-at tag 0 p.repetitions workers olds e counted at-first))

    -- some iterations were made, and there is a child
    iterations-some : 0 < length olds → 0 < n
    iterations-some some = by-count n refl
      where
        by-count : (m : ℕ) → n ≡ m → 0 < m
        by-count zero h =
            let more = worked-some tag p s.needs n made.olds actors given heads kids ready 0 (inside 0 some) in
            let no : n * get_or p.repetitions 0 0 ≡ 0 = ap (λ m. m * get_or p.repetitions 0 0) h ∙ (let z : 0 * get_or p.repetitions 0 0 ≡ 0 = omega arith in z) in
            absurd (omega (arith, more, no))
        by-count (suc m) h = omega arith

    ends : 0 < length olds → top_at tag f.past (tree.Sdf p s.first) p workers n ≡ node_of (recorded_times tag n (Branch f (all_of news)))
    ends some =
        sym
        (top-is (fired_times tag n f.past) (nodes_of (all_of news))
        ∙ ap₂ (λ h (ns : Trees). let t : Tree = tree.Composite h (tree.Sdf p s.first) (tree.Sdf p (empty p.net.sources)) ns in t)
        (sym (past-times tag n f.past (iterations-some some)))
        (nodes-at tag n p.repetitions workers news e (counted ∙ sym count) (λ i l. at-last i (let c = count in omega (arith, l, c)))))

    -- it may fire again
    fits-still : Fits rows s laters
    fits-still =
        let still = worked-steady tag p s.needs n made.olds actors given heads kids ready laters (nodes-long news ∙ count ∙ sym (nodes-long olds)) later in
        record {
          idle = fits.idle;
          fitting = record { repetitions = fits.fitting.repetitions; rates = fits.fitting.rates; channels = fits.fitting.channels; needs = still.1 ∙ fits.fitting.needs };
          starts = fits.starts;
          steady = still.0;
        }

    live-still : IsLive (recorded_times tag n (Branch f (all_of news)))
    live-still = (
      refl,
      (
        subst (λ b. IsReadyBody b (all_of news)) (sym is) fits-still,
        fits-after p.repetitions given actors tag n d olds news each (λ i l v. (get_or made.olds i d, made.are.each i l v d)) live.1.1,
        subst (λ b. Serves (met_in b) (f.past.made + n) f.meetings) (sym is) tt,
      ),
    )

    are : AreAfter tag n p.repetitions (λ i. get_or (get_or p.rates i []) 0 0) (λ i. get_or given i []) (λ i. get_or actors i d) e olds news
    are = record {
      repetitions = counted;
      count = count;
      each = λ i l. each-get (IsAfter p.repetitions given actors tag n d) olds news each i l e;
      counted = λ i l. worked-counted tag p s.needs n made.olds actors given heads kids ready i (inside i l);
    }

    made-by : 0 < length olds → MadeInTurn n tag (Branch f (all_of olds)) (recorded_times tag n (Branch f (all_of news)))
    unfolding ready
    made-by some = record {
      tops = top_at tag f.past (tree.Sdf p s.first) p workers;
      logs = λ t. log_in_iteration rows tag f.past p workers t;
      fuel = fuel_for 1 p.repetitions order;
      begins = begins;
      ends = ends some;
      steps = block-is-run rows tag n f.past (tree.Sdf p s.first) p (needs_by p.net.places s.needs) workers (row_of p given) order (worked-block tag p s.needs n made.olds actors given heads kids ready);
      kept = kept-block tag n p workers (λ i. get_or (get_or p.rates i []) 0 0) (λ i. get_or given i []) (λ i. get_or actors i d) e olds news f none are (λ i k l. refl);
      live = live-still;
    }

    outline-by : outline_of (recorded_times tag n (Branch f (all_of news))) ≡ outline_of (Branch f (all_of olds))
    outline-by = ap₂ (λ (hs : List Heading) os. Named f.path hs (maximum_in f.body) f.labels os) (headings-recorded f.records) (outlines-after p.repetitions given actors tag n d olds news each)

    count-by : count_of (recorded_times tag n (Branch f (all_of news))) + after ≡ count_of (Branch f (all_of olds)) + left
    count-by =
        let more = counts-after p.repetitions given actors tag n d olds news each in
        let spent = noted.left_is in
        omega (arith, more, spent)

-- a child and its actor are there
record AreThere (olds : List Shown) (actors : List LibraryActor) : Type 0 where
  pub actor : LibraryActor
  pub child : Shown
  pub some : 0 < length olds

are-there : (olds : List Shown) (actors : List LibraryActor) → (olds ≡ [] → ⊥) → AreOf olds actors → AreThere olds actors
are-there [] actors some are = absurd (some refl)
are-there (s ∷ ss) [] some are = absurd (let c = are.count in omega (arith, c))
are-there (s ∷ ss) (a ∷ others) some are = record { actor = a; child = s; some = omega arith }

module _ (tag : Tag) (n left after : ℕ) (f : Frame) (olds news : List Shown) (none : f.records ≡ []) (live : IsLive (Branch f (all_of olds))) (a : AreMade f.body tag n left after olds news) where
  those : AreThere olds a.made.olds
  those = are-there olds a.made.olds a.made.some a.made.are

  pub block-made : MadeInTurn n tag (Branch f (all_of olds)) (recorded_times tag n (Branch f (all_of news)))
  block-made = made-by tag n left after f a.core olds a.mids news a.actors a.given a.is none live a.made a.noted a.recorded those.actor those.child those.some

  pub block-outline : outline_of (recorded_times tag n (Branch f (all_of news))) ≡ outline_of (Branch f (all_of olds))
  block-outline = outline-by tag n left after f a.core olds a.mids news a.actors a.given a.is none live a.made a.noted a.recorded those.actor those.child

  pub block-counted : count_of (recorded_times tag n (Branch f (all_of news))) + after ≡ count_of (Branch f (all_of olds)) + left
  block-counted = count-by tag n left after f a.core olds a.mids news a.actors a.given a.is none live a.made a.noted a.recorded those.actor those.child
