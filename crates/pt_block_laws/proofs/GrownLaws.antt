-- What is kept of a top of library actors goes on in a block by what its iterations log.
use Rattle.std.proofs.Common.{◌≡◌, ℕ, zero, suc, ◌+◌, ◌*◌, List, [], ◌∷◌, ◌++◌, map, refl, sym, ap, subst, ◌∙◌, arith}
use Rattle.pt_meaning.specs.Tag.{Tag}
use Rattle.pt_meaning.specs.Streams.{Streams, at}
use Rattle.pt_meaning.specs.Log.{Log, Firing, silent, log_then, own, log_below, within_firing, with_tag}
use Rattle.pt_meaning.specs.Machine.{Facts}
use Rattle.pt_meaning.specs.Sdf.{SdfPlan}
use Rattle.pt_meaning.specs.Children.{Child, child_facts}
use Rattle.pt_meaning.specs.Tree.{Rows, Past, Node}
use Rattle.pt_meaning.specs.NodeFacts.{facts_of}
use Rattle.pt_records.specs.Kept.{Recorded, Entry, Kept, kept_by, GrewBy, AllGrewBy, TracesTold, EntryFired}
use Rattle.pt_records.proofs.GrowthLaws.{grew-none, grew-joined, grew-record, grew-within}
use Rattle.pt_block_laws.specs.Firings.{Firings, rest, later, logged}
use Rattle.pt_block_laws.specs.Iteration.{all_logged}
use Rattle.pt_block_laws.specs.Block.{from_iteration}
use Rattle.pt_block_laws.specs.Workers.{Worker, past_after, as_child, all_children, log_in_iteration}
use Rattle.pt_block_laws.specs.Grown.{told, told_times, kept_before, log_of_block, BlockGrows}
use Rattle.pt_block_laws.proofs.PartLaws.{later-gives, later-inside}

traces-told : {T : Type 0} (tag : Tag) (out : Streams T) (rs : List (Recorded T)) → TracesTold tag out rs (map (λ r. record { port = r.port; trace = r.trace ++ with_tag tag (at out r.port) }) rs)
traces-told tag out [] = tt
traces-told tag out (r ∷ rs) = (refl, refl, traces-told tag out rs)

fired : {T : Type 0} (tag : Tag) (out : Streams T) (e : Entry T) → EntryFired tag out e (told tag out e)
fired tag out e = record { count = refl; recorded = traces-told tag out e.recorded; meetings = refl }

rest-later : {T S : Type 0} (b : ℕ) (f : Firings T S) → rest (later b f) ≡ later (suc b) f
rest-later zero f = refl
rest-later (suc b) f = rest-later b (rest f)

-- a library actor by its own firings, from one on
actor-grows : {T A : Type 0} (rows : Rows T A) (tag : Tag) (i : ℕ) (w : Worker T A) (e : Entry T) (ks : List (Kept T)) (k b : ℕ) →
    GrewBy (logged (child_facts (facts_of rows)) tag k (later b (as_child tag i w))) (kept_by (told_times tag w.does.gives b e) ks) (kept_by (told_times tag w.does.gives (b + k) e) ks)
actor-grows {T} {A} rows tag i w e ks zero b =
    let z : b ≡ b + 0 = omega arith in
    subst (λ n. GrewBy silent (kept_by (told_times tag w.does.gives b e) ks) (kept_by (told_times tag w.does.gives n e) ks)) z (grew-none (kept_by (told_times tag w.does.gives b e) ks))
actor-grows {T} {A} rows tag i w e ks (suc k) b =
    let f : Firings T (Child (Node T A)) = later b (as_child tag i w) in
    let z : b + 0 ≡ b = omega arith in
    let s : suc b + k ≡ b + suc k = omega arith in
    let gives : f.gives 0 ≡ w.does.gives b = later-gives b 0 (as_child tag i w) ∙ ap (λ n. w.does.gives n) z in
    let first : EntryFired tag (f.gives 0) (told_times tag w.does.gives b e) (told_times tag w.does.gives (suc b) e) =
    subst (λ out. EntryFired tag out (told_times tag w.does.gives b e) (told_times tag w.does.gives (suc b) e)) (sym gives) (fired tag (w.does.gives b) (told_times tag w.does.gives b e))
    in
    let facts : Facts T (Child (Node T A)) = child_facts (facts_of rows) in
    let nothing : GrewBy (f.inside 0) (kept_by (told_times tag w.does.gives b e) ks) (kept_by (told_times tag w.does.gives b e) ks) = subst (λ l. GrewBy l (kept_by (told_times tag w.does.gives b e) ks) (kept_by (told_times tag w.does.gives b e) ks)) (sym (later-inside b 0 (as_child tag i w))) (grew-none (kept_by (told_times tag w.does.gives b e) ks)) in
    let one = grew-record (record { number = facts.made (f.state 0); tag = tag; inputs = f.takes 0; outputs = f.gives 0 }) (f.inside 0) (told_times tag w.does.gives b e) (told_times tag w.does.gives b e) (told_times tag w.does.gives (suc b) e) ks ks nothing first in
    let others = subst (λ (g : Firings T (Child (Node T A))). GrewBy (logged facts tag k g) (kept_by (told_times tag w.does.gives (suc b) e) ks) (kept_by (told_times tag w.does.gives (b + suc k) e) ks)) (sym (rest-later b (as_child tag i w)))
    (subst (λ n. GrewBy (logged facts tag k (later (suc b) (as_child tag i w))) (kept_by (told_times tag w.does.gives (suc b) e) ks) (kept_by (told_times tag w.does.gives n e) ks)) s (actor-grows rows tag i w e ks k (suc b)))
    in
    grew-joined (log_then (f.inside 0) (own (record { number = facts.made (f.state 0); tag = tag; inputs = f.takes 0; outputs = f.gives 0 }))) (logged facts tag k (rest f)) (kept_by (told_times tag w.does.gives b e) ks) (kept_by (told_times tag w.does.gives (suc b) e) ks) (kept_by (told_times tag w.does.gives (b + suc k) e) ks) one others

-- the children, each by its own
all-grow : {T A : Type 0} (rows : Rows T A) (tag : Tag) (t : ℕ) (qs : List ℕ) (number : ℕ → ℕ) (workers : ℕ → Worker T A) (es : ℕ → Entry T) (below : ℕ → List (Kept T)) →
    AllGrewBy (all_logged (child_facts (facts_of rows)) tag 1 qs (from_iteration t qs (λ i. as_child tag (number i) (workers i)))) (kept_before tag t qs workers es below) (kept_before tag (suc t) qs workers es below)
all-grow rows tag t [] number workers es below = tt
all-grow {T} {A} rows tag t (q ∷ qs) number workers es below =
    let e : t * q + 1 * q ≡ suc t * q = (let a : suc t * q ≡ t * q + q = omega arith in let b : 1 * q ≡ q = omega arith in omega (arith, a, b)) in (
      subst (λ n. GrewBy (logged (child_facts (facts_of rows)) tag (1 * q) (later (t * q) (as_child tag (number 0) (workers 0)))) (kept_by (told_times tag (workers 0).does.gives (t * q) (es 0)) (below 0)) (kept_by (told_times tag (workers 0).does.gives n (es 0)) (below 0))) e
          (actor-grows rows tag (number 0) (workers 0) (es 0) (below 0) (1 * q) (t * q)),
      all-grow rows tag t qs (λ i. number (suc i)) (λ i. workers (suc i)) (λ i. es (suc i)) (λ i. below (suc i)),
    )

pub block-grows : {T A : Type 0} → BlockGrows T A
block-grows rows tag h p workers e es below zero = grew-none (kept_by e (kept_before tag 0 p.repetitions workers es below))
block-grows {T} {A} rows tag h p workers e es below (suc t) =
    let tops : ℕ → Entry T = λ n. told_times tag (λ k. []) n e in
    let kids : ℕ → List (Kept T) = λ n. kept_before tag n p.repetitions workers es below in
    let inside = grew-within (past_after tag t h).made (all_logged (child_facts (facts_of rows)) tag 1 p.repetitions (from_iteration t p.repetitions (all_children tag workers))) (tops t) (kids t) (kids (suc t)) (all-grow rows tag t p.repetitions (λ i. i) workers es below) in
    let own_record : Firing T = record { number = (past_after tag t h).made; tag = tag; inputs = []; outputs = [] } in
    let one = grew-record own_record (within_firing (past_after tag t h).made (log_below (all_logged (child_facts (facts_of rows)) tag 1 p.repetitions (from_iteration t p.repetitions (all_children tag workers))))) (tops t) (tops t) (tops (suc t)) (kids t) (kids (suc t)) inside (fired tag [] (tops t)) in
    grew-joined (log_of_block rows tag h p workers t) (log_in_iteration rows tag h p workers t) (kept_by e (kids 0)) (kept_by (tops t) (kids t)) (kept_by (tops (suc t)) (kids (suc t))) (block-grows rows tag h p workers e es below t) one
