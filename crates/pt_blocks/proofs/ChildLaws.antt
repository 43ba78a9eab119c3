-- The children of a top after a block, each by what it was before.
use Rattle.std.proofs.Common.{◌≡◌, ℕ, ℤ, zero, suc, ◌+◌, ◌*◌, ◌<◌, ◌^◌, List, [], ◌∷◌, length, map, get_or, true, Some, refl, sym, ap, ap₂, subst, ◌∙◌, arith}
use Rattle.pt_meaning.specs.Basics.{Tag, Streams}
use Rattle.pt_meaning.specs.Streams.{get}
use Rattle.pt_meaning.specs.Tree as tree
use Rattle.pt_meaning.specs.NodeFacts.{facts_of}
use Rattle.pt_value.specs.declared.token.Token.{Token}
use Rattle.pt_value.specs.declared.token.Token.TheVariants.{Int}
use Rattle.pt_library.specs.declared.library_actor.LibraryActor.{LibraryActor}
use Rattle.pt_library.specs.LibraryActor.{rows}
use Rattle.pt_sdf_parts.proofs.NeedLaws.{needs-length, planned-length}
use Rattle.pt_sdf.specs.Clauses.{State}
use Rattle.pt_sdf.specs.SdfActs.{Fits}
use Rattle.pt_past.specs.Recorded.{RecordedPort, noting, recording}
use Rattle.pt_node.specs.declared.body.Body.{Body}
use Rattle.pt_node.specs.declared.body.Body.TheVariants as body
use Rattle.pt_node.specs.Shown.{Shown, AllShown, Frame, Branch, all_of}
use Rattle.pt_node.specs.Firing.{noted, recorded_times, fired_times}
use Rattle.pt_node.specs.View.{Tree, Heading, Named, with, node_of, nodes_of, node_with, outline_of, outlines_of, heading_of, maximum_in, count_of, counts_of}
use Rattle.pt_node.specs.Live.{IsFit, AllFit}
use Rattle.pt_blocks.specs.Children.{IsActor, IsOf, EachTo, IsNoted, IsRecorded, MayRecord, body_with, with_actor, fired_by, firings_to}
use Rattle.pt_blocks.proofs.EachLaws.{Rel, each-long}
use Rattle.pt_blocks.proofs.KeptLaws.{after_block}

-- ---- one child after another

pub each-get : (R : Rel) (olds news : List Shown) → EachTo R (length olds) olds news → (i : ℕ) → i < length olds → (d : Shown) → R i (get_or olds i d) (get_or news i d)
each-get R [] news e i l d = absurd (omega (arith, l))
each-get R (s ∷ ss) [] e i l d = absurd e
each-get R (s ∷ ss) (t ∷ ts) e zero l d = e.0
each-get R (s ∷ ss) (t ∷ ts) e (suc i) l d = each-get (λ j. R (suc j)) ss ts e.1 i (omega (arith, l)) d

-- changed twice
pub each-joined : (R Q S : Rel) → ((i : ℕ) (s t u : Shown) → R i s t → Q i t u → S i s u) → (olds mids news : List Shown) → EachTo R (length olds) olds mids → EachTo Q (length mids) mids news → EachTo S (length olds) olds news
each-joined R Q S f [] [] [] r q = tt
each-joined R Q S f [] [] (u ∷ us) r q = absurd q
each-joined R Q S f [] (t ∷ ts) news r q = absurd r
each-joined R Q S f (s ∷ ss) [] news r q = absurd r
each-joined R Q S f (s ∷ ss) (t ∷ ts) [] r q = absurd q
each-joined R Q S f (s ∷ ss) (t ∷ ts) (u ∷ us) r q = (f 0 s t u r.0 q.0, each-joined (λ i. R (suc i)) (λ i. Q (suc i)) (λ i. S (suc i)) (λ i. f (suc i)) ss ts us r.1 q.1)

-- and what is known of each before
pub each-with : (R : Rel) (P : ℕ → Shown → Type 0) (olds news : List Shown) → EachTo R (length olds) olds news → ((i : ℕ) → i < length olds → (d : Shown) → P i (get_or olds i d)) → EachTo (λ i s t. R i s t × P i s) (length olds) olds news
each-with R P [] [] e h = tt
each-with R P [] (t ∷ ts) e h = absurd e
each-with R P (s ∷ ss) [] e h = absurd e
each-with R P (s ∷ ss) (t ∷ ts) e h = ((e.0, h 0 (omega arith) s), each-with (λ i. R (suc i)) (λ i. P (suc i)) ss ts e.1 (λ i l d. h (suc i) (omega (arith, l)) d))

fired-noted : (tag : Tag) (out : Streams Token) (s : Shown) → fired_by (noted tag out s) ≡ fired_by s
fired-noted tag out (Branch g ks) = refl

-- what is noted of all may be recorded
pub may-record : (qs : List ℕ) (given : List (List ℤ)) (tag : Tag) (iterations : ℕ) (olds mids : List Shown) (actors : List LibraryActor) → EachTo (IsNoted qs given tag iterations) (length olds) olds mids → length qs ≡ length olds → length actors ≡ length olds → MayRecord qs iterations mids actors
may-record qs given tag iterations olds mids actors each repetitions count = record {
  repetitions = repetitions ∙ sym long;
  count = count ∙ sym long;
  few = λ i l s.
      let e = each-get (IsNoted qs given tag iterations) olds mids each i (let n = long in omega (arith, l, n)) s in
      subst (λ m. m + get_or qs i 0 * iterations < 2 ^ 64) (sym (ap (λ v. fired_by v) e.noted_is ∙ fired-noted tag (map Int (get_or given i []) ∷ []) (get_or olds i s))) e.few;
}
  where
    long : length mids ≡ length olds
    long = each-long (IsNoted qs given tag iterations) (length olds) olds mids each

-- ---- one child

-- what the node of a library actor is
abbrev pub past_in : Shown → tree.Past
past_in (Branch g ks) = g.past

abbrev pub start_in_body : LibraryActor → Body → LibraryActor
start_in_body d (body.Actor held) = held.start
start_in_body d (body.Composite director) = d

abbrev pub start_in : LibraryActor → Shown → LibraryActor
start_in d (Branch g ks) = start_in_body d g.body

actor-is : (h : tree.Past) (ns : tree.Nodes Token LibraryActor) (d a : LibraryActor) (b : Body) → IsActor b a → node_with h b ns ≡ tree.Actor h (start_in_body d b) a
actor-is h ns d a (body.Actor held) o = ap (λ (v : LibraryActor). let n : Tree = tree.Actor h held.start v in n) o
actor-is h ns d a (body.Composite director) o = absurd o

pub actor-node : (s : Shown) (d a : LibraryActor) → IsOf s a → node_of s ≡ tree.Actor (past_in s) (start_in d s) a
actor-node (Branch g ks) d a o = actor-is g.past (nodes_of ks) d a g.body o

actor-with : (h : tree.Past) (ns : tree.Nodes Token LibraryActor) (d a e : LibraryActor) (b : Body) → IsActor b e → node_with h (body_with a b) ns ≡ tree.Actor h (start_in_body d b) a
actor-with h ns d a e (body.Actor held) o = refl
actor-with h ns d a e (body.Composite director) o = absurd o

pub after-node : (tag : Tag) (n : ℕ) (row : List ℤ) (s : Shown) (d a e : LibraryActor) → IsOf s e → node_of (after_block tag n a row s) ≡ tree.Actor (fired_times tag n (past_in s)) (start_in d s) a
after-node tag n row (Branch g ks) d a e o = actor-with (fired_times tag n g.past) (nodes_of ks) d a e g.body o

fits-with : (tag : Tag) (n : ℕ) (rs : List RecordedPort) (g : Frame) (ks : AllShown) (a e : LibraryActor) (b : Body) → IsActor b e → AllFit ks →
    IsFit (Branch (record { past = fired_times tag n g.past; body = body_with a b; records = rs; path = g.path; labels = g.labels; meetings = g.meetings; live = true }) ks)
fits-with tag n rs g ks a e (body.Actor held) o f = (tt, f, tt)
fits-with tag n rs g ks a e (body.Composite director) o f = absurd o

pub after-fit : (tag : Tag) (n : ℕ) (row : List ℤ) (s : Shown) (a e : LibraryActor) → IsOf s e → IsFit s → IsFit (after_block tag n a row s)
after-fit tag n row (Branch g ks) a e o f = fits-with tag n (map recording (map (noting tag (map Int row ∷ [])) g.records)) g ks a e g.body o f.1

headings-after : (tag : Tag) (out : Streams Token) (rs : List RecordedPort) → map heading_of (map recording (map (noting tag out) rs)) ≡ map heading_of rs
headings-after tag out [] = refl
headings-after tag out (r ∷ rs) = ap (λ hs. heading_of r ∷ hs) (headings-after tag out rs)

maximum-with : (a : LibraryActor) (b : Body) → maximum_in (body_with a b) ≡ maximum_in b
maximum-with a (body.Actor held) = refl
maximum-with a (body.Composite director) = refl

pub after-outline : (tag : Tag) (n : ℕ) (a : LibraryActor) (row : List ℤ) (s : Shown) → outline_of (after_block tag n a row s) ≡ outline_of s
after-outline tag n a row (Branch g ks) = ap₂ (λ (hs : List Heading) m. Named g.path hs m g.labels (outlines_of ks)) (headings-after tag (map Int row ∷ []) g.records) (maximum-with a g.body)

pub after-count : (tag : Tag) (n : ℕ) (a : LibraryActor) (row : List ℤ) (s : Shown) → count_of (after_block tag n a row s) ≡ count_of s + n
after-count tag n a row (Branch g ks) = omega arith

-- ---- all children

-- each is so after a block, and was a library actor before
abbrev pub IsAfter : (qs : List ℕ) (given : List (List ℤ)) (actors : List LibraryActor) (tag : Tag) (iterations : ℕ) (d : LibraryActor) → ℕ → Shown → Shown → Type 0
IsAfter qs given actors tag iterations d i s t = t ≡ after_block tag (get_or qs i 0 * iterations) (get_or actors i d) (get_or given i []) s

abbrev pub IsWorker : ℕ → Shown → Type 0
IsWorker i s = (e : LibraryActor) × IsOf s e

module _ (qs : List ℕ) (given : List (List ℤ)) (actors : List LibraryActor) (tag : Tag) (iterations : ℕ) (d : LibraryActor) where
  pub all-after : (olds mids news : List Shown) → EachTo (IsNoted qs given tag iterations) (length olds) olds mids → EachTo (IsRecorded qs tag iterations actors) (length mids) mids news → EachTo (IsAfter qs given actors tag iterations d) (length olds) olds news
  all-after olds mids news noted recorded = each-joined (IsNoted qs given tag iterations) (IsRecorded qs tag iterations actors) (IsAfter qs given actors tag iterations d) one olds mids news noted recorded
    where
      one : (i : ℕ) (s t u : Shown) → IsNoted qs given tag iterations i s t → IsRecorded qs tag iterations actors i t u → IsAfter qs given actors tag iterations d i s u
      one i s t u n r = r d ∙ ap (λ v. recorded_times tag (get_or qs i 0 * iterations) (with_actor (get_or actors i d) v)) n.noted_is

outlines-same : (R : Rel) → ((i : ℕ) (s t : Shown) → R i s t → outline_of t ≡ outline_of s) → (olds news : List Shown) → EachTo R (length olds) olds news → outlines_of (all_of news) ≡ outlines_of (all_of olds)
outlines-same R f [] [] e = refl
outlines-same R f [] (t ∷ ts) e = absurd e
outlines-same R f (s ∷ ss) [] e = absurd e
outlines-same R f (s ∷ ss) (t ∷ ts) e = ap₂ (λ o os. with o os) (f 0 s t e.0) (outlines-same (λ i. R (suc i)) (λ i. f (suc i)) ss ts e.1)

fits-all : (R : Rel) → ((i : ℕ) (s t : Shown) → R i s t → IsFit s → IsFit t) → (olds news : List Shown) → EachTo R (length olds) olds news → AllFit (all_of olds) → AllFit (all_of news)
fits-all R f [] [] e fit = tt
fits-all R f [] (t ∷ ts) e fit = absurd e
fits-all R f (s ∷ ss) [] e fit = absurd e
fits-all R f (s ∷ ss) (t ∷ ts) e fit = (f 0 s t e.0 fit.0, fits-all (λ i. R (suc i)) (λ i. f (suc i)) ss ts e.1 fit.1)

-- so many firings of all of a list
abbrev sum_to : (ℕ → ℕ) → ℕ → ℕ
sum_to f zero = 0
sum_to f (suc k) = f 0 + sum_to (λ i. f (suc i)) k

sum-last : (f : ℕ → ℕ) (k : ℕ) → sum_to f (suc k) ≡ sum_to f k + f k
sum-last f zero = omega arith
sum-last f (suc k) = let h = sum-last (λ i. f (suc i)) k in omega (arith, h)

firings-sum : (qs : List ℕ) (iterations k : ℕ) → firings_to qs iterations k ≡ sum_to (λ i. get_or qs i 0 * iterations) k
firings-sum qs iterations zero = refl
firings-sum qs iterations (suc k) = ap (λ n. n + get_or qs k 0 * iterations) (firings-sum qs iterations k) ∙ sym (sum-last (λ i. get_or qs i 0 * iterations) k)

counts-more : (R : Rel) (f : ℕ → ℕ) → ((i : ℕ) (s t : Shown) → R i s t → count_of t ≡ count_of s + f i) → (olds news : List Shown) → EachTo R (length olds) olds news → counts_of (all_of news) ≡ counts_of (all_of olds) + sum_to f (length olds)
counts-more R f g [] [] e = refl
counts-more R f g [] (t ∷ ts) e = absurd e
counts-more R f g (s ∷ ss) [] e = absurd e
counts-more R f g (s ∷ ss) (t ∷ ts) e =
    let h = g 0 s t e.0 in
    let k = counts-more (λ i. R (suc i)) (λ i. f (suc i)) (λ i. g (suc i)) ss ts e.1 in
    omega (arith, h, k)

-- a child, by its number
pub get-node : (ss : List Shown) (i : ℕ) (d : Shown) → i < length ss → get (tree.list_of (nodes_of (all_of ss))) i ≡ Some (node_of (get_or ss i d))
get-node [] i d l = absurd (omega (arith, l))
get-node (s ∷ ss) zero d l = refl
get-node (s ∷ ss) (suc i) d l = get-node ss i d (omega (arith, l))

pub nodes-long : (ss : List Shown) → length (tree.list_of (nodes_of (all_of ss))) ≡ length ss
nodes-long [] = refl
nodes-long (s ∷ ss) = ap (λ n. suc n) (nodes-long ss)

-- a director fits as many children as its plan is of
pub children-long : (s : State) (ss : List Shown) → Fits rows s (tree.list_of (nodes_of (all_of ss))) → length ss ≡ length s.plan.net.places
children-long s ss f =
    sym (nodes-long ss) ∙ sym (needs-length (facts_of rows) (tree.list_of (nodes_of (all_of ss)))) ∙ ap (λ ns. length ns) f.fitting.needs ∙ planned-length s.plan.net.places s.needs

module _ (qs : List ℕ) (given : List (List ℤ)) (actors : List LibraryActor) (tag : Tag) (iterations : ℕ) (d : LibraryActor) (olds news : List Shown) (each : EachTo (IsAfter qs given actors tag iterations d) (length olds) olds news) where
  abbrev After : Rel
  After = IsAfter qs given actors tag iterations d

  pub outlines-after : outlines_of (all_of news) ≡ outlines_of (all_of olds)
  outlines-after = outlines-same After (λ i s t e. ap (λ v. outline_of v) e ∙ after-outline tag (get_or qs i 0 * iterations) (get_or actors i d) (get_or given i []) s) olds news each

  pub counts-after : counts_of (all_of news) ≡ counts_of (all_of olds) + firings_to qs iterations (length olds)
  counts-after =
      counts-more After (λ i. get_or qs i 0 * iterations) (λ i s t e. ap (λ v. count_of v) e ∙ after-count tag (get_or qs i 0 * iterations) (get_or actors i d) (get_or given i []) s) olds news each
      ∙ ap (λ n. counts_of (all_of olds) + n) (sym (firings-sum qs iterations (length olds)))

  pub fits-after : ((i : ℕ) → i < length olds → (s : Shown) → IsWorker i (get_or olds i s)) → AllFit (all_of olds) → AllFit (all_of news)
  fits-after workers fit =
      fits-all (λ i s t. After i s t × IsWorker i s) (λ i s t e f. subst (λ v. IsFit v) (sym e.0) (after-fit tag (get_or qs i 0 * iterations) (get_or given i []) s (get_or actors i d) e.1.0 e.1.1 f)) olds news (each-with After IsWorker olds news each workers) fit
