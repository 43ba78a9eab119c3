-- Where channels begin and end, by number.
use Rattle.std.proofs.Common.{◌≡◌, ℕ, zero, suc, ◌+◌, ◌<◌, ◌≤◌, List, [], ◌∷◌, ◌++◌, length, get_or, take, replicate, refl, ap, ap₂, sym, ◌∙◌, arith, zero-add, length-append, append_assoc, append-nil}
use Rattle.std.proofs.lemmas.List.{length-replicate, get_or-replicate, get_or_append_left, get_or-append-add}
use Rattle.pt_meaning.specs.Running.{total}
use Rattle.pt_sched.specs.declared.edge.SchedEdge.{SchedEdge}
use Rattle.pt_core.specs.declared.source.Source.{Source}
use Rattle.pt_plan.specs.Channels.{owners, channel_at, channels_from, channels_of}
use Rattle.pt_plan.specs.declared.inside.Inside.{Inside}

plus-zero : (n : ℕ) → n + 0 ≡ n
plus-zero n = omega arith

plus-suc : (n k : ℕ) → suc n + k ≡ n + suc k
plus-suc n k = omega arith

-- an owner for each place
pub owners-long : (i : ℕ) (places : List ℕ) → length (owners i places) ≡ total places
owners-long i [] = refl
owners-long i (p ∷ places) = length-append (replicate p i) (owners (suc i) places) ∙ ap₂ (λ a b. a + b) (length-replicate {A = ℕ} p i) (owners-long (suc i) places)

-- place k of child i is among all places
pub place-inside : (places : List ℕ) (i k : ℕ) → i < length places → k < get_or places i 0 → total (take i places) + k < total places
place-inside [] i k hi hk = absurd (omega arith)
place-inside (p ∷ places) zero k hi hk = omega arith
place-inside (p ∷ places) (suc i) k hi hk = omega (arith, place-inside places i k (omega arith) hk)

-- place k of child i is that child's
pub owner-at : (o : ℕ) (places : List ℕ) (i k d : ℕ) → i < length places → k < get_or places i 0 → get_or (owners o places) (total (take i places) + k) d ≡ o + i
owner-at o [] i k d hi hk = absurd (omega arith)
owner-at o (p ∷ places) zero k d hi hk =
    ap (λ n. get_or (owners o (p ∷ places)) n d) (zero-add k) ∙
    get_or_append_left (replicate p o) (owners (suc o) places) d k (omega (arith, length-replicate {A = ℕ} p o)) ∙
    get_or-replicate {A = ℕ} p k o d hk ∙
    sym (plus-zero o)
owner-at o (p ∷ places) (suc i) k d hi hk =
    let behind : p + total (take i places) + k ≡ length (replicate p o) + (total (take i places) + k) = omega (arith, length-replicate {A = ℕ} p o) in
    ap (λ n. get_or (owners o (p ∷ places)) n d) behind ∙
    get_or-append-add (replicate p o) (owners (suc o) places) (total (take i places) + k) d ∙
    owner-at (suc o) places i k d (omega arith) hk ∙
    plus-suc o i

one-more : (k : ℕ) → k + 1 ≡ suc k
one-more k = omega arith

owners-more : (o : ℕ) (places : List ℕ) (k : ℕ) → k < length places → owners o (take (suc k) places) ≡ owners o (take k places) ++ replicate (get_or places k 0) (o + k)
owners-more o [] k h = absurd (omega arith)
owners-more o (p ∷ places) zero h = append-nil (replicate p o) ∙ ap (λ n. replicate p n) (sym (plus-zero o))
owners-more o (p ∷ places) (suc k) h =
    ap (λ xs. replicate p o ++ xs) (owners-more (suc o) places k (omega arith) ∙ ap (λ n. owners (suc o) (take k places) ++ replicate (get_or places k 0) n) (plus-suc o k)) ∙
    sym (append_assoc (replicate p o) (owners (suc o) (take k places)) (replicate (get_or places k 0) (o + suc k)))

-- the places of one child more
pub owners-step : (places : List ℕ) (k : ℕ) (list longer : List ℕ) → k < length places → longer ≡ list ++ replicate (get_or places k 0) k → list ≡ owners 0 (take k places) → longer ≡ owners 0 (take (k + 1) places)
owners-step places k list longer h e before =
    e ∙ ap (λ xs. xs ++ replicate (get_or places k 0) k) before ∙ ap (λ n. owners 0 (take k places) ++ replicate (get_or places k 0) n) (sym (zero-add k)) ∙ sym (owners-more 0 places k h) ∙ ap (λ n. owners 0 (take n places)) (sym (one-more k))

-- a channel for each source
pub channels-long : (x : Inside) (o : ℕ) (sources : List Source) → length (channels_from x o sources) ≡ length sources
channels-long x o [] = refl
channels-long x o (source ∷ sources) = ap (λ n. suc n) (channels-long x (suc o) sources)

channel-from : (x : Inside) (o : ℕ) (sources : List Source) (k : ℕ) (d : SchedEdge) (e : Source) → k < length sources → get_or (channels_from x o sources) k d ≡ channel_at x (o + k) (get_or sources k e)
channel-from x o [] k d e h = absurd (omega arith)
channel-from x o (source ∷ sources) zero d e h = ap (λ n. channel_at x n source) (sym (plus-zero o))
channel-from x o (source ∷ sources) (suc k) d e h = channel-from x (suc o) sources k d e (omega arith) ∙ ap (λ n. channel_at x n (get_or sources k e)) (plus-suc o k)

-- channel k is that of source k
pub channel-number : (x : Inside) (k : ℕ) (d : SchedEdge) (e : Source) → k < length x.sources.items → get_or (channels_of x) k d ≡ channel_at x k (get_or x.sources.items k e)
channel-number x k d e h = channel-from x 0 x.sources.items k d e h ∙ ap (λ n. channel_at x n (get_or x.sources.items k e)) (zero-add k)

channels-more : (x : Inside) (o : ℕ) (sources : List Source) (k : ℕ) (e : Source) → k < length sources → channels_from x o (take (suc k) sources) ≡ channels_from x o (take k sources) ++ channel_at x (o + k) (get_or sources k e) ∷ []
channels-more x o [] k e h = absurd (omega arith)
channels-more x o (source ∷ sources) zero e h = ap (λ n. channel_at x n source ∷ []) (sym (plus-zero o))
channels-more x o (source ∷ sources) (suc k) e h = ap (λ cs. channel_at x o source ∷ cs) (channels-more x (suc o) sources k e (omega arith) ∙ ap (λ n. channels_from x (suc o) (take k sources) ++ channel_at x n (get_or sources k e) ∷ []) (plus-suc o k))

-- the channel of one source more
pub channels-step : (x : Inside) (k : ℕ) (source : Source) (list : List SchedEdge) → k < length x.sources.items → source ≡ get_or x.sources.items k source → list ≡ channels_from x 0 (take k x.sources.items) → list ++ channel_at x k source ∷ [] ≡ channels_from x 0 (take (k + 1) x.sources.items)
channels-step x k source list h is before =
    ap (λ cs. cs ++ channel_at x k source ∷ []) before ∙ ap₂ (λ n s. channels_from x 0 (take k x.sources.items) ++ channel_at x n s ∷ []) (sym (zero-add k)) is ∙ sym (channels-more x 0 x.sources.items k source h) ∙ ap (λ n. channels_from x 0 (take n x.sources.items)) (sym (one-more k))

-- the sum of one number more
total-more : (numbers : List ℕ) (k : ℕ) → k < length numbers → total (take (suc k) numbers) ≡ total (take k numbers) + get_or numbers k 0
total-more [] k h = absurd (omega arith)
total-more (n ∷ numbers) zero h = omega arith
total-more (n ∷ numbers) (suc k) h = omega (arith, total-more numbers k (omega arith))

pub total-step : (numbers : List ℕ) (k : ℕ) → k < length numbers → total (take (k + 1) numbers) ≡ total (take k numbers) + get_or numbers k 0
total-step numbers k h = ap (λ n. total (take n numbers)) (one-more k) ∙ total-more numbers k h

pub total-le : (numbers : List ℕ) (k : ℕ) → total (take k numbers) ≤ total numbers
total-le [] zero = omega arith
total-le [] (suc k) = omega arith
total-le (n ∷ numbers) zero = omega arith
total-le (n ∷ numbers) (suc k) = omega (arith, total-le numbers k)
