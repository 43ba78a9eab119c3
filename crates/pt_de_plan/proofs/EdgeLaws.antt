-- The edges from children to those that they feed at the same tag, by the places at which channels end.
use Rattle.std.proofs.Common.{◌≡◌, ℕ, zero, suc, ◌+◌, ◌-◌, ◌<◌, List, [], ◌∷◌, ◌++◌, Bool, true, false, nat_lt, length, map, slice_range, take, drop, get_or, Contains, Option, Some, None, if◌then◌else◌, inl, inr, refl, sym, ap, ap₂, subst, ◌∙◌, arith, append_assoc, append-nil, length-drop}
use Rattle.std.proofs.lemmas.Bool.Decides.{nat_tests}
use Rattle.std.proofs.lemmas.List.{drop-map, length-map, length-take, take-map}
use Rattle.std.proofs.lemmas.List.Elements.{Contains-append_left, Contains-append_right, Contains-append_cases}
use Rattle.pt_meaning.specs.Streams.{get}
use Rattle.pt_meaning.specs.Net.{Source, Own, Output}
use Rattle.pt_meaning.specs.Running.{total}
use Rattle.pt_meaning.specs.Closed.{if_there}
use Rattle.pt_laws.specs.Channels.{further, channel_at}
use Rattle.pt_laws.specs.TickRuns.{places_at}
use Rattle.pt_laws.proofs.Indexed.{drop-more}
use Rattle.pt_core.specs.Source.{source_of}
use Rattle.pt_core.specs.declared.source.Source as core
use Rattle.pt_events.proofs.LeastLaws.{contains-head, contains-cases}
use Rattle.pt_de_laws.proofs.PlaceLaws.{get-or-map, get-short, places-later}
use Rattle.pt_de_plan.specs.Edges.{edge_of, edges_to, edges_from}

plus-zero : (n : ℕ) → n + 0 ≡ n
plus-zero n = omega arith

plus-suc : (n k : ℕ) → suc n + k ≡ n + suc k
plus-suc n k = omega arith

one-more : (k : ℕ) → k + 1 ≡ suc k
one-more k = omega arith

-- ---- child by child

-- the channels of child k, of some list that has an entry for each
abbrev pub channels_at : {B : Type 0} → List ℕ → ℕ → List B → List B
channels_at ns k X = take (get_or ns k 0) (drop (total (take k ns)) X)

edges-more : (o : ℕ) (ns : List ℕ) (k : ℕ) (X : List Source) (F : List Bool) → k < length ns → edges_from o (take (suc k) ns) X F ≡ edges_from o (take k ns) X F ++ edges_to (o + k) (channels_at ns k X) (channels_at ns k F)
edges-more o [] k X F h = absurd (omega (arith, h))
edges-more o (n ∷ ns) zero X F h = append-nil (edges_to o (take n X) (take n F)) ∙ ap (λ i. edges_to i (take n X) (take n F)) (sym (plus-zero o))
edges-more o (n ∷ ns) (suc k) X F h =
    let first : List (ℕ × ℕ) = edges_to o (take n X) (take n F) in
    let rest : List (ℕ × ℕ) = edges_from (suc o) (take k ns) (drop n X) (drop n F) in
    let count : ℕ = get_or ns k 0 in
    let before : ℕ = total (take k ns) in
    ap (λ es. first ++ es) (edges-more (suc o) ns k (drop n X) (drop n F) (omega (arith, h))) ∙
    sym (append_assoc first rest (edges_to (suc o + k) (channels_at ns k (drop n X)) (channels_at ns k (drop n F)))) ∙
    ap (λ i. (first ++ rest) ++ edges_to i (channels_at ns k (drop n X)) (channels_at ns k (drop n F))) (plus-suc o k) ∙
    ap₂ (λ cs fs. (first ++ rest) ++ edges_to (o + suc k) (take count cs) (take count fs)) (sym (drop-more n before X)) (sym (drop-more n before F))

edges-step : (ns : List ℕ) (k : ℕ) (X : List Source) (F : List Bool) (list longer : List (ℕ × ℕ)) → k < length ns → longer ≡ list ++ edges_to k (channels_at ns k X) (channels_at ns k F) → list ≡ edges_from 0 (take k ns) X F → longer ≡ edges_from 0 (take (k + 1) ns) X F
edges-step ns k X F list longer h e before =
    let same : k ≡ 0 + k = omega arith in
    e ∙
    ap (λ es. es ++ edges_to k (channels_at ns k X) (channels_at ns k F)) before ∙
    ap (λ i. edges_from 0 (take k ns) X F ++ edges_to i (channels_at ns k X) (channels_at ns k F)) same ∙
    sym (edges-more 0 ns k X F h) ∙
    ap (λ n. edges_from 0 (take n ns) X F) (sym (one-more k))

-- so many from a number on are those between it and their sum
pub slice-is : {B : Type 0} (X : List B) (first count end : ℕ) → end ≡ first + count → slice_range X first end ≡ take count (drop first X)
slice-is X first count end e = let left : end - first ≡ count = omega (arith, e) in ap (λ n. take n (drop first X)) left

-- the channels of one child more
pub edges-next : (ns : List ℕ) (k : ℕ) (S : List core.Source) (F : List Bool) (first end : ℕ) (list longer : List (ℕ × ℕ)) → k < length ns → first ≡ total (take k ns) → end ≡ first + get_or ns k 0 → longer ≡ list ++ edges_to k (map source_of (slice_range S first end)) (slice_range F first end) →
    list ≡ edges_from 0 (take k ns) (map source_of S) F → longer ≡ edges_from 0 (take (k + 1) ns) (map source_of S) F
edges-next ns k S F first end list longer h o e more before =
    let count : ℕ = get_or ns k 0 in
    let channels : map source_of (slice_range S first end) ≡ channels_at ns k (map source_of S) =
    ap (λ (v : List core.Source). map source_of v) (slice-is S first count end e) ∙ sym (take-map source_of count (drop first S)) ∙ ap (λ (v : List Source). take count v) (sym (drop-map source_of first S)) ∙ ap (λ n. take count (drop n (map source_of S))) o in
    let flags : slice_range F first end ≡ channels_at ns k F = slice-is F first count end e ∙ ap (λ n. take count (drop n F)) o in
    edges-step ns k (map source_of S) F list longer h (more ∙ ap₂ (λ cs fs. list ++ edges_to k cs fs) channels flags) before

-- ---- channel by channel

edges-to-more : (i : ℕ) (X : List Source) (F : List Bool) (k : ℕ) (c : Source) → k < length X → length F ≡ length X → edges_to i (take (suc k) X) F ≡ edges_to i (take k X) F ++ edge_of i (get_or X k c) (get_or F k false)
edges-to-more i [] F k c h e = absurd (omega (arith, h))
edges-to-more i (x ∷ X) [] k c h e = absurd (omega (arith, e))
edges-to-more i (x ∷ X) (f ∷ F) zero c h e = append-nil (edge_of i x f)
edges-to-more i (x ∷ X) (f ∷ F) (suc k) c h e =
    ap (λ es. edge_of i x f ++ es) (edges-to-more i X F k c (omega (arith, h)) (omega (arith, e))) ∙
    sym (append_assoc (edge_of i x f) (edges_to i (take k X) F) (edge_of i (get_or X k c) (get_or F k false)))

-- one channel more, behind the edges that were there before
pub edges-to-step : (i : ℕ) (S : List core.Source) (F : List Bool) (k : ℕ) (d : core.Source) (start list longer : List (ℕ × ℕ)) → k < length S → length F ≡ length S → longer ≡ list ++ edge_of i (source_of (get_or S k d)) (get_or F k false) → list ≡ start ++ edges_to i (take k (map source_of S)) F →
    longer ≡ start ++ edges_to i (take (k + 1) (map source_of S)) F
edges-to-step i S F k d start list longer h e more before =
    let X : List Source = map source_of S in
    let long : length X ≡ length S = length-map S source_of in
    let its : get_or X k (source_of d) ≡ source_of (get_or S k d) = get-or-map source_of S k d (source_of d) h in
    let edge : List (ℕ × ℕ) = edge_of i (get_or X k (source_of d)) (get_or F k false) in
    more ∙
    ap (λ c. list ++ edge_of i c (get_or F k false)) (sym its) ∙
    ap (λ es. es ++ edge) before ∙
    append_assoc start (edges_to i (take k X) F) edge ∙
    ap (λ es. start ++ es) (sym (edges-to-more i X F k (source_of d) (omega (arith, h, long)) (omega (arith, e, long)))) ∙
    ap (λ n. start ++ edges_to i (take n X) F) (sym (one-more k))

-- ---- an edge is a channel that ends at a place which is no delay

get-take : {B : Type 0} (n q : ℕ) (X : List B) → q < n → get (take n X) q ≡ get X q
get-take zero q X h = absurd (omega (arith, h))
get-take (suc n) q [] h = refl
get-take (suc n) zero (x ∷ X) h = refl
get-take (suc n) (suc q) (x ∷ X) h = get-take n q X (omega (arith, h))

get-drop : {B : Type 0} (n : ℕ) (X : List B) (q : ℕ) → get (drop n X) q ≡ get X (n + q)
get-drop zero X q = let same : q ≡ 0 + q = omega arith in ap (λ k. get X k) same
get-drop {B} (suc n) [] q = refl
get-drop (suc n) (x ∷ X) q = let same : suc (n + q) ≡ suc n + q = omega arith in get-drop n X q ∙ ap (λ k. get (x ∷ X) k) same

-- the source of a channel, if there is one
abbrev pub source_by : List Source → List ℕ → ℕ → ℕ → Option Source
source_by X ns i q = if_there (get X) (channel_at ns i q)

none-some : {B : Type 0} (x : B) → None ≡ Some x → ⊥
none-some x e = cc

some-there : (X : List Source) (n : ℕ) (o : Option ℕ) → if_there (get X) (further n o) ≡ if_there (get (drop n X)) o
some-there X n None = refl
some-there X n (Some c) = sym (get-drop n X c)

-- the first child's places are the first, and those of the others come after them
source-later : (X : List Source) (n : ℕ) (ns : List ℕ) (i q : ℕ) → source_by X (n ∷ ns) (suc i) q ≡ source_by (drop n X) ns i q
source-later X n ns i q = some-there X n (channel_at ns i q)

at-first : (X : List Source) (n q : ℕ) (c : Source) (b : Bool) → nat_lt q n ≡ b → if_there (get X) (if b then Some q else None) ≡ Some c → (q < n) × (get X q ≡ Some c)
at-first X n q c true t e = (grind (arith, nat_tests, t), e)
at-first X n q c false t e = absurd (none-some c e)

source-first : (X : List Source) (n : ℕ) (ns : List ℕ) (q : ℕ) (c : Source) → source_by X (n ∷ ns) 0 q ≡ Some c → (q < n) × (get X q ≡ Some c)
source-first X n ns q c e = at-first X n q c (nat_lt q n) refl e

first-source : (X : List Source) (n : ℕ) (ns : List ℕ) (q : ℕ) → q < n → source_by X (n ∷ ns) 0 q ≡ get X q
first-source X n ns q h = let t : nat_lt q n ≡ true = grind (arith, nat_tests, h) in ap (λ (b : Bool). if_there (get X) (if b then Some q else None)) t

to-edge : (i : ℕ) (X : List Source) (F : List Bool) (q j port : ℕ) → get X q ≡ Some (Output j port) → get_or F q false ≡ false → length F ≡ length X → Contains (edges_to i X F) (j, i)
to-edge i [] F q j port e d l = absurd (none-some (Output j port) e)
to-edge i (x ∷ X) [] q j port e d l = absurd (omega (arith, l))
to-edge i (Own p ∷ X) (f ∷ F) zero j port e d l = absurd (cc)
to-edge i (Output k p ∷ X) (true ∷ F) zero j port e d l = absurd (cc)
to-edge i (Output k p ∷ X) (false ∷ F) zero j port e d l = let same : k ≡ j = cc in subst (λ a. Contains ((k, i) ∷ edges_to i X F) (a, i)) same (contains-head (k, i) (edges_to i X F))
to-edge i (x ∷ X) (f ∷ F) (suc q) j port e d l = Contains-append_right (edge_of i x f) (edges_to i X F) (j, i) (to-edge i X F q j port e d (omega (arith, l)))

-- a channel that ends at a place of child i which is no delay
pub record Channel (X : List Source) (F : List Bool) (ns : List ℕ) (j i : ℕ) : Type 0 where
  pub place : ℕ
  pub port : ℕ
  pub source : source_by X ns i place ≡ Some (Output j port)
  pub undelayed : get_or (places_at ns i F) place false ≡ false

pub channel-edge : (o : ℕ) (ns : List ℕ) (X : List Source) (F : List Bool) (j i : ℕ) → length F ≡ length X → Channel X F ns j i → Contains (edges_from o ns X F) (j, o + i)
channel-edge o [] X F j i l c = absurd (none-some (Output j c.port) c.source)
channel-edge o (n ∷ ns) X F j zero l c =
    let at : (c.place < n) × (get X c.place ≡ Some (Output j c.port)) = source-first X n ns c.place (Output j c.port) c.source in
    let long : length (take n F) ≡ length (take n X) = omega (arith, length-take n F, length-take n X, l) in
    let there : Contains (edges_to o (take n X) (take n F)) (j, o) = to-edge o (take n X) (take n F) c.place j c.port (get-take n c.place X at.0 ∙ at.1) c.undelayed long in
    subst (λ a. Contains (edges_from o (n ∷ ns) X F) (j, a)) (sym (plus-zero o)) (Contains-append_left (edges_to o (take n X) (take n F)) (edges_from (suc o) ns (drop n X) (drop n F)) (j, o) there)
channel-edge o (n ∷ ns) X F j (suc i) l c =
    let later : Channel (drop n X) (drop n F) ns j i = record {
      place = c.place;
      port = c.port;
      source = sym (source-later X n ns i c.place) ∙ c.source;
      undelayed = subst (λ fs. get_or fs c.place false ≡ false) (places-later n ns i F) c.undelayed;
    } in
    let long : length (drop n F) ≡ length (drop n X) = omega (arith, length-drop n F, length-drop n X, l) in
    subst (λ a. Contains (edges_from o (n ∷ ns) X F) (j, a)) (plus-suc o i) (Contains-append_right (edges_to o (take n X) (take n F)) (edges_from (suc o) ns (drop n X) (drop n F)) (j, suc o + i) (channel-edge (suc o) ns (drop n X) (drop n F) j i long later))

-- and each edge is of such a channel
record EdgeTo (i : ℕ) (X : List Source) (F : List Bool) (j t : ℕ) : Type 0 where
  place : ℕ
  port : ℕ
  source : get X place ≡ Some (Output j port)
  undelayed : get_or F place false ≡ false
  ends : t ≡ i

further-on : (i : ℕ) (x : Source) (f : Bool) (X : List Source) (F : List Bool) (j t : ℕ) → EdgeTo i X F j t → EdgeTo i (x ∷ X) (f ∷ F) j t
further-on i x f X F j t e = record { place = suc e.place; port = e.port; source = e.source; undelayed = e.undelayed; ends = e.ends }

none-in : (j t : ℕ) → Contains {X = ℕ × ℕ} [] (j, t) → ⊥
none-in j t h = omega (arith, h.1)

edge-to : (i : ℕ) (X : List Source) (F : List Bool) (j t : ℕ) → Contains (edges_to i X F) (j, t) → EdgeTo i X F j t
edge-to i [] F j t h = absurd (none-in j t h)
edge-to i (x ∷ X) [] j t h = absurd (none-in j t h)
edge-to i (Own p ∷ X) (f ∷ F) j t h = further-on i (Own p) f X F j t (edge-to i X F j t h)
edge-to i (Output k p ∷ X) (true ∷ F) j t h = further-on i (Output k p) true X F j t (edge-to i X F j t h)
edge-to i (Output k p ∷ X) (false ∷ F) j t h = elim (contains-cases (k, i) (edges_to i X F) (j, t) h) [
  | inl e ↦ record { place = 0; port = p; source = ap (λ (x : ℕ × ℕ). Some (Output x.0 p)) e; undelayed = refl; ends = sym (ap (λ (x : ℕ × ℕ). x.1) e) }
  | inr r ↦ further-on i (Output k p) false X F j t (edge-to i X F j t r)
]

-- the child at which an edge ends, and its channel
pub record Edge (o : ℕ) (X : List Source) (F : List Bool) (ns : List ℕ) (j t : ℕ) : Type 0 where
  pub child : ℕ
  pub ends : t ≡ o + child
  pub inside : child < length ns
  pub channel : Channel X F ns j child

pub edge-channel : (o : ℕ) (ns : List ℕ) (X : List Source) (F : List Bool) (j t : ℕ) → Contains (edges_from o ns X F) (j, t) → Edge o X F ns j t
edge-channel o [] X F j t h = absurd (none-in j t h)
edge-channel o (n ∷ ns) X F j t h = elim (Contains-append_cases (edges_to o (take n X) (take n F)) (edges_from (suc o) ns (drop n X) (drop n F)) (j, t) h) [
  | inl f ↦
      let e : EdgeTo o (take n X) (take n F) j t = edge-to o (take n X) (take n F) j t f in
      let short : e.place < n = omega (arith, get-short (take n X) e.place (Output j e.port) e.source, length-take n X) in
      record {
        child = 0;
        ends = e.ends ∙ sym (plus-zero o);
        inside = omega arith;
        channel = record { place = e.place; port = e.port; source = first-source X n ns e.place short ∙ sym (get-take n e.place X short) ∙ e.source; undelayed = e.undelayed };
      }
  | inr l ↦
      let e : Edge (suc o) (drop n X) (drop n F) ns j t = edge-channel (suc o) ns (drop n X) (drop n F) j t l in
      record {
        child = suc e.child;
        ends = e.ends ∙ plus-suc o e.child;
        inside = omega (arith, e.inside);
        channel = record {
          place = e.channel.place;
          port = e.channel.port;
          source = source-later X n ns e.child e.channel.place ∙ e.channel.source;
          undelayed = subst (λ fs. get_or fs e.channel.place false ≡ false) (sym (places-later n ns e.child F)) e.channel.undelayed;
        };
      }
]

-- the source of such a channel is among those of the composite
pub among : (X : List Source) (ns : List ℕ) (i q : ℕ) (c : Source) → source_by X ns i q ≡ Some c → (k : ℕ) × (get X k ≡ Some c)
among X ns i q c e = by (channel_at ns i q) e
  where
    by : (o : Option ℕ) → if_there (get X) o ≡ Some c → (k : ℕ) × (get X k ≡ Some c)
    by None h = absurd (none-some c h)
    by (Some k) h = (k, h)
