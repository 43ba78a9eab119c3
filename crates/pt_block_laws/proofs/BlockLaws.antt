-- A block of iterations is these iterations, one after another.
use Rattle.std.proofs.Common.{◌≡◌, ℕ, zero, suc, ◌+◌, ◌*◌, ◌≤◌, ◌<◌, min, List, [], ◌∷◌, ◌++◌, length, take, drop, get_or, map, refl, sym, ap, ap₂, subst, ◌∙◌, ◌-◌, Bool, true, false, nat_le, leb-true, leb-false, arith}
use Rattle.pt_meaning.specs.Tag.{Tag}
use Rattle.pt_meaning.specs.Streams.{Streams, at}
use Rattle.pt_meaning.specs.Machine.{Stepping, Facts}
use Rattle.pt_meaning.specs.Net.{Source, Own, Output, Net}
use Rattle.pt_meaning.specs.Running.{total}
use Rattle.pt_laws.proofs.Indexed.{streams-same}
use Rattle.pt_block_laws.specs.Firings.{Firings, later, gathered, before, AreMade}
use Rattle.pt_block_laws.specs.Iteration.{first_place, IsFedBy, IsInOrder, given_on, MakesAll, IsIteration}
use Rattle.pt_block_laws.specs.Block.{part, IsInner, rate_of, IsPassed, IsBlock, empty, from_iteration, states_at, sent_in, BlockIsIterations}
use Rattle.pt_block_laws.proofs.FlowLaws.{before-length}
use Rattle.pt_block_laws.proofs.RoundLaws.{at-take, at-drop, take-width, place-there}
use Rattle.pt_block_laws.proofs.PartLaws.{later-state, later-takes, later-gives, made-later, parts-gathered, before-empty}

-- ---- numbers

pub le-times : (t m q : ℕ) → t ≤ m → t * q ≤ m * q
le-times zero m q l = let z : 0 * q ≡ 0 = omega arith in omega (arith, z)
le-times (suc t) zero q l = absurd (omega (arith, l))
le-times (suc t) (suc m) q l =
    let h = le-times t m q (omega (arith, l)) in
    let a : (suc t) * q ≡ t * q + q = omega arith in
    let b : (suc m) * q ≡ m * q + q = omega arith in
    omega (arith, h, a, b)

-- an iteration before the last
pub within-block : (t m q : ℕ) → t < m → t * q + 1 * q ≤ m * q
within-block t m q l =
    let h = le-times (suc t) m q (omega (arith, l)) in
    let a : (suc t) * q ≡ t * q + q = omega arith in
    let b : 1 * q ≡ q = omega arith in
    omega (arith, h, a, b)

-- ---- lists

pub at-empty : {A T : Type 0} (xs : List A) (c : ℕ) → at {T = T} (empty xs) c ≡ []
at-empty [] c = refl
at-empty (x ∷ xs) zero = refl
at-empty (x ∷ xs) (suc c) = at-empty xs c

pub empty-length : {A : Type 0} (T : Type 0) (xs : List A) → length (empty {T = T} xs) ≡ length xs
empty-length T [] = refl
empty-length T (x ∷ xs) = let h = empty-length T xs in omega (arith, h)

at-map : {A T : Type 0} (f : A → List T) (cs : List A) (c : ℕ) (d : A) → c < length cs → at (map f cs) c ≡ f (get_or cs c d)
at-map f [] c d l = absurd (omega (arith, l))
at-map f (x ∷ cs) zero d l = refl
at-map f (x ∷ cs) (suc c) d l = at-map f cs c d (omega (arith, l))

map-length : {A B : Type 0} (f : A → B) (xs : List A) → length (map f xs) ≡ length xs
map-length f [] = refl
map-length f (x ∷ xs) = let h = map-length f xs in omega (arith, h)

pub states-length : {T S : Type 0} (t : ℕ) (qs : List ℕ) (does : ℕ → Firings T S) → length (states_at t qs does) ≡ length qs
states-length t [] does = refl
states-length t (q ∷ qs) does = let h = states-length t qs (λ i. does (suc i)) in omega (arith, h)

pub states-get : {T S : Type 0} (t : ℕ) (qs : List ℕ) (does : ℕ → Firings T S) (i : ℕ) (d : S) → i < length qs → get_or (states_at t qs does) i d ≡ (does i).state (t * get_or qs i 0)
states-get t [] does i d l = absurd (omega (arith, l))
states-get t (q ∷ qs) does zero d l = refl
states-get t (q ∷ qs) does (suc i) d l = states-get t qs (λ j. does (suc j)) i d (omega (arith, l))

place-length : (ns : List ℕ) (i : ℕ) → i < length ns → first_place ns i + get_or ns i 0 ≤ total ns
place-length [] i l = absurd (omega (arith, l))
place-length (n ∷ ns) zero l = omega arith
place-length (n ∷ ns) (suc i) l = let h = place-length ns i (omega (arith, l)) in omega (arith, h)

pub drop-count : {A : Type 0} (o : ℕ) (X : List A) → o ≤ length X → length (drop o X) + o ≡ length X
drop-count zero X l = omega arith
drop-count (suc o) [] l = absurd (omega (arith, l))
drop-count (suc o) (x ∷ X) l = let h = drop-count o X (omega (arith, l)) in omega (arith, h)

inner-fed : (order : List ℕ) (s : Source) → IsInner order s → IsFedBy order s
inner-fed order (Own port) h = absurd h
inner-fed order (Output j port) h = h

-- each channel within the places is that of a place
abbrev IsPlace : List ℕ → ℕ → Type 0
IsPlace ns c = (i : ℕ) × (p : ℕ) × (i < length ns) × (p < get_or ns i 0) × (c ≡ first_place ns i + p)

place-by : (n : ℕ) (ns : List ℕ) (c : ℕ) → (n ≤ c → IsPlace ns (c - n)) → (b : Bool) → nat_le (suc c) n ≡ b → IsPlace (n ∷ ns) c
place-by n ns c more true e = (0, c, omega arith, (let h = leb-true (suc c) n e in omega (arith, h)), omega arith)
place-by n ns c more false e =
    let far : n ≤ c = (let h = leb-false (suc c) n e in omega (arith, h)) in
    let r = more far in
    let there = r.2 in
    let same = r.4 in
    (suc r.0, r.1, omega (arith, there), r.3, omega (arith, same, far))

place-of : (ns : List ℕ) (c : ℕ) → c < total ns → IsPlace ns c
place-of [] c l = absurd (omega (arith, l))
place-of (n ∷ ns) c l = place-by n ns c (λ far. place-of ns (c - n) (omega (arith, l, far))) (nat_le (suc c) n) refl

pub inner-all : {T : Type 0} (m : ℕ) (net : Net) (qs : List ℕ) (rates : List (List ℕ)) (needs : ℕ → List ℕ) (takes gives : ℕ → ℕ → Streams T) (row : ℕ → List T) (order : List ℕ) → IsPassed m net qs rates needs takes gives row order → (c : ℕ) → c < length net.sources →
    IsInner order (get_or net.sources c (Own 0))
inner-all m net qs rates needs takes gives row order h c l =
    let r = place-of net.places c (let e = h.placed in omega (arith, l, e)) in
    subst (λ v. IsInner order (get_or net.sources v (Own 0))) (sym r.4) (h.inner r.0 r.1 r.2 r.3)

module _ {T S : Type 0} (facts : Facts T S) (step : Stepping T S) (tag : Tag) (m : ℕ) (net : Net) (qs : List ℕ) (rates : List (List ℕ)) (needs : ℕ → List ℕ) (does : ℕ → Firings T S) (row : ℕ → List T) (order : List ℕ)
    (b : IsBlock facts step tag m net qs rates needs does row order) (t : ℕ) (some : t < m) where
  made-in : (i : ℕ) → i < length net.places → AreMade facts step tag (needs i) (get_or rates i []) (1 * get_or qs i 0) (from_iteration t qs does i)
  made-in i l =
      let few = within-block t m (get_or qs i 0) some in
      made-later facts step tag (needs i) (get_or rates i []) (t * get_or qs i 0) (1 * get_or qs i 0) (does i) (λ k o. b.make i l k (omega (arith, o, few)))

  -- what comes in the iteration on a channel is what its child takes
  passes : (i p : ℕ) → i < length net.places → p < get_or net.places i 0 → (s : Source) → get_or net.sources (first_place net.places i + p) (Own 0) ≡ s → IsInner order s →
      given_on 1 qs (from_iteration t qs does) s ≡ at (gathered (1 * get_or qs i 0) (from_iteration t qs does i).takes) p
  passes i p l o (Own port) e h = absurd h
  passes i p l o (Output j port) e h =
      let c : ℕ = first_place net.places i + p in
      let rate : ℕ = rate_of rates (Output j port) in
      let need : ℕ = get_or (needs i) p 0 in
      let qi : ℕ = get_or qs i 0 in
      let qj : ℕ = get_or qs j 0 in
      let few_i = within-block t m qi some in
      let few_j = within-block t m qj some in
      let gives = parts-gathered rate (1 * qj) (t * qj) port (row c) (from_iteration t qs does j).gives (λ k u. ap (λ g. at g port) (later-gives (t * qj) k (does j)) ∙ b.passed.given i p j port (t * qj + k) l o e (omega (arith, u, few_j))) in
      let takes = parts-gathered need (1 * qi) (t * qi) p (row c) (from_iteration t qs does i).takes (λ k u. ap (λ g. at g p) (later-takes (t * qi) k (does i)) ∙ b.passed.taken i p (t * qi + k) l o (omega (arith, u, few_i))) in
      let same : qi * need ≡ qj * rate = b.passed.balanced i p j port l o e in
      let one_i : 1 * qi * need ≡ qi * need = grind arith in
      let one_j : 1 * qj * rate ≡ qj * rate = grind arith in
      let at_i : t * qi * need ≡ t * (qi * need) = grind arith in
      let at_j : t * qj * rate ≡ t * (qj * rate) = grind arith in
      gives ∙
      ap₂ (λ x y. take x (drop y (row c))) (one_j ∙ sym same ∙ sym one_i) (at_j ∙ ap (λ v. t * v) (sym same) ∙ sym at_i) ∙
      sym takes

  pub block-iteration : IsIteration facts step tag 1 net qs rates (states_at t qs does) (empty net.sources) (sent_in t qs does net.sources) needs (from_iteration t qs does) (λ i. empty (needs i)) order
  block-iteration = record {
    repetitions = b.passed.repetitions;
    rated = b.passed.rated;
    children = states-length t qs does ∙ b.passed.repetitions;
    started = empty-length T net.sources;
    channels = map-length (λ c. given_on 1 qs (from_iteration t qs does) c) net.sources;
    placed = let e = b.passed.placed in omega (arith, e);
    make = λ i l. record {
      begins = λ d. states-get t qs does i d (let e = b.passed.repetitions in omega (arith, l, e)) ∙ sym (later-state (t * get_or qs i 0) 0 (does i) ∙ ap (λ n. (does i).state n) (let e : t * get_or qs i 0 + 0 ≡ t * get_or qs i 0 = omega arith in e));
      made = made-in i l;
      wide = empty-length T (needs i);
      takes =
          let n : ℕ = get_or net.places i 0 in
          let o : ℕ = first_place net.places i in
          let X : Streams T = sent_in t qs does net.sources in
          let Y : Streams T = before (1 * get_or qs i 0) (from_iteration t qs does i).takes (empty (needs i)) in
          let all : length X ≡ length net.sources = map-length (λ c. given_on 1 qs (from_iteration t qs does) c) net.sources in
          let enough = place-length net.places i l in
          let behind = drop-count o X (let e = b.passed.placed in omega (arith, all, enough, e)) in
          let wide = take-width n (drop o X) in
          let width : length (take n (drop o X)) ≡ n = (let e = b.passed.placed in omega (arith, wide, behind, enough, all, e)) in
          let taken : length Y ≡ length (needs i) = before-length facts step tag (needs i) (get_or rates i []) (1 * get_or qs i 0) (from_iteration t qs does i) (empty (needs i)) (made-in i l) (empty-length T (needs i)) in
          streams-same (take n (drop o X)) Y (width ∙ sym (b.passed.wide i l) ∙ sym taken)
          (λ p u.
          let few : p < n = omega (arith, u, width) in
          let here : o + p < length net.sources = (let there = place-there net.places i p l few in let e = b.passed.placed in omega (arith, there, e)) in
          at-take n p (drop o X) few ∙ at-drop o p X ∙
          at-map (λ c. given_on 1 qs (from_iteration t qs does) c) net.sources (o + p) (Own 0) here ∙
          passes i p l few (get_or net.sources (o + p) (Own 0)) refl (b.passed.inner i p l few) ∙
          sym (before-empty (1 * get_or qs i 0) p (from_iteration t qs does i).takes (needs i)));
    };
    fed = λ c l.
        at-map (λ c. given_on 1 qs (from_iteration t qs does) c) net.sources c (Own 0) l ∙
        ap (λ v. v ++ given_on 1 qs (from_iteration t qs does) (get_or net.sources c (Own 0))) (sym (at-empty net.sources c));
    ordered = b.passed.ordered;
    complete = λ c l. inner-fed order (get_or net.sources c (Own 0)) (inner-all m net qs rates needs (λ i. (does i).takes) (λ i. (does i).gives) row order b.passed c l);
  }

pub block-is-iterations : {T S : Type 0} → BlockIsIterations T S
block-is-iterations facts step tag m net qs rates needs does row order b t l = block-iteration facts step tag m net qs rates needs does row order b t l
