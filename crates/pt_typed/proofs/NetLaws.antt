-- Along each channel of a composite of a net types go up, in the numbers that its director uses.
use Rattle.std.proofs.Common.{◌≡◌, ℕ, zero, suc, ◌+◌, List, [], ◌∷◌, ◌++◌, Bool, true, false, ◌&&◌, not, nat_eq, length, take, map, Option, Some, refl, sym, ap, ap₂, subst, arith, ◌∙◌, append_assoc, slice_get, if◌then◌else◌}
use Rattle.std.specs.Prelude.{filter, flat_map, count_by}
use Rattle.std.specs.List.{AllByRecursion, Contains}
use Rattle.std.proofs.lemmas.Bool.{eq-eqb, ne_eqb, eqb-true}
use Rattle.std.proofs.lemmas.Option.{same_Some}
use Rattle.std.specs.Option.{option_and_then}
use Rattle.pt_meaning.specs.Basics.{Path}
use Rattle.std.proofs.lemmas.List.{length-map}
use Rattle.std.proofs.lemmas.List.Sums.{length-filter}
use Rattle.std.proofs.lemmas.List.Elements.{All-contains_itself, recursion_from_All}
use Rattle.pt_meaning.specs.Streams.{get}
use Rattle.pt_meaning.specs.Net.{Source, Own, Output}
use Rattle.pt_document.specs.declared.job.Port.{Port}
use Rattle.pt_datatypes.specs.Datatype.{Datatype}
use Rattle.pt_datatypes.specs.Order.{IsBelow}
use Rattle.pt_net.specs.declared.net.Channel.{Channel}
use Rattle.pt_net.specs.declared.net.Net.{Net}
use Rattle.pt_net.specs.declared.net.NetDirector.{NetDirector}
use Rattle.pt_net.specs.declared.net.NetEntity.{NetEntity}
use Rattle.pt_net.specs.Inside.{children_of, child_number, is_input, is_output, number_by, port_number, ports_in, ports_at, source_of, is_within, channels_in, comes_to, place_count}
use Rattle.pt_typing.specs.declared.variable.Variable.TheVariants as variable
use Rattle.pt_scopes.specs.Scopes.{is_composite_class}
use Rattle.pt_typing.specs.Least.{Assignment}
use Rattle.pt_order.proofs.Children.{child-number, child-stands, get-is}
use Rattle.pt_kinds.specs.Signature.{Signature, Signatures, below}
use Rattle.pt_kinds.specs.TypedTree.{kind_of, kinds_from, AreSized, IsFed, AreFed}
use Rattle.pt_cover.specs.Paths.{entity_at}
use Rattle.pt_typed.specs.NetTypes.{source_type, place_type, TypesGoUp, arrivals, goes_out, departures, number_if, port_numbers, port_types, by_class, types_of, types_at, types_below, BeginsIn, at_own, at_child, IsWired}

-- ---- lists

pub get-map : {X Y : Type 0} (f : X → Y) (xs : List X) (n : ℕ) (x : X) → get xs n ≡ Some x → get (map f xs) n ≡ Some (f x)
get-map f [] n x e = absurd (cc)
get-map f (y ∷ xs) zero x e = let same : y ≡ x = cc in ap (λ v. Some (f v)) same
get-map f (y ∷ xs) (suc n) x e = get-map f xs n x e

-- ---- the numbers of ports

skip-number : (b : Bool) (i : ℕ) (ns : List ℕ) (q : Port) (qs : List Port) (r : Option ℕ) → get ns (length qs) ≡ r → get (number_if b i ns) (length (if b then q ∷ qs else qs)) ≡ r
skip-number true i ns q qs r h = h
skip-number false i ns q qs r h = h

first-number : (b : Bool) (i : ℕ) (ns : List ℕ) → b ≡ true → get (number_if b i ns) 0 ≡ Some i
first-number true i ns e = refl
first-number false i ns e = absurd (cc)

-- so many ports of its direction stand before port n
numbered-at : (test : Port → Bool) (i : ℕ) (ps : List Port) (n : ℕ) (p : Port) → slice_get ps n ≡ Some p → test p ≡ true → get (port_numbers test i ps) (length (filter test (take n ps))) ≡ Some (i + n)
numbered-at test i [] n p e t = absurd (cc)
numbered-at test i (q ∷ ps) zero p e t =
    let same : q ≡ p = cc in
    first-number (test q) i (port_numbers test (suc i) ps) (ap test same ∙ t) ∙ ap (λ v. Some v) (let z : i ≡ i + 0 = omega arith in z)
numbered-at test i (q ∷ ps) (suc n) p e t =
    skip-number (test q) i (port_numbers test (suc i) ps) q (filter test (take n ps)) (Some (i + suc n)) (numbered-at test (suc i) ps n p e t ∙ ap (λ v. Some v) (let z : suc i + n ≡ i + suc n = omega arith in z))

pub number-at : (test : Port → Bool) (ps : List Port) (n : ℕ) (p : Port) → slice_get ps n ≡ Some p → test p ≡ true → get (port_numbers test 0 ps) (count_by test (take n ps)) ≡ Some n
number-at test ps n p e t =
    subst (λ m. get (port_numbers test 0 ps) m ≡ Some n) (length-filter test (take n ps)) (numbered-at test 0 ps n p e t ∙ ap (λ v. Some v) (let z : 0 + n ≡ n = omega arith in z))

-- ---- the numbers of sources

input-number : (ps : List Port) (n : ℕ) (p : Port) → slice_get ps n ≡ Some p → is_input p ≡ true → port_number ps n ≡ count_by is_input (take n ps)
input-number ps n p e t = ap (number_by (take n ps)) e ∙ ap (λ b. if b then count_by is_input (take n ps) else count_by is_output (take n ps)) t

not-input : (b : Bool) → not b ≡ true → b ≡ false
not-input true e = absurd (cc)
not-input false e = refl

output-number : (ps : List Port) (n : ℕ) (p : Port) → slice_get ps n ≡ Some p → is_output p ≡ true → port_number ps n ≡ count_by is_output (take n ps)
output-number ps n p e t = ap (number_by (take n ps)) e ∙ ap (λ b. if b then count_by is_input (take n ps) else count_by is_output (take n ps)) (not-input (is_input p) t)

pub map-append : {X Y : Type 0} (f : X → Y) (xs ys : List X) → map f (xs ++ ys) ≡ map f xs ++ map f ys
map-append f [] ys = refl
map-append f (x ∷ xs) ys = ap (λ v. f x ∷ v) (map-append f xs ys)

-- ---- the channels of a composite

filtered-by : {X : Type 0} (P : X → Type 0) (test : X → Bool) (x : X) (ys : List X) (b : Bool) → test x ≡ b → P x → AllByRecursion (λ y. P y × (test y ≡ true)) ys → AllByRecursion (λ y. P y × (test y ≡ true)) (if b then x ∷ ys else ys)
filtered-by P test x ys true e p a = ((p, e), a)
filtered-by P test x ys false e p a = a

pub all-filtered : {X : Type 0} (P : X → Type 0) (test : X → Bool) (xs : List X) → AllByRecursion P xs → AllByRecursion (λ x. P x × (test x ≡ true)) (filter test xs)
all-filtered P test [] a = tt
all-filtered P test (x ∷ xs) a = filtered-by P test x (filter test xs) (test x) refl a.0 (all-filtered P test xs a.1)

-- the types of the channels that end at an entity
pub types-at-ends : (typing : Assignment) (k : ℕ) (cs : List Channel) → AllByRecursion (λ (c : Channel). c.to.entity ≡ k) cs → map (place_type typing) cs ≡ port_types typing k (map (λ (c : Channel). c.to.port) cs)
types-at-ends typing k [] a = refl
types-at-ends typing k (c ∷ cs) a = ap₂ (λ t ts. t ∷ ts) (ap (λ n. typing.types (variable.Port n c.to.port)) a.0) (types-at-ends typing k cs a.1)

all-implied : {X : Type 0} (P Q : X → Type 0) → ((x : X) → P x → Q x) → (xs : List X) → AllByRecursion P xs → AllByRecursion Q xs
all-implied P Q h [] a = tt
all-implied P Q h (x ∷ xs) a = (h x a.0, all-implied P Q h xs a.1)

pub and-first : (a b : Bool) → (a && b) ≡ true → a ≡ true
and-first true b e = refl
and-first false b e = e

-- what comes to an entity ends there
pub ends-of : (net : Net) (k : ℕ) → AllByRecursion (λ (c : Channel). c.to.entity ≡ k) (arrivals net.channels.items k)
ends-of net k =
    let ks = net.channels.items in
    all-implied (λ (x : Channel). Contains ks x × (comes_to k x ≡ true)) (λ (x : Channel). x.to.entity ≡ k) (λ x h. eqb-true x.to.entity k (and-first (nat_eq x.to.entity k) (not (nat_eq x.composite k)) h.1)) (arrivals ks k)
    (all-filtered (Contains ks) (comes_to k) ks (recursion_from_All (Contains ks) ks (All-contains_itself ks)))

module _ (net : Net) (typing : Assignment) (wired : IsWired net) where
  abbrev es : List NetEntity
  es = net.entities.items

  abbrev ks : List Channel
  ks = net.channels.items

  pub their-own : AllByRecursion (Contains ks) ks
  their-own = recursion_from_All (Contains ks) ks (All-contains_itself ks)

  -- what ends at a composite ends at its inputs, and its own outputs' channels end at these
  pub input-types : (k c : ℕ) (e f : NetEntity) (d : NetDirector) → slice_get es k ≡ Some e → is_composite_class e.class ≡ true → e.parent ≡ Some c → slice_get es c ≡ Some f → f.director ≡ Some d → map (place_type typing) (arrivals ks k) ≡ port_types typing k (port_numbers is_input 0 e.ports.items)
  input-types k c e f d at class round holder directed =
      types-at-ends typing k (arrivals ks k) (all-implied (λ (x : Channel). Contains ks x × (comes_to k x ≡ true)) (λ (x : Channel). x.to.entity ≡ k) (λ x h. eqb-true x.to.entity k (and-first (nat_eq x.to.entity k) (not (nat_eq x.composite k)) h.1)) (arrivals ks k) (all-filtered (Contains ks) (comes_to k) ks their-own))
      ∙ ap (port_types typing k) (wired.inputs k c e f d at class round holder directed)

  pub output-types : (k : ℕ) (e : NetEntity) (d : NetDirector) → slice_get es k ≡ Some e → e.director ≡ Some d → map (place_type typing) (departures ks k) ≡ port_types typing k (port_numbers is_output 0 e.ports.items)
  output-types k e d at directed =
      types-at-ends typing k (departures ks k) (all-implied (λ (x : Channel). Contains ks x × (goes_out k x ≡ true)) (λ (x : Channel). x.to.entity ≡ k) (λ x h. eqb-true x.to.entity k (and-first (nat_eq x.to.entity k) (nat_eq x.composite k) h.1)) (departures ks k) (all-filtered (Contains ks) (goes_out k) ks their-own))
      ∙ ap (port_types typing k) (wired.outputs k e d at directed)

  -- the types at the places of an entity in a composite with a director are those of the channels that end there
  pub places-are : (k c : ℕ) (e f : NetEntity) (d : NetDirector) → slice_get es k ≡ Some e → e.parent ≡ Some c → slice_get es c ≡ Some f → f.director ≡ Some d → (b : Bool) → is_composite_class e.class ≡ b → (types_of net typing k (Some e)).places ≡ map (place_type typing) (arrivals ks k)
  places-are k c e f d at round holder directed false class = ap (λ b. by_class b (port_types typing k (port_numbers is_input 0 e.ports.items)) (map (place_type typing) (arrivals ks k))) class
  places-are k c e f d at round holder directed true class = ap (λ b. by_class b (port_types typing k (port_numbers is_input 0 e.ports.items)) (map (place_type typing) (arrivals ks k))) class ∙ sym (input-types k c e f d at class round holder directed)

  -- the types of the ports of a composite
  module _ (k : ℕ) (e : NetEntity) (at : slice_get es k ≡ Some e) (class : is_composite_class e.class ≡ true) where
    pub own-places : (types_below net typing k []).places ≡ port_types typing k (port_numbers is_input 0 e.ports.items)
    own-places = ap (λ (o : Option NetEntity). (types_of net typing k o).places) at ∙ ap (λ b. by_class b (port_types typing k (port_numbers is_input 0 e.ports.items)) (map (place_type typing) (arrivals ks k))) class

    pub own-outputs : (types_below net typing k []).outputs ≡ port_types typing k (port_numbers is_output 0 e.ports.items)
    own-outputs = ap (λ (o : Option NetEntity). (types_of net typing k o).outputs) at

    -- a child is below it
    pub child-below : (i c : ℕ) → slice_get (children_of es k) i ≡ Some c → below (types_below net typing k) i ≡ types_below net typing c
    child-below i c there = ap (λ (o : Option ℕ). λ (p : Path). types_at net typing (option_and_then (λ n. entity_at es n p) o)) there

  -- the type of what begins at a source
  module _ (k : ℕ) (e : NetEntity) (d : NetDirector) (at : slice_get es k ≡ Some e) (directed : e.director ≡ Some d) (class : is_composite_class e.class ≡ true) where
    pub source-kind : (x : Channel) → x.composite ≡ k → BeginsIn net x → kind_of (types_below net typing k) (source_of es x) ≡ Some (source_type typing x)
    source-kind x inside (at_own f p same there port way) =
        let n = x.from.port in
        let here : x.from.entity ≡ k = same ∙ inside in
        let one : f ≡ e = same_Some f e (sym there ∙ ap (slice_get es) here ∙ at) in
        let port' : slice_get e.ports.items n ≡ Some p = subst (λ (y : NetEntity). slice_get y.ports.items n ≡ Some p) one port in
        let own : source_of es x ≡ Own (count_by is_input (take n e.ports.items)) =
        ap (λ b. if b then Own (port_number (ports_at es x.from.entity) n) else Output (child_number es x.from.entity) (port_number (ports_at es x.from.entity) n)) (eq-eqb x.from.entity x.composite same)
        ∙ ap (λ m. Own m) (ap (λ ps. port_number ps n) (ap ports_in (ap (slice_get es) here ∙ at)) ∙ input-number e.ports.items n p port' way) in
        ap (kind_of (types_below net typing k)) own
        ∙ ap (λ ts. get ts (count_by is_input (take n e.ports.items))) (own-places k e at class)
        ∙ get-map (λ m. typing.types (variable.Port k m)) (port_numbers is_input 0 e.ports.items) (count_by is_input (take n e.ports.items)) n (number-at is_input e.ports.items n p port' way)
        ∙ ap (λ m. Some (typing.types (variable.Port m n))) (sym here)
    source-kind x inside (at_child f p other there round port way) =
        let n = x.from.port in
        let j = x.from.entity in
        let number : slice_get (children_of es k) (child_number es j) ≡ Some j = sym (get-is (children_of es k) (child_number es j)) ∙ child-number es j k f e there (round ∙ ap (λ m. Some m) inside) at in
        let out : source_of es x ≡ Output (child_number es j) (count_by is_output (take n f.ports.items)) =
        ap (λ b. if b then Own (port_number (ports_at es j) n) else Output (child_number es j) (port_number (ports_at es j) n)) (ne_eqb j x.composite other)
        ∙ ap (λ m. Output (child_number es j) m) (ap (λ ps. port_number ps n) (ap ports_in there) ∙ output-number f.ports.items n p port way) in
        ap (kind_of (types_below net typing k)) out
        ∙ ap (λ (s : Signatures Datatype). get (s []).outputs (count_by is_output (take n f.ports.items))) (child-below k e at class (child_number es j) j number)
        ∙ ap (λ (o : Option NetEntity). get (types_of net typing j o).outputs (count_by is_output (take n f.ports.items))) there
        ∙ get-map (λ m. typing.types (variable.Port j m)) (port_numbers is_output 0 f.ports.items) (count_by is_output (take n f.ports.items)) n (number-at is_output f.ports.items n p port way)

    -- ---- the kinds of its channels

    -- what stands at each place of a child
    abbrev PlacesFrom : ℕ → List ℕ → Type 0
    PlacesFrom i [] = Unit {0}
    PlacesFrom i (c ∷ cs) = ((types_below net typing k (i ∷ [])).places ≡ map (place_type typing) (arrivals ks c)) × PlacesFrom (suc i) cs

    places-from : (i : ℕ) (cs : List ℕ) → ((j c : ℕ) → slice_get cs j ≡ Some c → (types_below net typing k ((i + j) ∷ [])).places ≡ map (place_type typing) (arrivals ks c)) → PlacesFrom i cs
    places-from i [] h = tt
    places-from i (c ∷ cs) h = (
      subst (λ m. (types_below net typing k (m ∷ [])).places ≡ map (place_type typing) (arrivals ks c)) (let z : i + 0 ≡ i = omega arith in z) (h 0 c refl),
      places-from (suc i) cs (λ j b e'. subst (λ m. (types_below net typing k (m ∷ [])).places ≡ map (place_type typing) (arrivals ks b)) (let z : i + suc j ≡ suc i + j = omega arith in z) (h (suc j) b e')),
    )

    place-at : (j c : ℕ) → slice_get (children_of es k) j ≡ Some c → (types_below net typing k (j ∷ [])).places ≡ map (place_type typing) (arrivals ks c)
    place-at j c there =
        let w = child-stands k es j c there in
        ap (λ (s : Signatures Datatype). (s []).places) (child-below k e at class j c there)
        ∙ ap (λ (o : Option NetEntity). (types_of net typing c o).places) w.1
        ∙ places-are c k w.0 e d w.1 w.2 at directed (is_composite_class w.0.class) refl

    all-places : PlacesFrom 0 (children_of es k)
    all-places = places-from 0 (children_of es k) (λ j c there. subst (λ m. (types_below net typing k (m ∷ [])).places ≡ map (place_type typing) (arrivals ks c)) (let z : j ≡ 0 + j = omega arith in z) (place-at j c there))

    -- with these behind them
    module _ (unfed : List Datatype) where
      kinds-of : (i : ℕ) (cs : List ℕ) → PlacesFrom i cs → kinds_from (types_below net typing k) unfed i (map (place_count ks) cs) ≡ map (place_type typing) (flat_map (arrivals ks) cs ++ departures ks k) ++ unfed
      kinds-of i [] a = ap (λ ts. ts ++ unfed) (own-outputs k e at class ∙ sym (output-types k e d at directed))
      kinds-of i (c ∷ cs) a =
          let rest = flat_map (arrivals ks) cs ++ departures ks k in
          ap₂ (λ xs ys. xs ++ ys) a.0 (kinds-of (suc i) cs a.1)
          ∙ sym (append_assoc (map (place_type typing) (arrivals ks c)) (map (place_type typing) rest) unfed)
          ∙ ap (λ ts. ts ++ unfed) (sym (map-append (place_type typing) (arrivals ks c) rest))
          ∙ ap (λ cs. map (place_type typing) cs ++ unfed) (sym (append_assoc (arrivals ks c) (flat_map (arrivals ks) cs) (departures ks k)))

      pub kinds-are : kinds_from (types_below net typing k) unfed 0 (map (place_count ks) (children_of es k)) ≡ map (place_type typing) (channels_in ks k) ++ unfed
      kinds-are = kinds-of 0 (children_of es k) all-places ∙ ap (λ cs. map (place_type typing) cs ++ unfed) (sym (wired.grouped k e d at directed))

    sized-from : (i : ℕ) (cs : List ℕ) → PlacesFrom i cs → AreSized (types_below net typing k) i (map (place_count ks) cs)
    sized-from i [] a = tt
    sized-from i (c ∷ cs) a = (ap length a.0 ∙ length-map (arrivals ks c) (place_type typing) ∙ length-filter (comes_to c) ks, sized-from (suc i) cs a.1)

    pub sized : AreSized (types_below net typing k) 0 (map (place_count ks) (children_of es k))
    sized = sized-from 0 (children_of es k) all-places

    -- ---- types go up

    module _ {T A : Type 0} (Has : Datatype → T → Type 0) (Fits : Signature Datatype → A → Type 0) (up : TypesGoUp net typing) (own : List Source) (unfed : List Datatype) (owned : AreFed {A = A} Has IsBelow Fits (types_below net typing k) own unfed) where
      fed-along : (cs : List Channel) → AllByRecursion (λ x. Contains ks x × (is_within k x ≡ true)) cs → AreFed {A = A} Has IsBelow Fits (types_below net typing k) (map (source_of es) cs ++ own) (map (place_type typing) cs ++ unfed)
      fed-along [] a = owned
      fed-along (x ∷ cs) a =
          (subst (λ o. IsFed {A = A} Has IsBelow Fits o (place_type typing x)) (sym (source-kind x (eqb-true x.composite k a.0.1) (wired.begin x a.0.0))) (up x a.0.0), fed-along cs a.1)

      pub fed : AreFed {A = A} Has IsBelow Fits (types_below net typing k) (map (source_of es) (channels_in ks k) ++ own) (kinds_from (types_below net typing k) unfed 0 (map (place_count ks) (children_of es k)))
      fed = subst (λ ts. AreFed {A = A} Has IsBelow Fits (types_below net typing k) (map (source_of es) (channels_in ks k) ++ own) ts) (sym (kinds-are unfed)) (fed-along (channels_in ks k) (all-filtered (Contains ks) (is_within k) ks their-own))
