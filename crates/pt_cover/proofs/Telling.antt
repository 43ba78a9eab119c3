-- In the order of their numbers the recorded ports of a built tree are those of the net, each at the node of its entity.
use Rattle.std.proofs.Common.{◌≡◌, ◌≤◌, ◌<◌, ◌+◌, ℕ, zero, suc, List, [], ◌∷◌, ◌++◌, Bool, true, false, nat_eq, Option, Some, map, length, refl, sym, ap, subst, ◌∙◌, arith, length-append}
use Rattle.std.proofs.lemmas.Bool.{eqb-true}
use Rattle.std.proofs.lemmas.Option.{none-some, same_Some}
use Rattle.std.specs.List.{slice_get}
use Rattle.pt_document.specs.Document.{JobTree}
use Rattle.pt_document.specs.Names.{below}
use Rattle.pt_meaning.specs.Basics.{Path}
use Rattle.pt_net.specs.declared.net.Net.{Net}
use Rattle.pt_net.specs.declared.net.NetEntity.{NetEntity}
use Rattle.pt_net.specs.declared.net.NetPort.{NetPort}
use Rattle.pt_net.specs.Net.{IsNetOf}
use Rattle.pt_net.specs.Inside.{port_number}
use Rattle.pt_past.specs.Recorded.{RecordedPort}
use Rattle.pt_node.specs.Shown.{Shown, AllShown, Branch, none, more, list_of}
use Rattle.pt_node.specs.View.{outline_of, outlines_of, text_at, text_below}
use Rattle.pt_trees.specs.Composite.{frame_in, children_in}
use Rattle.pt_trees.specs.Trees.{IsEntity, Starts}
use Rattle.pt_trees.specs.Recorded.{numbers_at, port_in, text_in, recorded_at, recorded_of}
use Rattle.pt_trees.specs.Built.{IsBuilt, AreBuilt, built_actor, built_composite, none_built, more_built}
use Rattle.pt_trees.specs.Ports.{Listed, own_ports, seen_below, ports_in, ports_below, listed_if, of_number, by_number, recorded_ports}
use Rattle.pt_cover.specs.Leaves.{ActorsAreLeaves, AreStartedByClass}
use Rattle.pt_cover.specs.Told.{IsRecordedAt, AreTold}
use Rattle.pt_cover.proofs.Matching.{AllPass, numbers-match, matching-passes}
use Rattle.pt_cover.proofs.Recorded.{IsRecordedOf, recorded-there}
use Rattle.pt_cover.proofs.Numbering.{numbered}

-- ---- of all listed ports

abbrev All : (Listed → Type 0) → List Listed → Type 0
All P [] = Unit {0}
All P (x ∷ xs) = P x × All P xs

all-append : (P : Listed → Type 0) (xs ys : List Listed) → All P xs → All P ys → All P (xs ++ ys)
all-append P [] ys a b = b
all-append P (x ∷ xs) ys a b = (a.0, all-append P xs ys a.1 b)

all-same : (P Q : Listed → Type 0) → ((x : Listed) → P x → Q x) → (xs : List Listed) → All P xs → All Q xs
all-same P Q f [] a = tt
all-same P Q f (x ∷ xs) a = (f x a.0, all-same P Q f xs a.1)

all-below : (P Q : Listed → Type 0) (i : ℕ) → ((x : Listed) → P x → Q (record { path = i ∷ x.path; output = x.output })) → (xs : List Listed) → All P xs → All Q (seen_below i xs)
all-below P Q i f [] a = tt
all-below P Q i f (x ∷ xs) a = (f x a.0, all-below P Q i f xs a.1)

-- ---- those of one number, and all in the order of their numbers

-- it has that number, beside
record HasNumber (P : Listed → Type 0) (n : ℕ) (x : Listed) : Type 0 where
  holds : P x
  number_is : x.output.number ≡ n

of-number : (P : Listed → Type 0) (n : ℕ) (xs : List Listed) → All P xs → All (HasNumber P n) (of_number n xs)
of-number P n [] all = tt
of-number P n (x ∷ xs) all = chosen (nat_eq x.output.number n) refl (of-number P n xs all.1)
  where
    chosen : (b : Bool) → nat_eq x.output.number n ≡ b → All (HasNumber P n) (of_number n xs) → All (HasNumber P n) (listed_if b x (of_number n xs))
    chosen true e rest = (record { holds = all.0; number_is = eqb-true x.output.number n e }, rest)
    chosen false e rest = rest

-- each of so many numbers from one on is that of one port
abbrev AreOnce : (from count : ℕ) → List Listed → Type 0
AreOnce from count xs = (n : ℕ) → from ≤ n → n < from + count → length (of_number n xs) ≡ 1

by-number-length : (from count : ℕ) (xs : List Listed) → AreOnce from count xs → length (by_number from count xs) ≡ count
by-number-length from zero xs once = refl
by-number-length from (suc count) xs once =
    let first = once from (omega arith) (omega arith) in
    let rest = by-number-length (suc from) count xs (λ n a b. once n (omega (arith, a)) (omega (arith, b))) in
    let joined = length-append (of_number from xs) (by_number (suc from) count xs) in
    omega (arith, first, rest, joined)

-- the first of a list behind one port
one-first : (P : Listed → Type 0) (from n : ℕ) (ys zs : List Listed) (x : Listed) → length ys ≡ 1 → All (HasNumber P from) ys → ((m : ℕ) → slice_get zs m ≡ Some x → HasNumber P (suc from + m) x) → slice_get (ys ++ zs) n ≡ Some x → HasNumber P (from + n) x
one-first P from n [] zs x one all later at = absurd (omega (arith, one))
one-first P from zero (y ∷ []) zs x one all later at =
    let here : from ≡ from + 0 = omega arith in
    subst (λ (m : ℕ). HasNumber P m x) here (subst (λ (z : Listed). HasNumber P from z) (same_Some y x at) all.0)
one-first P from (suc n) (y ∷ []) zs x one all later at = let next : suc from + n ≡ from + suc n = omega arith in subst (λ (m : ℕ). HasNumber P m x) next (later n at)
one-first P from n (y ∷ z ∷ ys) zs x one all later at = absurd (omega (arith, one))

by-number-get : (P : Listed → Type 0) (from count n : ℕ) (xs : List Listed) (x : Listed) → All P xs → AreOnce from count xs → slice_get (by_number from count xs) n ≡ Some x → HasNumber P (from + n) x
by-number-get P from zero n xs x all once at = absurd (none-some x at)
by-number-get P from (suc count) n xs x all once at =
    one-first P from n (of_number from xs) (by_number (suc from) count xs) x (once from (omega arith) (omega arith)) (of-number P from xs all)
    (λ m h. by-number-get P (suc from) count m xs x all (λ k a b. once k (omega (arith, a)) (omega (arith, b))) h) at

-- ---- the recorded ports of a built tree

-- the recorded port of its own number
abbrev IsTold : Net → Shown → Listed → Type 0
IsTold net s x = IsRecordedAt net s x.output.number x

-- all recorded ports of the net are there, with their texts
abbrev AreRecorded : Net → Type 0
AreRecorded net = (n : ℕ) (port : NetPort) → slice_get net.recorded.items n ≡ Some port → IsRecordedOf net n port

own-told : (net : Net) (s : Shown) (k : ℕ) (e : NetEntity) → AreRecorded net → IsEntity net k e → text_at (outline_of s) [] ≡ Some e.path → (ms : List ℕ) → AllPass (λ (port : NetPort). nat_eq port.entity k) net.recorded.items ms → All (IsTold net s) (own_ports (map (recorded_at net e) ms))
own-told net s k e recorded at text [] all = tt
own-told net s k e recorded at text (m ∷ ms) all =
    let port = all.0.0 in
    let there : slice_get net.recorded.items m ≡ Some port = all.0.1 in
    let r = recorded m port there in
    let here : IsEntity net port.entity e = subst (λ (j : ℕ). IsEntity net j e) (sym (eqb-true port.entity k all.0.2)) at in
    let same : r.entity ≡ e = same_Some r.entity e (sym r.is_entity ∙ here) in
    let text_of : r.text ≡ text_in (slice_get net.records.items m) = sym (ap text_in r.text_is) in (
      record {
        recorded = port;
        is_recorded = there;
        entity = e;
        is_entity = here;
        port = r.own;
        is_port = subst (λ (d : NetEntity). slice_get d.ports.items port.port ≡ Some r.own) same r.is_port;
        output = r.output;
        place = text;
        port_is = ap (λ (p : Option NetPort). port_number e.ports.items (port_in p)) there;
        number_is = refl;
        text_is = r.text_is ∙ ap Some text_of;
        names = sym text_of ∙ r.names ∙ ap (λ (d : NetEntity). below d.path r.own.name) same;
      },
      own-told net s k e recorded at text ms all.1,
    )

-- seen from its composite
child-told : (net : Net) (s kid : Shown) (i : ℕ) → ((p : Path) → text_at (outline_of s) (i ∷ p) ≡ text_at (outline_of kid) p) → (x : Listed) → IsTold net kid x → IsTold net s (record { path = i ∷ x.path; output = x.output })
child-told net s kid i same x t = record { recorded = t.recorded; is_recorded = t.is_recorded; entity = t.entity; is_entity = t.is_entity; port = t.port; is_port = t.is_port; output = t.output; place = same x.path ∙ t.place; port_is = t.port_is; number_is = t.number_is; text_is = t.text_is; names = t.names }

abbrev KidsTold : Net → List Shown → Type 0
KidsTold net [] = Unit {0}
KidsTold net (s ∷ ss) = All (IsTold net s) (ports_in s) × KidsTold net ss

kids-told : (net : Net) (s : Shown) (i : ℕ) (ks : AllShown) → ((j : ℕ) (p : Path) → text_at (outline_of s) ((i + j) ∷ p) ≡ text_below (outlines_of ks) j p) → KidsTold net (list_of ks) → All (IsTold net s) (ports_below i ks)
kids-told net s i none same all = tt
kids-told net s i (more kid ks) same all =
    let here : i + 0 ≡ i = omega arith in
    let first : (p : Path) → text_at (outline_of s) (i ∷ p) ≡ text_at (outline_of kid) p = λ p. subst (λ (n : ℕ). text_at (outline_of s) (n ∷ p) ≡ text_at (outline_of kid) p) here (same 0 p) in
    let later : (j : ℕ) (p : Path) → text_at (outline_of s) ((suc i + j) ∷ p) ≡ text_below (outlines_of ks) j p = λ j p. next j p in
    all-append (IsTold net s) (seen_below i (ports_in kid)) (ports_below (suc i) ks) (all-below (IsTold net kid) (IsTold net s) i (λ x t. child-told net s kid i first x t) (ports_in kid) all.0) (kids-told net s (suc i) ks later all.1)
  where
    next : (j : ℕ) (p : Path) → text_at (outline_of s) ((suc i + j) ∷ p) ≡ text_below (outlines_of ks) j p
    next j p = let step : i + suc j ≡ suc i + j = omega arith in subst (λ (n : ℕ). text_at (outline_of s) (n ∷ p) ≡ text_below (outlines_of ks) j p) step (same (suc j) p)

passing : (net : Net) (k : ℕ) → AllPass (λ (port : NetPort). nat_eq port.entity k) net.recorded.items (numbers_at k net.recorded.items)
passing net k = subst (AllPass (λ (port : NetPort). nat_eq port.entity k) net.recorded.items) (sym (numbers-match k 0 net.recorded.items)) (matching-passes (λ (port : NetPort). nat_eq port.entity k) net.recorded.items)

own-all : (net : Net) (s : Shown) (k : ℕ) (e : NetEntity) → AreRecorded net → IsEntity net k e → text_at (outline_of s) [] ≡ Some e.path → All (IsTold net s) (own_ports (recorded_of net k e))
own-all net s k e recorded at text = own-told net s k e recorded at text (numbers_at k net.recorded.items) (passing net k)

node-told : (net : Net) (k : ℕ) (e : NetEntity) (s : Shown) (kids : List Shown) → AreRecorded net → IsEntity net k e → (frame_in s).path ≡ e.path → (frame_in s).records ≡ recorded_of net k e → children_in s ≡ kids → KidsTold net kids → All (IsTold net s) (ports_in s)
node-told net k e (Branch f ks) kids recorded at path_is records_are children all =
    all-append (IsTold net (Branch f ks)) (own_ports f.records) (ports_below 0 ks)
    (subst (λ (rs : List RecordedPort). All (IsTold net (Branch f ks)) (own_ports rs)) (sym records_are) (own-all net (Branch f ks) k e recorded at (ap Some path_is)))
    (kids-told net (Branch f ks) 0 ks (λ j p. (let same : 0 + j ≡ j = omega arith in ap (λ (n : ℕ). text_below (outlines_of ks) n p) same)) (subst (KidsTold net) (sym children) all))

module _ (net : Net) (starts : Starts) (recorded : AreRecorded net) where
  mutual
    all-told : {k : ℕ} {s : Shown} (b : IsBuilt net starts k s) → All (IsTold net s) (ports_in s)
    all-told {s = s} (built_actor k e a at undirected is) = all-append (IsTold net s) (own_ports (recorded_of net k e)) [] (own-all net s k e recorded at refl) tt
    all-told (built_composite k e director kids s at directed are is) = node-told net k e s kids recorded at is.path_is is.records_are is.children (all-told-in are)

    all-told-in : {ks : List ℕ} {kids : List Shown} (bs : AreBuilt net starts ks kids) → KidsTold net kids
    all-told-in none_built = tt
    all-told-in (more_built k ks s ss b bs) = (all-told b, all-told-in bs)

-- ---- the law

pub told-ports : (job : JobTree) (net : Net) (starts : Starts) (s : Shown) → ActorsAreLeaves job → IsNetOf job net → AreStartedByClass net starts → IsBuilt net starts 0 s → AreTold net s
told-ports job net starts s leaves is started built = record { counted = by-number-length 0 (length net.recorded.items) (ports_in s) once; each = each }
  where
    once : AreOnce 0 (length net.recorded.items) (ports_in s)
    once n a b = (numbered job net starts s leaves is started built).once n (omega (arith, b))

    each : (n : ℕ) (x : Listed) → slice_get (recorded_ports (length net.recorded.items) s) n ≡ Some x → IsRecordedAt net s n x
    each n x at =
        let h = by-number-get (IsTold net s) 0 (length net.recorded.items) n (ports_in s) x (all-told net starts (recorded-there job net leaves is) built) once at in
        let here : 0 + n ≡ n = omega arith in
        subst (λ (m : ℕ). IsRecordedAt net s m x) (h.number_is ∙ here) h.holds
