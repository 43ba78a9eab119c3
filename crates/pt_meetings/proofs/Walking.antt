-- The loop over the children of a node, and the lists that it adds.
use Rattle.std.proofs.Common.{◌≡◌, ℕ, zero, suc, ◌+◌, ◌<◌, ◌≤◌, max, List, [], ◌∷◌, ◌++◌, All, map, length, drop, get_or, refl, sym, ap, ap₂, subst, ◌∙◌, arith, append_assoc, flat_map}
use Rattle.std.specs.List.{AllZip, AllByRecursion}
use Rattle.std.proofs.lemmas.List.{append-nil}
use Rattle.std.proofs.lemmas.Grind.{flat_map-append}
use Rattle.std.proofs.lemmas.List.Elements.{All-from_recursion, recursion_from_All}
use Rattle.pt_net.specs.declared.net.Net.{Net}
use Rattle.pt_net.specs.declared.net.NetEntity.{NetEntity}
use Rattle.pt_trace.specs.Report.{Meetings}
use Rattle.pt_trace.specs.MeetingText.{meetings_text}
use Rattle.pt_node.specs.declared.node.Node.{Node}
use Rattle.pt_node.specs.Shown.{Shown, AllShown, shown, shown_node, all_of, none, more}
use Rattle.pt_node.specs.View.{depth, depths, outline_of, outlines_of}
use Rattle.pt_node.proofs.Link.{shown-node}
use Rattle.pt_meetings.specs.Sites.{Site, CanBeTold, IsToldAs, AreWrittenFor, seen_below, sites_in, sites_below}
use Rattle.pt_meetings.specs.Standing.{StandsFor, AllStandFor}

drop-more : {A : Type 0} (xs : List A) (k : ℕ) (d : A) → k < length xs → d ≡ get_or xs k d → drop k xs ≡ d ∷ drop (k + 1) xs
drop-more [] k d l e = absurd (omega (arith, l))
drop-more (x ∷ xs) zero d l e = ap (λ v. v ∷ xs) (sym e)
drop-more (x ∷ xs) (suc k) d l e = let s : suc k + 1 ≡ suc (k + 1) = omega arith in drop-more xs k d (omega (arith, l)) e ∙ ap (λ n. d ∷ drop n (x ∷ xs)) (sym s)

drop-all : {A : Type 0} (xs : List A) (k : ℕ) → length xs ≤ k → drop k xs ≡ []
drop-all [] zero l = refl
drop-all [] (suc k) l = refl
drop-all (x ∷ xs) zero l = absurd (omega (arith, l))
drop-all (x ∷ xs) (suc k) l = drop-all xs k (omega (arith, l))

-- the children from number k on
abbrev pub from_child : ℕ → List Node → AllShown
from_child k items = all_of (map shown (drop k items))

child-next : (items : List Node) (k : ℕ) (d : Node) → k < length items → d ≡ get_or items k d → from_child k items ≡ more (shown_node d) (from_child (k + 1) items)
child-next items k d l e = ap (λ v. all_of (map shown v)) (drop-more items k d l e) ∙ ap (λ v. more v (from_child (k + 1) items)) (shown-node d)

child-last : (items : List Node) (k : ℕ) → length items ≤ k → from_child k items ≡ none
child-last items k l = ap (λ v. all_of (map shown v)) (drop-all items k l)

-- a child is less deep than its node
pub kid_depth : (items : List Node) (k : ℕ) (d : Node) → k < length items → d ≡ get_or items k d → depth (outline_of (shown_node d)) ≤ depths (outlines_of (all_of (map shown items)))
kid_depth [] k d l e = absurd (omega (arith, l))
kid_depth (x ∷ xs) zero d l e = let same : shown x ≡ shown_node d = ap (λ v. shown v) (sym e) ∙ shown-node d in subst (λ s. depth (outline_of s) ≤ max (depth (outline_of (shown x))) (depths (outlines_of (all_of (map shown xs))))) same (omega arith)
kid_depth (x ∷ xs) (suc k) d l e = let h = kid_depth xs k d (omega (arith, l)) e in omega (arith, h)

-- ---- lists for sites

pub zip-append : {A B : Type 0} (R : A → B → Type 0) (xs xs2 : List A) (ys ys2 : List B) → AllZip R xs ys → AllZip R xs2 ys2 → AllZip R (xs ++ xs2) (ys ++ ys2)
zip-append R [] xs2 [] ys2 g h = h
zip-append R [] xs2 (y ∷ ys) ys2 g h = absurd g
zip-append R (x ∷ xs) xs2 [] ys2 g h = absurd g
zip-append R (x ∷ xs) xs2 (y ∷ ys) ys2 g h = (g.0, zip-append R xs xs2 ys ys2 g.1 h)

zip-seen : (net : Net) (i : ℕ) (told : List Meetings) (xs : List Site) → AllZip (IsToldAs net) told xs → AllZip (IsToldAs net) told (seen_below i xs)
zip-seen net i [] [] z = tt
zip-seen net i [] (x ∷ xs) z = absurd z
zip-seen net i (t ∷ told) [] z = absurd z
zip-seen net i (t ∷ told) (x ∷ xs) z = (z.0, zip-seen net i told xs z.1)

-- each site of a front, and of the rest
each-left : {A : Type 0} (P : A → Type 0) (xs ys : List A) → AllByRecursion P (xs ++ ys) → AllByRecursion P xs
each-left P [] ys h = tt
each-left P (x ∷ xs) ys h = (h.0, each-left P xs ys h.1)

each-right : {A : Type 0} (P : A → Type 0) (xs ys : List A) → AllByRecursion P (xs ++ ys) → AllByRecursion P ys
each-right P [] ys h = h
each-right P (x ∷ xs) ys h = each-right P xs ys h.1

each-unseen : (net : Net) (i : ℕ) (xs : List Site) → AllByRecursion (CanBeTold net) (seen_below i xs) → AllByRecursion (CanBeTold net) xs
each-unseen net i [] h = tt
each-unseen net i (x ∷ xs) h = (h.0, each-unseen net i xs h.1)

-- ---- the loop

-- Lists were added for the sites before child i, and what is to come stands for the entities that are left.
pub record Gathering (net : Net) (numbers : List ℕ) (items : List Node) (i : ℕ) (before now : List Meetings) (all : List Site) : Type 0 where
  pub stands : AllStandFor net.entities.items (drop i numbers) (outlines_of (from_child i items))
  pub can : AllByRecursion (CanBeTold net) (sites_below net.entities.items i (drop i numbers) (from_child i items))
  pub done : List Meetings
  pub added : now ≡ before ++ done
  pub rest : (more : List Meetings) → AllZip (IsToldAs net) more (sites_below net.entities.items i (drop i numbers) (from_child i items)) → AllZip (IsToldAs net) (done ++ more) all

-- the number of the next child is there
numbers-more : (es : List NetEntity) (numbers : List ℕ) (i : ℕ) (s : Shown) (ss : AllShown) → AllStandFor es (drop i numbers) (outlines_of (more s ss)) → i < length numbers
numbers-more es [] zero s ss h = absurd h
numbers-more es [] (suc i) s ss h = absurd h
numbers-more es (n ∷ ns) zero s ss h = omega arith
numbers-more es (n ∷ ns) (suc i) s ss h = let l = numbers-more es ns i s ss h in omega (arith, l)

pub next-number : (net : Net) (numbers : List ℕ) (items : List Node) (i : ℕ) (d : Node) (before now : List Meetings) (all : List Site) → Gathering net numbers items i before now all → i < length items → d ≡ get_or items i d → i < length numbers
next-number net numbers items i d before now all g l e =
    numbers-more net.entities.items numbers i (shown_node d) (from_child (i + 1) items) (subst (λ ks. AllStandFor net.entities.items (drop i numbers) (outlines_of ks)) (child-next items i d l e) g.stands)

abbrev Split : Net → List ℕ → List Node → ℕ → ℕ → Node → Type 0
Split net numbers items i c d = sites_below net.entities.items i (drop i numbers) (from_child i items) ≡ seen_below i (sites_in net.entities.items c (shown_node d)) ++ sites_below net.entities.items (i + 1) (drop (i + 1) numbers) (from_child (i + 1) items)

split-sites : (net : Net) (numbers : List ℕ) (items : List Node) (i c : ℕ) (d : Node) → i < length items → d ≡ get_or items i d → i < length numbers → c ≡ get_or numbers i c → Split net numbers items i c d
split-sites net numbers items i c d l e m f =
    ap₂ (λ (cs : List ℕ) (ks : AllShown). sites_below net.entities.items i cs ks) (drop-more numbers i c m f) (child-next items i d l e) ∙
    ap (λ (n : ℕ). seen_below i (sites_in net.entities.items c (shown_node d)) ++ sites_below net.entities.items n (drop (i + 1) numbers) (from_child (i + 1) items)) (omega arith)

-- the next child stands for the next number, and its sites can be told
pub next-child : (net : Net) (numbers : List ℕ) (items : List Node) (i c : ℕ) (d : Node) (before now : List Meetings) (all : List Site) → Gathering net numbers items i before now all → i < length items → d ≡ get_or items i d → i < length numbers → c ≡ get_or numbers i c →
    StandsFor net.entities.items c (outline_of (shown_node d)) × All (CanBeTold net) (sites_in net.entities.items c (shown_node d))
next-child net numbers items i c d before now all g l e m f =
    let both = subst (λ ks. AllStandFor net.entities.items (drop i numbers) (outlines_of ks)) (child-next items i d l e) g.stands in
    let stands = subst (λ cs. AllStandFor net.entities.items cs (outlines_of (more (shown_node d) (from_child (i + 1) items)))) (drop-more numbers i c m f) both in
    let can = subst (λ xs. AllByRecursion (CanBeTold net) xs) (split-sites net numbers items i c d l e m f) g.can in
    let first = each-left (CanBeTold net) (seen_below i (sites_in net.entities.items c (shown_node d))) (sites_below net.entities.items (i + 1) (drop (i + 1) numbers) (from_child (i + 1) items)) can in
    (stands.0, All-from_recursion (CanBeTold net) (sites_in net.entities.items c (shown_node d)) (each-unseen net i (sites_in net.entities.items c (shown_node d)) first))

-- one child more
pub gathering-next : (net : Net) (numbers : List ℕ) (items : List Node) (i c : ℕ) (d : Node) (before now new own : List Meetings) (all : List Site) → Gathering net numbers items i before now all → i < length items → d ≡ get_or items i d → i < length numbers → c ≡ get_or numbers i c →
    new ≡ now ++ own → AllZip (IsToldAs net) own (sites_in net.entities.items c (shown_node d)) → Gathering net numbers items (i + 1) before new all
gathering-next net numbers items i c d before now new own all g l e m f h z =
    let both = subst (λ ks. AllStandFor net.entities.items (drop i numbers) (outlines_of ks)) (child-next items i d l e) g.stands in
    let stands = subst (λ cs. AllStandFor net.entities.items cs (outlines_of (more (shown_node d) (from_child (i + 1) items)))) (drop-more numbers i c m f) both in
    let split = split-sites net numbers items i c d l e m f in
    let first = seen_below i (sites_in net.entities.items c (shown_node d)) in
    let left = sites_below net.entities.items (i + 1) (drop (i + 1) numbers) (from_child (i + 1) items) in
    record {
      stands = stands.1;
      can = each-right (CanBeTold net) first left (subst (λ xs. AllByRecursion (CanBeTold net) xs) split g.can);
      done = g.done ++ own;
      added = h ∙ ap (λ v. v ++ own) g.added ∙ append_assoc before g.done own;
      rest = λ more y. subst (λ v. AllZip (IsToldAs net) v all) (sym (append_assoc g.done own more))
          (g.rest (own ++ more) (subst (λ xs. AllZip (IsToldAs net) (own ++ more) xs) (sym split) (zip-append (IsToldAs net) own more first left (zip-seen net i own (sites_in net.entities.items c (shown_node d)) z) y)));
    }

-- after the last one
pub gathering-last : (net : Net) (numbers : List ℕ) (items : List Node) (i : ℕ) (before now : List Meetings) (all : List Site) → Gathering net numbers items i before now all → length items ≤ i → (more : List Meetings) × (now ≡ before ++ more) × AllZip (IsToldAs net) more all
gathering-last net numbers items i before now all g l =
    (g.done, g.added, subst (λ v. AllZip (IsToldAs net) v all) (append-nil g.done) (g.rest [] (subst (λ ks. AllZip (IsToldAs net) [] (sites_below net.entities.items i (drop i numbers) ks)) (sym (child-last items i l)) tt)))

-- before the first, with the lists of the node itself
pub gathering-first : (net : Net) (numbers : List ℕ) (items : List Node) (before now own : List Meetings) (first : List Site) → AllStandFor net.entities.items numbers (outlines_of (all_of (map shown items))) →
    AllByRecursion (CanBeTold net) (sites_below net.entities.items 0 numbers (all_of (map shown items))) → now ≡ before ++ own → AllZip (IsToldAs net) own first →
    Gathering net numbers items 0 before now (first ++ sites_below net.entities.items 0 numbers (all_of (map shown items)))
gathering-first net numbers items before now own first stands can h z = record {
  stands = stands;
  can = can;
  done = own;
  added = h;
  rest = λ more y. zip-append (IsToldAs net) own more first (sites_below net.entities.items 0 numbers (all_of (map shown items))) z y;
}

-- the sites of a node itself, and of its children, can be told
pub can-split : (net : Net) (xs ys : List Site) → All (CanBeTold net) (xs ++ ys) → All (CanBeTold net) xs × AllByRecursion (CanBeTold net) ys
can-split net xs ys h =
    let each = recursion_from_All (CanBeTold net) (xs ++ ys) h in
    (All-from_recursion (CanBeTold net) xs (each-left (CanBeTold net) xs ys each), each-right (CanBeTold net) xs ys each)

-- ---- their texts

-- the lists so far, and their texts
pub record Telling (net : Net) (numbers : List ℕ) (items : List Node) (i : ℕ) (old now : List ℕ) (all : List Site) : Type 0 where
  pub lists : List Meetings
  pub gathering : Gathering net numbers items i [] lists all
  pub text : now ≡ old ++ flat_map meetings_text lists

pub telling-first : (net : Net) (numbers : List ℕ) (items : List Node) (old now : List ℕ) (first : List Site) → AllStandFor net.entities.items numbers (outlines_of (all_of (map shown items))) →
    AllByRecursion (CanBeTold net) (sites_below net.entities.items 0 numbers (all_of (map shown items))) → AreWrittenFor net first old now →
    Telling net numbers items 0 old now (first ++ sites_below net.entities.items 0 numbers (all_of (map shown items)))
telling-first net numbers items old now first stands can h = record {
  lists = h.0;
  gathering = gathering-first net numbers items [] h.0 h.0 first stands can refl h.1;
  text = h.2;
}

pub telling-next : (net : Net) (numbers : List ℕ) (items : List Node) (i c : ℕ) (d : Node) (old now new : List ℕ) (all : List Site) → Telling net numbers items i old now all → i < length items → d ≡ get_or items i d → i < length numbers → c ≡ get_or numbers i c →
    AreWrittenFor net (sites_in net.entities.items c (shown_node d)) now new → Telling net numbers items (i + 1) old new all
telling-next net numbers items i c d old now new all t l e m f h = record {
  lists = t.lists ++ h.0;
  gathering = gathering-next net numbers items i c d [] t.lists (t.lists ++ h.0) h.0 all t.gathering l e m f refl h.1;
  text = h.2 ∙ ap (λ v. v ++ flat_map meetings_text h.0) t.text ∙ append_assoc old (flat_map meetings_text t.lists) (flat_map meetings_text h.0) ∙ ap (λ v. old ++ v) (sym (flat_map-append meetings_text t.lists h.0));
}

pub telling-last : (net : Net) (numbers : List ℕ) (items : List Node) (i : ℕ) (old now : List ℕ) (all : List Site) → Telling net numbers items i old now all → length items ≤ i → AreWrittenFor net all old now
telling-last net numbers items i old now all t l =
    let h = gathering-last net numbers items i [] t.lists all t.gathering l in
    (h.0, h.2, t.text ∙ ap (λ v. old ++ flat_map meetings_text v) h.1)
