-- One step of the loops over children, channels and tokens.
use Rattle.std.proofs.Common.{◌≡◌, ℕ, zero, suc, ◌+◌, ◌-◌, ◌<◌, ◌≤◌, List, [], ◌∷◌, ◌++◌, length, take, map, get_or, set, true, false, inl, Option, Some, None, refl, sym, ap, ap₂, ◌∙◌, subst, arith, append_assoc, add-one, get_or-set_same}
use Rattle.std.proofs.lemmas.List.{take_more, take_all, set-set, length-map, length-take-le}
use Rattle.std.proofs.Math.ListN.{get_or-map}
use Rattle.pt_meaning.specs.Basics.{Streams}
use Rattle.pt_meaning.specs.Machine.{Need}
use Rattle.pt_meaning.specs.Net as net
use Rattle.pt_meaning.specs.NodeFacts.{need_of}
use Rattle.pt_meaning.specs.Start.{first_of, first_held}
use Rattle.pt_value.specs.declared.token.Token.{Token}
use Rattle.pt_core.specs.declared.source.Source.{Source}
use Rattle.pt_core.specs.Source.{source_of}
use Rattle.pt_process.specs.Process.{need_in, IsKept}
use Rattle.pt_library.specs.LibraryActor.{rows}
use Rattle.pt_node.specs.declared.node.Node.{Node}
use Rattle.pt_node.specs.Shown.{shown_node}
use Rattle.pt_meaning.specs.Streams.{get}
use Rattle.pt_node.specs.View.{Tree, node_of}
use Rattle.pt_trees.specs.Sdf.{first_counts}
use Rattle.pt_trees.specs.Around.{Around, declared_at}
use Rattle.pt_trees.specs.Rates.{rates_given, all_given, HaveRates, is_steady, AreSteady, HasUnsteady, IsStarted, AllStarted}
use Rattle.pt_inside.specs.Kept.{AreKept}
use Rattle.pt_inside.proofs.HeldLaws.{held_to, held-append, held-empty, held-more}
use Rattle.pt_trees.proofs.NodeLaws.{trees, trees-length, trees-more, tree-at, map-append}

-- a token more is put
pub put-more : {X : Type 0} (L0 L : List (List X)) (c : ℕ) (ts : List X) (i : ℕ) (x y : X) → c < length L0 → L ≡ set L0 c (get_or L0 c [] ++ take i ts) → i < length ts → x ≡ get_or ts i x → y ≡ x →
    set L c (get_or L c [] ++ y ∷ []) ≡ set L0 c (get_or L0 c [] ++ take (i + 1) ts)
put-more L0 L c ts i x y h e g is q =
    let here : get_or L c [] ≡ get_or L0 c [] ++ take i ts = ap (λ v. get_or v c []) e ∙ get_or-set_same L0 c (get_or L0 c [] ++ take i ts) [] h in
    let more : take (i + 1) ts ≡ take i ts ++ x ∷ [] = take_more ts i x g ∙ ap (λ z. take i ts ++ z ∷ []) (sym is) in
    ap₂ (λ v w. set v c w) e (ap (λ v. v ++ y ∷ []) here ∙ append_assoc (get_or L0 c []) (take i ts) (y ∷ []) ∙ ap (λ v. get_or L0 c [] ++ v) (ap (λ z. take i ts ++ z ∷ []) q ∙ sym more)) ∙
    set-set L0 c (get_or L0 c [] ++ take i ts) (get_or L0 c [] ++ take (i + 1) ts)

pub lowered-at : (S : List ℕ) (c : ℕ) → get_or (set S c (get_or S c 0 - 1)) c 0 ≡ get_or S c 0 - 1
lowered-at [] c = omega arith
lowered-at (s ∷ S) zero = refl
lowered-at (s ∷ S) (suc c) = lowered-at S c

-- the rates of one child more
given-snoc : (declared : List (Option (List ℕ))) (ts : List Tree) (t : Tree) → all_given declared (ts ++ t ∷ []) ≡ all_given declared ts ++ rates_given (declared_at declared (length ts)) t ∷ []
given-snoc [] [] t = refl
given-snoc (d ∷ declared) [] t = refl
given-snoc [] (s ∷ ts) t = ap (λ (v : List (Option (List ℕ))). rates_given None s ∷ v) (given-snoc [] ts t)
given-snoc (d ∷ declared) (s ∷ ts) t = ap (λ (v : List (Option (List ℕ))). rates_given d s ∷ v) (given-snoc declared ts t)

given-length : (declared : List (Option (List ℕ))) (ts : List Tree) → length (all_given declared ts) ≡ length ts
given-length declared [] = refl
given-length [] (t ∷ ts) = ap (λ (n : ℕ). suc n) (given-length [] ts)
given-length (d ∷ declared) (t ∷ ts) = ap (λ (n : ℕ). suc n) (given-length declared ts)

rates-length : (declared : List (Option (List ℕ))) (ts : List Tree) (rs : List (List ℕ)) → HaveRates declared ts rs → length rs ≡ length ts
rates-length declared ts rs e = sym (length-map rs (λ (v : List ℕ). Option.Some v)) ∙ ap (λ (v : List (Option (List ℕ))). length v) e ∙ given-length declared ts

pub rates-more : (declared : List (Option (List ℕ))) (kids : List Node) (i : ℕ) (d : Node) (rs : List (List ℕ)) (n : ℕ) (r : List ℕ) → i < length kids → d ≡ get_or kids i d → HaveRates declared (trees (take i kids)) rs → n ≡ length rs → Some r ≡ rates_given (declared_at declared n) (node_of (shown_node d)) →
    HaveRates declared (trees (take (i + 1) kids)) (rs ++ r ∷ [])
rates-more declared kids i d rs n r h is e many f =
    let long : n ≡ length (trees (take i kids)) = many ∙ rates-length declared (trees (take i kids)) rs e in
    map-append (λ (v : List ℕ). Option.Some v) rs (r ∷ []) ∙ ap₂ (λ (v : List (Option (List ℕ))) (w : Option (List ℕ)). v ++ w ∷ []) e f ∙
    ap (λ (m : ℕ). all_given declared (trees (take i kids)) ++ rates_given (declared_at declared m) (node_of (shown_node d)) ∷ []) long ∙
    sym (given-snoc declared (trees (take i kids)) (node_of (shown_node d))) ∙ ap (λ (v : List Tree). all_given declared v) (sym (trees-more kids i d h is))

-- a child whose rates vary
pub rates-none : (declared : List (Option (List ℕ))) (kids : List Node) (i : ℕ) (d : Node) (rs : List (List ℕ)) (n : ℕ) → i < length kids → d ≡ get_or kids i d → HaveRates declared (trees (take i kids)) rs → n ≡ length rs → None ≡ rates_given (declared_at declared n) (node_of (shown_node d)) →
    (m : ℕ) × (kid : Tree) × (get (trees kids) m ≡ Some kid) × (rates_given (declared_at declared m) kid ≡ None)
rates-none declared kids i d rs n h is e many f =
    let at : n ≡ i = many ∙ rates-length declared (trees (take i kids)) rs e ∙ trees-length (take i kids) ∙ length-take-le i kids (omega (arith, h)) in
    (i, node_of (shown_node d), tree-at kids i d h is, ap (λ (m : ℕ). rates_given (declared_at declared m) (node_of (shown_node d))) (sym at) ∙ sym f)

-- a child among the others is started as they are
pub started-at : (kids : List Node) (i : ℕ) (d : Node) → i < length kids → d ≡ get_or kids i d → AllStarted (trees kids) → IsStarted (node_of (shown_node d))
started-at kids i d h is all = all i (node_of (shown_node d)) (tree-at kids i d h is)

-- one steady child more
pub steady-none : AreSteady []
steady-none i kid e = absurd (cc)

pub steady-more : (kids : List Node) (i : ℕ) (d : Node) → i < length kids → d ≡ get_or kids i d → AreSteady (trees (take i kids)) → is_steady (node_of (shown_node d)) ≡ true → AreSteady (trees (take (i + 1) kids))
steady-more kids i d h is all one = subst (λ (v : List Tree). AreSteady v) (sym (trees-more kids i d h is)) (snoc (trees (take i kids)) (node_of (shown_node d)) all one)
  where
    snoc : (ts : List Tree) (t : Tree) → AreSteady ts → is_steady t ≡ true → AreSteady (ts ++ t ∷ [])
    snoc [] t all one zero kid e = let same : t ≡ kid = cc in sym (ap is_steady same) ∙ one
    snoc [] t all one (suc j) kid e = absurd (cc)
    snoc (s ∷ ts) t all one zero kid e = all zero kid e
    snoc (s ∷ ts) t all one (suc j) kid e = snoc ts t (λ k x f. all (suc k) x f) one j kid e

pub steady-all : (kids : List Node) (i : ℕ) → length kids ≤ i → AreSteady (trees (take i kids)) → AreSteady (trees kids)
steady-all kids i h all = subst (λ (v : List Node). AreSteady (trees v)) (take_all i kids h) all

-- one that isn't
pub unsteady-at : (around : Around) (kids : List Node) (i : ℕ) (d : Node) → i < length kids → d ≡ get_or kids i d → is_steady (node_of (shown_node d)) ≡ false → HasUnsteady around (trees kids)
unsteady-at around kids i d h is not = (i, node_of (shown_node d), tree-at kids i d h is, inl not)

-- the first tokens of one channel more
pub counts-more : (kids : List Tree) (sources : List Source) (i : ℕ) (d : Source) (ns : List ℕ) (ts : List Token) → i < length sources → ns ≡ first_counts kids (map source_of (take i sources)) → ts ≡ first_of rows kids (source_of (get_or sources i d)) →
    ns ++ length ts ∷ [] ≡ first_counts kids (map source_of (take (i + 1) sources))
counts-more kids sources i d ns ts h e f =
    let s : net.Source = source_of (get_or sources i d) in
    ap₂ (λ (v : List ℕ) (w : List Token). v ++ length w ∷ []) e f ∙ sym (map-append (λ (xs : List Token). length xs) (first_held rows kids (map source_of (take i sources))) (first_of rows kids s ∷ [])) ∙
    ap (λ (v : Streams Token). map (λ (xs : List Token). length xs) v) (sym (held-append rows kids (map source_of (take i sources)) (s ∷ []))) ∙
    ap (λ v. first_counts kids v) (sym (map-append source_of (take i sources) (get_or sources i d ∷ [])) ∙ ap (λ v. map source_of v) (sym (take_more sources i d h)))

-- the first tokens of one channel more, as a list
pub lists-more : (kids : List Tree) (sources : List Source) (i : ℕ) (d : Source) (L : Streams Token) (ts : List Token) → i < length sources → L ≡ first_held rows kids (map source_of (take i sources)) → ts ≡ first_of rows kids (source_of (get_or sources i d)) →
    L ++ ts ∷ [] ≡ first_held rows kids (map source_of (take (i + 1) sources))
lists-more kids sources i d L ts h e f =
    let s : net.Source = source_of (get_or sources i d) in
    ap₂ (λ (v : Streams Token) (w : List Token). v ++ w ∷ []) e f ∙ sym (held-append rows kids (map source_of (take i sources)) (s ∷ [])) ∙
    ap (λ v. first_held rows kids v) (sym (map-append source_of (take i sources) (get_or sources i d ∷ [])) ∙ ap (λ v. map source_of v) (sym (take_more sources i d h)))

-- one channel more has its tokens
pub held-step : (kids : List Tree) (sources : List Source) (n : ℕ) (d : Source) (L new : Streams Token) (ts : List Token) → n < length sources → L ≡ held_to rows kids n (map source_of sources) → new ≡ set L n (get_or L n [] ++ ts) → ts ≡ first_of rows kids (source_of (get_or sources n d)) →
    new ≡ held_to rows kids (n + 1) (map source_of sources)
held-step kids sources n d L new ts h e f g =
    let cs : List net.Source = map source_of sources in
    let empty : get_or L n [] ≡ [] = ap (λ v. get_or v n []) e ∙ held-empty rows kids n cs in
    let long : n < length cs = omega (arith, h, length-map sources source_of) in
    let s : net.Source = get_or cs n (source_of d) in
    let same : source_of (get_or sources n d) ≡ s = sym (get_or-map source_of sources n d) in
    f ∙ ap₂ (λ v w. set v n w) e (ap (λ v. v ++ ts) empty ∙ g ∙ ap (λ v. first_of rows kids v) same) ∙ held-more rows kids n cs s long (again cs n (source_of d) long) ∙ ap (λ m. held_to rows kids m cs) (sym (add-one n))
  where
    again : {A : Type 0} (xs : List A) (n : ℕ) (d : A) → n < length xs → get_or xs n d ≡ get_or xs n (get_or xs n d)
    again [] n d h = absurd (omega (arith, h))
    again (x ∷ xs) zero d h = refl
    again (x ∷ xs) (suc n) d h = again xs n d (omega (arith, h))

-- a child among others of which none waits for a token at any one place
pub kept-at : (kids : List Node) (i : ℕ) (d : Node) → i < length kids → d ≡ get_or kids i d → AreKept (trees kids) → IsKept (need_of rows (node_of (shown_node d)))
kept-at kids i d h is all = all i (node_of (shown_node d)) (tree-at kids i d h is)

-- what one child more needs now
pub starts-more : (kids : List Node) (i : ℕ) (d : Node) (starts : List (Option (List ℕ))) (start : Option (List ℕ)) → i < length kids → d ≡ get_or kids i d → map need_in starts ≡ map (need_of rows) (trees (take i kids)) → need_in start ≡ need_of rows (node_of (shown_node d)) →
    map need_in (starts ++ start ∷ []) ≡ map (need_of rows) (trees (take (i + 1) kids))
starts-more kids i d starts start h is e f =
    map-append need_in starts (start ∷ []) ∙ ap₂ (λ (v : List Need) (w : Need). v ++ w ∷ []) e f ∙ sym (map-append (need_of rows) (trees (take i kids)) (node_of (shown_node d) ∷ [])) ∙ ap (λ v. map (need_of rows) v) (sym (trees-more kids i d h is))
