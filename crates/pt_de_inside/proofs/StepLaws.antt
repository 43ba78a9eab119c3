-- One step of the loops over children and places.
use Rattle.std.proofs.Common.{◌≡◌, ℕ, zero, suc, ◌+◌, ◌<◌, List, [], ◌∷◌, ◌++◌, length, take, map, get_or, Bool, Option, Some, refl, sym, ap, ap₂, ◌∙◌, subst, arith, append_assoc, append-nil, add-one}
use Rattle.std.proofs.lemmas.List.{take_more}
use Rattle.pt_meaning.specs.Streams.{get}
use Rattle.pt_node.specs.declared.node.Node.{Node}
use Rattle.pt_node.specs.Live.{IsFit}
use Rattle.pt_node.specs.Shown.{Shown, shown, shown_node}
use Rattle.pt_node.specs.View.{Tree, node_of}
use Rattle.pt_node.proofs.Link.{shown-node}
use Rattle.pt_trees.specs.De.{is_delay, delays_from, delays_of}
use Rattle.pt_trees.specs.Fresh.{AllFresh}
use Rattle.pt_trees.proofs.NodeLaws.{trees, trees-length, trees-more, map-append}

-- what is told of one child more
pub told-more : {B : Type 0} (f : Tree → B) (kids : List Node) (i : ℕ) (d : Node) (told : List B) (x : B) → i < length kids → d ≡ get_or kids i d → told ≡ map f (trees (take i kids)) → x ≡ f (node_of (shown_node d)) → told ++ x ∷ [] ≡ map f (trees (take (i + 1) kids))
told-more {B} f kids i d told x h is e g =
    ap₂ (λ (v : List B) (w : B). v ++ w ∷ []) e g ∙ sym (map-append f (trees (take i kids)) (node_of (shown_node d) ∷ [])) ∙ ap (λ v. map f v) (sym (trees-more kids i d h is))

-- one place more of a child
delays-next : (kid : Tree) (from n : ℕ) → delays_from kid from (suc n) ≡ delays_from kid from n ++ is_delay kid (from + n) ∷ []
delays-next kid from zero =
    let e : from ≡ from + zero = omega arith in
    ap (λ (p : ℕ). is_delay kid p ∷ []) e
delays-next kid from (suc n) =
    let e : suc from + n ≡ from + suc n = omega arith in
    ap (λ v. is_delay kid from ∷ v) (delays-next kid (suc from) n ∙ ap (λ (p : ℕ). delays_from kid (suc from) n ++ is_delay kid p ∷ []) e)

pub place-more : (kid : Tree) (old flags : List Bool) (n : ℕ) (flag : Bool) → flags ≡ old ++ delays_from kid 0 n → flag ≡ is_delay kid n → flags ++ flag ∷ [] ≡ old ++ delays_from kid 0 (n + 1)
place-more kid old flags n flag e g =
    let first : n ≡ 0 + n = omega arith in
    let more : delays_from kid 0 (n + 1) ≡ delays_from kid 0 n ++ is_delay kid n ∷ [] = ap (λ m. delays_from kid 0 m) (add-one n) ∙ delays-next kid 0 n ∙ ap (λ (p : ℕ). delays_from kid 0 n ++ is_delay kid p ∷ []) (sym first) in
    ap₂ (λ (v : List Bool) (w : Bool). v ++ w ∷ []) e g ∙ append_assoc old (delays_from kid 0 n) (is_delay kid n ∷ []) ∙ ap (λ v. old ++ v) (sym more)

-- the places of one child more
delays-append : (kids : List Tree) (places : List ℕ) (kid : Tree) (n : ℕ) → length kids ≡ length places → delays_of (kids ++ kid ∷ []) (places ++ n ∷ []) ≡ delays_of kids places ++ delays_from kid 0 n
delays-append [] [] kid n e = append-nil (delays_from kid 0 n)
delays-append [] (p ∷ places) kid n e = absurd (omega (arith, e))
delays-append (k ∷ kids) [] kid n e = absurd (omega (arith, e))
delays-append (k ∷ kids) (p ∷ places) kid n e =
    ap (λ v. delays_from k 0 p ++ v) (delays-append kids places kid n (omega (arith, e))) ∙ sym (append_assoc (delays_from k 0 p) (delays_of kids places) (delays_from kid 0 n))

pub child-more : (kids : List Node) (places : List ℕ) (i count : ℕ) (d : Node) (old flags new : List Bool) → i < length kids → length kids ≡ length places → d ≡ get_or kids i d → count ≡ get_or places i 0 →
    flags ≡ old ++ delays_of (trees (take i kids)) (take i places) → new ≡ flags ++ delays_from (node_of (shown_node d)) 0 count → new ≡ old ++ delays_of (trees (take (i + 1) kids)) (take (i + 1) places)
child-more kids places i count d old flags new h same is at e g =
    let kid : Tree = node_of (shown_node d) in
    let long : length (trees (take i kids)) ≡ length (take i places) = trees-length (take i kids) ∙ taken i kids places same in
    let all : delays_of (trees (take (i + 1) kids)) (take (i + 1) places) ≡ delays_of (trees (take i kids)) (take i places) ++ delays_from kid 0 count =
    ap₂ (λ (v : List Tree) (w : List ℕ). delays_of v w) (trees-more kids i d h is) (take_more places i 0 (omega (arith, h, same)) ∙ ap (λ n. take i places ++ n ∷ []) (sym at)) ∙ delays-append (trees (take i kids)) (take i places) kid count long in
    g ∙ ap (λ v. v ++ delays_from kid 0 count) e ∙ append_assoc old (delays_of (trees (take i kids)) (take i places)) (delays_from kid 0 count) ∙ ap (λ v. old ++ v) (sym all)
  where
    taken : {A B : Type 0} (n : ℕ) (xs : List A) (ys : List B) → length xs ≡ length ys → length (take n xs) ≡ length (take n ys)
    taken zero xs ys e = refl
    taken (suc n) [] [] e = refl
    taken (suc n) [] (y ∷ ys) e = absurd (omega (arith, e))
    taken (suc n) (x ∷ xs) [] e = absurd (omega (arith, e))
    taken (suc n) (x ∷ xs) (y ∷ ys) e = ap (λ m. suc m) (taken n xs ys (omega (arith, e)))

-- a child among fresh ones fits
fit-in : (ss : List Shown) → AllFresh ss → (i : ℕ) (s : Shown) → get ss i ≡ Some s → IsFit s
fit-in [] f i s e = absurd (cc)
fit-in (t ∷ ss) f zero s e = let same : t ≡ s = cc in subst (λ (v : Shown). IsFit v) same f.0.fit
fit-in (t ∷ ss) f (suc i) s e = fit-in ss f.1 i s e

shown-at : (kids : List Node) (i : ℕ) (d : Node) → i < length kids → get (map shown kids) i ≡ Some (shown (get_or kids i d))
shown-at [] i d h = absurd (omega (arith, h))
shown-at (k ∷ kids) zero d h = refl
shown-at (k ∷ kids) (suc i) d h = shown-at kids i d (omega (arith, h))

pub fit-at : (kids : List Node) (i : ℕ) (d : Node) → i < length kids → d ≡ get_or kids i d → AllFresh (map shown kids) → IsFit (shown_node d)
fit-at kids i d h is fresh =
    let at : get (map shown kids) i ≡ Some (shown_node d) = shown-at kids i d h ∙ ap (λ (n : Node). Option.Some (shown n)) (sym is) ∙ ap (λ (s : Shown). Option.Some s) (shown-node d) in
    fit-in (map shown kids) fresh i (shown_node d) at
