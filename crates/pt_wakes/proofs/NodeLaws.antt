-- The laws of the tree of wakes: node 1 has the least.
use Rattle.std.proofs.Common.{◌≡◌, ℕ, zero, suc, ◌+◌, ◌-◌, ◌*◌, ◌/◌, ◌<◌, ◌≤◌, true, false, List, [], ◌∷◌, length, length-set, set, drop, Option, None, refl, sym, ap, subst, ◌∙◌, arith, ◌⊎◌, inl, inr}
use Rattle.std.proofs.lemmas.Bool.{false≢true, cases_eq}
use Rattle.std.proofs.lemmas.Grind.{get_or-set_at}
use Rattle.std.proofs.lemmas.List.{get_or-set_other, get_or-drop, length-drop, drop_more, nil_from_length}
use Rattle.pt_meaning.specs.Tag.{Tag, earlier, least, is_due}
use Rattle.pt_wakes.specs.Wakes.{wake_of, NoneIsDue, IsDueAt}
use Rattle.pt_wakes.specs.Nodes.{node, below, settled, IsSettled, IsTree, IsTreeBut}
use Rattle.pt_wakes.proofs.Earlier.{earlier-self, earlier-comm, earlier-assoc, earlier-none, earlier-first, earlier-second, due-below}

-- the least of some wakes is at or before each of them
pub absorbed : (wakes : List (Option Tag)) (i : ℕ) → i < length wakes → earlier (wake_of wakes i) (least wakes) ≡ least wakes
absorbed [] i l = absurd (omega (arith, l))
absorbed (w ∷ wakes) zero l = sym (earlier-assoc w w (least wakes)) ∙ ap (λ v. earlier v (least wakes)) (earlier-self w)
absorbed (w ∷ wakes) (suc i) l =
    sym (earlier-assoc (wake_of wakes i) w (least wakes)) ∙ ap (λ v. earlier v (least wakes)) (earlier-comm (wake_of wakes i) w) ∙ earlier-assoc w (wake_of wakes i) (least wakes) ∙ ap (earlier w) (absorbed wakes i (omega (arith, l)))

-- and a wake that is at or before each of them is at or before their least
pub bounded : (w : Option Tag) (wakes : List (Option Tag)) → ((i : ℕ) → i < length wakes → earlier w (wake_of wakes i) ≡ w) → earlier w (least wakes) ≡ w
bounded w [] h = earlier-none w
bounded w (v ∷ wakes) h = sym (earlier-assoc w v (least wakes)) ∙ ap (λ u. earlier u (least wakes)) (h 0 (omega arith)) ∙ bounded w wakes (λ i l. h (suc i) (omega (arith, l)))

-- where the least isn't due, none is
pub none-due : (tag : Tag) (wakes : List (Option Tag)) → is_due tag (least wakes) ≡ false → NoneIsDue tag wakes
none-due tag wakes h i l = due-below tag (least wakes) (wake_of wakes i) (earlier-comm (least wakes) (wake_of wakes i) ∙ absorbed wakes i l) h

-- each number is twice another, or one more
pub record IsHalf (q h : ℕ) : Type 0 where
  pub cases : (q ≡ h + h) ⊎ (q ≡ suc (h + h))

pub halved : (q : ℕ) → (h : ℕ) × IsHalf q h
halved zero = (0, record { cases = inl refl })
halved (suc q) = elim ((halved q).1.cases) [
  | inl e ↦ ((halved q).0, record { cases = inr (ap suc e) })
  | inr e ↦ (suc (halved q).0, record { cases = inl (omega (arith, e)) })
]

module _ (leaves : ℕ) (nodes : List (Option Tag)) (t : IsTree leaves nodes) where
  -- a node is at or before the two below it
  pub under : (h q : ℕ) → 0 < h → h < leaves → (q ≡ h + h) ⊎ (q ≡ suc (h + h)) → earlier (node nodes h) (node nodes q) ≡ node nodes h
  under h q p l (inl e) =
      let s : IsSettled nodes h = t.settled h p l in
      ap (λ k. earlier (node nodes h) (node nodes k)) e ∙ ap (λ w. earlier w (node nodes (h + h))) s ∙ earlier-first (node nodes (h + h)) (node nodes (suc (h + h))) ∙ sym s
  under h q p l (inr e) =
      let s : IsSettled nodes h = t.settled h p l in
      ap (λ k. earlier (node nodes h) (node nodes k)) e ∙ ap (λ w. earlier w (node nodes (suc (h + h)))) s ∙ earlier-second (node nodes (h + h)) (node nodes (suc (h + h))) ∙ sym s

  -- node 1 is at or before each node
  top : (n q : ℕ) → q < n → 0 < q → q < leaves + leaves → earlier (node nodes 1) (node nodes q) ≡ node nodes 1
  top zero q b p l = absurd (omega (arith, b))
  top (suc n) zero b p l = absurd (omega (arith, p))
  top (suc n) (suc zero) b p l = earlier-self (node nodes 1)
  top (suc n) (suc (suc k)) b p l =
      let q : ℕ = suc (suc k) in
      let h : ℕ = (halved q).0 in
      let c : (q ≡ h + h) ⊎ (q ≡ suc (h + h)) = (halved q).1.cases in
      let pos : 0 < h = elim c [ inl e ↦ omega (arith, e) | inr e ↦ omega (arith, e) ] in
      let less : h < n = elim c [ inl e ↦ omega (arith, e, b) | inr e ↦ omega (arith, e, b) ] in
      let there : h < leaves = elim c [ inl e ↦ omega (arith, e, l) | inr e ↦ omega (arith, e, l) ] in
      let up : earlier (node nodes 1) (node nodes h) ≡ node nodes 1 = top n h less pos (omega (arith, there)) in
      ap (λ w. earlier w (node nodes q)) (sym up) ∙ earlier-assoc (node nodes 1) (node nodes h) (node nodes q) ∙ ap (earlier (node nodes 1)) (under h q pos there c) ∙ up

  -- the nodes above the leaves leave the least as it is
  from-leaves : (k r : ℕ) → suc r + k ≡ leaves → least (drop (suc r) nodes) ≡ least (drop leaves nodes)
  from-leaves zero r e = let n : suc r ≡ leaves = omega (arith, e) in ap (λ m. least (drop m nodes)) n
  from-leaves (suc k) r e =
      let q : ℕ = suc r in
      let rest : List (Option Tag) = drop (q + 1) nodes in
      let more : drop q nodes ≡ node nodes q ∷ rest = drop_more nodes q None (omega (arith, e, t.len)) in
      let long : length rest ≡ length nodes - (q + 1) = length-drop (q + 1) nodes in
      let left : earlier (node nodes (q + q)) (least rest) ≡ least rest =
      subst (λ w. earlier w (least rest) ≡ least rest) (get_or-drop (q + 1) nodes r None ∙ ap (node nodes) (omega arith)) (absorbed rest r (omega (arith, long, t.len, e))) in
      let right : earlier (node nodes (suc (q + q))) (least rest) ≡ least rest =
      subst (λ w. earlier w (least rest) ≡ least rest) (get_or-drop (q + 1) nodes q None ∙ ap (node nodes) (omega arith)) (absorbed rest q (omega (arith, long, t.len, e))) in
      let here : earlier (node nodes q) (least rest) ≡ least rest =
      ap (λ w. earlier w (least rest)) (t.settled q (omega arith) (omega (arith, e))) ∙ earlier-assoc (node nodes (q + q)) (node nodes (suc (q + q))) (least rest) ∙ ap (earlier (node nodes (q + q))) right ∙ left in
      let next : q + 1 ≡ suc q = omega arith in
      ap least more ∙ here ∙ ap (λ m. least (drop m nodes)) next ∙ from-leaves k q (omega (arith, e))

  -- node 1 has the least of the leaves
  pub root-least : 0 < leaves → node nodes 1 ≡ least (drop leaves nodes)
  root-least p =
      let rest : List (Option Tag) = drop 1 nodes in
      let long : length rest ≡ length nodes - 1 = length-drop 1 nodes in
      let first : earlier (node nodes 1) (least rest) ≡ least rest = subst (λ w. earlier w (least rest) ≡ least rest) (get_or-drop 1 nodes 0 None) (absorbed rest 0 (omega (arith, long, t.len, p))) in
      let each : earlier (node nodes 1) (least rest) ≡ node nodes 1 =
      bounded (node nodes 1) rest (λ i l. ap (earlier (node nodes 1)) (get_or-drop 1 nodes i None) ∙ top (suc (1 + i)) (1 + i) (omega arith) (omega arith) (omega (arith, l, long, t.len))) in
      let k : suc 0 + (leaves - 1) ≡ leaves = omega (arith, p) in
      sym each ∙ first ∙ from-leaves (leaves - 1) 0 k

-- a number that isn't 0
pub positive : (n : ℕ) → (n ≡ 0 → ⊥) → 0 < n
positive zero h = absurd (h refl)
positive (suc n) h = omega arith

-- where node 1 isn't due, no leaf is
pub none-under : (tag : Tag) (leaves : ℕ) (nodes wakes : List (Option Tag)) → IsTree leaves nodes → drop leaves nodes ≡ wakes → 0 < leaves → is_due tag (node nodes 1) ≡ false → NoneIsDue tag wakes
none-under tag leaves nodes wakes t v p h = none-due tag wakes (ap (λ ws. is_due tag (least ws)) (sym v) ∙ ap (is_due tag) (sym (root-least leaves nodes t p)) ∙ h)

-- no leaf is no wake
pub no-leaf : (tag : Tag) (leaves : ℕ) (nodes wakes : List (Option Tag)) → length nodes ≡ leaves + leaves → drop leaves nodes ≡ wakes → leaves ≡ 0 → NoneIsDue tag wakes
no-leaf tag leaves nodes wakes n v e i l = let m = ap length (sym v) ∙ length-drop leaves nodes in absurd (omega (arith, l, m, n, e))

-- a leaf that is due is the wake of a child
pub leaf-due : (tag : Tag) (leaves : ℕ) (nodes wakes : List (Option Tag)) (q : ℕ) → length nodes ≡ leaves + leaves → drop leaves nodes ≡ wakes → leaves ≤ q → q < leaves + leaves → is_due tag (node nodes q) ≡ true → IsDueAt tag wakes (q - leaves)
leaf-due tag leaves nodes wakes q n v f l h =
    let m = ap length (sym v) ∙ length-drop leaves nodes in
    (omega (arith, m, n, f, l), ap (λ w. is_due tag (wake_of w (q - leaves))) (sym v) ∙ ap (is_due tag) (get_or-drop leaves nodes (q - leaves) None ∙ ap (node nodes) (omega (arith, f))) ∙ h)

-- what changes before the leaves leaves them as they are
pub drop-before : (nodes : List (Option Tag)) (leaves h : ℕ) (w : Option Tag) → h < leaves → drop leaves (set nodes h w) ≡ drop leaves nodes
drop-before [] leaves h w l = refl
drop-before (n ∷ nodes) zero h w l = absurd (omega (arith, l))
drop-before (n ∷ nodes) (suc leaves) zero w l = refl
drop-before (n ∷ nodes) (suc leaves) (suc h) w l = drop-before nodes leaves h w (omega (arith, l))

-- where each node but the one above q has the lesser wake of the two below it, and that one is given it, only the one above that may lack it
pub settled-up : (q leaves : ℕ) (nodes : List (Option Tag)) → 1 < q → q < leaves + leaves → IsTreeBut q leaves nodes → IsTreeBut (q / 2) leaves (settled nodes (q / 2))
settled-up q leaves nodes b l t =
    let h : ℕ = q / 2 in
    let v : Option Tag = below nodes h in
    let there : h < length nodes = omega (arith, b, l, t.len) in
    record {
      len = length-set nodes h v ∙ t.len;
      settled = λ p some within left right.
          let first : node (set nodes h v) (p + p) ≡ node nodes (p + p) = get_or-set_other nodes h (p + p) v None left in
          let second : node (set nodes h v) (suc (p + p)) ≡ node nodes (suc (p + p)) = get_or-set_other nodes h (suc (p + p)) v None right in
          let same : below nodes p ≡ below (set nodes h v) p = ap (λ w. earlier w (node nodes (suc (p + p)))) (sym first) ∙ ap (earlier (node (set nodes h v) (p + p))) (sym second) in
          elim (cases_eq p h) [
            | inl e ↦ get_or-set_at nodes h p v None e (omega (arith, e, there)) ∙ ap (below nodes) (sym e) ∙ same
            | inr n ↦ get_or-set_other nodes h p v None n ∙ t.settled p some within (λ e. n (omega (arith, e))) (λ e. n (omega (arith, e))) ∙ same
          ];
    }

-- the lesser wake of a node and of the node beside it is that of the two below the one above
pub beside-below : (q : ℕ) (nodes : List (Option Tag)) → 1 < q → earlier (node nodes q) (node nodes (4 * (q / 2) + 1 - q)) ≡ below nodes (q / 2)
beside-below q nodes b =
    let h : ℕ = q / 2 in
    let k : ℕ = 4 * h + 1 - q in
    elim (halved q).1.cases [
      | inl e ↦
          let first : q ≡ h + h = omega (arith, e) in
          let second : k ≡ suc (h + h) = omega (arith, e, first) in
          ap (λ i. earlier (node nodes i) (node nodes k)) first ∙ ap (λ i. earlier (node nodes (h + h)) (node nodes i)) second
      | inr e ↦
          let second : q ≡ suc (h + h) = omega (arith, e) in
          let first : k ≡ h + h = omega (arith, e, second) in
          ap (λ i. earlier (node nodes i) (node nodes k)) second ∙ ap (λ i. earlier (node nodes (suc (h + h))) (node nodes i)) first ∙ earlier-comm (node nodes (suc (h + h))) (node nodes (h + h))
    ]

-- where that one has it already, each node has
pub settled-whole : (q leaves : ℕ) (nodes : List (Option Tag)) → IsTreeBut q leaves nodes → IsSettled nodes (q / 2) → IsTree leaves nodes
settled-whole q leaves nodes t s = record {
  len = t.len;
  settled = λ p some within. elim (cases_eq p (q / 2)) [
    | inl e ↦ subst (IsSettled nodes) (sym e) s
    | inr n ↦ t.settled p some within (λ e. n (omega (arith, e))) (λ e. n (omega (arith, e)))
  ];
}
