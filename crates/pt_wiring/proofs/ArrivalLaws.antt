-- One channel more, at the entity where it ends.
use Rattle.std.proofs.Common.{◌≡◌, ℕ, ◌+◌, ◌<◌, ◌≤◌, List, [], ◌∷◌, ◌++◌, true, false, ◌&&◌, length, get_or, set, nat_eq, refl, sym, ap, ap₂, ◌∙◌, subst, arith, inl, inr, get_or-set_same, get_or-set_other, length-set}
use Rattle.std.specs.Prelude.{not}
use Rattle.std.proofs.Math.ListN.{get_or-eq_default}
use Rattle.std.proofs.lemmas.Bool.{cases_order, eq-eqb}
use Rattle.std.proofs.lemmas.List.Sums.{count_by-le-length}
use Rattle.pt_net.specs.declared.net.Channel.{Channel}
use Rattle.pt_net.specs.Inside.{comes_to, place_count}
use Rattle.pt_wiring.specs.Channels.{AreArrivals}
use Rattle.pt_wiring.proofs.ChildLaws.{not-same}
use Rattle.pt_wiring.proofs.PortLaws.{count-snoc}

pub arrived : (count : ℕ) (ks : List Channel) (k : Channel) (arrivals : List ℕ) → AreArrivals count ks arrivals → (k.composite ≡ k.to.entity → ⊥) → k.to.entity < length arrivals →
    AreArrivals count (ks ++ k ∷ []) (set arrivals k.to.entity (get_or arrivals k.to.entity 0 + 1))
arrived count ks k arrivals are apart there = record {
  counted = length-set arrivals k.to.entity (get_or arrivals k.to.entity 0 + 1) ∙ are.counted;
  each = λ i h. elim (cases_order i k.to.entity) [ inl same ↦ (let P : ℕ → Type 0 = λ j. get_or (set arrivals k.to.entity (get_or arrivals k.to.entity 0 + 1)) j 0 ≡ place_count (ks ++ k ∷ []) j in subst P (sym same) here) | inr other ↦ elsewhere i h (elim other as (λ o. i ≡ k.to.entity → ⊥) [ inl below ↦ (λ q. omega (arith, below, q)) | inr above ↦ (λ q. omega (arith, above, q)) ]) ];
}
  where
    comes : comes_to k.to.entity k ≡ true
    comes = ap₂ (λ a b. a && not b) (eq-eqb k.to.entity k.to.entity refl) (not-same k.composite k.to.entity apart)

    here : get_or (set arrivals k.to.entity (get_or arrivals k.to.entity 0 + 1)) k.to.entity 0 ≡ place_count (ks ++ k ∷ []) k.to.entity
    here = get_or-set_same arrivals k.to.entity (get_or arrivals k.to.entity 0 + 1) 0 there ∙ ap (λ n. n + 1) (are.each k.to.entity (omega (arith, there, are.counted))) ∙ sym (count-snoc (comes_to k.to.entity) ks k true comes)

    elsewhere : (i : ℕ) → i < count → (i ≡ k.to.entity → ⊥) → get_or (set arrivals k.to.entity (get_or arrivals k.to.entity 0 + 1)) i 0 ≡ place_count (ks ++ k ∷ []) i
    elsewhere i h ne = get_or-set_other arrivals k.to.entity i (get_or arrivals k.to.entity 0 + 1) 0 ne ∙ are.each i h ∙ omega arith ∙ sym (count-snoc (comes_to i) ks k false (ap (λ b. b && not (nat_eq k.composite i)) (not-same k.to.entity i (λ q. ne (sym q)))))

-- no entity has more places than there are channels
pub few-arrived : (count : ℕ) (ks : List Channel) (arrivals : List ℕ) → AreArrivals count ks arrivals → (i : ℕ) → get_or arrivals i 0 ≤ length ks
few-arrived count ks arrivals are i = elim (cases_order i count) [ inl same ↦ past (omega (arith, same)) | inr other ↦ elim other [ inl below ↦ subst (λ n. n ≤ length ks) (sym (are.each i below)) (count_by-le-length (comes_to i) ks) | inr above ↦ past (omega (arith, above)) ] ]
  where
    past : count ≤ i → get_or arrivals i 0 ≤ length ks
    past h = let none : get_or arrivals i 0 ≡ 0 = get_or-eq_default arrivals 0 (omega (arith, h, are.counted)) in omega (arith, none)
