-- The channels within each composite, one after another.
use Rattle.std.proofs.Common.{◌≡◌, ℕ, ◌<◌, ◌≤◌, List, [], ◌∷◌, ◌++◌, Bool, true, false, length, get_or, set, nat_eq, refl, sym, ap, ◌∙◌, subst, arith, inl, inr, append-nil, get_or-set_same, get_or-set_other, length-set}
use Rattle.std.specs.Prelude.{filter}
use Rattle.std.proofs.lemmas.Bool.{cases_order, eq-eqb}
use Rattle.std.proofs.lemmas.List.Elements.{filter-append}
use Rattle.pt_net.specs.declared.net.Channel.{Channel}
use Rattle.pt_net.specs.Inside.{is_within, channels_in}
use Rattle.pt_wiring.proofs.ChildLaws.{not-same}
use Rattle.pt_within.specs.Within.{AreWithin}

-- one channel more, which is within the composite or isn't
inside : (ks : List Channel) (k : Channel) (c : ℕ) → k.composite ≡ c → channels_in (ks ++ k ∷ []) c ≡ channels_in ks c ++ k ∷ []
inside ks k c is = filter-append (is_within c) ks (k ∷ []) ∙ ap (λ v. channels_in ks c ++ v) (kept (is_within c) k (eq-eqb k.composite c is))
  where
    kept : (p : Channel → Bool) (x : Channel) → p x ≡ true → filter p (x ∷ []) ≡ x ∷ []
    kept p x e = cc

elsewhere : (ks : List Channel) (k : Channel) (c : ℕ) → (k.composite ≡ c → ⊥) → channels_in (ks ++ k ∷ []) c ≡ channels_in ks c
elsewhere ks k c not = filter-append (is_within c) ks (k ∷ []) ∙ ap (λ v. channels_in ks c ++ v) (left (is_within c) k (not-same k.composite c not)) ∙ append-nil (channels_in ks c)
  where
    left : (p : Channel → Bool) (x : Channel) → p x ≡ false → filter p (x ∷ []) ≡ []
    left p x e = cc

-- the channel of a composite that isn't there
pub channel-passed : (count : ℕ) (ks : List Channel) (k : Channel) (lists : List (List Channel)) → AreWithin count ks lists → count ≤ k.composite → AreWithin count (ks ++ k ∷ []) lists
channel-passed count ks k lists are far = record {
  counted = are.counted;
  each = λ c h. are.each c h ∙ sym (elsewhere ks k c (λ q. omega (arith, q, h, far)));
}

-- the channel of one that is
pub channel-added : (count : ℕ) (ks : List Channel) (k : Channel) (lists : List (List Channel)) (after : List Channel) → AreWithin count ks lists → k.composite < count → after ≡ get_or lists k.composite [] ++ k ∷ [] → AreWithin count (ks ++ k ∷ []) (set lists k.composite after)
channel-added count ks k lists after are there appended = record {
  counted = length-set lists k.composite after ∙ are.counted;
  each = λ c h. elim (cases_order c k.composite) [
    | inl same ↦ (let P : ℕ → Type 0 = λ d. get_or (set lists k.composite after) d [] ≡ channels_in (ks ++ k ∷ []) d in subst P (sym same) here)
    | inr other ↦ other-one c h (elim other as (λ o. c ≡ k.composite → ⊥) [ inl below ↦ (λ q. omega (arith, below, q)) | inr above ↦ (λ q. omega (arith, above, q)) ])
  ];
}
  where
    within : k.composite < length lists
    within = omega (arith, there, are.counted)

    here : get_or (set lists k.composite after) k.composite [] ≡ channels_in (ks ++ k ∷ []) k.composite
    here = get_or-set_same lists k.composite after [] within ∙ appended ∙ ap (λ v. v ++ k ∷ []) (are.each k.composite there) ∙ sym (inside ks k k.composite refl)

    other-one : (c : ℕ) → c < count → (c ≡ k.composite → ⊥) → get_or (set lists k.composite after) c [] ≡ channels_in (ks ++ k ∷ []) c
    other-one c h ne = get_or-set_other lists k.composite c after [] ne ∙ are.each c h ∙ sym (elsewhere ks k c (λ q. ne (sym q)))
