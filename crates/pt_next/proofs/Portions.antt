-- What an iteration takes of each input, place by place.
use Rattle.std.proofs.Common.{◌≡◌, ℕ, suc, ◌+◌, ◌*◌, ◌<◌, ◌≤◌, List, [], ◌∷◌, ◌++◌, Bool, true, false, ◌&&◌, nat_le, length, take, drop, get_or, refl, sym, ap, ap₂, ◌∙◌, arith, append_assoc, append-nil}
use Rattle.std.proofs.lemmas.Bool.Decides.{nat_tests}
use Rattle.pt_meaning.specs.Basics.{Streams}
use Rattle.pt_meaning.specs.Schedule.{portions, suffice}
use Rattle.pt_value.specs.declared.token.Token.{Token}
use Rattle.pt_next.proofs.Dropping.{drop-more, drop-all}

and-left : (a b : Bool) → (a && b) ≡ true → a ≡ true
and-left true b e = refl
and-left false b e = absurd (cc)

and-right : (a b : Bool) → (a && b) ≡ true → b ≡ true
and-right true b e = e
and-right false b e = absurd (cc)

-- one place
pub suffice_at : (n : ℕ) (takes : List ℕ) (X : Streams Token) (k t : ℕ) (xs : List Token) → k < length takes → t ≡ get_or takes k t → k < length X → xs ≡ get_or X k xs →
    suffice n (drop k takes) (drop k X) ≡ (nat_le (suc n * t) (length xs) && suffice n (drop (k + 1) takes) (drop (k + 1) X))
suffice_at n takes X k t xs a e b g = ap₂ (λ u v. suffice n u v) (drop-more takes k t a e) (drop-more X k xs b g)

pub suffice_all : (n : ℕ) (takes : List ℕ) (X : Streams Token) (k : ℕ) → length takes ≤ k → suffice n (drop k takes) (drop k X) ≡ true
suffice_all n takes X k l = ap (λ u. suffice n u (drop k X)) (drop-all takes k l)

-- the portions of the places before k
pub record Portioned (n : ℕ) (takes : List ℕ) (X : Streams Token) (k : ℕ) (lists : Streams Token) : Type 0 where
  pub enough : suffice n (drop k takes) (drop k X) ≡ true
  pub rest : lists ++ portions n (drop k takes) (drop k X) ≡ portions n takes X

pub portion_there : (n : ℕ) (takes : List ℕ) (X lists : Streams Token) (k t : ℕ) (xs : List Token) → Portioned n takes X k lists → k < length takes → t ≡ get_or takes k t → k < length X → xs ≡ get_or X k xs → suc n * t ≤ length xs
portion_there n takes X lists k t xs p a e b g =
    let test : nat_le (suc n * t) (length xs) ≡ true = and-left (nat_le (suc n * t) (length xs)) (suffice n (drop (k + 1) takes) (drop (k + 1) X)) (sym (suffice_at n takes X k t xs a e b g) ∙ p.enough) in
    grind (arith, nat_tests)

pub portion_next : (n : ℕ) (takes : List ℕ) (X lists : Streams Token) (k t : ℕ) (xs ys : List Token) → Portioned n takes X k lists → k < length takes → t ≡ get_or takes k t → k < length X → xs ≡ get_or X k xs → ys ≡ take t (drop (n * t) xs) → Portioned n takes X (k + 1) (lists ++ ys ∷ [])
portion_next n takes X lists k t xs ys p a e b g h = record {
  enough = and-right (nat_le (suc n * t) (length xs)) (suffice n (drop (k + 1) takes) (drop (k + 1) X)) (sym (suffice_at n takes X k t xs a e b g) ∙ p.enough);
  rest =
      append_assoc lists (ys ∷ []) (portions n (drop (k + 1) takes) (drop (k + 1) X)) ∙
      ap (λ v. lists ++ v) (ap (λ v. v ∷ portions n (drop (k + 1) takes) (drop (k + 1) X)) h ∙ sym (ap₂ (λ u v. portions n u v) (drop-more takes k t a e) (drop-more X k xs b g))) ∙ p.rest;
}

pub portion_last : (n : ℕ) (takes : List ℕ) (X lists : Streams Token) (k : ℕ) → Portioned n takes X k lists → length takes ≤ k → lists ≡ portions n takes X
portion_last n takes X lists k p l = sym (append-nil lists) ∙ ap (λ u. lists ++ portions n u (drop k X)) (sym (drop-all takes k l)) ∙ p.rest
