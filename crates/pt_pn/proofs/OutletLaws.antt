-- Channels of which all tokens are taken, one after another.
use Rattle.std.proofs.Common.{◌≡◌, ◌⊎◌, inl, inr, ℕ, zero, suc, ◌+◌, ◌-◌, ◌<◌, ◌≤◌, List, [], ◌∷◌, ◌++◌, length, set, take, drop, get_or, Option, Some, None, refl, sym, ap, ap₂, subst, ◌∙◌, arith, length-append, length-drop, length-set, get_or-set_same}
use Rattle.std.specs.Prelude.{slice_get}
use Rattle.std.proofs.lemmas.List.{take_more, take_all, get_or_append_left, get_or-append_right, get_or-take, get_or-drop, get_or-set_other, length-take-le, same_lists, get_or_default}
use Rattle.pt_meaning.specs.Streams.{Streams}
use Rattle.pt_meaning.specs.Process.{emptied}
use Rattle.pt_recv.specs.Lines.{list_at, spare_at, raised}
use Rattle.pt_reaction.specs.Spared.{Spared}
use Rattle.pt_value.specs.declared.token.Token.{Token}
use Rattle.pt_pn.specs.Outlets.{no_line, HaveRoom}

-- the front of what is left of a list
pub front-of : (xs : List Token) (k : ℕ) (x : Token) → k < length xs → slice_get (drop k xs) 0 ≡ Some x → take (k + 1) xs ≡ take k xs ++ (x ∷ [])
front-of xs k x h e = take_more xs k x h ∙ ap (λ v. take k xs ++ (v ∷ [])) (read xs k e)
  where
    read : (xs : List Token) (k : ℕ) → slice_get (drop k xs) 0 ≡ Some x → get_or xs k x ≡ x
    read [] k e = refl
    read (y ∷ xs) zero e = some-is y x e
      where
        some-is : (a b : Token) → Option.Some a ≡ Option.Some b → a ≡ b
        some-is a b e = cc
    read (y ∷ xs) (suc k) e = read xs k e

pub front-there : (xs : List Token) (k : ℕ) → k < length xs → slice_get (drop k xs) 0 ≡ None → ⊥
front-there [] k h e = omega (arith, h)
front-there (y ∷ xs) zero h e = absurd (cc)
front-there (y ∷ xs) (suc k) h e = front-there xs k (omega (arith, h)) e

-- the room of a channel never gets less
pub raised-more : (S : List ℕ) (c d : ℕ) → spare_at S d ≤ spare_at (raised S c) d
raised-more [] c d = omega arith
raised-more (x ∷ S) zero zero = omega arith
raised-more (x ∷ S) zero (suc d) = omega arith
raised-more (x ∷ S) (suc c) zero = omega arith
raised-more (x ∷ S) (suc c) (suc d) = raised-more S c d

pub more-on : (A B C : List ℕ) → ((d : ℕ) → spare_at A d ≤ spare_at B d) → ((d : ℕ) → spare_at B d ≤ spare_at C d) → (d : ℕ) → spare_at A d ≤ spare_at C d
more-on A B C f g d = let a = f d in let b = g d in omega (arith, a, b)

-- so many channels are empty, from a number on, and all others are as before
pub record Drained (L now : Streams Token) (from k : ℕ) : Type 0 where
  pub long : length now ≡ length L
  pub before : (d : ℕ) → d < from → get_or now d [] ≡ get_or L d []
  pub behind : (d : ℕ) → from + k ≤ d → get_or now d [] ≡ get_or L d []
  pub gone : (j : ℕ) → j < k → get_or now (from + j) [] ≡ []

pub none-drained : (L : Streams Token) (from : ℕ) → Drained L L from 0
none-drained L from = record { long = refl; before = λ d h. refl; behind = λ d h. refl; gone = λ j h. absurd (omega (arith, h)) }

pub one-drained : (L now now' : Streams Token) (from k : ℕ) → from + k < length L → Drained L now from k → now' ≡ set now (from + k) [] → Drained L now' from (k + 1)
one-drained L now now' from k h r e = record {
  long = ap (λ v. length v) e ∙ length-set now (from + k) [] ∙ r.long;
  before = λ d l. ap (λ v. get_or v d []) e ∙ get_or-set_other now (from + k) d [] [] (λ z. absurd (omega (arith, l, z))) ∙ r.before d l;
  behind = λ d l. ap (λ v. get_or v d []) e ∙ get_or-set_other now (from + k) d [] [] (λ z. absurd (omega (arith, l, z))) ∙ r.behind d (omega (arith, l));
  gone = λ j l. ap (λ v. get_or v (from + j) []) e ∙ by j (split j k l);
}
  where
    split : (j k : ℕ) → j < k + 1 → (j < k) ⊎ (k ≡ j)
    split j k l = grind arith

    by : (j : ℕ) → (j < k) ⊎ (k ≡ j) → get_or (set now (from + k) []) (from + j) [] ≡ []
    by j (inl l) = get_or-set_other now (from + k) (from + j) [] [] (λ z. absurd (omega (arith, l, z))) ∙ r.gone j l
    by j (inr z) = ap (λ i. get_or (set now (from + k) []) (from + i) []) (sym z) ∙ get_or-set_same now (from + k) [] [] (let m = r.long in omega (arith, h, m))

emptied-at : (X : Streams Token) (k : ℕ) → get_or (emptied X) k [] ≡ []
emptied-at [] k = refl
emptied-at (xs ∷ X) zero = refl
emptied-at (xs ∷ X) (suc k) = emptied-at X k

emptied-long : (X : Streams Token) → length (emptied X) ≡ length X
emptied-long [] = refl
emptied-long (xs ∷ X) = ap (λ n. suc n) (emptied-long X)

pub all-drained : (L now : Streams Token) (from k : ℕ) → from ≤ length L → length L ≤ from + k → Drained L now from k → now ≡ take from L ++ emptied (drop from L)
all-drained L now from k h l r = same_lists now (take from L ++ emptied (drop from L)) long (λ d e w. get_or_default now d e [] w ∙ each d (split d from) w ∙ get_or_default (take from L ++ emptied (drop from L)) d [] e (omega (arith, w, long)))
  where
    split : (d from : ℕ) → (d < from) ⊎ (from ≤ d)
    split d from = grind arith

    long : length now ≡ length (take from L ++ emptied (drop from L))
    long =
        let a = length-append (take from L) (emptied (drop from L)) in
        let b = length-take-le from L h in
        let c = emptied-long (drop from L) ∙ length-drop from L in
        let m = r.long in
        omega (arith, a, b, c, m, h)

    each : (d : ℕ) → (d < from) ⊎ (from ≤ d) → d < length now → get_or now d [] ≡ get_or (take from L ++ emptied (drop from L)) d []
    each d (inl s) w = r.before d s ∙ sym (get_or_append_left (take from L) (emptied (drop from L)) [] d (let b = length-take-le from L h in omega (arith, b, s)) ∙ get_or-take from L d [] s)
    each d (inr s) w =
        let m = r.long in
        ap (λ i. get_or now i []) (apart d from s) ∙ r.gone (d - from) (omega (arith, w, m, l, s)) ∙ sym (get_or-append_right (take from L) (emptied (drop from L)) from d [] (length-take-le from L h) s ∙ emptied-at (drop from L) (d - from))
      where
        apart : (d from : ℕ) → from ≤ d → d ≡ from + (d - from)
        apart d from s = omega (arith, s)

-- what the next channel gives
pub next-list : (L now : Streams Token) (from k : ℕ) → Drained L now from k → list_at now (from + k) ≡ list_at L (from + k)
next-list L now from k r = r.behind (from + k) (omega arith)

pub given-more : (L : Streams Token) (from k : ℕ) (xs : List Token) (given : Streams Token) → from + k < length L → xs ≡ list_at L (from + k) → given ≡ take k (drop from L) → given ++ (xs ∷ []) ≡ take (k + 1) (drop from L)
given-more L from k xs given h e g =
    ap₂ (λ v w. v ++ (w ∷ [])) g (e ∙ sym (get_or-drop from L k [])) ∙ sym (take_more (drop from L) k [] (let d = length-drop from L in omega (arith, d, h)))

pub given-all : (L : Streams Token) (from k : ℕ) (given : Streams Token) → length L ≤ from + k → given ≡ take k (drop from L) → given ≡ drop from L
given-all L from k given h e = e ∙ take_all k (drop from L) (let d = length-drop from L in omega (arith, d, h))

-- one room is used
pub rooms-left : (L : Streams Token) (from k : ℕ) (R R' : List (Spared Token)) → HaveRoom L from k R → length R' ≡ length R → ((j : ℕ) → k < j → get_or R' j no_line ≡ get_or R j no_line) → HaveRoom L from (k + 1) R'
rooms-left L from k R R' h e o j l m =
    let r = h j (omega (arith, l)) (omega (arith, m, e)) in
    subst (λ (w : Spared Token). (w.list ≡ []) × (length (list_at L (from + j)) ≤ w.spare)) (sym (o j (omega (arith, l)))) r

-- one room more is made
pub rooms-more : (L : Streams Token) (from k : ℕ) (R : List (Spared Token)) (w : Spared Token) (n : ℕ) → length R ≡ k → HaveRoom L from 0 R → w.list ≡ [] → n ≡ length (list_at L (from + k)) → n ≤ w.spare → HaveRoom L from 0 (R ++ (w ∷ []))
rooms-more L from k R w n e h a z b j l m = by (split j k (let q = length-append R (w ∷ []) in omega (arith, q, m, e)))
  where
    split : (j k : ℕ) → j < k + 1 → (j < k) ⊎ (k ≡ j)
    split j k l = grind arith

    end : (R : List (Spared Token)) → get_or (R ++ (w ∷ [])) (length R) no_line ≡ w
    end [] = refl
    end (x ∷ R) = end R

    by : (j < k) ⊎ (k ≡ j) → ((get_or (R ++ (w ∷ [])) j no_line).list ≡ []) × (length (list_at L (from + j)) ≤ (get_or (R ++ (w ∷ [])) j no_line).spare)
    by (inl s) = subst (λ (v : Spared Token). (v.list ≡ []) × (length (list_at L (from + j)) ≤ v.spare)) (sym (get_or_append_left R (w ∷ []) no_line j (omega (arith, s, e)))) (h j l (omega (arith, s, e)))
    by (inr s) =
        let this : get_or (R ++ (w ∷ [])) j no_line ≡ w = ap (λ i. get_or (R ++ (w ∷ [])) i no_line) (sym (e ∙ s)) ∙ end R in
        subst (λ (v : Spared Token). (v.list ≡ []) × (length (list_at L (from + j)) ≤ v.spare)) (sym this) (a, let y = ap (λ i. length (list_at L (from + i))) s in omega (arith, y, z, b))

pub read-line : (R : List (Spared Token)) (k : ℕ) (w : Spared Token) → k < length R → w ≡ get_or R k w → w ≡ get_or R k no_line
read-line R k w h e = e ∙ get_or_default R k w no_line h
