-- Integers that stand in front of channels.
use Rattle.std.proofs.Common.{◌≡◌, ℕ, ℤ, pos, zero, suc, ◌+◌, ◌-◌, ◌*◌, ◌<◌, ◌≤◌, List, [], ◌∷◌, ◌++◌, length, get_or, map, take, drop, Option, Some, None, IfSome, refl, ap, ap₂, ◌∙◌, sym, arith, length-drop}
use Rattle.std.proofs.lemmas.List.{get_or-drop, map_push, length-map, length-take, drop-map, drop-take}
use Rattle.pt_meaning.specs.Streams.{Streams}
use Rattle.pt_meaning.specs.Kahn.{firsts}
use Rattle.pt_value.specs.declared.token.Token.{Token}
use Rattle.pt_value.specs.declared.token.Token.TheVariants.{Int}
use Rattle.pt_firing.specs.IntInputs.{one_at_each}
use Rattle.pt_firing.specs.IntRows.{at_one_place}
use Rattle.pt_firing.proofs.InARow.{firings-long, row-within, row-at}
use Rattle.pt_sdf_parts.specs.InFront.{AreInFront}
use Rattle.pt_sdf_parts.proofs.Lists.{firsts-step}

-- fewer of those in front are the first of the channel
pub front-of : (ns : List ℤ) (xs : List Token) (n : ℕ) → map Int ns ≡ take (length ns) xs → n ≤ length ns → map Int (take n ns) ≡ take n xs
front-of [] xs zero e h = refl
front-of [] xs (suc n) e h = absurd (omega arith)
front-of (m ∷ ns) [] n e h = absurd (cc)
front-of (m ∷ ns) (x ∷ xs) zero e h = refl
front-of (m ∷ ns) (x ∷ xs) (suc n) e h = ap₂ (λ a b. a ∷ b) (ap (λ v. get_or v 0 (Int m)) e) (front-of ns xs n (ap (λ v. drop 1 v) e) (omega arith))

first-of : (ns : List ℤ) (xs : List Token) (m : ℤ) → map Int ns ≡ take (length ns) xs → 0 < length ns → m ≡ get_or ns 0 (pos 0) → Int m ∷ [] ≡ take 1 xs
first-of [] xs m f some is = absurd (omega arith)
first-of (n ∷ ns) [] m f some is = absurd (cc)
first-of (n ∷ ns) (x ∷ xs) m f some is = ap (λ v. Int v ∷ []) is ∙ ap (λ v. get_or v 0 (Int n) ∷ []) f

-- the first of the next channel goes behind the others
pub row-more : (X : Streams Token) (from k : ℕ) (needs : List ℕ) (row : List ℤ) (ns : List ℤ) (m : ℤ) → from + k < length X → from + k < length needs → get_or needs (from + k) 0 ≡ 1 → one_at_each row ≡ firsts (take k (drop from needs)) (take k (drop from X)) → map Int ns ≡ take (length ns) (get_or X (from + k) []) → 0 < length ns → m ≡ get_or ns 0 (pos 0) →
    one_at_each (row ++ m ∷ []) ≡ firsts (take (k + 1) (drop from needs)) (take (k + 1) (drop from X))
row-more X from k needs row ns m h l one e f some is =
    map_push (λ n. Int n ∷ []) row m
    ∙ ap₂ (λ a b. a ++ b ∷ []) e (first-of ns (get_or X (from + k) []) m f some is ∙ ap₂ (λ a b. take a b) (sym (get_or-drop from needs k 0 ∙ one)) (sym (get_or-drop from X k [])))
    ∙ firsts-step k (drop from needs) (drop from X) (omega (arith, l, length-drop from needs)) (omega (arith, h, length-drop from X))

-- what holds of what is there
pub some-more : {X : Type 0} {P Q : X → Type 0} (o : Option X) → ((x : X) → P x → Q x) → IfSome o P → IfSome o Q
some-more None f p = tt
some-more (Some x) f p = f x p

-- those in front are what firings in a row take
pub in-front : (need firings : ℕ) (ns : List ℤ) (xs : List Token) → map Int ns ≡ take (length ns) xs → firings * need ≤ length ns → AreInFront need xs (at_one_place need firings ns)
in-front need firings ns xs e room = record {
  enough = omega (arith, ap (λ k. k * need) long, room, ap (λ v. length v) e, length-map ns Int, length-take (length ns) xs);
  each = λ k short. sym (row-at need firings ns k (omega (arith, short, long))) ∙ ap (λ (v : List Token). let r : Streams Token = v ∷ [] in r) (piece k (omega (arith, short, long)));
}
  where
    long : length (at_one_place need firings ns) ≡ firings
    long = firings-long (Some need) firings ns

    piece : (k : ℕ) → k < firings → map Int (take need (drop (k * need) ns)) ≡ take need (drop (k * need) xs)
    piece k short =
        let behind : k * need + need ≤ firings * need = row-within need firings k short in
        let rest : length (drop (k * need) ns) ≡ length ns - k * need = length-drop (k * need) ns in
        let all : length ns ≡ k * need + length (drop (k * need) ns) = omega (arith, rest, behind, room) in
        front-of (drop (k * need) ns) (drop (k * need) xs) need
        (sym (drop-map Int (k * need) ns) ∙ ap (λ v. drop (k * need) v) e ∙ ap (λ m. drop (k * need) (take m xs)) all ∙ drop-take (k * need) (length (drop (k * need) ns)) xs) (omega (arith, rest, behind, room))
