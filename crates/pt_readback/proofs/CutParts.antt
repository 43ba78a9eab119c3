-- Where a text is cut.
use Rattle.std.proofs.Common.{◌≡◌, ◌≢◌, ℕ, ◌+◌, ◌<◌, List, [], ◌∷◌, ◌++◌, length, get_or, take, drop, Bool, true, false, cond, not, ◌==◌, Option, Some, None, option_map, refl, sym, ap, subst, ◌∙◌, append_assoc, arith}
use Rattle.std.specs.Prelude.{nat_lt}
use Rattle.std.specs.List.{list_all, prefix_len, position, position_or_len}
use Rattle.std.proofs.lemmas.Bool.{and_parts, cond-true}
use Rattle.std.proofs.lemmas.Bool.Decides.{Decides-eqb, Decides-ltb}
use Rattle.std.proofs.lemmas.List.{take_at, drop_at, drop-drop, length-append}
use Rattle.pt_language.specs.Descent.{◌>>=◌}
use Rattle.pt_readback.specs.Listed.{cut, cut_two, cut_three}
use Rattle.pt_readback.proofs.Bytes.{Has, Lacks}

same : (m : ℕ) → (m == m) ≡ true
same m = (Decides-eqb m m).1 refl

first_of : (p : ℕ → Bool) (a : List ℕ) (m : ℕ) (b : List ℕ) → Has p a → p m ≡ false → prefix_len p (a ++ m ∷ b) ≡ length a
first_of p [] m b h n = ap (λ t. cond t (1 + prefix_len p b) 0) n
first_of p (c ∷ cs) m b h n =
    let k = and_parts (p c) (list_all p cs) h in
    let e : 1 + prefix_len p (cs ++ m ∷ b) ≡ length (c ∷ cs) = omega (arith, first_of p cs m b k.1 n) in
    ap (λ t. cond t (1 + prefix_len p (cs ++ m ∷ b)) 0) k.0 ∙ e

pub cut_first : (mark : ℕ) (a b : List ℕ) → Lacks mark a → cut mark (a ++ mark ∷ b) ≡ Some (a, b)
cut_first mark a b h =
    let text : List ℕ = a ++ mark ∷ b in
    let no : not (mark == mark) ≡ false = ap not (same mark) in
    let n : position_or_len (λ c. c == mark) text ≡ length a = first_of (λ c. not (c == mark)) a mark b h no in
    let short : length a < length text = omega (arith, length-append a (mark ∷ b)) in
    let at : position (λ c. c == mark) text ≡ Some (length a) = ap (λ k. cond (nat_lt k (length text)) (Some k) None) n ∙ cond-true (nat_lt (length a) (length text)) (Some (length a)) None ((Decides-ltb (length a) (length text)).1 short) in
    let before : take (length a) text ≡ a = take_at a (mark ∷ b) (length a) refl in
    let after : drop (length a + 1) text ≡ b = sym (drop-drop 1 (length a) text) ∙ ap (drop 1) (drop_at a (mark ∷ b) (length a) refl) in
    ap (option_map (λ i. (take i text, drop (i + 1) text))) at ∙ (λ i. Some (before i, after i))

pub cut_is : (mark : ℕ) (a b text : List ℕ) → Lacks mark a → a ++ mark ∷ b ≡ text → cut mark text ≡ Some (a, b)
cut_is mark a b text h e = ap (cut mark) (sym e) ∙ cut_first mark a b h

pub cut_two_is : (m n : ℕ) (a b rest text : List ℕ) → Lacks m a → Lacks n b → a ++ m ∷ (b ++ n ∷ rest) ≡ text → cut_two m n text ≡ Some (a, b, rest)
cut_two_is m n a b rest text h k e =
    ap (λ o. o >>= λ x. cut n x.1 >>= λ y. Some (x.0, y.0, y.1)) (cut_is m a (b ++ n ∷ rest) text h e) ∙ ap (λ o. o >>= λ y. Some (a, y.0, y.1)) (cut_first n b rest k)

pub cut_three_is : (m n o : ℕ) (a b c rest text : List ℕ) → Lacks m a → Lacks n b → Lacks o c → a ++ m ∷ (b ++ n ∷ (c ++ o ∷ rest)) ≡ text → cut_three m n o text ≡ Some (a, b, c, rest)
cut_three_is m n o a b c rest text h k l e =
    ap (λ r. r >>= λ x. cut_two n o x.1 >>= λ y. Some (x.0, y.0, y.1, y.2)) (cut_is m a (b ++ n ∷ (c ++ o ∷ rest)) text h e) ∙ ap (λ r. r >>= λ y. Some (a, y.0, y.1, y.2)) (cut_two_is n o b c rest (b ++ n ∷ (c ++ o ∷ rest)) k l refl)
