-- A word at the front of a text.
use Rattle.std.proofs.Common.{◌≡◌, ◌<◌, ◌&&◌, ℕ, List, [], ◌∷◌, ◌++◌, length, take, drop, Some, None, Bool, true, false, cond, eqb, bytes_eq, refl, arith}
use Rattle.std.proofs.lemmas.Bool.Decides.{nat_tests}
use Rattle.pt_document.specs.TypeWords.{behind}

-- a text that is shorter than a word doesn't begin with it
pub behind_short : (word text : List ℕ) → length text < length word → None ≡ behind word text
behind_short [] text h = absurd (omega arith)
behind_short (c ∷ word) [] h = refl
behind_short (c ∷ word) (x ∷ text) h = chosen (eqb x c) (behind_short word text (omega (arith, h)))
  where
    chosen : (b : Bool) → None ≡ behind word text → None ≡ cond b (behind word text) None
    chosen true rest = rest
    chosen false rest = refl

-- what is left behind a word is the text past its length, where its front is the word
pub behind_is : (word text : List ℕ) → behind word text ≡ cond (bytes_eq (take (length word) text) word) (Some (drop (length word) text)) None
behind_is [] text = refl
behind_is (c ∷ word) [] = refl
behind_is (c ∷ word) (x ∷ text) = chosen (eqb x c) (behind_is word text)
  where
    chosen : (b : Bool) → behind word text ≡ cond (bytes_eq (take (length word) text) word) (Some (drop (length word) text)) None
        → cond b (behind word text) None ≡ cond (b && bytes_eq (take (length word) text) word) (Some (drop (length word) text)) None
    chosen true rest = rest
    chosen false rest = refl

-- the text is the word and what is left behind it
pub behind_some : (word text rest : List ℕ) → behind word text ≡ Some rest → text ≡ word ++ rest
behind_some [] text rest e = cc
behind_some (c ∷ word) [] rest e = absurd cc
behind_some (c ∷ word) (x ∷ text) rest e = chosen (eqb x c) refl (λ h. behind_some word text rest h) e
  where
    chosen : (b : Bool) → eqb x c ≡ b → (behind word text ≡ Some rest → text ≡ word ++ rest) → cond b (behind word text) None ≡ Some rest → x ∷ text ≡ c ∷ (word ++ rest)
    chosen true same later e = let is : x ≡ c = grind (arith, nat_tests) in let tail = later e in cc
    chosen false same later e = absurd cc
