-- Words from a text whose blanks at the front are gone.
use Rattle.std.proofs.Common.{◌≡◌, List, ◌∷◌, [], ◌++◌, ℕ, Option, Some, None, sym, subst, refl}
use Rattle.pt_language.specs.declared.word.Word.{Word}
use Rattle.pt_language.specs.Words.{Splits, stops, goes_on, word_at, without_blanks}

-- the same words, where the blanks are gone already
pub data SplitsFrom : List ℕ → List Word → List ℕ → Type 0 where
  none : {text : List ℕ} → word_at text ≡ None → SplitsFrom text [] text
  more : {text rest left : List ℕ} {w : Word} {ws : List Word} → word_at text ≡ Some (w, rest) → SplitsFrom (without_blanks rest) ws left → SplitsFrom text (w ∷ ws) left

pub splits_from : (text start left : List ℕ) (ws : List Word) → start ≡ without_blanks text → SplitsFrom start ws left → Splits text ws left
splits_from text start left [] e s = ends text start left e s
  where
    ends : (text start left : List ℕ) → start ≡ without_blanks text → SplitsFrom start [] left → Splits text [] left
    ends text start left e (none h) = let P : List ℕ → Type 0 = λ t. Splits text [] t in subst P (sym e) (stops (let Q : List ℕ → Type 0 = λ t. word_at t ≡ None in subst Q e h))
splits_from text start left (w ∷ ws) e (more {rest = rest} h s) =
    let Q : List ℕ → Type 0 = λ t. word_at t ≡ Some (w, rest) in
    goes_on (subst Q e h) (splits_from rest (without_blanks rest) left ws refl s)
