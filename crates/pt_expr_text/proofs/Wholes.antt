-- What all words of a text are found to be.
use Rattle.std.proofs.Common.{◌≡◌, ℕ, zero, suc, ◌+◌, List, [], ◌∷◌, length, Some, refl, sym, ◌∙◌, ap, subst, arith}
use Rattle.std.proofs.lemmas.Option.{some_pair_parts, none-some}
use Rattle.pt_language.specs.declared.parse_fault.ParseFault.{ParseFault}
use Rattle.pt_language.specs.declared.parse_fault.ParseFault.TheVariants.{Syntax}
use Rattle.pt_language.specs.ReaderFault.{Fails}
use Rattle.pt_language.specs.Tree.{Tree}
use Rattle.pt_language.specs.declared.word.Word.{Word}
use Rattle.pt_language.specs.Words.{Splits}
use Rattle.pt_language.specs.Text.{ReadsAs}
use Rattle.pt_language.specs.Descent.{Read, expression}
use Rattle.pt_language.proofs.Whole.{read_once, refused_left}

no_words : (ws : List Word) → length ws ≡ 0 → ws ≡ []
no_words [] e = refl
no_words (w ∷ ws) e = absurd (omega arith)

-- no words are left behind a tree
pub all_read : (o : Read) (t : Tree) (rest : List Word) → o ≡ Some (t, rest) → length rest ≡ 0 → o ≡ Some (t, [])
all_read o t rest e none = e ∙ ap (λ ws. Some (t, ws)) (no_words rest none)

-- words are left behind a tree
pub not_all_read : (o : Read) (t : Tree) (rest : List Word) → o ≡ Some (t, rest) → ¬ (length rest ≡ 0) → (u : Tree) → ¬ (o ≡ Some (u, []))
not_all_read o t rest e some u f =
    let parts = some_pair_parts _ _ _ _ (sym e ∙ f) in
    some (ap length parts.1)

-- nothing is to be read where the reader answers Syntax
pub none_read : (fault : ParseFault) (o : Read) → Fails fault o → fault ≡ Syntax → (u : Tree) → ¬ (o ≡ Some (u, []))
none_read fault o h q u f =
    let P : ParseFault → Type 0 = λ v. Fails v o in
    none-some (u, []) (sym (subst P q h) ∙ f)

-- a text whose words aren't read to its end reads as no tree
pub refused_whole : (text : List ℕ) (ws : List Word) (left : List ℕ) (n : ℕ) → Splits text ws left → n ≡ length ws + 1 → ((t : Tree) → length left ≡ 0 → ¬ (expression n ws ≡ Some (t, []))) → (t : Tree) → ¬ (ReadsAs text t)
refused_whole text ws left n s e unread t r = by_length (length left) refl
  where
    by_length : (k : ℕ) → length left ≡ k → ⊥
    by_length zero z = unread t z (read_once text ws left n s e t r)
    by_length (suc k) z = refused_left text ws left s (λ (q : length left ≡ 0). omega arith) t r
