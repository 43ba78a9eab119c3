-- What a whole text is found to be.
use Rattle.std.proofs.Common.{◌≡◌, ℕ, ◌+◌, ◌<◌, ◌≤◌, List, [], ◌∷◌, ◌++◌, length, Option, Some, None, inl, inr, refl, sym, ◌∙◌, ap, subst, append-nil, arith}
use Rattle.pt_language.specs.Tree.{Tree}
use Rattle.pt_language.specs.declared.word.Word.{Word}
use Rattle.pt_language.specs.Words.{Splits}
use Rattle.pt_language.specs.Grammar.{Reads}
use Rattle.pt_language.specs.Grammar as g
use Rattle.pt_language.specs.Descent.{expression}
use Rattle.pt_language.specs.Deep.{IsDeep, IsTooFull}
use Rattle.pt_language.specs.Text.{ReadsAs}
use Rattle.pt_language.proofs.ReaderSound.{expression_sound}
use Rattle.std.proofs.lemmas.Option.{some_pair_parts, none-some}
use Rattle.pt_language.specs.declared.parse_fault.ParseFault.{ParseFault}
use Rattle.pt_language.specs.declared.parse_fault.ParseFault.TheVariants.{Syntax}
use Rattle.pt_language.specs.ReaderFault.{Fails}
use Rattle.pt_language.proofs.Complete.{whole_read}
use Rattle.pt_language.proofs.Same.{one_list}

nothing : {A : Type 0} (xs : List A) → length xs ≡ 0 → xs ≡ []
nothing [] e = refl
nothing (x ∷ xs) e = absurd (omega arith)

pub whole_tree : (text : List ℕ) (ws : List Word) (left : List ℕ) (rest : List Word) (n : ℕ) (t : Tree) → Splits text ws left → length left ≡ 0 → expression n ws ≡ Some (t, rest) → length rest ≡ 0 → ReadsAs text t
whole_tree text ws left rest n t s l e r =
    let f = expression_sound n ws t rest e in
    let P : List ℕ → Type 0 = λ v. Splits text ws v in
    let Q : List Word → Type 0 = λ v. Reads g.expression v t in
    let R : List Word → Type 0 = λ v. ws ≡ f.0 ++ v in
    let q : ws ≡ f.0 = subst R (nothing rest r) f.1 ∙ append-nil f.0 in
    (ws, subst P (nothing left l) s, subst Q (sym q) f.2)

pub not_deep : (text : List ℕ) (ws : List Word) (left : List ℕ) → length text ≤ 65536 → Splits text ws left → ¬ (IsTooFull ws) → ¬ (IsDeep text)
not_deep text ws left l s f d =
    elim d [ inl h ↦ absurd (omega arith) | inr h ↦ let same = one_list h.2 s in f (subst IsTooFull same.0 h.3) ]

-- a text that reads as a tree is words to its end, and they are read as that tree
whole_read_as : (text : List ℕ) (ws : List Word) (left : List ℕ) (t : Tree) → Splits text ws left → ReadsAs text t → (length left ≡ 0) × (expression (length ws + 1) ws ≡ Some (t, []))
whole_read_as text ws left t s r =
    let same = one_list r.1 s in
    let P : List Word → Type 0 = λ v. Reads g.expression v t in
    (ap length (sym same.1), whole_read ws t (subst P same.0 r.2))

pub refused_left : (text : List ℕ) (ws : List Word) (left : List ℕ) → Splits text ws left → ¬ (length left ≡ 0) → (t : Tree) → ¬ (ReadsAs text t)
refused_left text ws left s f t r = f (whole_read_as text ws left t s r).0

pub read_once : (text : List ℕ) (ws : List Word) (left : List ℕ) (n : ℕ) → Splits text ws left → n ≡ length ws + 1 → (t : Tree) → ReadsAs text t → expression n ws ≡ Some (t, [])
read_once text ws left n s e t r = ap (λ k. expression k ws) e ∙ (whole_read_as text ws left t s r).1

pub refused_none : (text : List ℕ) (ws : List Word) (left : List ℕ) (n : ℕ) → Splits text ws left → n ≡ length ws + 1 → expression n ws ≡ None → (t : Tree) → ¬ (ReadsAs text t)
refused_none text ws left n s e f t r = none-some (t, []) (sym f ∙ read_once text ws left n s e t r)

pub refused_rest : (text : List ℕ) (ws : List Word) (left : List ℕ) (n : ℕ) (u : Tree) (rest : List Word) → Splits text ws left → n ≡ length ws + 1 → expression n ws ≡ Some (u, rest) → ¬ (length rest ≡ 0) → (t : Tree) → ¬ (ReadsAs text t)
refused_rest text ws left n u rest s e f g t r =
    let p = some_pair_parts _ _ _ _ (sym f ∙ read_once text ws left n s e t r) in
    g (ap length p.1)

pub one_tree : (text : List ℕ) (ws : List Word) (left : List ℕ) (n : ℕ) (u : Tree) (rest : List Word) → Splits text ws left → n ≡ length ws + 1 → expression n ws ≡ Some (u, rest) → (t : Tree) → ReadsAs text t → t ≡ u
one_tree text ws left n u rest s e f t r = sym (some_pair_parts _ _ _ _ (sym f ∙ read_once text ws left n s e t r)).0

pub refused_fault : (text : List ℕ) (ws : List Word) (left : List ℕ) (n : ℕ) (f : ParseFault) → Splits text ws left → n ≡ length ws + 1 → Fails f (expression n ws) → f ≡ Syntax → (t : Tree) → ¬ (ReadsAs text t)
refused_fault text ws left n f s e h q =
    let P : ParseFault → Type 0 = λ v. Fails v (expression n ws) in
    refused_none text ws left n s e (subst P q h)
