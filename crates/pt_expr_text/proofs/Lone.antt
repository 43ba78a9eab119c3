-- Digits alone read as a literal.
use Rattle.std.proofs.Common.{◌≡◌, ℕ, zero, suc, ◌<◌, Bool, true, false, List, [], ◌∷◌, length, Option, Some, None, refl, sym, ap, ◌∙◌, nat_lt, arith}
use Rattle.pt_language.specs.declared.word.Word.{Word}
use Rattle.pt_language.specs.declared.word.Word.TheVariants.{Digits}
use Rattle.pt_language.specs.Tree.{Tree}
use Rattle.pt_language.specs.declared.parse_fault.ParseFault.{ParseFault}
use Rattle.pt_language.specs.declared.parse_fault.ParseFault.TheVariants.{Syntax, Deep, Memory}
use Rattle.pt_language.specs.ReaderFault.{Fails}
use Rattle.pt_language.specs.Descent.{◌>>=◌ as and_then, expression, positive}

pub lone : (depth n : ℕ) → expression (suc depth) (Digits n ∷ []) ≡ and_then (positive n) (λ t. Some (t, []))
unfolding expression
lone depth n = by_size (nat_lt n 0x8000_0000_0000_0000) refl
  where
    by_size : (b : Bool) → nat_lt n 0x8000_0000_0000_0000 ≡ b → expression (suc depth) (Digits n ∷ []) ≡ and_then (positive n) (λ t. Some (t, []))
    by_size true e = rw e refl
    by_size false e = rw e refl

-- so do words that are that
pub lone_words : (depth n : ℕ) (words : List Word) → 0 < depth → words ≡ Digits n ∷ [] → expression depth words ≡ and_then (positive n) (λ t. Some (t, []))
lone_words zero n words some is = absurd (omega (arith, some))
lone_words (suc depth) n words some is = ap (expression (suc depth)) is ∙ lone depth n

pub read_as : (depth n : ℕ) (words : List Word) (o : Option Tree) → 0 < depth → words ≡ Digits n ∷ [] → positive n ≡ o → expression depth words ≡ and_then o (λ t. Some (t, []))
read_as depth n words o some is literal = lone_words depth n words some is ∙ ap (λ r. and_then r (λ t. Some (t, []))) literal

-- and where the literal is refused, so are they
pub fails_as : (fault : ParseFault) (depth n : ℕ) (words : List Word) → 0 < depth → words ≡ Digits n ∷ [] → Fails fault (positive n) → Fails fault (expression depth words)
fails_as Syntax depth n words some is refused = read_as depth n words None some is refused
fails_as Deep depth n words some is refused = refused
fails_as Memory depth n words some is refused = refused
