-- One port more.
use Rattle.std.proofs.Common.{◌≡◌, ℕ, ◌+◌, List, [], ◌∷◌, ◌++◌, Bool, cond, Some, sym, ap, ◌∙◌, arith, length-append}
use Rattle.std.specs.Prelude.{count_by}
use Rattle.std.proofs.lemmas.List.Sums.{sum_by-append}
use Rattle.pt_document.specs.declared.job.Port.{Port}
use Rattle.pt_net.specs.Inside.{number_by}
use Rattle.pt_wiring.specs.Ports.{ArePortNumbers}
use Rattle.pt_wiring.proofs.Numbered.{each-more}

pub port-more : (ports : List Port) (port : Port) (numbers : List ℕ) (n : ℕ) → ArePortNumbers ports numbers → n ≡ number_by ports (Some port) → ArePortNumbers (ports ++ port ∷ []) (numbers ++ n ∷ [])
port-more ports port numbers n are is = record {
  counted = length-append numbers (n ∷ []) ∙ ap (λ m. m + 1) are.counted ∙ sym (length-append ports (port ∷ []));
  each = each-more number_by ports port numbers n are.counted are.each is;
}

-- a count behind one element more
pub count-snoc : {A : Type 0} (p : A → Bool) (xs : List A) (x : A) (b : Bool) → p x ≡ b → count_by p (xs ++ x ∷ []) ≡ count_by p xs + cond b 1 0
count-snoc p xs x b is = sum_by-append (λ y. cond (p y) 1 0) xs (x ∷ []) ∙ ap (λ n. count_by p xs + n) (omega arith) ∙ ap (λ t. count_by p xs + cond t 1 0) is
