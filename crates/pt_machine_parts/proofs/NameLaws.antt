-- Names with their numbers.
use Rattle.std.proofs.Common.{◌≡◌, ℕ, zero, suc, ◌+◌, ◌<◌, List, [], ◌∷◌, length, drop, get_or, Bool, true, false, Some, None, refl, sym, ap, ◌∙◌, arith, if◌then◌else◌}
use Rattle.std.specs.Prelude.{bytes_eq}
use Rattle.std.specs.List.{Contains}
use Rattle.std.proofs.lemmas.List.{at_drop_more}
use Rattle.std.proofs.lemmas.Option.{none-some}
use Rattle.pt_datatypes.proofs.Order.{bytes_eq-refl}
use Rattle.pt_inequalities.proofs.Steps.{one-more}
use Rattle.pt_machine.specs.declared.cause.Cause.TheVariants.{Port}
use Rattle.pt_machine.specs.Numbers.{Numbers, no_numbers, with_number, with_numbers, number_of}
use Rattle.pt_machine_parts.specs.Texts.{Name, texts}
use Rattle.pt_machine_parts.specs.Numbered.{IsStrange}
use Rattle.pt_machine_parts.specs.declared.fault.ModalFault.{ModalFault}
use Rattle.pt_machine_parts.specs.Told.{IsTold}
use Rattle.pt_machine_parts.proofs.FaultLaws.{weaker}

-- one name more
pub numbers-more : (names : List Name) (i : ℕ) (d : Name) (k : ℕ) (old new whole : Numbers) → i < length names → k ≡ i → ((name : List ℕ) → with_numbers i (texts (drop i names)) old name ≡ whole name) → ((other : List ℕ) → new other ≡ with_number (get_or names i d).now k old other) → (name : List ℕ) → with_numbers (i + 1) (texts (drop (i + 1) names)) new name ≡ whole name
numbers-more names i d k old new whole short is h put name =
    let step : Numbers = with_number (get_or names i d).now i old in
    let same : new ≡ step = (λ j other. put other j) ∙ ap (λ (m : ℕ). with_number (get_or names i d).now m old) is in
    ap (λ (g : Numbers). with_numbers (i + 1) (texts (drop (i + 1) names)) g name) same
    ∙ ap (λ (m : ℕ). with_numbers m (texts (drop (i + 1) names)) step name) (sym (one-more i))
    ∙ sym (at_drop_more (λ (ns : List Name). with_numbers i (texts ns) old name) names i d short)
    ∙ h name

-- ---- a name among names has a number

kept : (k : ℕ) (names : List (List ℕ)) (numbers : Numbers) (name : List ℕ) (i : ℕ) → numbers name ≡ Some i → (j : ℕ) × (with_numbers k names numbers name ≡ Some j)
kept k [] numbers name i h = (i, h)
kept k (n ∷ names) numbers name i h =
    let w : (j : ℕ) × ((if bytes_eq n name then Some k else numbers name) ≡ Some j) = here (bytes_eq n name) in
    kept (suc k) names (with_number n k numbers) name w.0 w.1
  where
    here : (b : Bool) → (j : ℕ) × ((if b then Some k else numbers name) ≡ Some j)
    here true = (k, refl)
    here false = (i, h)

among : (k : ℕ) (names : List (List ℕ)) (numbers : Numbers) (name : List ℕ) (place : ℕ) → place < length names → get_or names place name ≡ name → (j : ℕ) × (with_numbers k names numbers name ≡ Some j)
among k [] numbers name place short at = absurd (omega (arith, short))
among k (n ∷ names) numbers name zero short at =
    let same : bytes_eq n name ≡ true = ap (λ (m : List ℕ). bytes_eq m name) at ∙ bytes_eq-refl name in
    kept (suc k) names (with_number n k numbers) name k (ap (λ (b : Bool). if b then Some k else numbers name) same)
among k (n ∷ names) numbers name (suc place) short at = among (suc k) names (with_number n k numbers) name place (omega (arith, short)) at

pub not-among : (names : List (List ℕ)) (name : List ℕ) → number_of names name ≡ None → Contains names name → ⊥
not-among names name none c = let there = among 0 names no_numbers name c.0 c.1 c.2 in none-some there.0 (sym none ∙ there.1)

-- ---- a name without a number

text-at : (names : List Name) (i : ℕ) (d : Name) (t : List ℕ) → i < length names → get_or (texts names) i t ≡ (get_or names i d).now
text-at [] i d t short = absurd (omega (arith, short))
text-at (n ∷ names) zero d t short = refl
text-at (n ∷ names) (suc i) d t short = text-at names i d t (omega (arith, short))

text-short : (names : List Name) (i : ℕ) → i < length names → i < length (texts names)
text-short [] i short = absurd (omega (arith, short))
text-short (n ∷ names) zero short = omega arith
text-short (n ∷ names) (suc i) short = let h = text-short names i (omega (arith, short)) in omega (arith, h)

pub strange-at : (numbers : Numbers) (names : List Name) (i : ℕ) (d : Name) → i < length names → (fault : ModalFault) → IsTold (λ cause. (cause ≡ Port) × (numbers (get_or names i d).now ≡ None)) fault → IsTold (IsStrange numbers (texts names)) fault
strange-at numbers names i d short fault told =
    weaker (λ cause. (cause ≡ Port) × (numbers (get_or names i d).now ≡ None)) (IsStrange numbers (texts names))
    (λ cause w. record {
      cause = w.0;
      name = (get_or names i d).now;
      there = (i, text-short names i short, text-at names i d (get_or names i d).now short);
      none = w.1;
    })
    fault told
