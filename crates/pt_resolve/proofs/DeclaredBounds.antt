-- The tests tell which ports aren't below what they declare.
use Rattle.std.proofs.Common.{◌≡◌, inl, inr, ℕ, zero, suc, ◌+◌, true, false, not, List, [], ◌∷◌, Option, Some, None, refl, sym, ap, subst, ◌∙◌}
use Rattle.std.proofs.lemmas.Bool.{or_cases, or_parts, not-true, not-false}
use Rattle.std.specs.Prelude.{slice_get}
use Rattle.pt_datatypes.specs.Datatype.{Datatype}
use Rattle.pt_datatypes.specs.Order.{is_below}
use Rattle.pt_document.specs.Document.{PortTree}
use Rattle.pt_typing.specs.declared.variable.Variable.TheVariants.{Port}
use Rattle.pt_typing.specs.Least.{Assignment}
use Rattle.pt_inequalities.specs.Typing.{Declares}
use Rattle.pt_said.specs.SaidWords.{type_in}
use Rattle.pt_resolve.specs.Broken.{is_over_type, is_over, has_port_over}
use Rattle.pt_inequalities.proofs.Steps.{some-same, none-more, from-next}
use Rattle.pt_said.proofs.SaidLaws.{read_is_said}
use Rattle.pt_said.proofs.SaidTexts.{one_type}

-- ---- one port

-- the type that a port declares isn't above this one
pub record Over (p : PortTree) (t : Datatype) : Type 0 where
  pub bound : Datatype
  pub declares : Declares p bound
  pub over : is_below t bound ≡ false

over-type : (p : PortTree) (t : Datatype) (text : List ℕ) → p.declared ≡ Some text → (o : Option Datatype) → type_in text ≡ o → is_over_type t o ≡ true → Over p t
over-type p t text is None e h = cc
over-type p t text is (Some s) e h =
    let says = one_type text s e in
    record { bound = s; declares = record { text = text; is = is; read = says.read; reads = says.reads; says = says.says }; over = not-true (is_below t s) h }

over-text : (p : PortTree) (t : Datatype) (o : Option (List ℕ)) → p.declared ≡ o → is_over t o ≡ true → Over p t
over-text p t None e h = cc
over-text p t (Some text) e h = over-type p t text e (type_in text) refl h

below-declared : (p : PortTree) (t s : Datatype) → Declares p s → is_over t p.declared ≡ false → is_below t s ≡ true
below-declared p t s d h =
    let one : is_over t p.declared ≡ not (is_below t s) = ap (is_over t) d.is ∙ ap (is_over_type t) (read_is_said d.text d.read d.reads ∙ ap Some (sym d.says)) in
    not-false (is_below t s) (sym one ∙ h)

-- ---- the ports of an entity

pub record OverPort (a : Assignment) (k i : ℕ) (ps : List PortTree) : Type 0 where
  pub at : ℕ
  pub port : PortTree
  pub is : slice_get ps at ≡ Some port
  pub over : Over port (a.types (Port k (i + at)))

pub port-over : (a : Assignment) (k i : ℕ) (ps : List PortTree) → has_port_over a k i ps ≡ true → OverPort a k i ps
port-over a k i [] h = cc
port-over a k i (p ∷ ps) h =
    elim (or_cases (is_over (a.types (Port k i)) p.declared) (has_port_over a k (suc i) ps) h) [
      | inl here ↦ record { at = 0; port = p; is = refl; over = subst (λ n. Over p (a.types (Port k n))) (none-more i) (over-text p (a.types (Port k i)) p.declared refl here) }
      | inr later ↦ let r = port-over a k (suc i) ps later in record { at = suc r.at; port = r.port; is = r.is; over = subst (λ n. Over r.port (a.types (Port k n))) (from-next i r.at) r.over }
    ]

pub no-port-over : (a : Assignment) (k i : ℕ) (ps : List PortTree) → has_port_over a k i ps ≡ false → (j : ℕ) (p : PortTree) (t : Datatype) → slice_get ps j ≡ Some p → Declares p t → is_below (a.types (Port k (i + j))) t ≡ true
no-port-over a k i [] h zero p t e d = cc
no-port-over a k i [] h (suc j) p t e d = cc
no-port-over a k i (q ∷ ps) h zero p t e d =
    let here = (or_parts (is_over (a.types (Port k i)) q.declared) (has_port_over a k (suc i) ps) h).0 in
    ap (λ n. is_below (a.types (Port k n)) t) (sym (none-more i)) ∙ below-declared q (a.types (Port k i)) t (subst (λ r. Declares r t) (sym (some-same q p e)) d) here
no-port-over a k i (q ∷ ps) h (suc j) p t e d =
    let later = (or_parts (is_over (a.types (Port k i)) q.declared) (has_port_over a k (suc i) ps) h).1 in
    ap (λ n. is_below (a.types (Port k n)) t) (sym (from-next i j)) ∙ no-port-over a k (suc i) ps later j p t e d
