-- All inequalities of declared types hold exactly where each type that a port declares holds of it.
use Rattle.std.proofs.Common.{◌≡◌, ℕ, zero, suc, ◌+◌, List, [], ◌∷◌, Option, Some, None, refl, sym, ap, subst, ◌∙◌, arith}
use Rattle.std.specs.Prelude.{All, slice_get}
use Rattle.std.proofs.lemmas.List.Elements.{All-nil, All-cons, All-head, All-append}
use Rattle.pt_datatypes.specs.Datatype.{Datatype}
use Rattle.pt_document.specs.Document.{PortTree}
use Rattle.pt_net.specs.declared.net.Net.{Net}
use Rattle.pt_typing.specs.declared.variable.Variable.TheVariants.{Port}
use Rattle.pt_typing.specs.Terms.{Fixed}
use Rattle.pt_typing.specs.Views.{Inequality}
use Rattle.pt_inequalities.specs.Passing.{all_ports}
use Rattle.pt_inequalities.specs.Typing.{Declares}
use Rattle.pt_said.specs.SaidWords.{type_in}
use Rattle.pt_resolve.specs.DeclaredTypes.{of_type, of_text, of_declared, declared_from, declared}
use Rattle.pt_inequalities.proofs.Steps.{some-same}
use Rattle.pt_said.proofs.SaidLaws.{read_is_said}
use Rattle.pt_said.proofs.SaidTexts.{one_type}
use Rattle.pt_inequalities.proofs.Joined.{All-left, All-right}

module _ (P : Inequality → Type 0) where
  -- the type is below the port
  abbrev Holds : ℕ → ℕ → Datatype → Type 0
  Holds k i t = P (Port k i, Fixed t)

  text-all : (k i : ℕ) (p : PortTree) (o : Option (List ℕ)) → p.declared ≡ o → ((t : Datatype) → Declares p t → Holds k i t) → All P (of_text k i o)
  text-all k i p None e h = All-nil P
  text-all k i p (Some text) e h = by_type (type_in text) refl
    where
      by_type : (o : Option Datatype) → type_in text ≡ o → All P (of_type k i o)
      by_type None is = All-nil P
      by_type (Some t) is =
          let s = one_type text t is in
          All-cons P (Port k i, Fixed t) [] (h t (record { text = text; is = e; read = s.read; reads = s.reads; says = s.says })) (All-nil P)

  text-each : (k i : ℕ) (p : PortTree) (t : Datatype) → Declares p t → All P (of_text k i p.declared) → Holds k i t
  text-each k i p t d h =
      let one : of_text k i p.declared ≡ (Port k i, Fixed t) ∷ [] = ap (of_text k i) d.is ∙ ap (of_type k i) (read_is_said d.text d.read d.reads ∙ ap Some (sym d.says)) in
      All-head P (Port k i, Fixed t) [] (subst (All P) one h)

  none-more : (k i : ℕ) (t : Datatype) → Holds k i t → Holds k (0 + i) t
  none-more k i t h = subst (λ n. Holds k n t) (let e : i ≡ 0 + i = omega arith in e) h

  one-later : (k i j : ℕ) (t : Datatype) → Holds k (suc j + i) t → Holds k (j + suc i) t
  one-later k i j t h = subst (λ n. Holds k n t) (let e : suc j + i ≡ j + suc i = omega arith in e) h

  one-before : (k i j : ℕ) (t : Datatype) → Holds k (j + suc i) t → Holds k (suc j + i) t
  one-before k i j t h = subst (λ n. Holds k n t) (let e : j + suc i ≡ suc j + i = omega arith in e) h

  ports-all : (k i : ℕ) (ps : List PortTree) → ((j : ℕ) (p : PortTree) (t : Datatype) → slice_get ps j ≡ Some p → Declares p t → Holds k (j + i) t) → All P (of_declared k i ps)
  ports-all k i [] h = All-nil P
  ports-all k i (p ∷ ps) h =
      All-append P (of_text k i p.declared) (of_declared k (suc i) ps)
      (text-all k i p p.declared refl (λ t d. subst (λ n. Holds k n t) (let e : 0 + i ≡ i = omega arith in e) (h 0 p t refl d)))
      (ports-all k (suc i) ps (λ j q t there d. one-later k i j t (h (suc j) q t there d)))

  ports-each : (k i : ℕ) (ps : List PortTree) → All P (of_declared k i ps) → (j : ℕ) (p : PortTree) (t : Datatype) → slice_get ps j ≡ Some p → Declares p t → Holds k (j + i) t
  ports-each k i [] h zero p t there d = cc
  ports-each k i [] h (suc j) p t there d = cc
  ports-each k i (q ∷ ps) h zero p t there d =
      let own : Declares q t = subst (λ r. Declares r t) (sym (some-same q p there)) d in
      none-more k i t (text-each k i q t own (All-left P (of_text k i q.declared) (of_declared k (suc i) ps) h))
  ports-each k i (q ∷ ps) h (suc j) p t there d =
      one-before k i j t (ports-each k (suc i) ps (All-right P (of_text k i q.declared) (of_declared k (suc i) ps) h) j p t there d)

  -- each type that one of these ports declares holds of it
  abbrev AreHeld : ℕ → List (List PortTree) → Type 0
  AreHeld k es = (j i : ℕ) (e : List PortTree) (p : PortTree) (t : Datatype) → slice_get es j ≡ Some e → slice_get e i ≡ Some p → Declares p t → Holds (j + k) i t

  entities-all : (k : ℕ) (es : List (List PortTree)) → AreHeld k es → All P (declared_from k es)
  entities-all k [] h = All-nil P
  entities-all k (e ∷ es) h =
      All-append P (of_declared k 0 e) (declared_from (suc k) es)
      (ports-all k 0 e (λ i p t there d. subst (λ n. Holds n (i + 0) t) (let s : 0 + k ≡ k = omega arith in s) (subst (λ n. Holds (0 + k) n t) (let s : i ≡ i + 0 = omega arith in s) (h 0 i e p t refl there d))))
      (entities-all (suc k) es (λ j i f p t at there d. subst (λ n. Holds n i t) (let s : suc j + k ≡ j + suc k = omega arith in s) (h (suc j) i f p t at there d)))

  entities-each : (k : ℕ) (es : List (List PortTree)) → All P (declared_from k es) → AreHeld k es
  entities-each k [] h zero i e p t at there d = cc
  entities-each k [] h (suc j) i e p t at there d = cc
  entities-each k (f ∷ es) h zero i e p t at there d =
      let own : slice_get f i ≡ Some p = ap (λ g. slice_get g i) (some-same f e at) ∙ there in
      subst (λ n. Holds n i t) (let s : k ≡ 0 + k = omega arith in s) (subst (λ n. Holds k n t) (let s : i + 0 ≡ i = omega arith in s) (ports-each k 0 f (All-left P (of_declared k 0 f) (declared_from (suc k) es) h) i p t own d))
  entities-each k (f ∷ es) h (suc j) i e p t at there d =
      subst (λ n. Holds n i t) (let s : j + suc k ≡ suc j + k = omega arith in s) (entities-each (suc k) es (All-right P (of_declared k 0 f) (declared_from (suc k) es) h) j i e p t at there d)

  -- the same of a net
  abbrev pub IsHeld : Net → Type 0
  IsHeld net = (k i : ℕ) (ps : List PortTree) (p : PortTree) (t : Datatype) → slice_get (all_ports net) k ≡ Some ps → slice_get ps i ≡ Some p → Declares p t → Holds k i t

  pub declared-all : (net : Net) → IsHeld net → All P (declared net)
  declared-all net h = entities-all 0 (all_ports net) (λ j i e p t at there d. subst (λ n. Holds n i t) (let s : j ≡ j + 0 = omega arith in s) (h j i e p t at there d))

  pub declared-each : (net : Net) → All P (declared net) → IsHeld net
  declared-each net h k i e p t at there d = subst (λ n. Holds n i t) (let s : k + 0 ≡ k = omega arith in s) (entities-each 0 (all_ports net) h k i e p t at there d)
