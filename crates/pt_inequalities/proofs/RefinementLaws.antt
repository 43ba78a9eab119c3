-- All inequalities of refinements hold exactly where what each refinement asks holds.
use Rattle.std.proofs.Common.{◌≡◌, ℕ, zero, suc, ◌+◌, Bool, true, false, if◌then◌else◌, List, [], ◌∷◌, map, Option, Some, None, refl, sym, ap, subst, ◌∙◌, arith}
use Rattle.std.specs.Prelude.{All, slice_get, codes, option_map}
use Rattle.std.specs.Str.{bytes_eq}
use Rattle.std.proofs.lemmas.Bool.{cond-true}
use Rattle.std.proofs.lemmas.Option.{slice_get-map}
use Rattle.std.proofs.lemmas.Slice.Eq.{bytes_eq-Decides}
use Rattle.std.proofs.lemmas.List.Elements.{All-nil, All-cons, All-head, All-append}
use Rattle.pt_document.specs.declared.job.Direction.{Direction}
use Rattle.pt_document.specs.Document.{PortTree}
use Rattle.pt_net.specs.Net.{NetEntityTree}
use Rattle.pt_typing.specs.declared.variable.Variable.TheVariants.{Port}
use Rattle.pt_typing.specs.Views.{Inequality}
use Rattle.pt_inequalities.specs.Inequalities.{PortNumbers, no_ports}
use Rattle.pt_inequalities.specs.ModalScopes.{is_modal, own_ports}
use Rattle.pt_inequalities.specs.Modals.{like, of_like, of_refinement, modal_ports, of_round, of_child, of_children, refined}
use Rattle.pt_inequalities.specs.Typing.{IsRefinement}
use Rattle.pt_inequalities.proofs.Steps.{some-same, none-more, from-next}
use Rattle.pt_inequalities.proofs.Joined.{All-left, All-right}

-- ---- the ports of a Modal entity

pub modal-class : (class : List ℕ) → class ≡ codes "Modal" → bytes_eq class (codes "Modal") ≡ true
modal-class class is = (bytes_eq-Decides class (codes "Modal")).1 is

pub class-modal : (class : List ℕ) → bytes_eq class (codes "Modal") ≡ true → class ≡ codes "Modal"
class-modal class is = (bytes_eq-Decides class (codes "Modal")).0 is

modal-ports : (es : List NetEntityTree) (m : ℕ) (modal : NetEntityTree) → slice_get es m ≡ Some modal → modal.class ≡ codes "Modal" → slice_get (map modal_ports es) m ≡ Some (own_ports modal)
modal-ports es m modal at is =
    slice_get-map modal_ports es m ∙ ap (option_map modal_ports) at ∙ ap Some (cond-true (is_modal modal) (own_ports modal) no_ports (modal-class modal.class is))

-- the Modal entity of which these ports are
record IsRound (es : List NetEntityTree) (m : ℕ) (name : List ℕ) (i : ℕ) : Type 0 where
  modal : NetEntityTree
  at : slice_get es m ≡ Some modal
  is : modal.class ≡ codes "Modal"
  port : own_ports modal name ≡ Some i

modal-round : (es : List NetEntityTree) (m : ℕ) (ports : PortNumbers) (name : List ℕ) (i : ℕ) → slice_get (map modal_ports es) m ≡ Some ports → ports name ≡ Some i → IsRound es m name i
modal-round [] zero ports name i h k = cc
modal-round [] (suc m) ports name i h k = cc
modal-round (e ∷ es) zero ports name i h k = by_test (is_modal e) refl (ap (λ qs. qs name) (some-same (modal_ports e) ports h) ∙ k)
  where
    by_test : (b : Bool) → is_modal e ≡ b → (if b then own_ports e else no_ports) name ≡ Some i → IsRound (e ∷ es) 0 name i
    by_test true is named = record { modal = e; at = refl; is = class-modal e.class is; port = named }
    by_test false is named = cc
modal-round (e ∷ es) (suc m) ports name i h k =
    let r = modal-round es m ports name i h k in
    record { modal = r.modal; at = r.at; is = r.is; port = r.port }

module _ (P : Inequality → Type 0) where
  -- ---- the ports of one refinement

  abbrev Holds : Direction → ℕ → ℕ → ℕ → ℕ → Type 0
  Holds d k j m i = P (like d (Port k j) (Port m i))

  like-each : (ports : PortNumbers) (m k j : ℕ) (ps : List PortTree) → All P (of_refinement ports m k j ps) → (n : ℕ) (q : PortTree) (i : ℕ) → slice_get ps n ≡ Some q → ports q.name ≡ Some i → Holds q.direction k (j + n) m i
  like-each ports m k j [] h zero q i at there = cc
  like-each ports m k j [] h (suc n) q i at there = cc
  like-each ports m k j (p ∷ ps) h zero q i at there =
      let same : p ≡ q = some-same p q at in
      let one : of_like m k j p.direction (ports p.name) ≡ like p.direction (Port k j) (Port m i) ∷ [] = ap (of_like m k j p.direction) (ap (λ r. ports r.name) same ∙ there) in
      let here : Holds p.direction k j m i = All-head P (like p.direction (Port k j) (Port m i)) [] (subst (All P) one (All-left P (of_like m k j p.direction (ports p.name)) (of_refinement ports m k (suc j) ps) h)) in
      subst (λ n. Holds q.direction k n m i) (none-more j) (subst (λ r. Holds r.direction k j m i) same here)
  like-each ports m k j (p ∷ ps) h (suc n) q i at there =
      subst (λ r. Holds q.direction k r m i) (from-next j n) (like-each ports m k (suc j) ps (All-right P (of_like m k j p.direction (ports p.name)) (of_refinement ports m k (suc j) ps) h) n q i at there)

  like-all : (ports : PortNumbers) (m k j : ℕ) (ps : List PortTree) → ((n : ℕ) (q : PortTree) (i : ℕ) → slice_get ps n ≡ Some q → ports q.name ≡ Some i → Holds q.direction k (j + n) m i) → All P (of_refinement ports m k j ps)
  like-all ports m k j [] h = All-nil P
  like-all ports m k j (p ∷ ps) h =
      All-append P (of_like m k j p.direction (ports p.name)) (of_refinement ports m k (suc j) ps)
      (one (ports p.name) refl)
      (like-all ports m k (suc j) ps (λ n q i at there. subst (λ r. Holds q.direction k r m i) (sym (from-next j n)) (h (suc n) q i at there)))
    where
      one : (o : Option ℕ) → ports p.name ≡ o → All P (of_like m k j p.direction o)
      one None e = All-nil P
      one (Some i) e = All-cons P (like p.direction (Port k j) (Port m i)) [] (subst (λ r. Holds p.direction k r m i) (sym (none-more j)) (h 0 p i refl e)) (All-nil P)

  -- ---- all children

  child-each : (tables : List PortNumbers) (k : ℕ) (es : List NetEntityTree) → All P (of_children tables k es) → (n : ℕ) (e : NetEntityTree) → slice_get es n ≡ Some e → All P (of_child tables (k + n) e.ports e.within e.parent)
  child-each tables k [] h zero e at = cc
  child-each tables k [] h (suc n) e at = cc
  child-each tables k (f ∷ es) h zero e at =
      let here : All P (of_child tables k f.ports f.within f.parent) = All-left P (of_child tables k f.ports f.within f.parent) (of_children tables (suc k) es) h in
      subst (λ n. All P (of_child tables n e.ports e.within e.parent)) (none-more k) (subst (λ g. All P (of_child tables k g.ports g.within g.parent)) (some-same f e at) here)
  child-each tables k (f ∷ es) h (suc n) e at =
      subst (λ r. All P (of_child tables r e.ports e.within e.parent)) (from-next k n) (child-each tables (suc k) es (All-right P (of_child tables k f.ports f.within f.parent) (of_children tables (suc k) es) h) n e at)

  child-all : (tables : List PortNumbers) (k : ℕ) (es : List NetEntityTree) → ((n : ℕ) (e : NetEntityTree) → slice_get es n ≡ Some e → All P (of_child tables (k + n) e.ports e.within e.parent)) → All P (of_children tables k es)
  child-all tables k [] h = All-nil P
  child-all tables k (e ∷ es) h =
      All-append P (of_child tables k e.ports e.within e.parent) (of_children tables (suc k) es)
      (subst (λ n. All P (of_child tables n e.ports e.within e.parent)) (sym (none-more k)) (h 0 e refl))
      (child-all tables (suc k) es (λ n f at. subst (λ r. All P (of_child tables r f.ports f.within f.parent)) (sym (from-next k n)) (h (suc n) f at)))

  -- ---- all refinements

  -- at each port of a refinement, and at the port of its name outside
  abbrev pub AreAlike : List NetEntityTree → Type 0
  AreAlike es = (m k i j : ℕ) (modal e : NetEntityTree) (q : PortTree) → IsRefinement es m k modal e → slice_get e.ports j ≡ Some q → own_ports modal q.name ≡ Some i → P (like q.direction (Port k j) (Port m i))

  from-none : (j : ℕ) → 0 + j ≡ j
  from-none j = omega arith

  pub refined-each : (es : List NetEntityTree) → All P (refined es) → AreAlike es
  refined-each es h m k i j modal e q r at there =
      let tables : List PortNumbers = map modal_ports es in
      let all : All P (of_child tables k e.ports e.within e.parent) = subst (λ n. All P (of_child tables n e.ports e.within e.parent)) (from-none k) (child-each tables 0 es h k e r.at) in
      let within : All P (of_child tables k e.ports None (Some m)) = subst (λ p. All P (of_child tables k e.ports None p)) r.inside (subst (λ w. All P (of_child tables k e.ports w e.parent)) r.direct all) in
      let own : All P (of_refinement (own_ports modal) m k 0 e.ports) = subst (λ ports. All P (of_round ports m k e.ports)) (modal-ports es m modal r.modal_at r.is_modal) within in
      subst (λ n. Holds q.direction k n m i) (from-none j) (like-each (own_ports modal) m k 0 e.ports own j q i at there)

  round-alike : (es : List NetEntityTree) → AreAlike es → (k m : ℕ) (e : NetEntityTree) → slice_get es k ≡ Some e → e.within ≡ None → e.parent ≡ Some m → (o : Option PortNumbers) → slice_get (map modal_ports es) m ≡ o → All P (of_round o m k e.ports)
  round-alike es h k m e at w p None is = All-nil P
  round-alike es h k m e at w p (Some ports) is =
      like-all ports m k 0 e.ports
      (λ j q i there named.
      let r = modal-round es m ports q.name i is named in
      subst (λ n. Holds q.direction k n m i) (sym (from-none j)) (h m k i j r.modal e q (record { modal_at = r.at; is_modal = r.is; at = at; inside = p; direct = w }) there r.port))

  child-alike : (es : List NetEntityTree) → AreAlike es → (k : ℕ) (e : NetEntityTree) → slice_get es k ≡ Some e → (within parent : Option ℕ) → e.within ≡ within → e.parent ≡ parent → All P (of_child (map modal_ports es) k e.ports within parent)
  child-alike es h k e at (Some t) parent w p = All-nil P
  child-alike es h k e at None None w p = All-nil P
  child-alike es h k e at None (Some m) w p = round-alike es h k m e at w p (slice_get (map modal_ports es) m) refl

  pub refined-all : (es : List NetEntityTree) → AreAlike es → All P (refined es)
  refined-all es h =
      child-all (map modal_ports es) 0 es (λ n e at. subst (λ k. All P (of_child (map modal_ports es) k e.ports e.within e.parent)) (sym (from-none n)) (child-alike es h n e at e.within e.parent refl refl))
