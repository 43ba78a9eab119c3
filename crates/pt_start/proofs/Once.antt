-- A text comes to one value, and in a composite one list of parameters is seen.
use Rattle.std.proofs.Common.{◌≡◌, ℕ, ◌+◌, List, [], ◌∷◌, length, refl, sym, ap, subst, ◌∙◌}
use Rattle.std.specs.Prelude.{Option, Some, None, slice_get}
use Rattle.std.proofs.lemmas.Option.{some_pair_parts}
use Rattle.pt_value.specs.Value.{Value}
use Rattle.pt_language.specs.Tree.{Tree}
use Rattle.pt_language.specs.Scope.{Scope}
use Rattle.pt_language.specs.Outcome.{Gives}
use Rattle.pt_language.specs.Meaning.{value}
use Rattle.pt_language.specs.Text.{ReadsAs}
use Rattle.pt_language.proofs.Whole.{read_once}
use Rattle.pt_document.specs.Document.{PropertyTree, property_name}
use Rattle.pt_net.specs.Net.{NetEntityTree, TransparentTree}
use Rattle.pt_scopes.specs.Texts.{HasValue}
use Rattle.pt_scopes.specs.Scopes.{NetTree, Bindings, bound, text_of, ComesTo, Extends, seen_parameters, Sees, at_top, in_transparent, in_opaque}

some-same : {A : Type 0} (x y : A) → Some x ≡ Some y → x ≡ y
some-same x y e = cc

reads-once : (text : List ℕ) (t u : Tree) → ReadsAs text t → ReadsAs text u → t ≡ u
reads-once text t u r s =
    let e = read_once text r.0 [] (length r.0 + 1) r.1 refl t r in
    let f = read_once text r.0 [] (length r.0 + 1) r.1 refl u s in
    (some_pair_parts _ _ _ _ (sym e ∙ f)).0

gives-same : (v w : Value) → Gives v ≡ Gives w → v ≡ w
gives-same v w e = cc

pub value-once : (scope : Scope) (text : List ℕ) (v w : Value) → HasValue scope text v → HasValue scope text w → v ≡ w
value-once scope text v w a b =
    let e : a.read ≡ b.read = reads-once text a.read b.read a.is_read.reads b.is_read.reads in
    gives-same v w (sym a.gives ∙ ap (value scope) e ∙ b.gives)

comes-once : (scope : Scope) (text : List ℕ) (o p : Option Value) → ComesTo scope text o → ComesTo scope text p → o ≡ p
comes-once scope text (Some v) (Some w) a b = ap Some (value-once scope text v w a b)
comes-once scope text (Some v) None a b = absurd (b v a)
comes-once scope text None (Some w) a b = absurd (a w b)
comes-once scope text None None a b = refl

pub extends-once : (ps : List PropertyTree) (around a b : Bindings) → Extends around ps a → Extends around ps b → a ≡ b
extends-once [] around a b h k = h ∙ sym k
extends-once (p ∷ ps) around a b h k =
    let e : h.0 ≡ k.0 = comes-once (bound around) (text_of p) h.0 k.0 h.1 k.1 in
    extends-once ps ((property_name p, k.0) ∷ around) a b (subst (λ (o : Option Value). Extends ((property_name p, o) ∷ around) ps a) e h.2) k.2

-- ---- what is seen, by the innermost composite

pub record IsInTransparent (net : NetTree) (t : ℕ) (seen : Bindings) : Type 0 where
  pub composite : TransparentTree
  pub at : slice_get net.transparent t ≡ Some composite
  pub around : Bindings
  pub sees : Sees net composite.within composite.parent around
  pub extends : Extends around composite.parameters seen

pub record IsInOpaque (net : NetTree) (k : ℕ) (seen : Bindings) : Type 0 where
  pub entity : NetEntityTree
  pub at : slice_get net.entities k ≡ Some entity
  pub around : Bindings
  pub sees : Sees net entity.within entity.parent around
  pub extends : Extends around (seen_parameters entity) seen

abbrev pub SeesBy : NetTree → Option ℕ → Option ℕ → Bindings → Type 0
SeesBy net (Some t) parent seen = IsInTransparent net t seen
SeesBy net None (Some k) seen = IsInOpaque net k seen
SeesBy net None None seen = seen ≡ []

pub by-innermost : {net : NetTree} {within parent : Option ℕ} {seen : Bindings} → Sees net within parent seen → SeesBy net within parent seen
by-innermost at_top = refl
by-innermost (in_transparent t c parent around inner at sees extends) = record { composite = c; at = at; around = around; sees = sees; extends = extends }
by-innermost (in_opaque k e around inner at sees extends) = record { entity = e; at = at; around = around; sees = sees; extends = extends }

pub sees-once : {net : NetTree} {within parent : Option ℕ} {a b : Bindings} → Sees net within parent a → Sees net within parent b → a ≡ b
sees-once at_top s = sym (by-innermost s)
sees-once {net = net} {b = b} (in_transparent t c parent around inner at sees extends) s =
    let q : IsInTransparent net t b = by-innermost s in
    let same : q.composite ≡ c = some-same q.composite c (sym q.at ∙ at) in
    let there : Sees net c.within c.parent q.around = subst (λ (d : TransparentTree). Sees net d.within d.parent q.around) same q.sees in
    let e : q.around ≡ around = sym (sees-once sees there) in
    let behind : Extends around c.parameters b = subst (λ (d : TransparentTree). Extends around d.parameters b) same (subst (λ (bs : Bindings). Extends bs q.composite.parameters b) e q.extends) in
    extends-once c.parameters around inner b extends behind
sees-once {net = net} {b = b} (in_opaque k e around inner at sees extends) s =
    let q : IsInOpaque net k b = by-innermost s in
    let same : q.entity ≡ e = some-same q.entity e (sym q.at ∙ at) in
    let there : Sees net e.within e.parent q.around = subst (λ (d : NetEntityTree). Sees net d.within d.parent q.around) same q.sees in
    let f : q.around ≡ around = sym (sees-once sees there) in
    let behind : Extends around (seen_parameters e) b = subst (λ (d : NetEntityTree). Extends around (seen_parameters d) b) same (subst (λ (bs : Bindings). Extends bs (seen_parameters q.entity) b) f q.extends) in
    extends-once (seen_parameters e) around inner b extends behind
