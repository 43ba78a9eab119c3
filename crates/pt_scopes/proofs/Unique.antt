-- A text comes to one value, or is at fault, and what is seen at a place is one thing.
use Rattle.std.proofs.Common.{◌≡◌, ◌⊎◌, inl, inr, ℕ, zero, suc, ◌+◌, ◌<◌, List, [], ◌∷◌, length, Bool, true, false, Option, Some, None, refl, sym, ap, subst, ◌∙◌, arith}
use Rattle.std.specs.Prelude.{IsTrue}
use Rattle.std.specs.List.{Contains, AllZip, slice_get}
use Rattle.std.proofs.lemmas.Bool.{false≢true}
use Rattle.std.proofs.lemmas.Option.{none-some, same_Some, some_pair_parts}
use Rattle.pt_value.specs.Value.{Value}
use Rattle.pt_document.specs.declared.code.Code.{Code}
use Rattle.pt_document.specs.declared.code.Code.TheVariants as code
use Rattle.pt_document.specs.Document.{PropertyTree, property_name}
use Rattle.pt_document.specs.Names.{is_among}
use Rattle.pt_language.specs.Tree.{Tree}
use Rattle.pt_language.specs.Scope.{Scope}
use Rattle.pt_language.specs.Meaning.{value}
use Rattle.pt_language.specs.Outcome.{Gives, Stops}
use Rattle.pt_language.specs.Text.{ReadsAs}
use Rattle.pt_language.proofs.Whole.{read_once}
use Rattle.pt_language.specs.Typing.{Has, Clash}
use Rattle.pt_language.specs.TreeType.{tree_type}
use Rattle.pt_net.specs.Net.{NetEntityTree, TransparentTree}
use Rattle.pt_scopes.specs.declared.form.Form.{Form}
use Rattle.pt_scopes.specs.declared.form.Form.TheVariants as form
use Rattle.pt_scopes.specs.Forms.{fits, comparisons, functions, gates}
use Rattle.pt_scopes.specs.Texts.{IsRead, names_in, types_of, HasValue, IsTextFault, IsTreeFault, IsTreeOf, IsBound}
use Rattle.pt_scopes.specs.Given.{Held, Token, Read, Word, IsGiven, IsGivenFault, IsValueFault, IsOther, IsInScope}
use Rattle.pt_scopes.specs.Scopes.{NetTree, Bindings, bound, text_of, seen_parameters, ComesTo, Extends, Sees, at_top, in_transparent, in_opaque, IsSeenBy, here, later}
use Rattle.pt_scopes.specs.Valued.{AreInTurn}

-- ---- texts

pub one-tree : (text : List ℕ) (t u : Tree) → ReadsAs text t → ReadsAs text u → t ≡ u
one-tree text t u r q =
    (some_pair_parts t u [] [] (sym (read_once text r.0 [] (length r.0 + 1) r.1 refl t r) ∙ read_once text r.0 [] (length r.0 + 1) r.1 refl u q)).0

pub one-value : (scope : Scope) (text : List ℕ) (v w : Value) → HasValue scope text v → HasValue scope text w → v ≡ w
one-value scope text v w a b =
    let same : a.read ≡ b.read = one-tree text a.read b.read a.is_read.reads b.is_read.reads in
    let e : Gives v ≡ Gives w = sym a.gives ∙ ap (value scope) same ∙ b.gives in
    cc

-- what comes to a value isn't at fault
pub value-sound : (scope : Scope) (text : List ℕ) (v : Value) (cause : Code) → HasValue scope text v → IsTextFault scope text cause → ⊥
value-sound scope text v code.Limit h f = h.is_read.shallow f
value-sound scope text v code.ExprSyntax h f = f.none h.read h.is_read.reads
value-sound scope text v code.ExprName h f =
    let same : f.read ≡ h.read = one-tree text f.read h.read f.is_read.reads h.is_read.reads in
    let k = h.known f.name (subst (λ (t : Tree). Contains (names_in t) f.name) same f.stands) in
    f.strange record { held = Some k.0; is = k.1 }
value-sound scope text v code.Type h f =
    let same : f.read ≡ h.read = one-tree text f.read h.read f.is_read.reads h.is_read.reads in
    let e : Clash ≡ Has h.type = sym f.clash ∙ ap (tree_type (types_of scope)) same ∙ h.typed in
    absurd cc
value-sound scope text v code.Value h f =
    let same : f.read ≡ h.read = one-tree text f.read h.read f.is_read.reads h.is_read.reads in
    let e : Stops f.fault ≡ Gives v = sym f.stops ∙ ap (value scope) same ∙ h.gives in
    absurd cc
value-sound scope text v _ h f = absurd f

tree-sound : (is_port : List ℕ → Bool) (scope : Scope) (text : List ℕ) (t : Tree) (cause : Code) → IsTreeOf (IsInScope is_port scope) text t → IsTreeFault (IsInScope is_port scope) text cause → ⊥
tree-sound is_port scope text t code.Limit h f = h.is_read.shallow f
tree-sound is_port scope text t code.ExprSyntax h f = f.none t h.is_read.reads
tree-sound is_port scope text t code.ExprName h f =
    let same : f.read ≡ t = one-tree text f.read t f.is_read.reads h.is_read.reads in
    f.strange (h.named f.name (subst (λ (u : Tree). Contains (names_in u) f.name) same f.stands))
tree-sound is_port scope text t _ h f = absurd f

-- ---- forms

true-false : (b : Bool) → IsTrue b → b ≡ false → ⊥
true-false b h e = false≢true (sym e ∙ h)

pub fitting-sound : (scope : Scope) (f : Form) (text : List ℕ) (v : Value) (cause : Code) → HasValue scope text v → IsTrue (fits f v) → IsValueFault scope f text cause → ⊥
fitting-sound scope f text v cause h fit (inl g) = value-sound scope text v cause h g
fitting-sound scope f text v cause h fit (inr g) =
    true-false (fits f v) fit (ap (fits f) (one-value scope text v g.1.held h g.1.comes) ∙ g.1.misfits)

-- where a parameter has what it is given, it isn't at fault
pub given-sound : (is_port : List ℕ → Bool) (scope : Scope) (f : Form) (text : List ℕ) (h : Held) (cause : Code) → IsGiven is_port scope f text h → IsGivenFault is_port scope f text cause → ⊥
given-sound is_port scope form.Any text (Token v) cause g x = fitting-sound scope form.Any text v cause g.0 g.1 x
given-sound is_port scope form.Truth text (Token v) cause g x = fitting-sound scope form.Truth text v cause g.0 g.1 x
given-sound is_port scope (form.Integer least most) text (Token v) cause g x = fitting-sound scope (form.Integer least most) text v cause g.0 g.1 x
given-sound is_port scope form.Array text (Token v) cause g x = fitting-sound scope form.Array text v cause g.0 g.1 x
given-sound is_port scope form.FullArray text (Token v) cause g x = fitting-sound scope form.FullArray text v cause g.0 g.1 x
given-sound is_port scope form.Offsets text (Token v) cause g x = fitting-sound scope form.Offsets text v cause g.0 g.1 x
given-sound is_port scope form.Tree text (Token v) cause g x = absurd (false≢true g.1)
given-sound is_port scope form.Comparison text (Token v) cause g x = absurd (false≢true g.1)
given-sound is_port scope form.Function text (Token v) cause g x = absurd (false≢true g.1)
given-sound is_port scope form.Gate text (Token v) cause g x = absurd (false≢true g.1)
given-sound is_port scope form.Ignored text (Token v) cause g x = absurd (false≢true g.1)
given-sound is_port scope form.Tree text (Read t) cause g x = tree-sound is_port scope text t cause g x
given-sound is_port scope form.Any text (Read t) cause g x = absurd g
given-sound is_port scope form.Truth text (Read t) cause g x = absurd g
given-sound is_port scope (form.Integer least most) text (Read t) cause g x = absurd g
given-sound is_port scope form.Array text (Read t) cause g x = absurd g
given-sound is_port scope form.FullArray text (Read t) cause g x = absurd g
given-sound is_port scope form.Offsets text (Read t) cause g x = absurd g
given-sound is_port scope form.Comparison text (Read t) cause g x = absurd g
given-sound is_port scope form.Function text (Read t) cause g x = absurd g
given-sound is_port scope form.Gate text (Read t) cause g x = absurd g
given-sound is_port scope form.Ignored text (Read t) cause g x = absurd g
given-sound is_port scope form.Comparison text Word cause g x = true-false (is_among comparisons text) g x.1
given-sound is_port scope form.Function text Word cause g x = true-false (is_among functions text) g x.1
given-sound is_port scope form.Gate text Word cause g x = true-false (is_among gates text) g x.1
given-sound is_port scope form.Ignored text Word cause g x = absurd x
given-sound is_port scope form.Any text Word cause g x = absurd g
given-sound is_port scope form.Truth text Word cause g x = absurd g
given-sound is_port scope (form.Integer least most) text Word cause g x = absurd g
given-sound is_port scope form.Array text Word cause g x = absurd g
given-sound is_port scope form.FullArray text Word cause g x = absurd g
given-sound is_port scope form.Offsets text Word cause g x = absurd g
given-sound is_port scope form.Tree text Word cause g x = absurd g

-- what a parameter has is one thing
pub one-given : (is_port : List ℕ → Bool) (scope : Scope) (f : Form) (text : List ℕ) (h k : Held) → IsGiven is_port scope f text h → IsGiven is_port scope f text k → h ≡ k
one-given is_port scope f text (Token v) (Token w) g l = ap Token (one-value scope text v w g.0 l.0)
one-given is_port scope form.Tree text (Read t) (Read u) g l = ap Read (one-tree text t u g.is_read.reads l.is_read.reads)
one-given is_port scope form.Any text (Read t) k g l = absurd g
one-given is_port scope form.Truth text (Read t) k g l = absurd g
one-given is_port scope (form.Integer least most) text (Read t) k g l = absurd g
one-given is_port scope form.Array text (Read t) k g l = absurd g
one-given is_port scope form.FullArray text (Read t) k g l = absurd g
one-given is_port scope form.Offsets text (Read t) k g l = absurd g
one-given is_port scope form.Comparison text (Read t) k g l = absurd g
one-given is_port scope form.Function text (Read t) k g l = absurd g
one-given is_port scope form.Gate text (Read t) k g l = absurd g
one-given is_port scope form.Ignored text (Read t) k g l = absurd g
one-given is_port scope f text Word Word g l = refl
one-given is_port scope form.Tree text (Read t) (Token w) g l = absurd (false≢true l.1)
one-given is_port scope form.Tree text (Read t) Word g l = absurd l
one-given is_port scope form.Tree text (Token v) (Read u) g l = absurd (false≢true g.1)
one-given is_port scope form.Any text (Token v) (Read u) g l = absurd l
one-given is_port scope form.Truth text (Token v) (Read u) g l = absurd l
one-given is_port scope (form.Integer least most) text (Token v) (Read u) g l = absurd l
one-given is_port scope form.Array text (Token v) (Read u) g l = absurd l
one-given is_port scope form.FullArray text (Token v) (Read u) g l = absurd l
one-given is_port scope form.Offsets text (Token v) (Read u) g l = absurd l
one-given is_port scope form.Comparison text (Token v) (Read u) g l = absurd l
one-given is_port scope form.Function text (Token v) (Read u) g l = absurd l
one-given is_port scope form.Gate text (Token v) (Read u) g l = absurd l
one-given is_port scope form.Ignored text (Token v) (Read u) g l = absurd l
one-given is_port scope form.Tree text (Token v) Word g l = absurd l
one-given is_port scope form.Any text (Token v) Word g l = absurd l
one-given is_port scope form.Truth text (Token v) Word g l = absurd l
one-given is_port scope (form.Integer least most) text (Token v) Word g l = absurd l
one-given is_port scope form.Array text (Token v) Word g l = absurd l
one-given is_port scope form.FullArray text (Token v) Word g l = absurd l
one-given is_port scope form.Offsets text (Token v) Word g l = absurd l
one-given is_port scope form.Comparison text (Token v) Word g l = absurd (false≢true g.1)
one-given is_port scope form.Function text (Token v) Word g l = absurd (false≢true g.1)
one-given is_port scope form.Gate text (Token v) Word g l = absurd (false≢true g.1)
one-given is_port scope form.Ignored text (Token v) Word g l = absurd (false≢true g.1)
one-given is_port scope form.Tree text Word k g l = absurd g
one-given is_port scope form.Any text Word k g l = absurd g
one-given is_port scope form.Truth text Word k g l = absurd g
one-given is_port scope (form.Integer least most) text Word k g l = absurd g
one-given is_port scope form.Array text Word k g l = absurd g
one-given is_port scope form.FullArray text Word k g l = absurd g
one-given is_port scope form.Offsets text Word k g l = absurd g
one-given is_port scope form.Comparison text Word (Token w) g l = absurd (false≢true l.1)
one-given is_port scope form.Function text Word (Token w) g l = absurd (false≢true l.1)
one-given is_port scope form.Gate text Word (Token w) g l = absurd (false≢true l.1)
one-given is_port scope form.Ignored text Word (Token w) g l = absurd (false≢true l.1)
one-given is_port scope form.Comparison text Word (Read u) g l = absurd l
one-given is_port scope form.Function text Word (Read u) g l = absurd l
one-given is_port scope form.Gate text Word (Read u) g l = absurd l
one-given is_port scope form.Ignored text Word (Read u) g l = absurd l

-- ---- what is seen

pub one-entry : (scope : Scope) (text : List ℕ) (e f : Option Value) → ComesTo scope text e → ComesTo scope text f → e ≡ f
one-entry scope text (Some v) (Some w) h k = ap Some (one-value scope text v w h k)
one-entry scope text (Some v) None h k = absurd (k v h)
one-entry scope text None (Some w) h k = absurd (h w k)
one-entry scope text None None h k = refl

pub one-extension : (around : Bindings) (ps : List PropertyTree) (a b : Bindings) → Extends around ps a → Extends around ps b → a ≡ b
one-extension around [] a b h k = h ∙ sym k
one-extension around (p ∷ ps) a b h k =
    let same : h.0 ≡ k.0 = one-entry (bound around) (text_of p) h.0 k.0 h.1 k.1 in
    one-extension ((property_name p, k.0) ∷ around) ps a b (subst (λ (e : Option Value). Extends ((property_name p, e) ∷ around) ps a) same h.2) k.2

-- what is seen in a transparent composite, and in an opaque one, comes from what is seen round it
record FromTransparent (net : NetTree) (t : ℕ) (inner : Bindings) : Type 0 where
  composite : TransparentTree
  around : Bindings
  is_there : slice_get net.transparent t ≡ Some composite
  sees : Sees net composite.within composite.parent around
  extends : Extends around composite.parameters inner

record FromOpaque (net : NetTree) (k : ℕ) (inner : Bindings) : Type 0 where
  entity : NetEntityTree
  around : Bindings
  is_there : slice_get net.entities k ≡ Some entity
  sees : Sees net entity.within entity.parent around
  extends : Extends around (seen_parameters entity) inner

abbrev Comes : NetTree → Option ℕ → Option ℕ → Bindings → Type 0
Comes net (Some t) parent inner = FromTransparent net t inner
Comes net None (Some k) inner = FromOpaque net k inner
Comes net None None inner = inner ≡ []

comes : (net : NetTree) (within parent : Option ℕ) (inner : Bindings) → Sees net within parent inner → Comes net within parent inner
comes net within parent inner at_top = refl
comes net within parent inner (in_transparent t c p around i at sees extends) = record { composite = c; around = around; is_there = at; sees = sees; extends = extends }
comes net within parent inner (in_opaque k e around i at sees extends) = record { entity = e; around = around; is_there = at; sees = sees; extends = extends }

pub one-sight : (net : NetTree) (within parent : Option ℕ) (a b : Bindings) → Sees net within parent a → Sees net within parent b → a ≡ b
one-sight net within parent a b at_top k = sym (comes net None None b k)
one-sight net within parent a b (in_transparent t c p around i at sees extends) k =
    let w : FromTransparent net t b = comes net (Some t) p b k in
    let same : w.composite ≡ c = same_Some w.composite c (sym w.is_there ∙ at) in
    let sees' : Sees net c.within c.parent w.around = subst (λ (x : TransparentTree). Sees net x.within x.parent w.around) same w.sees in
    let extends' : Extends w.around c.parameters b = subst (λ (x : TransparentTree). Extends w.around x.parameters b) same w.extends in
    let rounds : around ≡ w.around = one-sight net c.within c.parent around w.around sees sees' in
    one-extension w.around c.parameters a b (subst (λ (r : Bindings). Extends r c.parameters a) rounds extends) extends'
one-sight net within parent a b (in_opaque n e around i at sees extends) k =
    let w : FromOpaque net n b = comes net None (Some n) b k in
    let same : w.entity ≡ e = same_Some w.entity e (sym w.is_there ∙ at) in
    let sees' : Sees net e.within e.parent w.around = subst (λ (x : NetEntityTree). Sees net x.within x.parent w.around) same w.sees in
    let extends' : Extends w.around (seen_parameters e) b = subst (λ (x : NetEntityTree). Extends w.around (seen_parameters x) b) same w.extends in
    let rounds : around ≡ w.around = one-sight net e.within e.parent around w.around sees sees' in
    one-extension w.around (seen_parameters e) a b (subst (λ (r : Bindings). Extends r (seen_parameters e) a) rounds extends) extends'

-- each of parameters in turn has a value in what it sees
pub turn-value : (around : Bindings) (ps : List PropertyTree) (vs : List Value) (inner seen : Bindings) (q : PropertyTree) → AreInTurn around ps vs inner → IsSeenBy q seen around ps → (v : Value) × HasValue (bound seen) (text_of q) v
turn-value around ps [] inner seen q h (here rest) = absurd h
turn-value around ps (v ∷ vs) inner seen q h (here rest) = (v, h.0)
turn-value around ps [] inner seen q h (later a p rest entry comes_to by) = absurd h
turn-value around ps (v ∷ vs) inner seen q h (later a p rest entry comes_to by) =
    let same : entry ≡ Some v = one-entry (bound around) (text_of p) entry (Some v) comes_to h.0 in
    turn-value ((property_name p, Some v) ∷ around) rest vs inner seen q h.1 (subst (λ (e : Option Value). IsSeenBy q seen ((property_name p, e) ∷ around) rest) same by)
