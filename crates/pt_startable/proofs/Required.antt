-- The parameters that the row of a class asks for are given in the net of a document.
use Rattle.std.proofs.Common.{◌≡◌, inl, inr, ℕ, List, [], ◌∷◌, map, filter, Bool, true, false, not, ◌&&◌, ◌||◌, cond, Option, Some, None, refl, sym, ap, subst, ◌∙◌, if◌then◌else◌, codes, bytes_eq}
use Rattle.std.specs.Prelude.{is_some}
use Rattle.std.specs.Option.{is_none}
use Rattle.std.specs.List.{slice_get}
use Rattle.std.proofs.lemmas.Bool.{and_parts, and_from}
use Rattle.std.proofs.lemmas.Option.{same_Some}
use Rattle.std.proofs.lemmas.Slice.Eq.{bytes_eq-Decides}
use Rattle.pt_document.specs.declared.code.Code.{Code}
use Rattle.pt_document.specs.declared.code.Code.TheVariants as code
use Rattle.pt_document.specs.declared.classes.Need.{Need}
use Rattle.pt_document.specs.declared.classes.Need.TheVariants.{Required, RequiredAtTop, Optional}
use Rattle.pt_document.specs.Document.{PropertyTree, property_name, property_class, Parts, parts}
use Rattle.pt_document.specs.Classes.{Class, ClassParameter, Kind, Composite, Modal, Actor, kind_of, class_row, classes}
use Rattle.pt_document.specs.Names.{is_among, is_layout, below}
use Rattle.pt_moml.specs.Rules.{is_needed}
use Rattle.pt_moml.specs.Stands.{IsIn, BreaksRule, in_parameters, in_parameter, with_class, missing_parameter}
use Rattle.pt_moml.proofs.RuleLaws.{rules_clean}
use Rattle.pt_net.specs.declared.net.Net.{Net}
use Rattle.pt_net.specs.declared.net.NetEntity.{NetEntity}
use Rattle.pt_net.specs.Net.{NetEntityTree, is_parameter, entity_view}
use Rattle.pt_cover.proofs.Reading.{documents-leaves}
use Rattle.pt_cover.proofs.Walk.{all-placed}
use Rattle.pt_order.specs.Laws.{IsNetOfDocument}
use Rattle.pt_order.proofs.ReadParts.{IsRead}
use Rattle.pt_order.proofs.Standings.{documents-seen}
use Rattle.pt_order.proofs.NetStandings.{standing-of}

-- ---- rows

abbrev is_must : Need → Bool
is_must Required = true
is_must RequiredAtTop = false
is_must Optional = false

-- a row asks for a parameter of this name
abbrev requires : List ClassParameter → List ℕ → Bool
requires [] name = false
requires (r ∷ rs) name = (bytes_eq r.name name && is_must r.need) || requires rs name

abbrev requires_in : Option Kind → List ℕ → Bool
requires_in (Some (Actor c)) name = requires c.parameters name
requires_in (Some Composite) name = false
requires_in (Some Modal) name = false
requires_in None name = false

-- the class asks for it
abbrev pub is_required : List ℕ → List ℕ → Bool
is_required class name = requires_in (kind_of class) name

-- a name that isn't there for graphical editors alone, and that the class asks for
pub record IsAsked (class name : List ℕ) : Type 0 where
  pub plain : is_layout name ≡ false
  pub required : is_required class name ≡ true

pub const-value : IsAsked (codes "Const") (codes "value")
unfolding kind_of class_row classes is_layout
const-value = record { plain = refl; required = refl }

pub sequence-values : IsAsked (codes "Sequence") (codes "values")
unfolding kind_of class_row classes is_layout
sequence-values = record { plain = refl; required = refl }

pub limiter-bottom : IsAsked (codes "Limiter") (codes "bottom")
unfolding kind_of class_row classes is_layout
limiter-bottom = record { plain = refl; required = refl }

pub limiter-top : IsAsked (codes "Limiter") (codes "top")
unfolding kind_of class_row classes is_layout
limiter-top = record { plain = refl; required = refl }

pub delay-delay : IsAsked (codes "TimeDelay") (codes "delay")
unfolding kind_of class_row classes is_layout
delay-delay = record { plain = refl; required = refl }

pub server-time : IsAsked (codes "Server") (codes "serviceTime")
unfolding kind_of class_row classes is_layout
server-time = record { plain = refl; required = refl }

pub clock-period : IsAsked (codes "DiscreteClock") (codes "period")
unfolding kind_of class_row classes is_layout
clock-period = record { plain = refl; required = refl }

pub expression-tree : IsAsked (codes "Expression") (codes "expression")
unfolding kind_of class_row classes is_layout
expression-tree = record { plain = refl; required = refl }

must-need : (here : List ℕ) (n : Need) → is_must n ≡ true → is_needed here n ≡ true
must-need here Required e = refl
must-need here RequiredAtTop e = absurd (let h : false ≡ true = e in cc)
must-need here Optional e = absurd (let h : false ≡ true = e in cc)

-- its row
row-in : (here : List ℕ) (rows : List ClassParameter) (name : List ℕ) → requires rows name ≡ true → (row : ClassParameter) × IsIn row rows × (row.name ≡ name) × (is_needed here row.need ≡ true)
row-in here [] name e = absurd (let h : false ≡ true = e in cc)
row-in here (r ∷ rs) name e = chosen (bytes_eq r.name name && is_must r.need) refl e (λ later. row-in here rs name later)
  where
    chosen : (b : Bool) → (bytes_eq r.name name && is_must r.need) ≡ b → (b || requires rs name) ≡ true → (requires rs name ≡ true → (row : ClassParameter) × IsIn row rs × (row.name ≡ name) × (is_needed here row.need ≡ true)) → (row : ClassParameter) × IsIn row (r ∷ rs) × (row.name ≡ name) × (is_needed here row.need ≡ true)
    chosen true is h later = let both = and_parts (bytes_eq r.name name) (is_must r.need) is in (r, inl refl, (bytes_eq-Decides r.name name).0 both.0, must-need here r.need both.1)
    chosen false is h later = let w = later h in (w.0, inr w.1, w.2, w.3)

-- ---- properties

not-false : (b : Bool) → (b ≡ false → ⊥) → b ≡ true
not-false true h = refl
not-false false h = absurd (h refl)

none-of : {X : Type 0} (o : Option X) → (is_some o ≡ true → ⊥) → is_none o ≡ true
none-of None h = refl
none-of (Some x) h = absurd (h refl)

-- a name that stands for parameters alone stands among the parameters
kept-among : (ps : List PropertyTree) (name : List ℕ) → ((p : PropertyTree) → IsIn p ps → bytes_eq (property_name p) name ≡ true → is_parameter p ≡ true) → is_among (map property_name ps) name ≡ true → is_among (map property_name (filter is_parameter ps)) name ≡ true
kept-among [] name plain e = e
kept-among (p ∷ ps) name plain e = chosen (bytes_eq (property_name p) name) refl (is_parameter p) refl e (λ later. kept-among ps name (λ q i s. plain q (inr i) s) later)
  where
    chosen : (b : Bool) → bytes_eq (property_name p) name ≡ b → (c : Bool) → is_parameter p ≡ c → (if b then true else is_among (map property_name ps) name) ≡ true → (is_among (map property_name ps) name ≡ true → is_among (map property_name (filter is_parameter ps)) name ≡ true) → is_among (map property_name (cond c (p ∷ filter is_parameter ps) (filter is_parameter ps))) name ≡ true
    chosen true same true is h later = ap (λ b. if b then true else is_among (map property_name (filter is_parameter ps)) name) same
    chosen true same false is h later = absurd (let no : false ≡ true = sym is ∙ plain p (inl refl) same in cc)
    chosen false same true is h later = ap (λ b. if b then true else is_among (map property_name (filter is_parameter ps)) name) same ∙ later h
    chosen false same false is h later = later h

-- ---- the net

module _ (own : Parts) (r : IsRead own) (class : Class) (kind : kind_of own.class ≡ Some (Actor class)) where
  unbroken : (cause : Code) (path : List ℕ) → BreaksRule r.here own.properties own.ports (Actor class) cause path → ⊥
  unbroken cause path b =
      let same : Actor class ≡ r.kind = same_Some (Actor class) r.kind (sym kind ∙ r.kind_is) in
      rules_clean r.here r.kind own.properties own.ports cause path (subst (λ k. BreaksRule r.here own.properties own.ports k cause path) same b) r.given r.rules

  parameters-there : (name : List ℕ) → is_layout name ≡ false → requires class.parameters name ≡ true → is_among (map property_name (filter is_parameter own.properties)) name ≡ true
  parameters-there name plain e =
      let row = row-in r.here class.parameters name e in
      let among : is_among (map property_name own.properties) name ≡ true =
      not-false (is_among (map property_name own.properties) name) (λ none. unbroken code.Parameter (below r.here row.0.name) (in_parameters class (missing_parameter row.0 row.1 row.3 (ap (is_among (map property_name own.properties)) row.2 ∙ none)))) in
      kept-among own.properties name (λ p there same. (
      let here : is_layout (property_name p) ≡ false = ap is_layout ((bytes_eq-Decides (property_name p) name).0 same) ∙ plain in
      and_from (not (is_layout (property_name p))) (is_none (property_class p)) (ap not here) (none-of (property_class p) (λ some. unbroken code.Class r.here (in_parameters class (in_parameter p there (with_class here some)))))))
      among

kind-required : (o : Option Kind) (name : List ℕ) → requires_in o name ≡ true → (class : Class) × (o ≡ Some (Actor class)) × (requires class.parameters name ≡ true)
kind-required (Some (Actor c)) name e = (c, refl, e)
kind-required (Some Composite) name e = absurd (let h : false ≡ true = e in cc)
kind-required (Some Modal) name e = absurd (let h : false ≡ true = e in cc)
kind-required None name e = absurd (let h : false ≡ true = e in cc)

-- so it is of each actor of the net
pub required-there : (net : Net) (k : ℕ) (e : NetEntity) (name : List ℕ) → IsNetOfDocument net → slice_get net.entities.items k ≡ Some e → IsAsked e.class name → is_among (map property_name (entity_view e).parameters) name ≡ true
required-there net k e name doc at asked =
    let placed = all-placed doc.job (documents-leaves doc.bytes doc.job doc.read) in
    let st = standing-of doc.job net placed doc.made k e at in
    let own = parts st.standing.tree in
    let read = (documents-seen doc.bytes doc.job doc.read st.place st.standing st.at).read in
    let class : e.class ≡ own.class = ap (λ (x : NetEntityTree). x.class) st.same in
    let row = kind-required (kind_of own.class) name (ap (λ c. is_required c name) (sym class) ∙ asked.required) in
    ap (λ (x : NetEntityTree). is_among (map property_name x.parameters) name) st.same ∙ parameters-there own read row.0 row.1 name asked.plain row.2
