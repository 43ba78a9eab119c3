-- In a document only Composites have directors.
use Rattle.std.proofs.Common.{◌≡◌, inl, inr, ◌||◌, ℕ, List, [], ◌∷◌, Bool, true, false, not, cond, Option, Some, None, Ok, codes, bytes_eq, option_map, refl, sym, ap, ◌∙◌}
use Rattle.std.specs.Prelude.{is_some}
use Rattle.std.proofs.lemmas.Bool.{and_parts, both_ways, false_from_ne_true}
use Rattle.std.proofs.lemmas.Option.{none-some, same_Some}
use Rattle.std.proofs.lemmas.Slice.Eq.{bytes_eq-Decides}
use Rattle.std.specs.List.{list_any}
use Rattle.pt_document.specs.declared.code.Code.TheVariants as code
use Rattle.pt_document.specs.Document.{PropertyTree, property_name, property_class, PortTree, Parts}
use Rattle.pt_document.specs.Classes.{Class, DirectorClass, Kind, Composite, Modal, Actor, kind_of, class_row, director_row, directors}
use Rattle.pt_document.specs.Names.{is_layout}
use Rattle.pt_moml.specs.Rules.{is_of_modal, parts_fit}
use Rattle.pt_moml.specs.Stands.{IsIn, with_class, in_parameter, no_variable, in_property, in_parameters}
use Rattle.pt_moml.proofs.RuleLaws.{rules_clean}
use Rattle.pt_net.specs.Standing.{names_director, is_director, has_director, is_composite}
use Rattle.pt_order.proofs.ReadParts.{IsRead}

-- what passes a test in a list
pub any-in : {X : Type 0} (test : X → Bool) (xs : List X) → list_any test xs ≡ true → (x : X) × IsIn x xs × (test x ≡ true)
any-in test [] e = absurd (let h : false ≡ true = e in cc)
any-in {X = X} test (y ∷ xs) e = chosen (test y) refl e (λ h. any-in test xs h)
  where
    chosen : (b : Bool) → test y ≡ b → (b || list_any test xs) ≡ true → (list_any test xs ≡ true → (x : X) × IsIn x xs × (test x ≡ true)) → (x : X) × IsIn x (y ∷ xs) × (test x ≡ true)
    chosen true is e rest = (y, inl refl, is)
    chosen false is e rest = let w = rest e in (w.0, inr w.1, w.2)

pub not-true : (b : Bool) → not b ≡ true → b ≡ false
not-true true e = absurd (let h : false ≡ true = e in cc)
not-true false e = refl

-- ---- kinds

kind-by : (class : List ℕ) (b c : Bool) → bytes_eq class (codes "Composite") ≡ b → bytes_eq class (codes "Modal") ≡ c → kind_of class ≡ cond b (Some Composite) (cond c (Some Modal) (option_map Actor (class_row class)))
unfolding kind_of
kind-by class b c is also = ap (λ b. cond b (Some Composite) (cond (bytes_eq class (codes "Modal")) (Some Modal) (option_map Actor (class_row class)))) is ∙ ap (λ c. cond b (Some Composite) (cond c (Some Modal) (option_map Actor (class_row class)))) also

no-actor : (o : Option Class) → option_map Actor o ≡ Some Composite → ⊥
no-actor None e = none-some Composite e
no-actor (Some row) e = let same : Actor row ≡ Composite = same_Some (Actor row) Composite e in cc

-- what is a Composite has its class
pub composite-class : (class : List ℕ) → kind_of class ≡ Some Composite → bytes_eq class (codes "Composite") ≡ true
composite-class class e = by-name (bytes_eq class (codes "Composite")) (bytes_eq class (codes "Modal")) refl refl
  where
    by-name : (b c : Bool) → bytes_eq class (codes "Composite") ≡ b → bytes_eq class (codes "Modal") ≡ c → bytes_eq class (codes "Composite") ≡ true
    by-name true c is also = is
    by-name false true is also = absurd (let same : Modal ≡ Composite = same_Some Modal Composite (sym (kind-by class false true is also) ∙ e) in cc)
    by-name false false is also = absurd (no-actor (class_row class) (sym (kind-by class false false is also) ∙ e))

-- ---- directors

no-variable-director : director_row (codes "Variable") ≡ None
unfolding director_row directors
no-variable-director = refl

-- the class of a director isn't that of a Variable
of-no-modal : (o : Option (List ℕ)) → names_director o ≡ true → is_of_modal o ≡ false
of-no-modal None e = absurd (let h : false ≡ true = e in cc)
of-no-modal (Some class) e = false_from_ne_true (bytes_eq class (codes "Variable")) (λ same.
    let is : class ≡ codes "Variable" = (bytes_eq-Decides class (codes "Variable")).0 same in
    let none : is_some (director_row class) ≡ false = ap (λ c. is_some (director_row c)) is ∙ ap (λ (o : Option DirectorClass). is_some o) no-variable-director in
    both_ways (is_some (director_row class)) none e)

classed : (o : Option (List ℕ)) → names_director o ≡ true → is_some o ≡ true
classed None e = absurd (let h : false ≡ true = e in cc)
classed (Some class) e = refl

-- what has a director among its properties is a Composite
pub in-kind : (here : List ℕ) (ps : List PropertyTree) (qs : List PortTree) (p : PropertyTree) → IsIn p ps → is_director p ≡ true → (kind : Kind) (u : Unit {0}) → parts_fit here kind ps qs ≡ Ok u → kind ≡ Composite
in-kind here ps qs p there director Composite u e = refl
in-kind here ps qs p there director Modal u e =
    let both = and_parts (not (is_layout (property_name p))) (names_director (property_class p)) director in
    absurd (rules_clean here Modal ps qs code.Class here (in_property p there (no_variable (not-true (is_layout (property_name p)) both.0) (of-no-modal (property_class p) both.1))) u e)
in-kind here ps qs p there director (Actor class) u e =
    let both = and_parts (not (is_layout (property_name p))) (names_director (property_class p)) director in
    absurd (rules_clean here (Actor class) ps qs code.Class here (in_parameters class (in_parameter p there (with_class (not-true (is_layout (property_name p)) both.0) (classed (property_class p) both.1)))) u e)

pub directed-composite : (own : Parts) → IsRead own → has_director own ≡ true → is_composite own ≡ true
directed-composite own r directed =
    let w = any-in is_director own.properties directed in
    let kind : r.kind ≡ Composite = in-kind r.here own.properties own.ports w.0 w.1 w.2 r.kind r.given r.rules in
    composite-class own.class (r.kind_is ∙ ap (λ k. Some k) kind)
