-- Faults that are told of texts are faults of the net.
use Rattle.std.proofs.Common.{◌≡◌, inl, inr, ℕ, ◌<◌, List, [], ◌∷◌, Bool, true, false, Option, Some, None, refl, sym, ap, subst, length, get_or}
use Rattle.std.proofs.lemmas.Option.{slice_get_within, get_or_from_slice_get}
use Rattle.std.specs.List.{Contains, slice_get}
use Rattle.pt_document.specs.declared.code.Code.{Code}
use Rattle.pt_document.specs.declared.code.Code.TheVariants as code
use Rattle.pt_document.specs.declared.refusal.DocFault.{DocFault}
use Rattle.pt_document.specs.declared.refusal.DocFault.TheVariants as faults
use Rattle.pt_document.specs.Document.{PropertyTree, property_name, PortTree, InputTree}
use Rattle.pt_language.specs.Scope.{Scope}
use Rattle.pt_net.specs.Net.{NetEntityTree, TransparentTree, DirectorTree}
use Rattle.pt_net.specs.Table.{shown}
use Rattle.pt_scopes.specs.declared.form.Form.TheVariants as form
use Rattle.pt_scopes.specs.declared.tables.TheConstants.{RATE}
use Rattle.pt_scopes.specs.Forms.{form_of}
use Rattle.pt_scopes.specs.Given.{names_port}
use Rattle.pt_scopes.specs.Scopes.{NetTree, Bindings, bound, text_of, is_composite_class, seen_parameters, Extends, Sees}
use Rattle.pt_scopes.specs.Sites.{inputs_of, texts_of_supply, director_form, site, of_transparent, of_composite, of_actor, of_director, of_variable, of_port, of_input}
use Rattle.pt_scopes.specs.Valued.{Stands, in_text, in_parameters, IsFaultOf}
use Rattle.pt_scopes.specs.Valued as disagreement
use Rattle.pt_scopes.specs.ClassParameters.{IsClassFault}
use Rattle.pt_scopes.specs.Told.{IsToldAt, IsFaultInTurn, IsVariableFault, IsDirectorFault, IsRateFault, IsSupplyFault}

pub get-contains : {X : Type 0} (xs : List X) (k : ℕ) (x : X) → slice_get xs k ≡ Some x → Contains xs x
get-contains xs k x e = (k, slice_get_within xs k x e, get_or_from_slice_get xs k x x e)

pub told-stands : (net : NetTree) (path : List ℕ) (P : Code → Type 0) → ((cause : Code) → P cause → Stands net cause path) → (fault : DocFault) → IsToldAt path P fault → IsFaultOf net fault
told-stands net path P go faults.Memory h = tt
told-stands net path P go (faults.Refused r) h = subst (λ (p : List ℕ). Stands net r.code p) (sym h.0) (go r.code h.1)

module _ (net : NetTree) where
  pub turn-stands : (c : TransparentTree) (around : Bindings) → Contains net.transparent c → Sees net c.within c.parent around → (cause : Code) → IsFaultInTurn around c.parameters cause → Stands net cause c.path
  turn-stands c around there sees cause f =
      in_text (site c.path [] f.seen form.Any (text_of f.property)) cause (of_transparent c around f.seen f.property there sees f.seen_by) (inl f.fault)

  pub input-stands : (i : InputTree) → Contains net.inputs i → (cause : Code) → IsSupplyFault (texts_of_supply i.supply) cause → Stands net cause (shown i.port)
  input-stands i there cause f = in_text (site (shown i.port) [] [] form.Any f.text) cause (of_input i f.text there f.there) (inl f.fault)

  module _ (e : NetEntityTree) (around : Bindings) (there : Contains net.entities e) (sees : Sees net e.within e.parent around) where
    pub own-stands : is_composite_class e.class ≡ true → (cause : Code) → IsFaultInTurn around e.parameters cause → Stands net cause e.path
    own-stands is cause f =
        in_text (site e.path [] f.seen form.Any (text_of f.property)) cause (of_composite e around f.seen f.property there is sees f.seen_by) (inl f.fault)

    pub class-stands : is_composite_class e.class ≡ false → (cause : Code) → IsClassFault (names_port (inputs_of e)) (bound around) None e.class e.parameters cause → Stands net cause e.path
    class-stands is cause (inl f) =
        in_text (site e.path (inputs_of e) around (form_of e.class (property_name f.property)) (text_of f.property)) cause (of_actor e around f.property there is sees f.there) f.fault
    class-stands is cause (inr f) =
        subst (λ (c : Code). Stands net c e.path) (sym f.0) (in_parameters e.path (disagreement.of_actor e around there is sees f.1))

    module _ (inner : Bindings) (behind : Extends around (seen_parameters e) inner) where
      pub director-stands : (cause : Code) → IsDirectorFault e.parent e.director (bound inner) cause → Stands net cause e.path
      director-stands cause f = chosen e.director refl f
        where
          chosen : (d : Option DirectorTree) → e.director ≡ d → IsDirectorFault e.parent d (bound inner) cause → Stands net cause e.path
          chosen None is g = absurd g
          chosen (Some d) is (inl g) =
              in_text (site e.path [] inner (director_form e.parent d.class (property_name g.property)) (text_of g.property)) cause (of_director e d around inner g.property there is sees behind g.there) g.fault
          chosen (Some d) is (inr g) =
              subst (λ (c : Code). Stands net c e.path) (sym g.0) (in_parameters e.path (disagreement.of_director e d around inner there is sees behind g.1))

      pub variable-stands : (cause : Code) → IsVariableFault (bound inner) e.variables cause → Stands net cause e.path
      variable-stands cause f =
          in_text (site e.path [] inner form.Any (text_of f.property)) cause (of_variable e around inner f.property there sees behind f.there) (inl f.fault)

    pub rate-stands : (cause : Code) → IsRateFault e.ports cause → Stands net cause e.path
    rate-stands cause f = in_text (site e.path [] [] RATE f.text) cause (of_port e f.port f.text there f.there f.declared) f.fault
