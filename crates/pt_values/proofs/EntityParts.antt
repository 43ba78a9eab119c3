-- What an entity comes to, part by part.
use Rattle.std.proofs.Common.{◌≡◌, ℕ, ◌++◌, List, [], ◌∷◌, map, take, Bool, true, false, cond, Option, Some, None, append-nil, refl, sym, ap, subst, ◌∙◌}
use Rattle.std.specs.Prelude.{option_map, ◌||◌, if◌then◌else◌}
use Rattle.std.specs.Str.{bytes_eq}
use Rattle.std.specs.List.{Contains, filter}
use Rattle.std.proofs.lemmas.List.{map-append}
use Rattle.std.proofs.lemmas.List.Elements.{filter-append}
use Rattle.pt_value.specs.Value.{Value}
use Rattle.pt_document.specs.declared.code.Code.{Code}
use Rattle.pt_document.specs.declared.refusal.DocFault.{DocFault}
use Rattle.pt_document.specs.Names.{is_among}
use Rattle.pt_language.specs.Scope.{Scope, port_in}
use Rattle.pt_net.specs.Net.{NetEntityTree}
use Rattle.pt_scopes.specs.declared.names.Names.{Names}
use Rattle.pt_scopes.specs.declared.port_names.PortNames.{PortNames}
use Rattle.pt_scopes.specs.Names.{held, or_else, in_chain}
use Rattle.pt_scopes.specs.PortNames.{has_port, has_presence, names_port_of}
use Rattle.pt_scopes.specs.Given.{Held, Token, names_port, is_presence}
use Rattle.pt_scopes.specs.Scopes.{NetTree, Bindings, bound, is_composite_class, seen_parameters, Extends, Sees}
use Rattle.pt_scopes.specs.Frames.{Means}
use Rattle.pt_scopes.specs.Sites.{inputs_of}
use Rattle.pt_scopes.specs.Valued.{EntityView, AreOwn, Stands, IsFaultOf}
use Rattle.pt_scopes.specs.ClassParameters.{AreParametersOf, IsClassFault}
use Rattle.pt_scopes.specs.Told.{IsToldAt, MeansWith, IsTurn, IsFaultInTurn, IsVariableFault, chain_scope, IsOwn, IsRest, IsEntityIn, IsDirectorFault, IsRateFault, IsFaultWhere}
use Rattle.pt_scopes.proofs.Turns.{means-first}
use Rattle.pt_scopes.proofs.SeenLaws.{own-extends}
use Rattle.pt_scopes.proofs.Standing.{told-stands, own-stands, class-stands, director-stands, variable-stands, rate-stands}

-- ---- names of ports

presence-same : (names : PortNames) (ports : List (List ℕ)) (port : Option (List ℕ)) → ((name : List ℕ) → has_port names name ≡ is_among ports name) → has_presence names port ≡ is_presence ports port
presence-same names ports None h = refl
presence-same names ports (Some port) h = h port

pub names-same : (names : PortNames) (ports : List (List ℕ)) → ((name : List ℕ) → has_port names name ≡ is_among ports name) → names_port_of names ≡ names_port ports
names-same names ports h = λ j name. at name j
  where
    at : (name : List ℕ) → names_port_of names name ≡ names_port ports name
    at name = ap (λ b. b || has_presence names (port_in name)) (h name) ∙ ap (λ b. is_among ports name || b) (presence-same names ports (port_in name) h)

among-push : (xs : List (List ℕ)) (y name : List ℕ) → is_among (xs ++ y ∷ []) name ≡ (if bytes_eq y name then true else is_among xs name)
among-push [] y name = refl
among-push (x ∷ xs) y name = ap (λ b. if bytes_eq x name then true else b) (among-push xs y name) ∙ swapped (bytes_eq x name) (bytes_eq y name)
  where
    swapped : (a b : Bool) → (if a then true else (if b then true else is_among xs name)) ≡ (if b then true else (if a then true else is_among xs name))
    swapped true true = refl
    swapped true false = refl
    swapped false true = refl
    swapped false false = refl

-- the names of things that pass a test, one thing more
module _ {A B : Type 0} (p : B → Bool) (named : B → List ℕ) (view : A → B) (xs more : List A) (x : A) (is : map view more ≡ map view xs ++ view x ∷ []) where
  abbrev among : List A → List ℕ → Bool
  among zs name = is_among (map named (filter p (map view zs))) name

  split : map named (filter p (map view more)) ≡ map named (filter p (map view xs)) ++ map named (filter p (view x ∷ []))
  split = ap (λ (bs : List B). map named (filter p bs)) is ∙ ap (map named) (filter-append p (map view xs) (view x ∷ [])) ∙ map-append named (filter p (map view xs)) (filter p (view x ∷ []))

  pub among-yes : p (view x) ≡ true → (name : List ℕ) → among more name ≡ (if bytes_eq (named (view x)) name then true else among xs name)
  among-yes passes name =
      ap (λ ns. is_among ns name) (split ∙ ap (λ b. map named (filter p (map view xs)) ++ map named (cond b (view x ∷ []) [])) passes)
      ∙ among-push (map named (filter p (map view xs))) (named (view x)) name

  pub among-no : p (view x) ≡ false → (name : List ℕ) → among more name ≡ among xs name
  among-no no-one name =
      ap (λ ns. is_among ns name) (split ∙ ap (λ b. map named (filter p (map view xs)) ++ map named (cond b (view x ∷ []) [])) no-one ∙ append-nil (map named (filter p (map view xs))))

  pub among-more : (name : List ℕ) → among more name ≡ (if p (view x) then (if bytes_eq (named (view x)) name then true else among xs name) else among xs name)
  among-more name = chosen (p (view x)) refl
    where
      chosen : (b : Bool) → p (view x) ≡ b → among more name ≡ (if b then (if bytes_eq (named (view x)) name then true else among xs name) else among xs name)
      chosen true passes = among-yes passes name
      chosen false fails = among-no fails name

-- ---- what is seen

pub no-own : (own : Names) (frames : List Names) (chain : List ℕ) → ((name : List ℕ) → held own name ≡ None) → (λ (name : List ℕ). option_map Some (or_else (held own name) (in_chain frames chain name))) ≡ chain_scope frames chain
no-own own frames chain h = λ j name. option_map Some (or_else (h name j) (in_chain frames chain name))

chain-is : (frames : List Names) (chain : List ℕ) (around : Bindings) → Means frames chain around → chain_scope frames chain ≡ bound around
chain-is frames chain around m = λ j name. m name j

-- ---- own parameters

module _ (frames : List Names) (chain : List ℕ) (e : NetEntityTree) where
  pub turn-own : (around : Bindings) (own : Names) (hs : List Held) (vs : List Value) → is_composite_class e.class ≡ true → hs ≡ map Token vs → IsTurn around e.parameters frames chain own vs → IsOwn around frames chain e own hs
  turn-own around own hs vs is same t = record {
    inner = t.inner;
    parameters = subst (λ (b : Bool). AreOwn b e around hs t.inner) (sym is) (vs, same, t.in_turn);
    means = t.means;
  }

  pub class-own : (around : Bindings) (own : Names) (hs : List Held) → is_composite_class e.class ≡ false → ((name : List ℕ) → held own name ≡ None) → AreParametersOf (names_port (inputs_of e)) (chain_scope frames chain) None e.class e.parameters hs → Means frames chain around → IsOwn around frames chain e own hs
  class-own around own hs is none p m = record {
    inner = around;
    parameters = subst (λ (b : Bool). AreOwn b e around hs around) (sym is) (refl, subst (λ (s : Scope). AreParametersOf (names_port (inputs_of e)) s None e.class e.parameters hs) (chain-is frames chain around m) p);
    means = means-first own frames chain around none m;
  }

  pub own-told : is_composite_class e.class ≡ true → (fault : DocFault) → ((around : Bindings) → Means frames chain around → IsToldAt e.path (IsFaultInTurn around e.parameters) fault) → IsFaultWhere frames chain e fault
  own-told is fault told = λ net around there sees m. told-stands net e.path (IsFaultInTurn around e.parameters) (own-stands net e around there sees is) fault (told around m)

  pub class-told : is_composite_class e.class ≡ false → (fault : DocFault) → IsToldAt e.path (IsClassFault (names_port (inputs_of e)) (chain_scope frames chain) None e.class e.parameters) fault → IsFaultWhere frames chain e fault
  class-told is fault told =
      λ net around there sees m.
      told-stands net e.path (IsClassFault (names_port (inputs_of e)) (bound around) None e.class e.parameters) (class-stands net e around there sees is) fault
      (subst (λ (s : Scope). IsToldAt e.path (IsClassFault (names_port (inputs_of e)) s None e.class e.parameters) fault) (chain-is frames chain around m) told)

  -- ---- the rest

  module _ (own : Names) (hs : List Held) (owned : (around : Bindings) → Means frames chain around → IsOwn around frames chain e own hs) where
    abbrev seen : Scope
    seen name = option_map Some (or_else (held own name) (in_chain frames chain name))

    rest-told : (P : Scope → Code → Type 0) → ((net : NetTree) (around : Bindings) → Contains net.entities e → Sees net e.within e.parent around → (inner : Bindings) → Extends around (seen_parameters e) inner → (cause : Code) → P (bound inner) cause → Stands net cause e.path) → (fault : DocFault) → IsToldAt e.path (P seen) fault → IsFaultWhere frames chain e fault
    rest-told P stands fault told =
        λ net around there sees m.
        let o : IsOwn around frames chain e own hs = owned around m in
        let is : seen ≡ bound o.inner = λ j name. o.means name j in
        told-stands net e.path (P (bound o.inner)) (stands net around there sees o.inner (own-extends e around o.inner hs o.parameters)) fault (subst (λ (s : Scope). IsToldAt e.path (P s) fault) is told)

    pub director-told : (fault : DocFault) → IsToldAt e.path (IsDirectorFault e.parent e.director seen) fault → IsFaultWhere frames chain e fault
    director-told fault told = rest-told (IsDirectorFault e.parent e.director) (λ net around there sees inner behind. director-stands net e around there sees inner behind) fault told

    pub variable-told : (fault : DocFault) → IsToldAt e.path (IsVariableFault seen e.variables) fault → IsFaultWhere frames chain e fault
    variable-told fault told = rest-told (λ s. IsVariableFault s e.variables) (λ net around there sees inner behind. variable-stands net e around there sees inner behind) fault told

    pub rate-told : (fault : DocFault) → IsToldAt e.path (IsRateFault e.ports) fault → IsFaultWhere frames chain e fault
    rate-told fault told = rest-told (λ s. IsRateFault e.ports) (λ net around there sees inner behind. rate-stands net e around there sees) fault told

    pub entity-valued : (v : EntityView) → v.parameters ≡ hs → IsRest seen e v → (around : Bindings) → Means frames chain around → IsEntityIn around frames chain e own v
    entity-valued v same rest around m =
        let o : IsOwn around frames chain e own hs = owned around m in
        let is : seen ≡ bound o.inner = λ j name. o.means name j in
        record {
          inner = o.inner;
          parameters = subst (λ (ks : List Held). AreOwn (is_composite_class e.class) e around ks o.inner) (sym same) o.parameters;
          rest = subst (λ (s : Scope). IsRest s e v) is rest;
          means = o.means;
        }
