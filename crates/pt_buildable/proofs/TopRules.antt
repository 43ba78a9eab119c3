-- What the reading of a document leaves of the rules on its top.
use Rattle.std.proofs.Common.{◌≡◌, inl, inr, ℕ, List, [], ◌∷◌, Bool, true, false, cond, Option, Some, None, Ok, codes, bytes_eq, map, refl, ap, subst, ◌∙◌}
use Rattle.std.specs.Prelude.{is_some}
use Rattle.std.proofs.lemmas.Slice.Eq.{bytes_eq-Decides}
use Rattle.serde_json.specs.Data.{Data}
use Rattle.serde_json.specs.Find.{get}
use Rattle.pt_document.specs.declared.code.Code.TheVariants as code
use Rattle.pt_document.specs.declared.classes.Need.TheVariants.{RequiredAtTop}
use Rattle.pt_document.specs.declared.classes.Director.TheVariants.{Sdf, Sr}
use Rattle.pt_document.specs.Document.{PropertyTree, property_name, property_class, inner_properties, PortTree, EntityTree, parts, JobTree}
use Rattle.pt_document.specs.Classes.{ClassParameter, DirectorClass, Kind, Composite, director_row, directors}
use Rattle.pt_document.specs.Names.{is_among, is_layout, below, top_path}
use Rattle.pt_moml.specs.Fields.{listed, name_at, optional_list, text_at}
use Rattle.pt_moml.specs.Rules.{parts_fit}
use Rattle.pt_moml.specs.Stands.{IsIn, with_class, in_parameter, missing_parameter, in_director, in_property}
use Rattle.pt_moml.specs.Reading.{entities_field, limits_at, model_at, version_at, job_fields, input_at, job_of, IsJobOf}
use Rattle.pt_document.proofs.Chains.{good, bind_ok, never_ok}
use Rattle.pt_moml.proofs.EntityLaws.{steps}
use Rattle.pt_moml.proofs.RuleLaws.{rules_clean}

-- the properties and ports of the top keep the rules of its kind
pub record IsRuled (e : EntityTree) : Type 0 where
  pub kind : Kind
  pub given : Unit {0}
  pub rules : parts_fit top_path kind (parts e).properties (parts e).ports ≡ Ok given

model-ruled : (field : Option Data) (e : EntityTree) → model_at field ≡ Ok e → IsRuled e
unfolding model_at
model-ruled None e h = absurd (never_ok _ top_path e h)
model-ruled (Some d) e h =
    let a = bind_ok (limits_at d) _ e h in
    let b = bind_ok (name_at top_path (get (codes "name") d)) _ e a.2 in
    let s = steps top_path b.0 d (entities_field top_path (get (codes "entities") d)) e b.2 in
    subst (λ (x : EntityTree). IsRuled x) s.is (record { kind = s.kind; given = s.given; rules = s.rules_are })

job-ruled : (d : Data) (job : JobTree) → job_of d ≡ Ok job → IsRuled job.model
unfolding job_of
job-ruled d job h =
    let a = bind_ok (listed top_path job_fields d) _ job h in
    let b = bind_ok (version_at (get (codes "version") d)) _ job a.2 in
    let c = bind_ok (model_at (get (codes "model") d)) _ job b.2 in
    let f = bind_ok (optional_list input_at top_path (get (codes "inputs") d)) _ job c.2 in
    let g = bind_ok (optional_list text_at top_path (get (codes "record") d)) _ job f.2 in
    let both : good (record { model = c.0; inputs = f.0; records = g.0 }) ≡ good job = g.2 in
    let is : c.0 ≡ job.model = (let whole : record { model = c.0; inputs = f.0; records = g.0 } ≡ job = cc in ap (λ (j : JobTree). j.model) whole) in
    subst (λ (e : EntityTree). IsRuled e) is (model-ruled (get (codes "model") d) c.0 c.1)

pub documents-ruled : (bytes : List ℕ) (job : JobTree) → IsJobOf bytes job → IsRuled job.model
documents-ruled bytes job is = job-ruled is.0 job is.2

-- ---- the number of iterations

-- the parameter of a number of iterations
abbrev pub iterations_row : ClassParameter
iterations_row = record { name = codes "iterations"; need = RequiredAtTop; is_raw = false }

-- the director of this class takes it
abbrev pub TakesIterations : List ℕ → Type 0
TakesIterations class = (row : DirectorClass) × (director_row class ≡ Some row) × IsIn iterations_row row.parameters

pub sdf-takes : TakesIterations (codes "SDF")
unfolding director_row directors
sdf-takes = (record { name = codes "SDF"; director = Sdf; parameters = iterations_row ∷ [] }, refl, inl refl)

pub sr-takes : TakesIterations (codes "SR")
unfolding director_row directors
sr-takes = (record { name = codes "SR"; director = Sr; parameters = iterations_row ∷ [] }, refl, inl refl)

no-layout : is_layout (codes "iterations") ≡ false
unfolding is_layout
no-layout = refl

-- a name that is among those of some properties is that of one
among-in : (ps : List PropertyTree) (name : List ℕ) → is_among (map property_name ps) name ≡ true → (q : PropertyTree) × IsIn q ps × (bytes_eq (property_name q) name ≡ true)
among-in [] name e = absurd (let h : false ≡ true = e in cc)
among-in (p ∷ ps) name e = chosen (bytes_eq (property_name p) name) refl e (λ h. among-in ps name h)
  where
    chosen : (b : Bool) → bytes_eq (property_name p) name ≡ b → cond b true (is_among (map property_name ps) name) ≡ true → (is_among (map property_name ps) name ≡ true → (q : PropertyTree) × IsIn q ps × (bytes_eq (property_name q) name ≡ true)) → (q : PropertyTree) × IsIn q (p ∷ ps) × (bytes_eq (property_name q) name ≡ true)
    chosen true is e rest = (p, inl refl, is)
    chosen false is e rest = let w = rest e in (w.0, inr w.1, w.2)

-- a parameter with a number of iterations
pub record IsGivenIn (ps : List PropertyTree) : Type 0 where
  pub property : PropertyTree
  pub there : IsIn property ps
  pub named : bytes_eq (property_name property) (codes "iterations") ≡ true
  pub layout : is_layout (property_name property) ≡ false
  pub bare : is_some (property_class property) ≡ false

by-both : (b : Bool) → (b ≡ true → ⊥) → b ≡ false
by-both true h = absurd (h refl)
by-both false h = refl

by-none : (b : Bool) → (b ≡ false → ⊥) → b ≡ true
by-none true h = refl
by-none false h = absurd (h refl)

-- the director of the top that takes a number of iterations has one
pub director-given : (ps : List PropertyTree) (qs : List PortTree) (p : PropertyTree) (class : List ℕ) (given : Unit {0}) → parts_fit top_path Composite ps qs ≡ Ok given → IsIn p ps → is_layout (property_name p) ≡ false → property_class p ≡ Some class → TakesIterations class → IsGivenIn (inner_properties p)
director-given ps qs p class given rules there layout classed takes =
    let row = takes.0 in
    let inner = inner_properties p in
    let among : is_among (map property_name inner) (codes "iterations") ≡ true =
    by-none (is_among (map property_name inner) (codes "iterations")) (λ none. rules_clean top_path Composite ps qs code.Parameter (below top_path (codes "iterations")) (in_property p there (in_director class row layout classed takes.1 (missing_parameter iterations_row takes.2 refl none))) given rules) in
    let w = among-in inner (codes "iterations") among in
    let q = w.0 in
    let name : property_name q ≡ codes "iterations" = named q w.2 in
    let plain : is_layout (property_name q) ≡ false = ap is_layout name ∙ no-layout in
    record {
      property = q;
      there = w.1;
      named = w.2;
      layout = plain;
      bare = by-both (is_some (property_class q)) (λ some. rules_clean top_path Composite ps qs code.Class top_path (in_property p there (in_director class row layout classed takes.1 (in_parameter q w.1 (with_class plain some)))) given rules);
    }
  where
    named : (q : PropertyTree) → bytes_eq (property_name q) (codes "iterations") ≡ true → property_name q ≡ codes "iterations"
    named q e = (bytes_eq-Decides (property_name q) (codes "iterations")).0 e
