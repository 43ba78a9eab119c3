-- What is refused in a document stands there, and where a document is read nothing stands.
use Rattle.std.proofs.Common.{◌≡◌, ◌<◌, ◌+◌, ◌&&◌, ◌⊎◌, inl, inr, List, ℕ, Result, Ok, Err, Option, Some, None, Bool, true, false, codes, leb, refl, sym, ap, ◌∙◌, subst, arith}
use Rattle.std.specs.Prelude.{IfOk, IfErr, OnOk}
use Rattle.std.proofs.lemmas.Bool.Decides.{nat_tests}
use Rattle.serde_json.specs.Data.{Data}
use Rattle.serde_json.specs.Find.{get}
use Rattle.pt_document.specs.declared.code.Code.{Code}
use Rattle.pt_document.specs.declared.code.Code.TheVariants as code
use Rattle.pt_document.specs.declared.refusal.Refusal.{Refusal}
use Rattle.pt_document.specs.declared.refusal.DocFault.{DocFault}
use Rattle.pt_document.specs.declared.refusal.DocFault.TheVariants as faults
use Rattle.pt_document.specs.Document.{EntityTree, JobTree}
use Rattle.pt_document.specs.Names.{is_name, top_path}
use Rattle.pt_document.specs.Outcome.{refused}
use Rattle.pt_moml.specs.Fields.{listed, text_at, name_at, optional_list}
use Rattle.pt_moml.specs.Limits.{Nest, nest_field, count, levels, most_entities, most_levels, is_within}
use Rattle.pt_moml.specs.Forms as forms
use Rattle.pt_moml.specs.Forms.{Form, list, object}
use Rattle.pt_moml.specs.Reading.{is_one, version_at, limits_at, model_at, job_of, job_fields, input_at, entity_from, entities_field, IsDocument, IsJobOf, IsFirstRefusal, IsReadFault}
use Rattle.pt_document.specs.View.{job_view}
use Rattle.pt_document.specs.declared.job.Job.{Job}
use Rattle.pt_moml.specs.Stands.{Faulty, unknown_field, is_object_of, no_version, as_whole, text_in, InJob, in_job_form, too_many, too_deep, model_without_name, model_not_named, in_model, Stands, no_document, in_document, FaultStands, IsClean}
use Rattle.pt_document.proofs.Chains.{Is, good, is_refused, bind_err, bind_ok, never_err, never_ok, test_err, test_ok}
use Rattle.pt_moml.proofs.FieldLaws.{Fine, absent, ReadsAt, FineAt, moved, required_reads, text_reads, optional_list_reads, name_told, name_ok}
use Rattle.pt_moml.proofs.ObjectLaws.{AllFine, at_field, fine_object, listed_told, listed_ok}
use Rattle.pt_moml.proofs.PlainObjects.{input_reads}
use Rattle.pt_moml.proofs.EntityForms.{fine_anything}
use Rattle.pt_moml.proofs.EntityLaws.{entity_told, entity_clean}

abbrev In : Refusal → Data → Type 0
In r d = InJob d r.code r.path

at_top : (r : Refusal) (c : Code) (d : Data) → Is r c top_path → InJob d c top_path → In r d
at_top r c d is stands = subst (λ (k : Code). InJob d k r.path) (sym is.0) (subst (λ (p : List ℕ). InJob d c p) (sym is.1) stands)

-- ---- the version

fine_version : (d : Data) → is_one (as_whole d) ≡ true → Fine forms.version d
fine_version d good code (no_version bad) = let both : true ≡ false = sym good ∙ bad in cc

version_reads : (field : Option Data) → ReadsAt top_path true forms.version (version_at field) field
version_reads field =
    required_reads top_path forms.version version_at refl (λ d.
    record {
      told = λ r e. (let t = test_err (is_one (as_whole d)) tt code.Shape top_path r e in moved r code.Shape top_path forms.version d t.0 (no_version t.1));
      clean = λ u e. fine_version d (test_ok (is_one (as_whole d)) tt u code.Shape top_path e).0;
    }) field

inputs_reads : (field : Option Data) → ReadsAt top_path false (list forms.input) (optional_list input_at top_path field) field
inputs_reads field = optional_list_reads top_path forms.input input_at (input_reads top_path) field

records_reads : (field : Option Data) → ReadsAt top_path false (list forms.text) (optional_list text_at top_path field) field
records_reads field = optional_list_reads top_path forms.text text_at (text_reads top_path) field

-- ---- limits

passed : (n : Nest) → is_within n ≡ false → (most_entities < 1 + count n) ⊎ (most_levels < 1 + levels n)
passed n e = chosen (leb (1 + count n) 10000) refl e
  where
    chosen : (b : Bool) → leb (1 + count n) 10000 ≡ b → (b && leb (1 + levels n) 16) ≡ false → (most_entities < 1 + count n) ⊎ (most_levels < 1 + levels n)
    chosen true is e = inr (grind (arith, nat_tests))
    chosen false is e = inl (grind (arith, nat_tests))

within_count : (n : Nest) → is_within n ≡ true → most_entities < 1 + count n → ⊥
within_count n e over = let none : leb (1 + count n) 10000 ≡ false = grind (arith, nat_tests) in let both : false ≡ true = sym (ap (λ b. b && leb (1 + levels n) 16) none) ∙ e in cc

within_levels : (n : Nest) → is_within n ≡ true → most_levels < 1 + levels n → ⊥
within_levels n e over = let none : leb (1 + levels n) 16 ≡ false = grind (arith, nat_tests) in chosen (leb (1 + count n) 10000) (sym (ap (λ b. leb (1 + count n) 10000 && b) none) ∙ e)
  where
    chosen : (b : Bool) → (b && false) ≡ true → ⊥
    chosen true e = cc
    chosen false e = cc

-- ---- the model

model_told : (d : Data) (r : Refusal) → (get (codes "model") d ≡ None → refused {A = EntityTree} code.Shape top_path ≡ Err r → In r d) → model_at (get (codes "model") d) ≡ Err r → In r d
unfolding model_at limits_at
model_told d r no_model e = by_field (get (codes "model") d) refl e
  where
    by_field : (field : Option Data) → get (codes "model") d ≡ field → model_at field ≡ Err r → In r d
    by_field None is e = no_model is e
    by_field (Some m) is e =
        elim (bind_err (limits_at m) _ r e) [
          | inl h ↦ (let t = test_err (is_within (nest_field (get (codes "entities") m))) tt code.Limit top_path r h in
              elim (passed (nest_field (get (codes "entities") m)) t.1) [
                | inl many ↦ at_top r code.Limit d t.0 (too_many m is many)
                | inr deep ↦ at_top r code.Limit d t.0 (too_deep m is deep)
              ])
          | inr h ↦ elim (bind_err (name_at top_path (get (codes "name") m)) _ r h.2) [
            | inl g ↦ elim (name_told top_path (get (codes "name") m) r g) [
              | inl f ↦ at_top r code.Shape d f.0 (model_without_name m is f.1)
              | inr f ↦ at_top r code.Name d f.3 (model_not_named m f.0 is f.1 f.2)
            ]
            | inr g ↦ in_model m is (entity_told top_path g.0 m r (name_ok top_path (get (codes "name") m) g.0 g.1).0 g.2)
          ]
        ]

pub record ModelSteps (m : Data) (t : EntityTree) : Type 0 where
  pub within : is_within (nest_field (get (codes "entities") m)) ≡ true
  pub name : List ℕ
  pub name_is : text_in (codes "name") m ≡ Some name
  pub name_good : is_name name ≡ true
  pub read : entity_from top_path name m (entities_field top_path (get (codes "entities") m)) ≡ Ok t

model_steps : (m : Data) (t : EntityTree) → model_at (Some m) ≡ Ok t → ModelSteps m t
unfolding model_at limits_at
model_steps m t e =
    let a = bind_ok (limits_at m) _ t e in
    let w = test_ok (is_within (nest_field (get (codes "entities") m))) tt a.0 code.Limit top_path a.1 in
    let b = bind_ok (name_at top_path (get (codes "name") m)) _ t a.2 in
    let n = name_ok top_path (get (codes "name") m) b.0 b.1 in
    record { within = w.0; name = b.0; name_is = n.0; name_good = n.1; read = b.2 }

-- ---- the job

in_form : (r : Refusal) (d : Data) → r.path ≡ top_path → Faulty r.code (object forms.job) d → In r d
in_form r d is stands = subst (λ (p : List ℕ). InJob d r.code p) (sym is) (in_job_form stands)

job_told : (d : Data) (r : Refusal) → job_of d ≡ Err r → In r d
unfolding job_of
job_told d r e =
    elim (bind_err (listed top_path job_fields d) _ r e) [
      | inl h ↦ (let t = listed_told top_path job_fields d r h in let s = moved r code.Shape top_path (object forms.job) d t.0 (unknown_field forms.job t.1) in in_form r d s.0 s.1)
      | inr h ↦ elim (bind_err (version_at (get (codes "version") d)) _ r h.2) [
        | inl k ↦ (let t = (version_reads (get (codes "version") d)).told r k in in_form r d t.0 (at_field r forms.job (forms.required (codes "version") forms.version) d (inl refl) t.1))
        | inr k ↦ elim (bind_err (model_at (get (codes "model") d)) _ r k.2) [
          | inl m ↦ model_told d r
              (λ none e. (let t = is_refused code.Shape top_path r e in in_form r d t.1 (at_field r forms.job (forms.required (codes "model") forms.anything) d (inr (inl refl)) (absent t.0 refl none)))) m
          | inr m ↦ elim (bind_err (optional_list input_at top_path (get (codes "inputs") d)) _ r m.2) [
            | inl i ↦ (let t = (inputs_reads (get (codes "inputs") d)).told r i in in_form r d t.0 (at_field r forms.job (forms.optional (codes "inputs") (list forms.input)) d (inr (inr (inl refl))) t.1))
            | inr i ↦ elim (bind_err (optional_list text_at top_path (get (codes "record") d)) _ r i.2) [
              | inl t ↦ (let s = (records_reads (get (codes "record") d)).told r t in in_form r d s.0 (at_field r forms.job (forms.optional (codes "record") (list forms.text)) d (inr (inr (inr (inl refl)))) s.1))
              | inr t ↦ absurd (never_err (record { model = m.0; inputs = i.0; records = t.0 }) r t.2)
            ]
          ]
        ]
      ]
    ]

-- what the parts of a job that is read are
record JobSteps (d : Data) : Type 0 where
  all : AllFine (forms.fields forms.job) d
  known : is_object_of job_fields d ≡ true
  model : EntityTree
  model_is : model_at (get (codes "model") d) ≡ Ok model

fine_model : (field : Option Data) (t : EntityTree) → model_at field ≡ Ok t → FineAt true forms.anything field
unfolding model_at
fine_model None t e = absurd (never_ok code.Shape top_path t e)
fine_model (Some m) t e = record { given = λ _ h. cc; fine = λ x _. fine_anything x }

job_steps : (d : Data) (j : JobTree) → job_of d ≡ Ok j → JobSteps d
unfolding job_of
job_steps d j e =
    let h = bind_ok (listed top_path job_fields d) _ j e in
    let k = bind_ok (version_at (get (codes "version") d)) _ j h.2 in
    let m = bind_ok (model_at (get (codes "model") d)) _ j k.2 in
    let i = bind_ok (optional_list input_at top_path (get (codes "inputs") d)) _ j m.2 in
    let t = bind_ok (optional_list text_at top_path (get (codes "record") d)) _ j i.2 in
    record {
      all = ((version_reads (get (codes "version") d)).clean k.0 k.1, (fine_model (get (codes "model") d) m.0 m.1, ((inputs_reads (get (codes "inputs") d)).clean i.0 i.1, ((records_reads (get (codes "record") d)).clean t.0 t.1, tt))));
      known = listed_ok top_path job_fields d h.0 h.1;
      model = m.0;
      model_is = m.1;
    }

model_of : (d m : Data) (s : JobSteps d) → get (codes "model") d ≡ Some m → ModelSteps m s.model
model_of d m s is = model_steps m s.model (ap model_at (sym is) ∙ s.model_is)

job_clean : (d : Data) (c : Code) (path : List ℕ) → InJob d c path → (j : JobTree) → job_of d ≡ Ok j → ⊥
job_clean d c path (in_job_form stands) j e = let s = job_steps d j e in fine_object forms.job d s.known s.all refl c stands
job_clean d c path (too_many m is many) j e = let q = model_of d m (job_steps d j e) is in within_count (nest_field (get (codes "entities") m)) q.within many
job_clean d c path (too_deep m is deep) j e = let q = model_of d m (job_steps d j e) is in within_levels (nest_field (get (codes "entities") m)) q.within deep
job_clean d c path (model_without_name m is none) j e = let q = model_of d m (job_steps d j e) is in let there = q.name_is in cc
job_clean d c path (model_not_named m s is s_is bad) j e =
    let q = model_of d m (job_steps d j e) is in
    let same : Some s ≡ Some q.name = sym s_is ∙ q.name_is in
    let alike : s ≡ q.name = cc in
    let both : false ≡ true = sym bad ∙ ap is_name alike ∙ q.name_good in cc
job_clean d c path (in_model m is stands) j e =
    let s = job_steps d j e in
    let q = model_of d m s is in
    entity_clean c path top_path m stands q.name q.name_is s.model q.read

-- ---- the bytes

one_document : (bytes : List ℕ) (c d : Data) → IsDocument bytes c → IsDocument bytes d → c ≡ d
one_document bytes c d x y = cc (x.1, y.1)

stands_nowhere : (c : Code) (path bytes : List ℕ) (d : Data) (j : JobTree) → IsDocument bytes d → job_of d ≡ Ok j → Stands c path bytes → ⊥
stands_nowhere c path bytes d j is e (no_document none) = none d is
stands_nowhere c path bytes d j is e (in_document x there stands) = job_clean x c path stands j (ap job_of (sym (one_document bytes d x is there)) ∙ e)

-- Nothing stands in bytes that are read as a job.
pub clean_result : (bytes : List ℕ) (result : Result Job DocFault) → IfOk result (λ j. IsJobOf bytes (job_view j)) → OnOk result (IsClean bytes)
clean_result bytes (Ok j) h = λ c path stands. stands_nowhere c path bytes h.0 (job_view j) h.1 h.2 stands
clean_result bytes (Err e) h = tt

first_stands : (bytes : List ℕ) (r : Refusal) → IsFirstRefusal bytes r → Stands r.code r.path bytes
first_stands bytes r (inl (d, is, e)) = in_document d is (job_told d r e)
first_stands bytes r (inr (why, none)) = subst (λ (x : Refusal). Stands x.code x.path bytes) (sym why) (no_document none)

-- What is told stands.
pub told_result : (bytes : List ℕ) (result : Result Job DocFault) → IfErr result (λ e. IsReadFault bytes e) → IfErr result (FaultStands bytes)
told_result bytes (Ok j) h = tt
told_result bytes (Err faults.Memory) h = tt
told_result bytes (Err (faults.Refused r)) h = first_stands bytes r h
