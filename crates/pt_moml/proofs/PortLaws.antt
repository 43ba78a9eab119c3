-- What is refused in ports stands there, and where ports are read nothing stands.
use Rattle.std.proofs.Common.{◌≡◌, inl, inr, List, ℕ, Result, Ok, Err, Option, Some, None, Bool, true, false, codes, refl, ap, ◌∙◌}
use Rattle.std.specs.Prelude.{option_and_then, unwrap_or}
use mathlib.Core.Bool.{xor}
use Rattle.serde_json.specs.Data.{Data}
use Rattle.serde_json.specs.Find.{get, as_bool}
use Rattle.pt_document.specs.declared.code.Code.TheVariants.{Shape}
use Rattle.pt_document.specs.declared.job.Direction.{Direction}
use Rattle.pt_document.specs.declared.refusal.Refusal.{Refusal}
use Rattle.pt_document.specs.Document.{PortTree, PropertyTree}
use Rattle.pt_document.specs.Outcome.{◌>>=◌}
use Rattle.pt_moml.specs.Fields.{listed, name_at, optional_truth}
use Rattle.pt_moml.specs.Forms as forms
use Rattle.pt_moml.specs.Forms.{Field, named, object}
use Rattle.pt_moml.specs.Reading.{port_fields, port_at, direction_at, declared_at, properties_field}
use Rattle.pt_moml.specs.Stands.{undirected, is_true_in}
use Rattle.pt_document.proofs.Chains.{Is, good, is_refused, bind_err, bind_ok, never_ok}
use Rattle.pt_moml.proofs.FieldLaws.{Reads, NamesRead, name_reads, name_ok, optional_truth_reads, truth_ok, declared_reads, moved}
use Rattle.pt_moml.proofs.ObjectLaws.{Chain, chain_end, chain_step, object_reads}
use Rattle.pt_moml.proofs.PropertyLaws.{properties_reads}

-- the truth value that is read is the one that stands there
truth_in : (path : List ℕ) (field : Option Data) (b : Bool) → optional_truth path field ≡ Ok b → unwrap_or (option_and_then as_bool field) false ≡ b
truth_in path None b e = cc
truth_in path (Some d) b e = ap (λ o. unwrap_or o false) (truth_ok path d b e)

direction_told : (path : List ℕ) (i o : Bool) (r : Refusal) → direction_at path i o ≡ Err r → Is r Shape path × (xor i o ≡ false)
unfolding xor
direction_told path true true r e = (is_refused Shape path r e, refl)
direction_told path true false r e = absurd cc
direction_told path false true r e = absurd cc
direction_told path false false r e = (is_refused Shape path r e, refl)

direction_ok : (path : List ℕ) (i o : Bool) (d : Direction) → direction_at path i o ≡ Ok d → xor i o ≡ true
unfolding xor
direction_ok path true true d e = absurd (never_ok Shape path d e)
direction_ok path true false d e = refl
direction_ok path false true d e = refl
direction_ok path false false d e = absurd (never_ok Shape path d e)

-- the flags of a port, as they are read
flags : (d : Data) (i o b : Bool) → is_true_in (codes "input") d ≡ i → is_true_in (codes "output") d ≡ o → xor i o ≡ b → xor (is_true_in (codes "input") d) (is_true_in (codes "output") d) ≡ b
flags d i o b one two is = ap (λ x. xor x (is_true_in (codes "output") d)) one ∙ ap (xor i) two ∙ is

chain_direction : {B : Type 0} (path : List ℕ) (d : Data) (fs : List Field) (i o : Bool) (g : Direction → Result B Refusal) → is_true_in (codes "input") d ≡ i → is_true_in (codes "output") d ≡ o → ((a : Direction) → Chain path forms.port d fs (g a))
    → Chain path forms.port d fs (direction_at path i o >>= g)
chain_direction path d fs i o g one two rest =
    record {
      told = λ r e. elim (bind_err (direction_at path i o) g r e) [
        | inl h ↦ (let t = direction_told path i o r h in moved r Shape path (object forms.port) d t.0 (undirected forms.port (flags d i o false one two t.1)))
        | inr h ↦ (rest h.0).told r h.2
      ];
      clean = λ b e. (let h = bind_ok (direction_at path i o) g b e in (rest h.0).clean b h.2);
    }

port_directed : (path : List ℕ) (d : Data) (p : PortTree) → port_at path d ≡ Ok p → xor (is_true_in (codes "input") d) (is_true_in (codes "output") d) ≡ true
unfolding port_at
port_directed path d p e =
    let a = bind_ok (listed path port_fields d) _ p e in
    let b = bind_ok (name_at path (get (codes "name") d)) _ p a.2 in
    let i = bind_ok (optional_truth path (get (codes "input") d)) _ p b.2 in
    let o = bind_ok (optional_truth path (get (codes "output") d)) _ p i.2 in
    let f = bind_ok (direction_at path i.0 o.0) _ p o.2 in
    flags d i.0 o.0 true (truth_in path (get (codes "input") d) i.0 i.1) (truth_in path (get (codes "output") d) o.0 o.1) (direction_ok path i.0 o.0 f.0 f.1)

-- a port that is read has the name that stands there
pub port_named : (path : List ℕ) → NamesRead (port_at path) (λ p. p.name)
unfolding port_at
port_named path d p e =
    let a = bind_ok (listed path port_fields d) _ p e in
    let b = bind_ok (name_at path (get (codes "name") d)) _ p a.2 in
    let i = bind_ok (optional_truth path (get (codes "input") d)) _ p b.2 in
    let o = bind_ok (optional_truth path (get (codes "output") d)) _ p i.2 in
    let f = bind_ok (direction_at path i.0 o.0) _ p o.2 in
    let t = bind_ok (declared_at path (get (codes "type") d)) _ p f.2 in
    let q = bind_ok (properties_field path (get (codes "properties") d)) _ p t.2 in
    (name_ok path (get (codes "name") d) b.0 b.1).0 ∙ ap Some (same b.0 f.0 t.0 q.0 q.2)
  where
    same : (s : List ℕ) (f : Direction) (t : Option (List ℕ)) (ps : List PropertyTree) → good (record { name = s; direction = f; declared = t; properties = ps }) ≡ good p → s ≡ p.name
    same s f t ps e = let is : record { name = s; direction = f; declared = t; properties = ps } ≡ p = cc in ap (λ (q : PortTree). q.name) is

pub port_reads : (path : List ℕ) (d : Data) → Reads path (object forms.port) (port_at path d) d
unfolding port_at
port_reads path d =
    object_reads path forms.port d _
    (chain_step path forms.port d (forms.required (codes "name") forms.name) _ (name_at path (get (codes "name") d)) _ (inl refl) (name_reads path (get (codes "name") d)) (λ _ _.
    chain_step path forms.port d (forms.optional (codes "input") forms.truth) _ (optional_truth path (get (codes "input") d)) _ (inr (inl refl)) (optional_truth_reads path (get (codes "input") d)) (λ i one.
    chain_step path forms.port d (forms.optional (codes "output") forms.truth) _ (optional_truth path (get (codes "output") d)) _ (inr (inr (inl refl))) (optional_truth_reads path (get (codes "output") d)) (λ o two.
    chain_direction path d _ i o _ (truth_in path (get (codes "input") d) i one) (truth_in path (get (codes "output") d) o two) (λ _.
    chain_step path forms.port d (forms.optional (codes "type") forms.type_text) _ (declared_at path (get (codes "type") d)) _ (inr (inr (inr (inl refl)))) (declared_reads path (get (codes "type") d)) (λ _ _.
    chain_step path forms.port d (forms.optional (codes "properties") (named (object forms.property))) _ (properties_field path (get (codes "properties") d)) _ (inr (inr (inr (inr (inl refl))))) (properties_reads path (get (codes "properties") d)) (λ _ _.
    chain_end path forms.port d _)))))))
    (λ p e. port_directed path d p e)
