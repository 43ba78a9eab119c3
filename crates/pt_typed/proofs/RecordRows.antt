-- The typing of a net meets the rows of the actors that make records and take them apart.
use Rattle.std.proofs.Common.{◌≡◌, ℕ, zero, suc, ◌+◌, List, [], ◌∷◌, ◌++◌, length, map, replicate, true, false, Option, Some, refl, sym, ap, subst, ◌∙◌, arith, if◌then◌else◌}
use Rattle.std.specs.Prelude.{codes, bytes_eq}
use Rattle.std.specs.List.{AllByRecursion, zip, enumerate_from}
use Rattle.pt_meaning.specs.Streams.{get}
use Rattle.pt_document.specs.declared.job.Direction.{Direction}
use Rattle.pt_document.specs.declared.job.Direction.TheVariants.{Input, Output}
use Rattle.pt_document.specs.declared.classes.Arity.TheVariants as arity
use Rattle.pt_document.specs.Classes.{ClassPort}
use Rattle.pt_document.specs.Document.{PortTree}
use Rattle.pt_datatypes.specs.Datatype.{Datatype}
use Rattle.pt_datatypes.specs.Order.{IsBelow}
use Rattle.pt_language.specs.Typing.{or_general}
use Rattle.pt_language.specs.TreeType.{field}
use Rattle.pt_net.specs.declared.net.Channel.{Channel}
use Rattle.pt_net.specs.Table.{declared_port}
use Rattle.pt_net.specs.Net.{row_port}
use Rattle.std.proofs.lemmas.Option.{same_Some}
use Rattle.std.proofs.lemmas.Slice.Eq.{bytes_eq-Decides}
use Rattle.pt_firing.specs.Params.{names_but}
use Rattle.pt_net.specs.Inside.{is_inward}
use Rattle.pt_scopes.specs.Sites.{is_input_port}
use Rattle.pt_typing.specs.declared.variable.Variable.{Variable}
use Rattle.pt_typing.specs.declared.variable.Variable.TheVariants as variable
use Rattle.pt_typing.specs.Least.{Assignment}
use Rattle.pt_typing.specs.Terms.{entry_in}
use Rattle.pt_inequalities.specs.Inequalities.{inputs_from}
use Rattle.pt_start.specs.Started.{counted_port}
use Rattle.pt_typed.specs.TokenTypes.{IsUnder, field_of}
use Rattle.pt_typed.specs.TypedData.{TakeFields}
use Rattle.pt_typed.specs.NetRows.{ends_if, ends_from}
use Rattle.pt_typed.proofs.ClassPorts.{class_head, class_mark, SingleIf, SinglesFrom, out_if, outs_from}

pub input-test : (p : PortTree) (d : Direction) → is_input_port (record p { direction = d }) ≡ is_inward d
input-test p Input = refl
input-test p Output = refl

module _ (ks : List Channel) (typing : Assignment) (k : ℕ) (counts : ℕ → ℕ) where
  abbrev types : ℕ → Datatype
  types n = typing.types (variable.Port k n)

  -- ---- a record of its inputs

  -- an input has another name than this, and one channel; an output has this name
  abbrev pub PortIf : List ℕ → Direction → ℕ → List ℕ → Type 0
  PortIf other Input i name = (bytes_eq name other ≡ false) × (counts i ≡ 1)
  PortIf other Output i name = bytes_eq name other ≡ true

  abbrev pub PortsIf : List ℕ → ℕ → List PortTree → Type 0
  PortsIf other i [] = Unit {0}
  PortsIf other i (p ∷ ps) = PortIf other p.direction i p.name × PortsIf other (suc i) ps

  step : (other : List ℕ) (d : Direction) (i : ℕ) (name : List ℕ) (ns : List (List ℕ)) (es : List ℕ) (is : List (List ℕ × Variable)) → PortIf other d i name → zip ns (map types es) ≡ map (entry_in typing.types) is →
      zip (if bytes_eq name other then ns else name ∷ ns) (map types (ends_if d (counts i) i ++ es)) ≡ map (entry_in typing.types) ((if is_inward d then (name, variable.Port k i) ∷ [] else []) ++ is)
  step other Input i name ns es is h e =
      subst (λ b. zip (if b then ns else name ∷ ns) (map types (replicate (counts i) i ++ es)) ≡ (name, types i) ∷ map (entry_in typing.types) is) (sym h.0)
      (subst (λ n. zip (name ∷ ns) (map types (replicate n i ++ es)) ≡ (name, types i) ∷ map (entry_in typing.types) is) (sym h.1) (ap (λ xs. (name, types i) ∷ xs) e))
  step other Output i name ns es is h e = subst (λ b. zip (if b then ns else name ∷ ns) (map types es) ≡ map (entry_in typing.types) is) (sym h) e

  -- the names of the inputs with the types at their places
  pub entries-are : (other : List ℕ) (m i : ℕ) (ps : List PortTree) → PortsIf other i ps →
      zip (names_but other (map (counted_port ks k) (enumerate_from m ps))) (map types (ends_from counts i (map (λ (p : PortTree). p.direction) ps))) ≡ map (entry_in typing.types) (inputs_from k i ps)
  unfolding names_but
  entries-are other m i [] h = refl
  entries-are other m i (p ∷ ps) h =
      step other p.direction i p.name (names_but other (map (counted_port ks k) (enumerate_from (m + 1) ps))) (ends_from counts (suc i) (map (λ (q : PortTree). q.direction) ps)) (inputs_from k (suc i) ps) h.0 (entries-are other (m + 1) (suc i) ps h.1)
      ∙ ap (λ t. map (entry_in typing.types) ((if t then (p.name, variable.Port k i) ∷ [] else []) ++ inputs_from k (suc i) ps)) (sym (input-test p p.direction))

  -- ---- the fields of a record

  -- an output has another name than this, and takes the field of its name; an input has this name
  abbrev pub FieldIf : List ℕ → Option Datatype → Direction → ℕ → List ℕ → Type 0
  FieldIf other o Input i name = bytes_eq name other ≡ true
  FieldIf other o Output i name = (bytes_eq name other ≡ false) × IsUnder (field_of name o) (types i)

  abbrev pub FieldsIf : List ℕ → Option Datatype → ℕ → List PortTree → Type 0
  FieldsIf other o i [] = Unit {0}
  FieldsIf other o i (p ∷ ps) = FieldIf other o p.direction i p.name × FieldsIf other o (suc i) ps

  take : (other : List ℕ) (o : Option Datatype) (d : Direction) (i : ℕ) (name : List ℕ) (ns : List (List ℕ)) (es : List ℕ) → FieldIf other o d i name → TakeFields o ns (map types es) → TakeFields o (if bytes_eq name other then ns else name ∷ ns) (map types (out_if d i es))
  take other o Input i name ns es h t = subst (λ b. TakeFields o (if b then ns else name ∷ ns) (map types es)) (sym h) t
  take other o Output i name ns es h t = subst (λ b. TakeFields o (if b then ns else name ∷ ns) (types i ∷ map types es)) (sym h.0) (h.1, t)

  pub fields-taken : (other : List ℕ) (o : Option Datatype) (m i : ℕ) (ps : List PortTree) → FieldsIf other o i ps → TakeFields o (names_but other (map (counted_port ks k) (enumerate_from m ps))) (map types (outs_from i (map (λ (p : PortTree). p.direction) ps)))
  unfolding names_but
  fields-taken other o m i [] h = tt
  fields-taken other o m i (p ∷ ps) h = take other o p.direction i p.name (names_but other (map (counted_port ks k) (enumerate_from (m + 1) ps))) (outs_from (suc i) (map (λ (q : PortTree). q.direction) ps)) h.0 (fields-taken other o (m + 1) (suc i) ps h.1)

-- ---- the rows of the classes

pub one-row : (qs : List ClassPort) (h : List ℕ × Direction) → map class_head qs ≡ h ∷ [] → (q : ClassPort) × (qs ≡ q ∷ []) × (class_head q ≡ h)
one-row [] h e = absurd (cc)
one-row (q ∷ []) h e = let same : class_head q ≡ h = cc in (q, refl, same)
one-row (q ∷ r ∷ qs) h e = absurd (cc)

pub directions-all : (o : Option Direction) (d : Direction) (rows : List ClassPort) (ps : List PortTree) → o ≡ Some d → AllByRecursion (λ (p : PortTree). (o ≡ Some p.direction) × AllByRecursion (λ (q : ClassPort). bytes_eq p.name q.name ≡ false) rows) ps → AllByRecursion (λ (p : PortTree). d ≡ p.direction) ps
directions-all o d rows [] e a = tt
directions-all o d rows (p ∷ ps) e a = (same_Some d p.direction (sym e ∙ a.0.0), directions-all o d rows ps e a.1)

-- declared inputs stand before the output
pub outs-behind : (i : ℕ) (ps : List PortTree) → AllByRecursion (λ (p : PortTree). Input ≡ p.direction) ps → outs_from i (map (λ (p : PortTree). p.direction) ps ++ (Output ∷ [])) ≡ (i + length ps) ∷ []
outs-behind i [] a = ap (λ n. n ∷ []) (let z : i ≡ i + 0 = omega arith in z)
outs-behind i (p ∷ ps) a =
    ap (λ d. out_if d i (outs_from (suc i) (map (λ (q : PortTree). q.direction) ps ++ (Output ∷ [])))) (sym a.0) ∙ outs-behind (suc i) ps a.1 ∙ ap (λ n. n ∷ []) (let z : suc i + length ps ≡ i + suc (length ps) = omega arith in z)

-- declared outputs have no places
pub no-ends : (counts : ℕ → ℕ) (i : ℕ) (ps : List PortTree) → AllByRecursion (λ (p : PortTree). Output ≡ p.direction) ps → ends_from counts i (map (λ (p : PortTree). p.direction) ps) ≡ []
no-ends counts i [] a = refl
no-ends counts i (p ∷ ps) a = ap (λ d. ends_if d (counts i) i ++ ends_from counts (suc i) (map (λ (q : PortTree). q.direction) ps)) (sym a.0) ∙ no-ends counts (suc i) ps a.1

pub no-inputs : (k i : ℕ) (ps : List PortTree) → AllByRecursion (λ (p : PortTree). Output ≡ p.direction) ps → inputs_from k i ps ≡ []
no-inputs k i [] a = refl
no-inputs k i (p ∷ ps) a = ap (λ t. (if t then (p.name, variable.Port k i) ∷ [] else []) ++ inputs_from k (suc i) ps) (input-test p p.direction ∙ ap is_inward (sym a.0)) ∙ no-inputs k (suc i) ps a.1

pub inputs-ok : (ks : List Channel) (typing : Assignment) (k : ℕ) (counts : ℕ → ℕ) (o : Option Direction) (i : ℕ) (ds : List PortTree) (q : ClassPort) → o ≡ Some Input → AllByRecursion (λ (p : PortTree). (o ≡ Some p.direction) × AllByRecursion (λ (r : ClassPort). bytes_eq p.name r.name ≡ false) (q ∷ [])) ds →
    SinglesFrom counts i (map class_mark (map declared_port ds ++ (q ∷ []))) → bytes_eq q.name (codes "output") ≡ true → q.direction ≡ Output → PortsIf ks typing k counts (codes "output") i (ds ++ (row_port q ∷ []))
inputs-ok ks typing k counts o i [] q e a s n d = (subst (λ x. PortIf ks typing k counts (codes "output") x i q.name) (sym d) n, tt)
inputs-ok ks typing k counts o i (p ∷ ds) q e a s n d =
    let way : Input ≡ p.direction = same_Some Input p.direction (sym e ∙ a.0.0) in
    let named : q.name ≡ codes "output" = (bytes_eq-Decides q.name (codes "output")).0 n in (
      subst (λ x. PortIf ks typing k counts (codes "output") x i p.name) way (subst (λ m. bytes_eq p.name m ≡ false) named a.0.1.0, subst (λ x. SingleIf (counts i) (x, arity.Single)) (sym way) s.0),
      inputs-ok ks typing k counts o (suc i) ds q e a.1 s.1 n d,
    )

pub one-field : (types : ℕ → Datatype) (n : ℕ) (name : List ℕ) (u : Datatype) → IsBelow (or_general (field name (types 0))) u → IsUnder (field_of name (get (map types (replicate n 0 ++ [])) 0)) u
one-field types zero name u h = tt
one-field types (suc n) name u h = h
