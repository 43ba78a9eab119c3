-- The places of the actors that declare ports: an Expression and a RecordAssembler have one for each declared input, a RecordDisassembler has that of its input.
use Rattle.std.proofs.Common.{◌≡◌, ℕ, suc, ◌+◌, List, [], ◌∷◌, ◌++◌, length, map, true, false, Option, Some, refl, sym, ap, subst, ◌∙◌, arith, slice_get, if◌then◌else◌}
use Rattle.std.specs.Prelude.{codes, bytes_eq}
use Rattle.std.specs.List.{AllByRecursion, enumerate_from}
use Rattle.std.proofs.lemmas.Slice.Eq.{bytes_eq-Decides}
use Rattle.pt_document.specs.declared.job.Direction.{Direction}
use Rattle.pt_document.specs.declared.job.Direction.TheVariants.{Input, Output}
use Rattle.pt_document.specs.declared.classes.Arity.{Arity}
use Rattle.pt_document.specs.declared.classes.Arity.TheVariants as arity
use Rattle.pt_document.specs.Classes.{ClassPort, Actor, kind_of}
use Rattle.pt_document.specs.Document.{PortTree}
use Rattle.pt_net.specs.declared.net.Channel.{Channel}
use Rattle.pt_net.specs.declared.net.Net.{Net}
use Rattle.pt_net.specs.declared.net.NetEntity.{NetEntity}
use Rattle.pt_net.specs.Table.{joined_ports, declared_port}
use Rattle.pt_net.specs.Net.{row_port, entity_view}
use Rattle.pt_firing.specs.Params.{names_but}
use Rattle.pt_typing.specs.Least.{Assignment}
use Rattle.pt_start.specs.Started.{counted_port, ports_of}
use Rattle.pt_order.specs.ClassPorts.{channels_at, HasClassPorts}
use Rattle.pt_typed.proofs.ClassPorts.{class_mark, heads_in, marks_in, declares_in, singles-from}
use Rattle.pt_typed.proofs.RecordRows.{PortIf, PortsIf, one-row, directions-all, inputs-ok}
use Rattle.pt_placed.proofs.Widths.{wide, width}

-- ---- an input with one channel each

step : (counts : ℕ → ℕ) (ks : List Channel) (typing : Assignment) (k : ℕ) (other : List ℕ) (d : Direction) (i : ℕ) (name : List ℕ) (ns : List (List ℕ)) (w : ℕ) → PortIf ks typing k counts other d i name → length ns ≡ w → length (if bytes_eq name other then ns else name ∷ ns) ≡ wide d (counts i) w
step counts ks typing k other Input i name ns w h e = ap (λ b. length (if b then ns else name ∷ ns)) h.0 ∙ (let z : suc (length ns) ≡ counts i + w = omega (arith, h.1, e) in z)
step counts ks typing k other Output i name ns w h e = ap (λ b. length (if b then ns else name ∷ ns)) h ∙ e

pub names-width : (ks : List Channel) (typing : Assignment) (k : ℕ) (counts : ℕ → ℕ) (other : List ℕ) (m i : ℕ) (ps : List PortTree) → PortsIf ks typing k counts other i ps → length (names_but other (map (counted_port ks k) (enumerate_from m ps))) ≡ width counts i (map (λ (p : PortTree). p.direction) ps)
unfolding names_but
names-width ks typing k counts other m i [] h = refl
names-width ks typing k counts other m i (p ∷ ps) h =
    step counts ks typing k other p.direction i p.name (names_but other (map (counted_port ks k) (enumerate_from (m + 1) ps))) (width counts (suc i) (map (λ (q : PortTree). q.direction) ps)) h.0 (names-width ks typing k counts other (m + 1) (suc i) ps h.1)

-- outputs have no places
outputs-width : (counts : ℕ → ℕ) (i : ℕ) (ps : List PortTree) → AllByRecursion (λ (p : PortTree). Output ≡ p.direction) ps → width counts i (map (λ (p : PortTree). p.direction) ps) ≡ 0
outputs-width counts i [] a = refl
outputs-width counts i (p ∷ ps) a = ap (λ d. wide d (counts i) (width counts (suc i) (map (λ (q : PortTree). q.direction) ps))) (sym a.0) ∙ outputs-width counts (suc i) ps a.1

abbrev arity_in : List (Direction × Arity) → Arity
arity_in [] = arity.Single
arity_in (m ∷ ms) = m.1

module _ (net : Net) (typing : Assignment) (k : ℕ) (e : NetEntity) (has : HasClassPorts net k e) (name : List ℕ) (named : e.class ≡ name) where
  abbrev counts : ℕ → ℕ
  counts = channels_at net k

  abbrev its-ways : List Direction
  its-ways = map (λ (p : PortTree). p.direction) (entity_view e).ports

  its-kind : kind_of name ≡ Some (Actor has.class)
  its-kind = ap kind_of (sym named) ∙ has.kind

  -- declared inputs before one output
  pub inputs-width : declares_in (kind_of name) ≡ Some Input → heads_in (kind_of name) ≡ (codes "output", Output) ∷ [] → length (names_but (codes "output") (ports_of net.channels.items k (entity_view e))) ≡ width counts 0 its-ways
  inputs-width declaring heads =
      let declares : has.class.declares ≡ Some Input = sym (ap declares_in its-kind) ∙ declaring in
      let row = one-row has.class.ports (codes "output", Output) (sym (ap heads_in its-kind) ∙ heads) in
      let q = row.0 in
      let ds = has.declared in
      let all = ds ++ (row_port q ∷ []) in
      let called : q.name ≡ codes "output" = ap (λ (h : List ℕ × Direction). h.0) row.2 in
      let way : q.direction ≡ Output = ap (λ (h : List ℕ × Direction). h.1) row.2 in
      let ports : (entity_view e).ports ≡ all = has.ports ∙ ap (λ o. joined_ports o ds (map row_port has.class.ports)) declares ∙ ap (λ qs. ds ++ map row_port qs) row.1 in
      let fit = subst (λ qs. AllByRecursion (λ (p : PortTree). (has.class.declares ≡ Some p.direction) × AllByRecursion (λ (r : ClassPort). bytes_eq p.name r.name ≡ false) qs) ds) row.1 has.fit in
      let singles = singles-from counts 0 (map declared_port ds ++ (q ∷ [])) (λ j p there d b. ap counts (let z : 0 + j ≡ j = omega arith in z) ∙ has.single j p (ap (λ o. slice_get (joined_ports o (map declared_port ds) has.class.ports) j) declares ∙ ap (λ qs. slice_get (map declared_port ds ++ qs) j) row.1 ∙ there) d b) in
      let ok = inputs-ok net.channels.items typing k counts has.class.declares 0 ds q declares fit singles ((bytes_eq-Decides q.name (codes "output")).1 called) way in
      subst (λ ps. length (names_but (codes "output") (map (counted_port net.channels.items k) (enumerate_from 0 ps))) ≡ width counts 0 (map (λ (p : PortTree). p.direction) ps)) (sym ports) (names-width net.channels.items typing k counts (codes "output") 0 0 all ok)

  -- one input before declared outputs
  pub input-width : declares_in (kind_of name) ≡ Some Output → heads_in (kind_of name) ≡ (codes "input", Input) ∷ [] → marks_in (kind_of name) ≡ (Input, arity.Single) ∷ [] → 1 ≡ width counts 0 its-ways
  input-width declaring heads marks =
      let declares : has.class.declares ≡ Some Output = sym (ap declares_in its-kind) ∙ declaring in
      let row = one-row has.class.ports (codes "input", Input) (sym (ap heads_in its-kind) ∙ heads) in
      let q = row.0 in
      let ds = has.declared in
      let way : q.direction ≡ Input = ap (λ (h : List ℕ × Direction). h.1) row.2 in
      let ports : (entity_view e).ports ≡ row_port q ∷ ds = has.ports ∙ ap (λ o. joined_ports o ds (map row_port has.class.ports)) declares ∙ ap (λ qs. map row_port qs ++ ds) row.1 in
      let single : q.arity ≡ arity.Single = ap arity_in (sym (ap (map class_mark) row.1) ∙ sym (ap marks_in its-kind) ∙ marks) in
      let alone : counts 0 ≡ 1 = has.single 0 q (ap (λ o. slice_get (joined_ports o (map declared_port ds) has.class.ports) 0) declares ∙ ap (λ qs. slice_get (qs ++ map declared_port ds) 0) row.1) way single in
      let outs = outputs-width counts 1 ds (directions-all has.class.declares Output has.class.ports ds declares has.fit) in
      let rest : ℕ = width counts 1 (map (λ (p : PortTree). p.direction) ds) in
      let sum : 1 ≡ counts 0 + rest = omega (arith, alone, outs) in
      sum ∙ ap (λ d. wide d (counts 0) rest) (sym way) ∙ ap (λ (ps : List PortTree). width counts 0 (map (λ (p : PortTree). p.direction) ps)) (sym ports)
