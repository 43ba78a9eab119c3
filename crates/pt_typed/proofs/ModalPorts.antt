-- The refinements of a Modal entity, and its ports and theirs, by their numbers.
use Rattle.std.proofs.Common.{◌≡◌, ◌+◌, ℕ, zero, suc, List, [], ◌∷◌, length, map, filter, Bool, true, false, not, Some, None, refl, sym, ap, ◌∙◌, arith, if◌then◌else◌, slice_get}
use Rattle.std.specs.List.{cons_option}
use Rattle.std.proofs.lemmas.Option.{none-some, same_Some}
use Rattle.pt_datatypes.specs.Datatype.{Datatype}
use Rattle.pt_document.specs.declared.job.Direction.{Direction}
use Rattle.pt_document.specs.declared.job.Direction.TheVariants.{Input, Output}
use Rattle.pt_document.specs.declared.job.Port.{Port}
use Rattle.pt_document.specs.Document.{PortTree}
use Rattle.pt_document.specs.View.{port_view}
use Rattle.pt_net.specs.declared.net.NetEntity.{NetEntity}
use Rattle.pt_net.specs.Net.{entity_view}
use Rattle.pt_net.specs.Inside.{is_inward, is_child, child_if, children_from, children_of, is_input, is_output}
use Rattle.pt_typing.specs.declared.variable.Variable.TheVariants as variable
use Rattle.pt_typing.specs.Least.{Assignment}
use Rattle.pt_inequalities.specs.Inequalities.{no_ports, with_ports}
use Rattle.pt_machine.specs.Children.{stands_in}
use Rattle.pt_machine.specs.Names.{is_along, port_name, names_along}
use Rattle.pt_machine.specs.Numbers.{number_of}
use Rattle.pt_modal_types.specs.Laws.{types_in, AreApart}
use Rattle.pt_modal_types.proofs.NameLaws.{ports-are, are-own, entries, IsAlong, along-of}
use Rattle.pt_modal_types.proofs.MachineLaws.{numbered, types-at}
use Rattle.pt_typed.specs.NetTypes.{number_if, port_numbers, port_types}

-- ---- refinements

-- what stands in an entity, by its number among the children
kid-from : (m j : ℕ) (es : List NetEntity) (i c : ℕ) → slice_get (children_from m j es) i ≡ Some c → (n : ℕ) × (f : NetEntity) × (c ≡ j + n) × (slice_get es n ≡ Some f) × (slice_get (filter (stands_in m) (map entity_view es)) i ≡ Some (entity_view f))
kid-from m j [] i c e = absurd (none-some c e)
kid-from m j (x ∷ es) i c e = by_test (λ n g. kid-from m (suc j) es n c g) (is_child m x) i e
  where
    by_test : ((n : ℕ) → slice_get (children_from m (suc j) es) n ≡ Some c → (l : ℕ) × (f : NetEntity) × (c ≡ suc j + l) × (slice_get es l ≡ Some f) × (slice_get (filter (stands_in m) (map entity_view es)) n ≡ Some (entity_view f))) → (b : Bool) (i : ℕ) →
        slice_get (child_if b j (children_from m (suc j) es)) i ≡ Some c →
        (l : ℕ) × (f : NetEntity) × (c ≡ j + l) × (slice_get (x ∷ es) l ≡ Some f) × (slice_get (if b then entity_view x ∷ filter (stands_in m) (map entity_view es) else filter (stands_in m) (map entity_view es)) i ≡ Some (entity_view f))
    by_test more true zero g = (0, x, (let same = same_Some j c g in omega (arith, same)), refl, refl)
    by_test more true (suc i) g = let w = more i g in let l = w.2 in (suc w.0, w.1, omega (arith, l), w.3, w.4)
    by_test more false i g = let w = more i g in let l = w.2 in (suc w.0, w.1, omega (arith, l), w.3, w.4)

pub kid-of : (es : List NetEntity) (m i c : ℕ) (f : NetEntity) → slice_get (children_of es m) i ≡ Some c → slice_get es c ≡ Some f → slice_get (filter (stands_in m) (map entity_view es)) i ≡ Some (entity_view f)
kid-of es m i c f there at =
    let w = kid-from m 0 es i c there in
    let l = w.2 in
    let number : w.0 ≡ c = omega (arith, l) in
    w.4 ∙ ap (λ (g : NetEntity). Some (entity_view g)) (same_Some w.1 f (sym w.3 ∙ ap (slice_get es) number ∙ at))

-- ---- directions

-- this test passes the ports of a direction
abbrev pub IsTestOf : Direction → (Port → Bool) → Type 0
IsTestOf d test = (p : Port) → test p ≡ is_along d (port_view p)

pub input-way : IsTestOf Input is_input
input-way p = refl

pub output-way : IsTestOf Output is_output
output-way p = refl

pub inward : (d : Direction) → is_inward d ≡ true → d ≡ Input
inward Input e = refl
inward Output e = absurd (let no : false ≡ true = e in cc)

pub outward : (d : Direction) → not (is_inward d) ≡ true → d ≡ Output
outward Output e = refl
outward Input e = absurd (let no : false ≡ true = e in cc)

module _ (typing : Assignment) (c : ℕ) (d : Direction) where
  -- ---- the ports of a direction, the first of all ports having number i

  -- there are as many names as types
  pub names-counted : (i : ℕ) (test : Port → Bool) → IsTestOf d test → (ps : List Port) → length (names_along d (map port_view ps)) ≡ length (port_types typing c (port_numbers test i ps))
  names-counted i test same [] = refl
  names-counted i test same (p ∷ ps) = by_test (names-counted (suc i) test same ps) (is_along d (port_view p)) ∙ ap (λ b. length (port_types typing c (number_if b i (port_numbers test (suc i) ps)))) (sym (same p))
    where
      by_test : length (names_along d (map port_view ps)) ≡ length (port_types typing c (port_numbers test (suc i) ps)) → (b : Bool) →
          length (map port_name (if b then port_view p ∷ filter (is_along d) (map port_view ps) else filter (is_along d) (map port_view ps))) ≡ length (port_types typing c (number_if b i (port_numbers test (suc i) ps)))
      by_test rest true = ap (λ n. suc n) rest
      by_test rest false = rest

  -- the types are those of the machine's names
  pub types-along : (i : ℕ) (test : Port → Bool) → IsTestOf d test → (ps : List Port) → types_in (entries typing c d i (map port_view ps)) ≡ port_types typing c (port_numbers test i ps)
  types-along i test same [] = refl
  types-along i test same (p ∷ ps) = by_test (types-along (suc i) test same ps) (is_along d (port_view p)) ∙ ap (λ b. port_types typing c (number_if b i (port_numbers test (suc i) ps))) (sym (same p))
    where
      by_test : types_in (entries typing c d (suc i) (map port_view ps)) ≡ port_types typing c (port_numbers test (suc i) ps) → (b : Bool) →
          types_in (cons_option (if b then Some (p.name, typing.types (variable.Port c i)) else None) (entries typing c d (suc i) (map port_view ps))) ≡ port_types typing c (number_if b i (port_numbers test (suc i) ps))
      by_test rest true = ap (λ ts. typing.types (variable.Port c i) ∷ ts) rest
      by_test rest false = rest

  -- ---- a port by its place

  -- at a place of the direction is a port of this type: its number, and its name at that place
  pub record IsPortAt (i : ℕ) (ps : List Port) (q : ℕ) (t : Datatype) : Type 0 where
    pub number : ℕ
    pub port : Port
    pub there : slice_get ps number ≡ Some port
    pub way : is_along d (port_view port) ≡ true
    pub type : t ≡ typing.types (variable.Port c (i + number))
    pub name : slice_get (names_along d (map port_view ps)) q ≡ Some port.name

  pub port-at : (i : ℕ) (test : Port → Bool) → IsTestOf d test → (ps : List Port) (q : ℕ) (t : Datatype) → slice_get (port_types typing c (port_numbers test i ps)) q ≡ Some t → IsPortAt i ps q t
  port-at i test same [] q t e = absurd (none-some t e)
  port-at i test same (p ∷ ps) q t e = by_test (λ n g. port-at (suc i) test same ps n t g) (is_along d (port_view p)) refl q (ap (λ b. slice_get (port_types typing c (number_if b i (port_numbers test (suc i) ps))) q) (sym (same p)) ∙ e)
    where
      further : (n : ℕ) → typing.types (variable.Port c (suc i + n)) ≡ typing.types (variable.Port c (i + suc n))
      further n = ap (λ m. typing.types (variable.Port c m)) (let z : suc i + n ≡ i + suc n = omega arith in z)

      by_test : ((n : ℕ) → slice_get (port_types typing c (port_numbers test (suc i) ps)) n ≡ Some t → IsPortAt (suc i) ps n t) → (b : Bool) → is_along d (port_view p) ≡ b → (q : ℕ) → slice_get (port_types typing c (number_if b i (port_numbers test (suc i) ps))) q ≡ Some t → IsPortAt i (p ∷ ps) q t
      by_test more true way zero g = record {
        number = 0;
        port = p;
        there = refl;
        way = way;
        type = sym (same_Some (typing.types (variable.Port c i)) t g) ∙ ap (λ n. typing.types (variable.Port c n)) (let z : i ≡ i + 0 = omega arith in z);
        name = ap (λ b. slice_get (map port_name (if b then port_view p ∷ filter (is_along d) (map port_view ps) else filter (is_along d) (map port_view ps))) 0) way;
      }
      by_test more true way (suc q) g = let w = more q g in record {
        number = suc w.number;
        port = w.port;
        there = w.there;
        way = w.way;
        type = w.type ∙ further w.number;
        name = ap (λ b. slice_get (map port_name (if b then port_view p ∷ filter (is_along d) (map port_view ps) else filter (is_along d) (map port_view ps))) (suc q)) way ∙ w.name;
      }
      by_test more false way q g = let w = more q g in record {
        number = suc w.number;
        port = w.port;
        there = w.there;
        way = w.way;
        type = w.type ∙ further w.number;
        name = ap (λ b. slice_get (map port_name (if b then port_view p ∷ filter (is_along d) (map port_view ps) else filter (is_along d) (map port_view ps))) q) way ∙ w.name;
      }

  -- ---- a port by its name

  -- the port of this place and name: its number among all ports, by which they are known under their names, and its type
  pub record IsPortNamed (ps : List PortTree) (name : List ℕ) (place : ℕ) : Type 0 where
    pub number : ℕ
    pub port : PortTree
    pub there : slice_get ps number ≡ Some port
    pub named : port.name ≡ name
    pub way : is_along d port ≡ true
    pub known : with_ports no_ports 0 ps name ≡ Some number
    pub type : slice_get (types_in (entries typing c d 0 ps)) place ≡ Some (typing.types (variable.Port c number))

  pub port-named : (ps : List PortTree) → AreApart ps → (name : List ℕ) (place : ℕ) → number_of (names_along d ps) name ≡ Some place → IsPortNamed ps name place
  port-named ps apart name place number = by_entry (along-of typing c d 0 0 ps name place (are-own ps apart) (numbered (names_along d ps) name place number))
    where
      by_entry : IsAlong typing c d 0 0 ps name place → IsPortNamed ps name place
      by_entry o =
          let same : o.place ≡ place = omega (arith, o.number) in
          let offset : o.offset ≡ o.port = omega (arith, o.counted) in
          record {
            number = o.port;
            port = o.its;
            there = ap (slice_get ps) (sym offset) ∙ o.there;
            named = o.named;
            way = o.way;
            known = ports-are ps name ∙ o.at;
            type = ap (λ j. slice_get (types_in (entries typing c d 0 ps)) j) (sym same) ∙ types-at (entries typing c d 0 ps) o.place (name, typing.types (variable.Port c o.port)) o.type;
          }
