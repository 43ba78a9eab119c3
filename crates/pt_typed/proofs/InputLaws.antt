-- The tokens that a job supplies to the inputs of the top are of the types of these.
use Rattle.std.proofs.Common.{◌≡◌, ℕ, zero, suc, ◌+◌, ◌<◌, List, [], ◌∷◌, ◌++◌, length, map, Bool, true, false, Option, Some, None, refl, sym, ap, subst, ◌∙◌, slice_get, get_or, arith, if◌then◌else◌}
use Rattle.std.specs.Prelude.{option_map, bytes_eq, position, filter, Vec}
use Rattle.std.specs.Global.{Global}
use Rattle.std.specs.List.{AllByRecursion, AllZip}
use Rattle.std.proofs.lemmas.List.Quantifiers.{position-Some}
use Rattle.std.proofs.lemmas.Slice.Eq.{bytes_eq-Decides}
use Rattle.std.proofs.lemmas.Option.{same_Some}
use Rattle.pt_value.specs.Value.{Value}
use Rattle.pt_value.specs.Token.{value_of}
use Rattle.pt_value.specs.declared.token.Token.{Token}
use Rattle.pt_datatypes.specs.Datatype.{Datatype, Unknown}
use Rattle.pt_datatypes.specs.Order.{IsBelow}
use Rattle.pt_datatypes.specs.Join.{join}
use Rattle.pt_datatypes.specs.Token.{type_of_value}
use Rattle.pt_datatypes.proofs.Order.{below-trans, below-refl}
use Rattle.pt_language.proofs.JoinLaws.{join-first, join-second}
use Rattle.pt_document.specs.declared.job.Direction.{Direction}
use Rattle.pt_document.specs.declared.job.Direction.TheVariants.{Input, Output}
use Rattle.pt_document.specs.declared.job.Port.{Port}
use Rattle.pt_document.specs.Document.{PortTree, InputTree}
use Rattle.pt_document.specs.View.{port_view}
use Rattle.pt_net.specs.declared.net.Net.{Net}
use Rattle.pt_net.specs.declared.net.NetEntity.{NetEntity}
use Rattle.pt_net.specs.Net.{NetEntityTree, entity_view}
use Rattle.pt_net.specs.Inside.{is_inward, is_input}
use Rattle.pt_scopes.specs.declared.values.Values.{Values}
use Rattle.pt_scopes.specs.Scopes.{net_view}
use Rattle.pt_scopes.specs.Sites.{is_input_port, port_name, inputs_of}
use Rattle.pt_scopes.specs.Valued.{inputs_view}
use Rattle.pt_scopes.specs.Valued as valued
use Rattle.pt_typing.specs.declared.variable.Variable.TheVariants as variable
use Rattle.pt_typing.specs.Least.{Assignment, IsMet}
use Rattle.pt_inequalities.specs.Frames.{frames_of}
use Rattle.pt_inequalities.specs.Inequalities.{of_channel, of_entities, of_inputs, of_supply, joined_with, PortNumbers, no_ports, with_port, with_input, with_inputs, top_inputs}
use Rattle.pt_inequalities.specs.Typing.{IsTyping}
use Rattle.pt_job.specs.Inputs.{inputs_at, own_inputs, named_ports, input_to, AreTokensOf, ComeTo}
use Rattle.pt_kinds.specs.Signature.{AreAllOf}
use Rattle.pt_typed.specs.TokenTypes.{IsTokenOf}
use Rattle.pt_typed.specs.NetTypes.{place_type, arrivals, number_if, port_numbers, port_types, by_class, types_of}
use Rattle.pt_typed.specs.InputLaw.{present, InputsAreTyped}
use Rattle.pt_typed.proofs.PortFacts.{all-met, all-front, all-back}
use Rattle.pt_typed.proofs.RowsMet.{viewed}

-- ---- lists

unviewed : {X Y : Type 0} (f : X → Y) (xs : List X) (n : ℕ) (y : Y) → slice_get (map f xs) n ≡ Some y → (x : X) × (slice_get xs n ≡ Some x) × (f x ≡ y)
unviewed f [] n y e = absurd (cc)
unviewed f (x ∷ xs) zero y e = (x, refl, same_Some (f x) y e)
unviewed f (x ∷ xs) (suc n) y e = unviewed f xs n y e

got : {X : Type 0} (xs : List X) (i : ℕ) (d : X) → i < length xs → slice_get xs i ≡ Some (get_or xs i d)
got [] i d l = absurd (omega (arith, l))
got (x ∷ xs) zero d l = refl
got (x ∷ xs) (suc i) d l = got xs i d (omega (arith, l))

-- the position of what passes
position-at : {X : Type 0} (test : X → Bool) (xs : List X) (m : ℕ) (d : X) → position test xs ≡ Some m → (x : X) × (slice_get xs m ≡ Some x) × (test x ≡ true)
position-at test xs m d e = let w = position-Some test xs m d e in (get_or xs m d, got xs m d w.0, w.1)

-- ---- the number of a port by its name

differ-names : (m n : List ℕ) → (m ≡ n → ⊥) → bytes_eq m n ≡ false
differ-names m n h = by_test (bytes_eq m n) refl
  where
    by_test : (b : Bool) → bytes_eq m n ≡ b → b ≡ false
    by_test true t = absurd (h ((bytes_eq-Decides m n).0 t))
    by_test false t = refl

unnamed : (old : PortNumbers) (i : ℕ) (ps : List PortTree) (name : List ℕ) → ((m : ℕ) (q : PortTree) → slice_get ps m ≡ Some q → q.name ≡ name → ⊥) → with_inputs old i ps name ≡ old name
unnamed old i [] name h = refl
unnamed old i (p ∷ ps) name h = unnamed (with_input i p old) (suc i) ps name (λ m q e. h (suc m) q e) ∙ other (is_input_port p)
  where
    other : (b : Bool) → (if b then with_port p.name i old else old) name ≡ old name
    other true = ap (λ b. if b then Some i else old name) (differ-names p.name name (h 0 p refl))
    other false = refl

numbered : (old : PortNumbers) (i : ℕ) (ps : List PortTree) (n : ℕ) (p : PortTree) → slice_get ps n ≡ Some p → is_input_port p ≡ true → ((m : ℕ) (q : PortTree) → n < m → slice_get ps m ≡ Some q → q.name ≡ p.name → ⊥) → with_inputs old i ps p.name ≡ Some (i + n)
numbered old i [] n p e t h = absurd (cc)
numbered old i (q ∷ ps) zero p e t h =
    let same : q ≡ p = same_Some q p e in
    unnamed (with_input i q old) (suc i) ps p.name (λ m r g. h (suc m) r (omega arith) g) ∙ this same (is_input_port q) (ap is_input_port same ∙ t)
  where
    this : q ≡ p → (b : Bool) → b ≡ true → (if b then with_port q.name i old else old) p.name ≡ Some (i + 0)
    this same true g =
        ap (λ b. if b then Some i else old p.name) ((bytes_eq-Decides q.name p.name).1 (ap (λ (r : PortTree). r.name) same))
        ∙ ap (λ m. Some m) (let z : i ≡ i + 0 = omega arith in z)
    this same false g = absurd (cc)
numbered old i (q ∷ ps) (suc n) p e t h =
    numbered (with_input i q old) (suc i) ps n p e t (λ m r l g. h (suc m) r (omega (arith, l)) g) ∙ ap (λ m. Some m) (let z : suc i + n ≡ i + suc n = omega arith in z)

-- ---- what comes to a port

joined-grows : (t : Datatype) (ts : List (Option Token)) → IsBelow t (joined_with t (map (option_map value_of) ts))
joined-grows t [] = below-refl t
joined-grows t (None ∷ ts) = joined-grows t ts
joined-grows t (Some x ∷ ts) = below-trans t (join t (type_of_value (value_of x))) (joined_with (join t (type_of_value (value_of x))) (map (option_map value_of) ts)) (join-first t (type_of_value (value_of x))) (joined-grows (join t (type_of_value (value_of x))) ts)

joined-all : (t u : Datatype) (ts : List (Option Token)) → IsBelow (joined_with t (map (option_map value_of) ts)) u → AllByRecursion (IsTokenOf u) (present ts)
joined-all t u [] h = tt
joined-all t u (None ∷ ts) h = joined-all t u ts h
joined-all t u (Some x ∷ ts) h =
    let next = join t (type_of_value (value_of x)) in
    let whole = joined_with next (map (option_map value_of) ts) in
    (below-trans (type_of_value (value_of x)) whole u (below-trans (type_of_value (value_of x)) next whole (join-second t (type_of_value (value_of x))) (joined-grows next ts)) h, joined-all next u ts h)

input-met : (typing : Assignment) (ports : PortNumbers) (is : List InputTree) (vss : List (List (Option Value))) (j : ℕ) (i : InputTree) (vs : List (Option Value)) → AllByRecursion (IsMet typing) (of_inputs ports is vss) → slice_get is j ≡ Some i → slice_get vss j ≡ Some vs → AllByRecursion (IsMet typing) (of_supply (ports i.port) (Some vs))
input-met typing ports [] vss j i vs a e g = absurd (cc)
input-met typing ports (x ∷ is) [] j i vs a e g = absurd (cc)
input-met typing ports (x ∷ is) (w ∷ vss) zero i vs a e g =
    subst (λ y. AllByRecursion (IsMet typing) (of_supply (ports y.port) (Some vs))) (same_Some x i e) (subst (λ y. AllByRecursion (IsMet typing) (of_supply (ports x.port) (Some y))) (same_Some w vs g) (all-front (IsMet typing) (of_supply (ports x.port) (Some w)) (of_inputs ports is vss) a))
input-met typing ports (x ∷ is) (w ∷ vss) (suc j) i vs a e g = input-met typing ports is vss j i vs (all-back (IsMet typing) (of_supply (ports x.port) (Some w)) (of_inputs ports is vss) a) e g

supply-met : (typing : Assignment) (o : Option ℕ) (n : ℕ) (ts : List (Option Token)) → o ≡ Some n → AllByRecursion (IsMet typing) (of_supply o (Some (map (option_map value_of) ts))) → AllByRecursion (IsTokenOf (typing.types (variable.Port 0 n))) (present ts)
supply-met typing None n ts e a = absurd (cc)
supply-met typing (Some m) n ts e a = subst (λ i. AllByRecursion (IsTokenOf (typing.types (variable.Port 0 i))) (present ts)) (same_Some m n e) (joined-all Unknown (typing.types (variable.Port 0 m)) ts a.0)

module _ (net : Net) (values : Values) (typing : Assignment) (typed : IsTyping net values typing) where
  inputs-of-top : PortNumbers
  inputs-of-top = top_inputs (map entity_view net.entities.items)

  inputs-met : AllByRecursion (IsMet typing) (of_inputs (top_inputs (map entity_view net.entities.items)) (net_view net).inputs (inputs_view values))
  inputs-met =
      let es = map entity_view net.entities.items in
      let entities = of_entities (frames_of net values) 0 es (map valued.entity_view values.entities.items) in
      let rest = of_inputs (top_inputs es) (net_view net).inputs (inputs_view values) in
      all-back (IsMet typing) entities rest (all-back (IsMet typing) (map of_channel net.channels.items) (entities ++ rest) (all-met net values typing typed))

  come-typed : (name : List ℕ) (n : ℕ) (ts : List (Option Token)) → top_inputs (map entity_view net.entities.items) name ≡ Some n → (o : Option ℕ) → input_to (net_view net) name ≡ o → AreTokensOf values o ts → AllByRecursion (IsTokenOf (typing.types (variable.Port 0 n))) (present ts)
  come-typed name n ts at None e h = subst (λ xs. AllByRecursion (IsTokenOf (typing.types (variable.Port 0 n))) (present xs)) (sym h) tt
  come-typed name n ts at (Some m) e h =
      let w = position-at (bytes_eq name) (named_ports (net_view net)) m [] e in
      let input = unviewed (λ (i : InputTree). i.port) (net_view net).inputs m w.0 w.1 in
      let list = unviewed (λ (ts : Vec (Option Token) Global). ts.items) values.inputs.items m ts h in
      let supplied : slice_get (inputs_view values) m ≡ Some (map (option_map value_of) ts) = viewed (λ (ts : Vec (Option Token) Global). map (option_map value_of) ts.items) values.inputs.items m list.0 list.1 ∙ ap (λ xs. Some (map (option_map value_of) xs)) list.2 in
      let same : name ≡ input.0.port = (bytes_eq-Decides name w.0).0 w.2 ∙ sym input.2 in
      supply-met typing (top_inputs (map entity_view net.entities.items) input.0.port) n ts (ap (top_inputs (map entity_view net.entities.items)) (sym same) ∙ at)
      (input-met typing (top_inputs (map entity_view net.entities.items)) (net_view net).inputs (inputs_view values) m input.0 (map (option_map value_of) ts) inputs-met input.1 supplied)

  -- ---- port by port

  test-is : (p : PortTree) (d : Direction) → is_input_port (record p { direction = d }) ≡ is_inward d
  test-is p Input = refl
  test-is p Output = refl

  ports-typed : (i : ℕ) (ps : List Port) (lists : List (List (Option Token))) → ((n : ℕ) (p : Port) → slice_get ps n ≡ Some p → is_input p ≡ true → top_inputs (map entity_view net.entities.items) p.name ≡ Some (i + n)) → AllZip (ComeTo (net_view net) values) (map port_name (filter is_input_port (map port_view ps))) lists →
      AreAllOf IsTokenOf (port_types typing 0 (port_numbers is_input i ps)) (map present lists)
  ports-typed i [] [] h z = (refl, tt)
  ports-typed i [] (ts ∷ lists) h z = absurd z
  ports-typed i (p ∷ ps) lists h z = by_test (is_input p) refl (test-is (port_view p) p.direction) lists z (λ ls y. ports-typed (suc i) ps ls (λ n q e g. h (suc n) q e g ∙ ap (λ m. Some m) (let w : i + suc n ≡ suc i + n = omega arith in w)) y)
    where
      by_test : (b : Bool) → is_input p ≡ b → is_input_port (port_view p) ≡ b → (ls : List (List (Option Token))) → AllZip (ComeTo (net_view net) values) (map port_name (filter is_input_port (map port_view (p ∷ ps)))) ls →
          ((ks : List (List (Option Token))) → AllZip (ComeTo (net_view net) values) (map port_name (filter is_input_port (map port_view ps))) ks → AreAllOf IsTokenOf (port_types typing 0 (port_numbers is_input (suc i) ps)) (map present ks)) →
          AreAllOf IsTokenOf (port_types typing 0 (number_if b i (port_numbers is_input (suc i) ps))) (map present ls)
      by_test b input t ls y more = by_list b input ls (subst (λ c. AllZip (ComeTo (net_view net) values) (map port_name (if c then port_view p ∷ filter is_input_port (map port_view ps) else filter is_input_port (map port_view ps))) ls) t y) more
        where
          by_list : (b : Bool) → is_input p ≡ b → (ls : List (List (Option Token))) → AllZip (ComeTo (net_view net) values) (map port_name (if b then port_view p ∷ filter is_input_port (map port_view ps) else filter is_input_port (map port_view ps))) ls →
              ((ks : List (List (Option Token))) → AllZip (ComeTo (net_view net) values) (map port_name (filter is_input_port (map port_view ps))) ks → AreAllOf IsTokenOf (port_types typing 0 (port_numbers is_input (suc i) ps)) (map present ks)) →
              AreAllOf IsTokenOf (port_types typing 0 (number_if b i (port_numbers is_input (suc i) ps))) (map present ls)
          by_list false input ls y more = more ls y
          by_list true input [] y more = absurd y
          by_list true input (ts ∷ ls) y more =
              let w = more ls y.1 in
              let at = h 0 p refl input ∙ ap (λ m. Some m) (let z : i + 0 ≡ i = omega arith in z) in
              (ap (λ n. suc n) w.0, (come-typed p.name i ts at (input_to (net_view net) p.name) refl y.0, w.1))

pub inputs-typed : InputsAreTyped
inputs-typed net values typing e lists at class own typed supplied =
    let es = map entity_view net.entities.items in
    let top : slice_get es 0 ≡ Some (entity_view e) = viewed entity_view net.entities.items 0 e at in
    let names : own_inputs (net_view net) ≡ inputs_of (entity_view e) = ap inputs_at top in
    let ports-is : top_inputs es ≡ with_inputs no_ports 0 (entity_view e).ports = top-ports es (entity_view e) top in
    let all = ports-typed net values typing typed 0 e.ports.items lists (λ n p g input.
    ap (λ (f : PortNumbers). f p.name) ports-is
    ∙ numbered no_ports 0 (entity_view e).ports n (port_view p) (viewed port_view e.ports.items n p g) (test-is net values typing typed (port_view p) p.direction ∙ input) (λ m q l there same. absurd (omega (arith, l, own m n q (port_view p) there (viewed port_view e.ports.items n p g) same))))
    (subst (λ ns. AllZip (ComeTo (net_view net) values) ns lists) names supplied) in
    subst (λ ts. AreAllOf IsTokenOf ts (map present lists)) (sym (ap (λ (o : Option NetEntity). (types_of net typing 0 o).places) at ∙ ap (λ b. by_class b (port_types typing 0 (port_numbers is_input 0 e.ports.items)) (map (place_type typing) (arrivals net.channels.items 0))) class)) all
  where
    top-ports : (es : List NetEntityTree) (t : NetEntityTree) → slice_get es 0 ≡ Some t → top_inputs es ≡ with_inputs no_ports 0 t.ports
    top-ports [] t e = absurd (cc)
    top-ports (x ∷ es) t e = ap (λ (y : NetEntityTree). with_inputs no_ports 0 y.ports) (same_Some x t e)
