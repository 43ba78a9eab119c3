-- The ports of a Modal entity, and of its refinements, under their names: their numbers, and their types.
use Rattle.std.proofs.Common.{◌≡◌, ℕ, zero, suc, ◌+◌, List, [], ◌∷◌, length, map, filter, Bool, true, false, not, Option, Some, None, refl, sym, ap, ap₂, ◌∙◌, arith, if◌then◌else◌, slice_get}
use Rattle.std.specs.Prelude.{bytes_eq}
use Rattle.std.specs.List.{cons_option, filter_map, enumerate_from}
use Rattle.std.proofs.lemmas.Option.{none-some, same_Some}
use Rattle.std.proofs.lemmas.Slice.Eq.{bytes_eq-Decides}
use Rattle.pt_datatypes.specs.Datatype.{Datatype}
use Rattle.pt_language.specs.Types.{or_else}
use Rattle.pt_document.specs.declared.job.Direction.{Direction}
use Rattle.pt_document.specs.declared.job.Direction.TheVariants.{Input, Output}
use Rattle.pt_document.specs.Document.{PortTree}
use Rattle.pt_net.specs.Inside.{is_inward}
use Rattle.pt_typing.specs.declared.variable.Variable.TheVariants.{Port}
use Rattle.pt_typing.specs.Least.{Assignment}
use Rattle.pt_typing.specs.Terms.{named, itself}
use Rattle.pt_inequalities.specs.Inequalities.{PortNumbers, no_ports, with_port, with_ports}
use Rattle.pt_machine.specs.Names.{is_along, port_name, names_along}
use Rattle.pt_machine.specs.Typed.{typed_if}
use Rattle.pt_modal_types.specs.Laws.{AreApart}
use Rattle.pt_modal_types.proofs.LastLaws.{or-none, or-nothing, last_number}

-- ---- numbers of ports

-- the number of the last port of a name among these, the first of which has this number
abbrev pub number_from : (k : ℕ) → List PortTree → List ℕ → Option ℕ
number_from k [] name = None
number_from k (p ∷ ps) name = or_else (number_from (suc k) ps name) (if bytes_eq p.name name then Some k else None)

ports-last : (k : ℕ) (ps : List PortTree) (f : PortNumbers) (name : List ℕ) → with_ports f k ps name ≡ or_else (number_from k ps name) (f name)
ports-last k [] f name = refl
ports-last k (p ∷ ps) f name = ports-last (suc k) ps (with_port p.name k f) name ∙ by_test (number_from (suc k) ps name) (bytes_eq p.name name)
  where
    by_test : (o : Option ℕ) (b : Bool) → or_else o (if b then Some k else f name) ≡ or_else (or_else o (if b then Some k else None)) (f name)
    by_test (Some i) b = refl
    by_test None true = refl
    by_test None false = refl

pub ports-are : (ps : List PortTree) (name : List ℕ) → with_ports no_ports 0 ps name ≡ number_from 0 ps name
ports-are ps name = ports-last 0 ps no_ports name ∙ or-nothing (number_from 0 ps name)

-- ---- ports with names of their own

-- no later port has the name of one
abbrev pub AreOwn : List PortTree → Type 0
AreOwn [] = Unit {0}
AreOwn (p ∷ ps) = ((k i : ℕ) → number_from k ps p.name ≡ Some i → ⊥) × AreOwn ps

pub number-found : (k : ℕ) (ps : List PortTree) (name : List ℕ) (i : ℕ) → number_from k ps name ≡ Some i → (j : ℕ) × (q : PortTree) × (slice_get ps j ≡ Some q) × (q.name ≡ name)
number-found k [] name i e = absurd (none-some i e)
number-found k (p ∷ ps) name i e = by_rest (λ w g. number-found (suc k) ps name w g) (number_from (suc k) ps name) refl (bytes_eq p.name name) refl e
  where
    by_rest : ((w : ℕ) → number_from (suc k) ps name ≡ Some w → (j : ℕ) × (q : PortTree) × (slice_get ps j ≡ Some q) × (q.name ≡ name)) → (o : Option ℕ) → number_from (suc k) ps name ≡ o → (b : Bool) → bytes_eq p.name name ≡ b → or_else o (if b then Some k else None) ≡ Some i → (j : ℕ) × (q : PortTree) × (slice_get (p ∷ ps) j ≡ Some q) × (q.name ≡ name)
    by_rest more (Some w) is b d g = let r = more w is in (suc r.0, r.1, r.2, r.3)
    by_rest more None is true d g = (0, p, refl, (bytes_eq-Decides p.name name).0 d)
    by_rest more None is false d g = absurd (none-some i g)

same-less : (i j : ℕ) → suc i ≡ suc j → i ≡ j
same-less i j e = omega (arith, e)

pub are-own : (ps : List PortTree) → AreApart ps → AreOwn ps
are-own [] apart = tt
are-own (p ∷ ps) apart = (
  λ k i e. (
      let w = number-found k ps p.name i e in
      let z : 0 ≡ suc w.0 = apart 0 (suc w.0) p w.1 refl w.2 (sym w.3) in
      cc),
  are-own ps (λ i j p' q a b n. same-less i j (apart (suc i) (suc j) p' q a b n)),
)

-- ---- types of ports

-- where the port has the direction and the name, its type
abbrev pub head_if : (along named : Bool) → Datatype → Option Datatype
head_if true true t = Some t
head_if true false t = None
head_if false named t = None

module _ (typing : Assignment) (m : ℕ) where
  -- the ports of a direction with their types, the first of all having this number
  abbrev pub entries : Direction → (k : ℕ) → List PortTree → List (List ℕ × Datatype)
  entries d k [] = []
  entries d k (p ∷ ps) = cons_option (typed_if d typing m (k, p)) (entries d (suc k) ps)

  pub entries-are : (d : Direction) (k : ℕ) (ps : List PortTree) → filter_map (typed_if d typing m) (enumerate_from k ps) ≡ entries d k ps
  entries-are d k [] = refl
  entries-are d k (p ∷ ps) =
      let next : k + 1 ≡ suc k = omega arith in
      ap (λ (n : ℕ). cons_option (typed_if d typing m (k, p)) (filter_map (typed_if d typing m) (enumerate_from n ps))) next ∙ ap (λ (es : List (List ℕ × Datatype)). cons_option (typed_if d typing m (k, p)) es) (entries-are d (suc k) ps)

  abbrev pub along : Direction → (k : ℕ) → List PortTree → List ℕ → Option Datatype
  along d k ps name = named itself (entries d k ps) name

  along-one : (b : Bool) (rest : List (List ℕ × Datatype)) (n : List ℕ) (t : Datatype) (name : List ℕ) → named itself (cons_option (if b then Some (n, t) else None) rest) name ≡ or_else (named itself rest name) (head_if b (bytes_eq n name) t)
  along-one false rest n t name = sym (or-nothing (named itself rest name))
  along-one true rest n t name = by_name (bytes_eq n name)
    where
      by_name : (c : Bool) → or_else (named itself rest name) (if c then Some t else None) ≡ or_else (named itself rest name) (head_if true c t)
      by_name true = refl
      by_name false = refl

  along-more : (d : Direction) (k : ℕ) (p : PortTree) (ps : List PortTree) (name : List ℕ) → along d k (p ∷ ps) name ≡ or_else (along d (suc k) ps name) (head_if (is_along d p) (bytes_eq p.name name) (typing.types (Port m k)))
  along-more d k p ps name = along-one (is_along d p) (entries d (suc k) ps) p.name (typing.types (Port m k)) name

  unnamed : (b : Bool) (t : Datatype) → head_if b false t ≡ None
  unnamed true t = refl
  unnamed false t = refl

  -- a name of no port has no type
  pub along-none : (d : Direction) (k : ℕ) (ps : List PortTree) (name : List ℕ) → number_from k ps name ≡ None → along d k ps name ≡ None
  along-none d k [] name e = refl
  along-none d k (p ∷ ps) name e =
      let parts = or-none (number_from (suc k) ps name) (if bytes_eq p.name name then Some k else None) e in
      along-more d k p ps name ∙ ap (λ o. or_else o (head_if (is_along d p) (bytes_eq p.name name) (typing.types (Port m k)))) (along-none d (suc k) ps name parts.0) ∙ by_test (bytes_eq p.name name) parts.1
    where
      by_test : (c : Bool) → (if c then Some k else None) ≡ None → head_if (is_along d p) c (typing.types (Port m k)) ≡ None
      by_test true g = absurd (none-some k (sym g))
      by_test false g = unnamed (is_along d p) (typing.types (Port m k))

  -- the port of a number has its type under its name, be it an input or an output
  pub ports-typed : (k : ℕ) (ps : List PortTree) (name : List ℕ) (i : ℕ) → AreOwn ps → number_from k ps name ≡ Some i → or_else (along Input k ps name) (along Output k ps name) ≡ Some (typing.types (Port m i))
  ports-typed k [] name i own e = absurd (none-some i e)
  ports-typed k (p ∷ ps) name i own e = by_rest (λ g. ports-typed (suc k) ps name i own.1 g) (number_from (suc k) ps name) refl (bytes_eq p.name name) refl e
    where
      heads : or_else (along Input k (p ∷ ps) name) (along Output k (p ∷ ps) name) ≡ or_else (or_else (along Input (suc k) ps name) (head_if (is_along Input p) (bytes_eq p.name name) (typing.types (Port m k)))) (or_else (along Output (suc k) ps name) (head_if (is_along Output p) (bytes_eq p.name name) (typing.types (Port m k))))
      heads = ap₂ (λ (a b : Option Datatype). or_else a b) (along-more Input k p ps name) (along-more Output k p ps name)

      pass : (a b : Option Datatype) → or_else (or_else a (head_if (is_along Input p) false (typing.types (Port m k)))) (or_else b (head_if (is_along Output p) false (typing.types (Port m k)))) ≡ or_else a b
      pass a b =
          ap₂ (λ (x y : Option Datatype). or_else (or_else a x) (or_else b y)) (unnamed (is_along Input p) (typing.types (Port m k))) (unnamed (is_along Output p) (typing.types (Port m k)))
          ∙ ap₂ (λ (x y : Option Datatype). or_else x y) (or-nothing a) (or-nothing b)

      here : (b : Bool) → or_else (or_else None (head_if b true (typing.types (Port m k)))) (or_else None (head_if (not b) true (typing.types (Port m k)))) ≡ Some (typing.types (Port m k))
      here true = refl
      here false = refl

      by_rest : (number_from (suc k) ps name ≡ Some i → or_else (along Input (suc k) ps name) (along Output (suc k) ps name) ≡ Some (typing.types (Port m i))) → (o : Option ℕ) → number_from (suc k) ps name ≡ o → (c : Bool) → bytes_eq p.name name ≡ c → or_else o (if c then Some k else None) ≡ Some i →
          or_else (along Input k (p ∷ ps) name) (along Output k (p ∷ ps) name) ≡ Some (typing.types (Port m i))
      by_rest more (Some j) is true d g = absurd (own.0 (suc k) j (ap (λ n. number_from (suc k) ps n) ((bytes_eq-Decides p.name name).0 d) ∙ is))
      by_rest more (Some j) is false d g =
          heads
          ∙ ap (λ c. or_else (or_else (along Input (suc k) ps name) (head_if (is_along Input p) c (typing.types (Port m k)))) (or_else (along Output (suc k) ps name) (head_if (is_along Output p) c (typing.types (Port m k))))) d
          ∙ pass (along Input (suc k) ps name) (along Output (suc k) ps name) ∙ more (is ∙ g)
      by_rest more None is true d g =
          heads
          ∙ ap (λ c. or_else (or_else (along Input (suc k) ps name) (head_if (is_along Input p) c (typing.types (Port m k)))) (or_else (along Output (suc k) ps name) (head_if (is_along Output p) c (typing.types (Port m k))))) d
          ∙ ap₂ (λ (a b : Option Datatype). or_else (or_else a (head_if (is_along Input p) true (typing.types (Port m k)))) (or_else b (head_if (is_along Output p) true (typing.types (Port m k))))) (along-none Input (suc k) ps name is) (along-none Output (suc k) ps name is)
          ∙ here (is_inward p.direction) ∙ ap (λ n. Some (typing.types (Port m n))) (same_Some k i g)
      by_rest more None is false d g = absurd (none-some i g)

  -- ---- ports of a direction by their numbers

  -- the port of a direction and a number: its number among all ports, and its type
  pub record IsAlong (d : Direction) (k j : ℕ) (ps : List PortTree) (name : List ℕ) (target : ℕ) : Type 0 where
    pub port : ℕ
    pub offset : ℕ
    pub place : ℕ
    pub number : target ≡ j + place
    pub counted : port ≡ k + offset
    pub at : number_from k ps name ≡ Some port
    pub its : PortTree
    pub there : slice_get ps offset ≡ Some its
    pub named : its.name ≡ name
    pub way : is_along d its ≡ true
    pub type : slice_get (entries d k ps) place ≡ Some (name, typing.types (Port m port))

  -- a name that none behind has
  alone : (k : ℕ) (p : PortTree) (ps : List PortTree) (name : List ℕ) → ((n i : ℕ) → number_from n ps p.name ≡ Some i → ⊥) → p.name ≡ name → (o : Option ℕ) → number_from (suc k) ps name ≡ o → or_else (number_from (suc k) ps name) (if bytes_eq p.name name then Some k else None) ≡ (if bytes_eq p.name name then Some k else None)
  alone k p ps name own named None none = ap (λ v. or_else v (if bytes_eq p.name name then Some k else None)) none
  alone k p ps name own named (Some i) some = absurd (own (suc k) i (ap (λ n. number_from (suc k) ps n) named ∙ some))

  pub along-of : (d : Direction) (k j : ℕ) (ps : List PortTree) (name : List ℕ) (target : ℕ) → AreOwn ps → last_number j (names_along d ps) name ≡ Some target → IsAlong d k j ps name target
  along-of d k j [] name target own e = absurd (none-some target e)
  along-of d k j (p ∷ ps) name target own e = by_way (λ g. along-of d (suc k) (suc j) ps name target own.1 g) (λ g. along-of d (suc k) j ps name target own.1 g) (is_along d p) refl e
    where
      -- one more that isn't of the direction
      past : is_along d p ≡ false → IsAlong d (suc k) j ps name target → IsAlong d k j (p ∷ ps) name target
      past way w = record {
        port = w.port;
        offset = suc w.offset;
        place = w.place;
        number = w.number;
        counted = omega (arith, w.counted);
        at = ap (λ o. or_else o (if bytes_eq p.name name then Some k else None)) w.at;
        its = w.its;
        there = w.there;
        named = w.named;
        way = w.way;
        type = ap (λ b. slice_get (cons_option (if b then Some (p.name, typing.types (Port m k)) else None) (entries d (suc k) ps)) w.place) way ∙ w.type;
      }

      by_rest : (last_number (suc j) (names_along d ps) name ≡ Some target → IsAlong d (suc k) (suc j) ps name target) → is_along d p ≡ true → (o : Option ℕ) → last_number (suc j) (names_along d ps) name ≡ o → (c : Bool) → bytes_eq p.name name ≡ c → or_else o (if c then Some j else None) ≡ Some target →
          IsAlong d k j (p ∷ ps) name target
      by_rest more way (Some i) is c same g =
          let w = more (is ∙ g) in
          record {
            port = w.port;
            offset = suc w.offset;
            place = suc w.place;
            number = omega (arith, w.number);
            counted = omega (arith, w.counted);
            at = ap (λ o. or_else o (if bytes_eq p.name name then Some k else None)) w.at;
            its = w.its;
            there = w.there;
            named = w.named;
            way = w.way;
            type = ap (λ b. slice_get (cons_option (if b then Some (p.name, typing.types (Port m k)) else None) (entries d (suc k) ps)) (suc w.place)) way ∙ w.type;
          }
      by_rest more way None is true same g =
          let named = (bytes_eq-Decides p.name name).0 same in
          let first = same_Some j target g in
          record {
            port = k;
            offset = 0;
            place = 0;
            number = omega (arith, first);
            counted = omega (arith);
            at = alone k p ps name own.0 named (number_from (suc k) ps name) refl ∙ ap (λ c. if c then Some k else None) same;
            its = p;
            there = refl;
            named = named;
            way = way;
            type = ap (λ b. slice_get (cons_option (if b then Some (p.name, typing.types (Port m k)) else None) (entries d (suc k) ps)) 0) way ∙ ap (λ (n : List ℕ). Option.Some (n, typing.types (Port m k))) named;
          }
      by_rest more way None is false same g = absurd (none-some target g)

      by_way : (last_number (suc j) (names_along d ps) name ≡ Some target → IsAlong d (suc k) (suc j) ps name target) → (last_number j (names_along d ps) name ≡ Some target → IsAlong d (suc k) j ps name target) → (b : Bool) → is_along d p ≡ b →
          last_number j (map port_name (if b then p ∷ filter (is_along d) ps else filter (is_along d) ps)) name ≡ Some target → IsAlong d k j (p ∷ ps) name target
      by_way more other true way g = by_rest more way (last_number (suc j) (names_along d ps) name) refl (bytes_eq p.name name) refl g
      by_way more other false way g = past way (other g)

-- a port is the one of its name
pub own-number : (k : ℕ) (ps : List PortTree) (n : ℕ) (p : PortTree) → AreOwn ps → slice_get ps n ≡ Some p → number_from k ps p.name ≡ Some (k + n)
own-number k [] n p own e = absurd (none-some p e)
own-number k (q ∷ ps) zero p own e = by_rest (number_from (suc k) ps p.name) refl
  where
    same : q ≡ p
    same = same_Some q p e

    by_rest : (o : Option ℕ) → number_from (suc k) ps p.name ≡ o → or_else (number_from (suc k) ps p.name) (if bytes_eq q.name p.name then Some k else None) ≡ Some (k + 0)
    by_rest None none =
        let own_name : bytes_eq q.name p.name ≡ true = (bytes_eq-Decides q.name p.name).1 (ap (λ (r : PortTree). r.name) same) in
        ap (λ o. or_else o (if bytes_eq q.name p.name then Some k else None)) none ∙ ap (λ b. if b then Some k else None) own_name ∙ ap (λ i. Some i) (let z : k ≡ k + 0 = omega arith in z)
    by_rest (Some i) some = absurd (own.0 (suc k) i (ap (λ (r : PortTree). number_from (suc k) ps r.name) same ∙ some))
own-number k (q ∷ ps) (suc n) p own e = ap (λ o. or_else o (if bytes_eq q.name p.name then Some k else None)) (own-number (suc k) ps n p own.1 e ∙ ap (λ i. Some i) (let z : suc k + n ≡ k + suc n = omega arith in z))
