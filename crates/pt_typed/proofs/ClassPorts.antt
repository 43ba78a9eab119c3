-- The ports of a class as its row lists them, and the places of its actors.
use Rattle.std.proofs.Common.{◌≡◌, ℕ, zero, suc, ◌+◌, List, [], ◌∷◌, ◌++◌, map, replicate, Option, Some, None, refl, sym, ap, subst, ◌∙◌, slice_get, arith}
use Rattle.std.specs.List.{AllByRecursion}
use Rattle.pt_meaning.specs.Streams.{get}
use Rattle.pt_document.specs.declared.job.Direction.{Direction}
use Rattle.pt_document.specs.declared.job.Direction.TheVariants.{Input, Output}
use Rattle.pt_document.specs.declared.classes.Arity.{Arity}
use Rattle.pt_document.specs.declared.classes.Arity.TheVariants as arity
use Rattle.pt_document.specs.Classes.{ClassPort, Kind, Composite, Modal, Actor}
use Rattle.pt_datatypes.specs.Datatype.{Datatype}
use Rattle.pt_datatypes.specs.Order.{IsBelow}
use Rattle.pt_language.specs.Typing.{or_general}
use Rattle.pt_language.specs.TreeType.{element}
use Rattle.pt_typed.specs.TokenTypes.{IsUnder, elements_of}

abbrev pub class_head : ClassPort → List ℕ × Direction
class_head p = (p.name, p.direction)

abbrev pub class_mark : ClassPort → Direction × Arity
class_mark p = (p.direction, p.arity)

-- of the row of a class of library actors
abbrev pub heads_in : Option Kind → List (List ℕ × Direction)
heads_in (Some (Actor c)) = map class_head c.ports
heads_in (Some Composite) = []
heads_in (Some Modal) = []
heads_in None = []

abbrev pub marks_in : Option Kind → List (Direction × Arity)
marks_in (Some (Actor c)) = map class_mark c.ports
marks_in (Some Composite) = []
marks_in (Some Modal) = []
marks_in None = []

abbrev pub declares_in : Option Kind → Option Direction
declares_in (Some (Actor c)) = c.declares
declares_in (Some Composite) = None
declares_in (Some Modal) = None
declares_in None = None

-- a single input has one channel
abbrev pub SingleIf : ℕ → Direction × Arity → Type 0
SingleIf n (Input, arity.Single) = n ≡ 1
SingleIf n (Input, _) = Unit {0}
SingleIf n (Output, _) = Unit {0}

abbrev pub SinglesFrom : (ℕ → ℕ) → ℕ → List (Direction × Arity) → Type 0
SinglesFrom counts i [] = Unit {0}
SinglesFrom counts i (m ∷ ms) = SingleIf (counts i) m × SinglesFrom counts (suc i) ms

single-by : (n : ℕ) (d : Direction) (a : Arity) → (d ≡ Input → a ≡ arity.Single → n ≡ 1) → SingleIf n (d, a)
single-by n Input arity.Single h = h refl refl
single-by n Input arity.Optional h = tt
single-by n Input arity.Many h = tt
single-by n Input arity.ManyOrNone h = tt
single-by n Output arity.Single h = tt
single-by n Output arity.Optional h = tt
single-by n Output arity.Many h = tt
single-by n Output arity.ManyOrNone h = tt

pub singles-from : (counts : ℕ → ℕ) (i : ℕ) (ps : List ClassPort) → ((j : ℕ) (p : ClassPort) → slice_get ps j ≡ Some p → p.direction ≡ Input → p.arity ≡ arity.Single → counts (i + j) ≡ 1) → SinglesFrom counts i (map class_mark ps)
singles-from counts i [] h = tt
singles-from counts i (p ∷ ps) h = (
  single-by (counts i) p.direction p.arity (λ d a. ap counts (let z : i ≡ i + 0 = omega arith in z) ∙ h 0 p refl d a),
  singles-from counts (suc i) ps (λ j q e d a. ap counts (let z : suc i + j ≡ i + suc j = omega arith in z) ∙ h (suc j) q e d a),
)

-- the numbers of outputs, from this number on
abbrev pub out_if : Direction → ℕ → List ℕ → List ℕ
out_if Input i ns = ns
out_if Output i ns = i ∷ ns

abbrev pub outs_from : ℕ → List Direction → List ℕ
outs_from i [] = []
outs_from i (d ∷ ds) = out_if d i (outs_from (suc i) ds)

-- ---- the places of an actor with one input port

pub one-port : (types : ℕ → Datatype) (n i : ℕ) (u : Datatype) → IsBelow (types i) u → IsUnder (get (map types (replicate n i ++ [])) 0) u
one-port types zero i u h = tt
one-port types (suc n) i u h = h

pub one-array : (types : ℕ → Datatype) (n i : ℕ) (u : Datatype) → IsBelow (or_general (element (types i))) u → IsUnder (elements_of (get (map types (replicate n i ++ [])) 0)) u
one-array types zero i u h = tt
one-array types (suc n) i u h = h

pub all-ports : (types : ℕ → Datatype) (n i : ℕ) (r : Datatype) → IsBelow (types i) r → AllByRecursion (λ t. IsBelow t r) (map types (replicate n i ++ []))
all-ports types zero i r h = tt
all-ports types (suc n) i r h = (h, all-ports types n i r h)

-- where the first ports have one channel each
pub first-port : (types : ℕ → Datatype) (n i : ℕ) (rest : List ℕ) (u : Datatype) → n ≡ 1 → IsBelow (types i) u → IsUnder (get (map types (replicate n i ++ rest)) 0) u
first-port types n i rest u e h = subst (λ m. IsUnder (get (map types (replicate m i ++ rest)) 0) u) (sym e) h

pub second-port : (types : ℕ → Datatype) (n m i j : ℕ) (rest : List ℕ) (u : Datatype) → n ≡ 1 → m ≡ 1 → IsBelow (types j) u → IsUnder (get (map types (replicate n i ++ (replicate m j ++ rest))) 1) u
second-port types n m i j rest u e d h = subst (λ a. IsUnder (get (map types (replicate a i ++ (replicate m j ++ rest))) 1) u) (sym e) (subst (λ b. IsUnder (get (map types (i ∷ (replicate b j ++ rest))) 1) u) (sym d) h)
