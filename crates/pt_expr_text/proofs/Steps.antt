-- Steps of the reader that go on with what another step gave.
use Rattle.std.proofs.Common.{◌≡◌, List, Option, Some, None, option_map, refl, sym, ap, ◌∙◌}
use Rattle.pt_language.specs.declared.parse_fault.ParseFault.{ParseFault}
use Rattle.pt_language.specs.declared.parse_fault.ParseFault.TheVariants.{Syntax, Deep, Memory}
use Rattle.pt_language.specs.ReaderFault.{Fails}
use Rattle.pt_language.specs.Tree.{Tree, Cond, Apply, Binary}
use Rattle.pt_language.specs.declared.expr.BinaryOp.{BinaryOp}
use Rattle.pt_language.specs.declared.word.Word.{Word}
use Rattle.pt_language.specs.declared.word.Symbol.TheVariants.{Close, Colon, Comma}
use Rattle.pt_language.specs.Symbol.{after}
use Rattle.pt_language.specs.Descent.{Read, Reader, ◌>>=◌, closed, called, second}

-- a fault of a step is one of all that goes on with it
pub fails-map : {A B : Type 0} (f : A → B) (fault : ParseFault) (o : Option A) → Fails fault o → Fails fault (option_map f o)
fails-map f Syntax o e = ap (option_map f) e
fails-map f Deep o e = e
fails-map f Memory o e = tt

module _ {A B : Type 0} (h : A → B) where
  -- something else before the same words
  abbrev pub first_by : A × List Word → B × List Word
  first_by r = (h r.0, r.1)

  abbrev before : A → List Word → Option (A × List Word)
  before x rest = Some (x, rest)

  abbrev made : A → List Word → Option (B × List Word)
  made x rest = Some (h x, rest)

  front-map : (x : A) (o : Option (List Word)) → (o >>= made x) ≡ option_map first_by (o >>= before x)
  front-map x None = refl
  front-map x (Some rest) = refl

  pub closed-map : (read : Option (A × List Word)) → (read >>= λ b. closed {A = B} Close (h b.0) b.1) ≡ option_map first_by (read >>= λ b. closed {A = A} Close b.0 b.1)
  closed-map None = refl
  closed-map (Some b) = front-map b.0 (after Close b.1)

  pub read-map : (read : Option (A × List Word)) → (read >>= λ r. made r.0 r.1) ≡ option_map first_by read
  read-map None = refl
  read-map (Some r) = refl

-- a call behind its opening parenthesis
pub called-is : (again : Reader) (base : Tree) (ws : List Word) → called again base ws ≡ option_map (first_by (Apply base)) (again ws >>= λ inner. closed {A = Tree} Close inner.0 inner.1)
called-is again base ws = closed-map (Apply base) (again ws)

-- a second operand
pub second-is : (operand : Reader) (op : BinaryOp) (left : Tree) (ws : List Word) → second operand op left ws ≡ option_map (first_by (Binary op left)) (operand ws)
second-is operand op left ws = read-map (Binary op left) (operand ws)

module _ (again : Reader) where
  abbrev pub pair : Tree → Tree → Tree × Tree
  pair a b = (a, b)

  -- the second operand of a function
  last-by : (a : Tree) (o : Option (List Word)) → (o >>= λ more. again more >>= λ b. closed {A = Tree × Tree} Close (pair a b.0) b.1) ≡ option_map (first_by (pair a)) (o >>= λ more. again more >>= λ b. closed {A = Tree} Close b.0 b.1)
  last-by a None = refl
  last-by a (Some more) = closed-map (pair a) (again more)

  pub last-is : (a : Tree) (ws : List Word) → (after Comma ws >>= λ more. again more >>= λ b. closed {A = Tree × Tree} Close (pair a b.0) b.1) ≡ option_map (first_by (pair a)) (after Comma ws >>= λ more. again more >>= λ b. closed {A = Tree} Close b.0 b.1)
  last-is a ws = last-by a (after Comma ws)

  -- the second branch of a choice
  module _ {B : Type 0} (h : Tree → B) where
    abbrev branch : Tree × List Word → Option (B × List Word)
    branch r = Some (h r.0, r.1)

    other-by : (o : Option (List Word)) → (o >>= λ more. again more >>= branch) ≡ option_map (first_by h) (o >>= λ more. again more)
    other-by None = refl
    other-by (Some more) = read-map h (again more)

    pub other-is : (ws : List Word) → (after Colon ws >>= λ more. again more >>= branch) ≡ option_map (first_by h) (after Colon ws >>= λ more. again more)
    other-is ws = other-by (after Colon ws)

  -- both branches
  abbrev of_both : Tree → Tree × Tree → Tree
  of_both test r = Cond test r.0 r.1

  abbrev both : Tree × List Word → Option ((Tree × Tree) × List Word)
  both r = after Colon r.1 >>= λ more. again more >>= branch (pair r.0)

  abbrev conditional : Tree → Tree × List Word → Read
  conditional test r = after Colon r.1 >>= λ more. again more >>= branch (Cond test r.0)

  map-map : (test t : Tree) (o : Read) → option_map (first_by (Cond test t)) o ≡ option_map (first_by (of_both test)) (option_map (first_by (pair t)) o)
  map-map test t None = refl
  map-map test t (Some x) = refl

  branches-by : (test : Tree) (read : Read) → (read >>= conditional test) ≡ option_map (first_by (of_both test)) (read >>= both)
  branches-by test None = refl
  branches-by test (Some r) =
      other-is (Cond test r.0) r.1
      ∙ map-map test r.0 (after Colon r.1 >>= λ more. again more)
      ∙ ap (option_map (first_by (of_both test))) (sym (other-is (pair r.0) r.1))

  pub branches-is : (test : Tree) (ws : List Word) → (again ws >>= conditional test) ≡ option_map (first_by (of_both test)) (again ws >>= both)
  branches-is test ws = branches-by test (again ws)
