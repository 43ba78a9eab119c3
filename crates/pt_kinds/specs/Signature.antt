-- Signatures: of which kind the tokens at each place and on each output of a node are. A kind says of each token whether it is of it.
use Rattle.std.specs.Prelude.{◌≡◌, ℕ, List, [], ◌∷◌, length}
use Rattle.std.specs.List.{AllByRecursion}
use Rattle.pt_meaning.specs.Basics.{Streams, Log, Path, Event, Finished, Met}
use Rattle.pt_meaning.specs.Machine.{Partial, Unknown, Known}

-- the kinds at the places of a node, and on its outputs, in the order of their numbers
pub record Signature (K : Type 0) : Type 0 where
  pub places : List K
  pub outputs : List K

-- A signature for each path of a tree, and those below a child.
abbrev pub Signatures : Type 0 → Type 0
Signatures K = Path → Signature K

-- those below child i
abbrev pub below : {K : Type 0} → Signatures K → ℕ → Signatures K
below sigs i p = sigs (i ∷ p)

module _ {T K : Type 0} (Has : K → T → Type 0) where
  -- each token is of the kind
  abbrev pub AllOf : K → List T → Type 0
  AllOf k xs = AllByRecursion (Has k) xs

  -- stream by stream, and there are no more streams than kinds
  abbrev pub AreOf : List K → Streams T → Type 0
  AreOf ks [] = Unit {0}
  AreOf [] (xs ∷ X) = ⊥
  AreOf (k ∷ ks) (xs ∷ X) = AllOf k xs × AreOf ks X

  -- and just as many
  abbrev pub AreAllOf : List K → Streams T → Type 0
  AreAllOf ks X = (length X ≡ length ks) × AreOf ks X

  -- token by token, each of its kind, and there are just as many
  abbrev pub AreEach : List K → List T → Type 0
  AreEach [] [] = Unit {0}
  AreEach (k ∷ ks) (x ∷ xs) = Has k x × AreEach ks xs
  AreEach [] (x ∷ xs) = ⊥
  AreEach (k ∷ ks) [] = ⊥

  -- what is known of signals is of these kinds, signal by signal
  abbrev pub AreKnownOf : List K → List (Partial T) → Type 0
  AreKnownOf ks [] = Unit {0}
  AreKnownOf [] (Unknown ∷ vs) = AreKnownOf [] vs
  AreKnownOf [] (Known xs ∷ vs) = ⊥
  AreKnownOf (k ∷ ks) (Unknown ∷ vs) = AreKnownOf ks vs
  AreKnownOf (k ∷ ks) (Known xs ∷ vs) = AllOf k xs × AreKnownOf ks vs

  -- and there are just as many signals
  abbrev pub AreAllKnownOf : List K → List (Partial T) → Type 0
  AreAllKnownOf ks vs = (length vs ≡ length ks) × AreKnownOf ks vs

  -- a finished firing took and gave tokens of these kinds only
  abbrev pub IsTypedEvent : Signature K → Event T → Type 0
  IsTypedEvent s (Finished within f) = AreAllOf s.places f.inputs × AreOf s.outputs f.outputs
  IsTypedEvent s (Met within n m) = Unit {0}

  -- so did each finished firing of a log, by the signature of its path
  abbrev pub IsTypedLog : Signatures K → Log T → Type 0
  IsTypedLog sigs l = (p : Path) → AllByRecursion (IsTypedEvent (sigs p)) (l p)
