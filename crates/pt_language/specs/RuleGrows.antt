-- What a rule makes of types grows with them.
use Rattle.std.proofs.Common.{◌≡◌, ℕ, zero, suc, Bool, true, false, List, [], ◌∷◌, Option, None, if◌then◌else◌, refl, arith}
use Rattle.std.specs.Prelude.{slice_get}
use Rattle.std.specs.Str.{bytes_eq}
use Rattle.pt_datatypes.specs.Datatype.{Datatype, General}
use Rattle.pt_datatypes.specs.Order.{IsBelow}
use Rattle.pt_datatypes.specs.Rules.{AllBelow}
use Rattle.pt_language.specs.Tree.{Tree}
use Rattle.pt_language.specs.Typing.{or_general}
use Rattle.pt_language.specs.TreeType.{tree_type, are_bound}
use Rattle.pt_language.specs.Rule.{numbered, type_or_general}
use Rattle.pt_language.specs.Laws.{IsBelowAt, AreBelow}
use Rattle.pt_language.specs.Grows.{or_else-below, or_general-below, tree_type-below, bound-same}

slice_get-below : (xs ys : List Datatype) (k : ℕ) → AllBelow xs ys → IsBelowAt (slice_get xs k) (slice_get ys k)
slice_get-below [] [] k h = tt
slice_get-below [] (y ∷ ys) k h = absurd (omega (arith, h.counted))
slice_get-below (x ∷ xs) [] k h = absurd (omega (arith, h.counted))
slice_get-below (x ∷ xs) (y ∷ ys) zero h = h.each 0
slice_get-below (x ∷ xs) (y ∷ ys) (suc k) h = slice_get-below xs ys k (record { counted = omega (arith, h.counted); each = λ j. h.each (suc j) })

one-below : (b : Bool) (o p : Option Datatype) → IsBelowAt o p → IsBelowAt (if b then o else None) (if b then p else None)
one-below true o p h = h
one-below false o p h = tt

numbered-below : (fs : List (List ℕ × ℕ)) (xs ys : List Datatype) → AllBelow xs ys → AreBelow (numbered fs xs) (numbered fs ys)
numbered-below [] xs ys h name = tt
numbered-below (f ∷ fs) xs ys h name = or_else-below (numbered fs xs name) (numbered fs ys name) _ _ (numbered-below fs xs ys h name) (one-below (bytes_eq f.0 name) (slice_get xs f.1) (slice_get ys f.1) (slice_get-below xs ys f.1 h))

chosen-below : (b c : Bool) (p q : Datatype) → b ≡ c → IsBelow p q → IsBelow (if b then p else General) (if c then q else General)
chosen-below true true p q e h = h
chosen-below true false p q e h = cc
chosen-below false true p q e h = cc
chosen-below false false p q e h = refl

pub type_or_general-grows : (fs : List (List ℕ × ℕ)) (tree : Tree) (xs ys : List Datatype) → AllBelow xs ys → IsBelow (type_or_general (numbered fs xs) tree) (type_or_general (numbered fs ys) tree)
type_or_general-grows fs tree xs ys h =
    let fewer = numbered fs xs in
    let more = numbered fs ys in
    let below : AreBelow fewer more = numbered-below fs xs ys h in
    chosen-below (are_bound fewer tree) (are_bound more tree) (or_general (tree_type fewer tree)) (or_general (tree_type more tree)) (bound-same fewer more below tree) (or_general-below (tree_type fewer tree) (tree_type more tree) (tree_type-below fewer more below tree))
