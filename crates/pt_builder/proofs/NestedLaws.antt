-- What stands in a composite is there; so only the top can be missing.
use Rattle.std.proofs.Common.{◌≡◌, ℕ, zero, suc, ◌+◌, List, [], ◌∷◌, Bool, true, false, None, Some, refl, sym, ap, ◌∙◌, arith}
use Rattle.std.specs.Prelude.{slice_get}
use Rattle.std.specs.List.{Contains}
use Rattle.std.proofs.lemmas.Option.{none-some, same_Some, slice_get-get_or}
use Rattle.pt_net.specs.declared.net.Net.{Net}
use Rattle.pt_net.specs.declared.net.NetEntity.{NetEntity}
use Rattle.pt_net.specs.Inside.{is_child, child_if, children_from, children_of}
use Rattle.pt_trees.specs.Trees.{Starts, IsEntity}
use Rattle.pt_trees.specs.Built.{IsNested, at_top, within, IsUnbuilt, absent}

-- number j is that of one of these entities, from number i on
record IsAmong (i : ℕ) (es : List NetEntity) (j : ℕ) : Type 0 where
  place : ℕ
  entity : NetEntity
  at : slice_get es place ≡ Some entity
  number : j ≡ i + place

child-from : (c i n : ℕ) (es : List NetEntity) (j : ℕ) → slice_get (children_from c i es) n ≡ Some j → IsAmong i es j
child-from c i n [] j e = absurd (none-some j e)
child-from c i n (x ∷ es) j e = by_test (λ m f. child-from c (suc i) m es j f) (is_child c x) n e
  where
    further : IsAmong (suc i) es j → IsAmong i (x ∷ es) j
    further r = record { place = suc r.place; entity = r.entity; at = r.at; number = omega (arith, r.number) }

    by_test : ((m : ℕ) → slice_get (children_from c (suc i) es) m ≡ Some j → IsAmong (suc i) es j) → (b : Bool) → (m : ℕ) → slice_get (child_if b i (children_from c (suc i) es)) m ≡ Some j → IsAmong i (x ∷ es) j
    by_test more true zero f = let s : i ≡ j = same_Some i j f in record { place = 0; entity = x; at = refl; number = omega (arith, s) }
    by_test more true (suc m) f = further (more m f)
    by_test more false m f = further (more m f)

child-there : (es : List NetEntity) (c j : ℕ) → Contains (children_of es c) j → (e : NetEntity) × (slice_get es j ≡ Some e)
child-there es c j in_c =
    let r = child-from c 0 in_c.0 es j (slice_get-get_or (children_of es c) in_c.0 j in_c.1 ∙ ap Some in_c.2) in
    let same : j ≡ r.place = omega (arith, r.number) in
    (r.entity, ap (λ m. slice_get es m) same ∙ r.at)

absent-top : {net : Net} {k depth : ℕ} → IsNested net k depth → ((e : NetEntity) → IsEntity net k e → ⊥) → (e : NetEntity) → IsEntity net 0 e → ⊥
absent-top at_top none = none
absent-top {net = net} (within c depth k nested in_c) none = let r = child-there net.entities.items c k in_c in λ e is. absurd (none r.0 r.1)

pub absent-at : (net : Net) (starts : Starts) (k depth : ℕ) → IsNested net k depth → slice_get net.entities.items k ≡ None → IsUnbuilt net starts
absent-at net starts k depth nested none = absent (absent-top nested (λ e is. none-some e (sym none ∙ is)))
