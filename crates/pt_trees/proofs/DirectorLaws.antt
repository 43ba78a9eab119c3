-- What has a director is a composite with one, or a Modal entity.
use Rattle.std.proofs.Common.{◌≡◌, ◌⊎◌, inl, inr, Bool, true, false, Option, Some, None, codes, bytes_eq, if◌then◌else◌, refl, sym, ap, subst, ◌∙◌}
use Rattle.std.specs.Prelude.{option_map}
use Rattle.std.proofs.lemmas.Option.{none-some, same_Some}
use Rattle.pt_document.specs.declared.classes.Director.{Director}
use Rattle.pt_net.specs.declared.net.NetDirector.{NetDirector}
use Rattle.pt_net.specs.declared.net.NetEntity.{NetEntity}
use Rattle.pt_trees.specs.declared.directing.Directing.{Directing}
use Rattle.pt_trees.specs.declared.directing.Directing.TheVariants.{By, Modal}
use Rattle.pt_trees.specs.Directors.{named, modal_unless, director_of, IsDirectedBy}
use Rattle.pt_trees.specs.Trees.{IsUndirected, IsDirected, IsModalEntity}

there : (o : Option NetDirector) (director : Directing) → option_map By (named o) ≡ Some director → (d : NetDirector) × (o ≡ Some d)
there None director e = absurd (none-some director e)
there (Some d) director e = (d, refl)

by-same : (d director : Director) → By d ≡ By director → d ≡ director
by-same d director e = cc

name-of : (o : Option Director) (director : Director) → option_map By o ≡ Some (By director) → o ≡ Some director
name-of None director e = absurd (none-some (By director) e)
name-of (Some d) director e = ap Some (by-same d director (same_Some (By d) (By director) e))

no-name : (o : Option Director) → option_map By o ≡ Some Modal → ⊥
no-name None e = none-some Modal e
no-name (Some d) e = let no : By d ≡ Modal = same_Some (By d) Modal e in cc

modal-named : (o : Option NetDirector) (d : Director) → modal_unless o ≡ Some (By d) → ⊥
modal-named None d e = let no : Modal ≡ By d = same_Some Modal (By d) e in cc
modal-named (Some n) d e = none-some (By d) e

modal-none : (o : Option NetDirector) (director : Directing) → modal_unless o ≡ Some director → o ≡ None
modal-none None director e = refl
modal-none (Some n) director e = absurd (none-some director e)

-- an entity of neither class
neither : (o : Option NetDirector) (b : Bool) (d : Director) → (if b then modal_unless o else None) ≡ Some (By d) → ⊥
neither o true d e = modal-named o d e
neither o false d e = none-some (By d) e

-- the director of a composite is the one that is named
pub named-of : (e : NetEntity) (director : Director) → IsDirectedBy e (By director) → named e.director ≡ Some director
named-of e director is = by_class (bytes_eq e.class (codes "Composite")) is
  where
    by_class : (b : Bool) → (if b then option_map By (named e.director) else (if bytes_eq e.class (codes "Modal") then modal_unless e.director else None)) ≡ Some (By director) → named e.director ≡ Some director
    by_class true h = name-of (named e.director) director h
    by_class false h = absurd (neither e.director (bytes_eq e.class (codes "Modal")) director h)

-- what a named director directs is a composite with one
pub is-directed : (e : NetEntity) (director : Director) → IsDirectedBy e (By director) → IsDirected e
is-directed e director is = by_class (bytes_eq e.class (codes "Composite")) refl is
  where
    by_class : (b : Bool) → bytes_eq e.class (codes "Composite") ≡ b → (if b then option_map By (named e.director) else (if bytes_eq e.class (codes "Modal") then modal_unless e.director else None)) ≡ Some (By director) → IsDirected e
    by_class true composite h = let w = there e.director (By director) h in record { composite = composite; director = w.0; has = w.1 }
    by_class false composite h = absurd (neither e.director (bytes_eq e.class (codes "Modal")) director h)

-- and what Modal directs is a Modal entity
pub is-modal : (e : NetEntity) → IsDirectedBy e Modal → IsModalEntity e
is-modal e is = by_class (bytes_eq e.class (codes "Composite")) (bytes_eq e.class (codes "Modal")) refl is
  where
    by_class : (b c : Bool) → bytes_eq e.class (codes "Modal") ≡ c → (if b then option_map By (named e.director) else (if c then modal_unless e.director else None)) ≡ Some Modal → IsModalEntity e
    by_class true c modal h = absurd (no-name (named e.director) h)
    by_class false true modal h = record { modal = modal; unnamed = modal-none e.director Modal h }
    by_class false false modal h = absurd (none-some Modal h)

-- an entity is a library actor, or it isn't
pub decided : (e : NetEntity) → IsUndirected e ⊎ (IsUndirected e → ⊥)
decided e = by_both e.director refl (bytes_eq e.class (codes "Modal")) refl
  where
    by_both : (o : Option NetDirector) → e.director ≡ o → (b : Bool) → bytes_eq e.class (codes "Modal") ≡ b → IsUndirected e ⊎ (IsUndirected e → ⊥)
    by_both None none false plain = inl (record { unnamed = none; plain = plain })
    by_both None none true modal = inr (λ u. let no : true ≡ false = sym modal ∙ u.plain in cc)
    by_both (Some d) some b c = inr (λ u. none-some d (sym u.unnamed ∙ some))

-- what has no director is directed by none
pub undirected-none : (e : NetEntity) → IsUndirected e → director_of e ≡ None
undirected-none e u = by_class (bytes_eq e.class (codes "Composite"))
  where
    by_class : (b : Bool) → (if b then option_map By (named e.director) else (if bytes_eq e.class (codes "Modal") then modal_unless e.director else None)) ≡ None
    by_class true = ap (λ (o : Option NetDirector). option_map By (named o)) u.unnamed
    by_class false = ap (λ (b : Bool). if b then modal_unless e.director else None) u.plain
