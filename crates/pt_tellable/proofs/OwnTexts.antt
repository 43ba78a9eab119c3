-- No two nodes of a tree that is built from the net of a document have one path.
use Rattle.std.proofs.Common.{◌≡◌, ℕ, List, Option, Some, None, refl, sym, ap, ◌∙◌}
use Rattle.std.proofs.lemmas.Option.{none-some, same_Some, slice_get_within}
use Rattle.std.specs.Prelude.{slice_get, option_map}
use Rattle.pt_meaning.specs.Basics.{Path}
use Rattle.pt_net.specs.declared.net.Net.{Net}
use Rattle.pt_net.specs.declared.net.NetEntity.{NetEntity}
use Rattle.pt_node.specs.View.{outline_of, text_at}
use Rattle.pt_cover.specs.Paths.{entity_at, text_of, IsCover, AreApart}
use Rattle.pt_cover.proofs.Reading.{documents-leaves}
use Rattle.pt_cover.proofs.Paths.{covers}
use Rattle.pt_cover.proofs.Distinct.{paths-apart}
use Rattle.pt_node.specs.Shown.{Shown}
use Rattle.pt_tellable.specs.Laws.{TextsAreOwn}

-- the entity of a text
record HasEntity (es : List NetEntity) (o : Option ℕ) (text : List ℕ) : Type 0 where
  number : ℕ
  leads : o ≡ Some number
  entity : NetEntity
  at : slice_get es number ≡ Some entity
  named : entity.path ≡ text

entity-of : (es : List NetEntity) (o : Option ℕ) (text : List ℕ) → text_of es o ≡ Some text → HasEntity es o text
entity-of es None text e = absurd (none-some text e)
entity-of es (Some n) text e = by_entity (slice_get es n) refl e
  where
    by_entity : (f : Option NetEntity) → slice_get es n ≡ f → option_map (λ (v : NetEntity). v.path) f ≡ Some text → HasEntity es (Some n) text
    by_entity None at g = absurd (none-some text g)
    by_entity (Some f) at g = record { number = n; leads = refl; entity = f; at = at; named = same_Some f.path text g }

one-path : (net : Net) (s : Shown) → IsCover net s → AreApart net → (p q : Path) (text : List ℕ) → text_at (outline_of s) p ≡ Some text → text_at (outline_of s) q ≡ Some text → p ≡ q
one-path net s cover apart p q text e f =
    let a = entity-of net.entities.items (entity_at net.entities.items 0 p) text (sym (cover.texts p) ∙ e) in
    let b = entity-of net.entities.items (entity_at net.entities.items 0 q) text (sym (cover.texts q) ∙ f) in
    let same : a.number ≡ b.number = apart a.number b.number a.entity b.entity a.at b.at (a.named ∙ sym b.named) in
    let one = cover.paths b.number (slice_get_within net.entities.items b.number b.entity b.at) in
    one.alone p (a.leads ∙ ap (λ n. Option.Some n) same) ∙ sym (one.alone q b.leads)

pub own-texts : TextsAreOwn
own-texts net starts s doc by_class built =
    one-path net s (covers doc.job net starts s (documents-leaves doc.bytes doc.job doc.read) doc.made by_class built) (paths-apart doc.bytes doc.job net doc.read doc.made)
