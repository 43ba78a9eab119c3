-- Each class of library actors that a document may have is one that a library has.
use Rattle.std.proofs.Common.{◌≡◌, ℕ, List, [], ◌∷◌, Bool, true, false, ◌||◌, Option, Some, None, refl, sym, ap, ◌∙◌, if◌then◌else◌, codes, bytes_eq}
use Rattle.std.specs.Prelude.{option_map}
use Rattle.std.specs.List.{list_all, slice_get}
use Rattle.std.proofs.lemmas.Bool.{true≢false}
use Rattle.std.proofs.lemmas.Option.{none-some, same_Some}
use Rattle.std.proofs.lemmas.Slice.Eq.{bytes_eq-Decides}
use Rattle.pt_datatypes.proofs.Fields.{and_left, and_right}
use Rattle.pt_document.specs.Classes.{Class, Kind, Composite, Modal, Actor, kind_of, class_row, class_in, classes}
use Rattle.pt_document.specs.Document.{parts}
use Rattle.pt_net.specs.declared.net.Net.{Net}
use Rattle.pt_net.specs.declared.net.NetEntity.{NetEntity}
use Rattle.pt_net.specs.Net.{NetEntityTree}
use Rattle.pt_scopes.specs.Scopes.{is_composite_class}
use Rattle.pt_cover.proofs.Reading.{documents-leaves}
use Rattle.pt_cover.proofs.Walk.{all-placed}
use Rattle.pt_order.specs.Laws.{IsNetOfDocument}
use Rattle.pt_order.proofs.Standings.{documents-seen}
use Rattle.pt_order.proofs.NetStandings.{standing-of}
use Rattle.pt_startable.specs.Classes.{is_of_library}
use Rattle.pt_startable.specs.Laws.{ClassesAreOfLibraries}

abbrev has_library : Class → Bool
has_library c = is_of_library c.name

one-of-all : (rows : List Class) (name : List ℕ) (c : Class) → list_all has_library rows ≡ true → class_in rows name ≡ Some c → is_of_library name ≡ true
one-of-all [] name c a e = absurd (none-some c e)
one-of-all (r ∷ rows) name c a e = by_test (bytes_eq r.name name) refl e (one-of-all rows name c (and_right (has_library r) (list_all has_library rows) a))
  where
    by_test : (b : Bool) → bytes_eq r.name name ≡ b → (if b then Some r else class_in rows name) ≡ Some c → (class_in rows name ≡ Some c → is_of_library name ≡ true) → is_of_library name ≡ true
    by_test true same g more = ap is_of_library (sym ((bytes_eq-Decides r.name name).0 same)) ∙ and_left (has_library r) (list_all has_library rows) a
    by_test false same g more = more g

in-table : (name : List ℕ) (c : Class) → class_row name ≡ Some c → is_of_library name ≡ true
unfolding class_row classes
in-table name c e = one-of-all classes name c refl e

-- what is no composite is an actor of a class of the table
actor-row : (name : List ℕ) (kind : Kind) → is_composite_class name ≡ false → kind_of name ≡ Some kind → (c : Class) × (kind ≡ Actor c) × (class_row name ≡ Some c)
unfolding kind_of
actor-row name kind plain e = by_name (bytes_eq name (codes "Composite")) (bytes_eq name (codes "Modal")) (class_row name) refl plain e
  where
    by_name : (b d : Bool) (o : Option Class) → class_row name ≡ o → (b || d) ≡ false → (if b then Some Composite else (if d then Some Modal else option_map Actor o)) ≡ Some kind → (c : Class) × (kind ≡ Actor c) × (class_row name ≡ Some c)
    by_name true d o is p g = absurd (true≢false p)
    by_name false true o is p g = absurd (true≢false p)
    by_name false false None is p g = absurd (none-some kind g)
    by_name false false (Some c) is p g = (c, sym (same_Some (Actor c) kind g), is)

-- an actor's class is no class of composites
row-plain : (name : List ℕ) (c : Class) → kind_of name ≡ Some (Actor c) → class_row name ≡ Some c
unfolding kind_of
row-plain name c e = by_name (bytes_eq name (codes "Composite")) (bytes_eq name (codes "Modal")) (class_row name) refl e
  where
    by_name : (b d : Bool) (o : Option Class) → class_row name ≡ o → (if b then Some Composite else (if d then Some Modal else option_map Actor o)) ≡ Some (Actor c) → class_row name ≡ Some c
    by_name true d o is g = absurd (let no = same_Some Composite (Actor c) g in cc)
    by_name false true o is g = absurd (let no = same_Some Modal (Actor c) g in cc)
    by_name false false None is g = absurd (none-some (Actor c) g)
    by_name false false (Some d) is g = is ∙ (let same = same_Some (Actor d) (Actor c) g in cc)

pub classes-of-libraries : ClassesAreOfLibraries
classes-of-libraries name c is = in-table name c (row-plain name c is)

-- so the class of each entity of a document's net that is no composite is that of an actor
pub actor-class : (net : Net) (k : ℕ) (e : NetEntity) → IsNetOfDocument net → slice_get net.entities.items k ≡ Some e → is_composite_class e.class ≡ false → (c : Class) × (kind_of e.class ≡ Some (Actor c))
actor-class net k e doc at plain =
    let placed = all-placed doc.job (documents-leaves doc.bytes doc.job doc.read) in
    let st = standing-of doc.job net placed doc.made k e at in
    let own = parts st.standing.tree in
    let read = (documents-seen doc.bytes doc.job doc.read st.place st.standing st.at).read in
    let class : e.class ≡ own.class = ap (λ (x : NetEntityTree). x.class) st.same in
    let w = actor-row own.class read.kind (ap is_composite_class (sym class) ∙ plain) read.kind_is in
    (w.0, ap kind_of class ∙ read.kind_is ∙ ap Some w.1)
