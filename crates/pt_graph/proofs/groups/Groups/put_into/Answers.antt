use Rattle.std.proofs.Common.{get_or-set_other, ◌≡◌, ◌≢◌, ℕ, ◌<◌, List, [], ◌++◌, length, map, get_or, set, take, drop, sym, ap, subst, ◌∙◌, arith, Vec, Global}
use Rattle.std.proofs.lemmas.List.{get_or-map, map-set, length-map, with_items_is}
use Rattle.std.specs.List.{All}
use Rattle.pt_graph.specs.Groups.{members, Agree, Relabels, Moves}
use Rattle.pt_graph.proofs.GroupSteps.{members_within, moves, agree_after}
use Rattle.pt_graph.proofs.groups.Groups.put_into.Goals as goal

abbrev Row : Type 0
Row = Vec ℕ Global

abbrev rows : List Row → List (List ℕ)
rows vs = map {A = Row} {B = List ℕ} (λ v. v.items) vs

-- what is read of a row
row_read : (vs : List Row) (c : ℕ) (v : Row) → c < length vs → v ≡ get_or vs c v → members (rows vs) c ≡ v.items
row_read vs c v within is = get_or-map {X = Row} {Y = List ℕ} (λ u. u.items) vs c v [] within ∙ sym (ap (λ (u : Row). u.items) is)

-- the rows after the two writes
rows_after : (vs : List Row) (from to : ℕ) (u v : Row) (ts : List ℕ) → u.items ≡ [] → v.items ≡ ts → rows (set (set vs from u) to v) ≡ set (set (rows vs) from []) to ts
rows_after vs from to u v ts e f =
    map-set {A = Row} {B = List ℕ} (λ w. w.items) (set vs from u) to v
    ∙ ap (λ (ws : List (List ℕ)). set ws to v.items) (map-set {A = Row} {B = List ℕ} (λ w. w.items) vs from u)
    ∙ ap (λ (xs : List ℕ). set (set (rows vs) from xs) to v.items) e
    ∙ ap (λ (xs : List ℕ). set (set (rows vs) from []) to xs) f

-- the row that was taken out
moved_is : (vs : List Row) (from : ℕ) (v r : Row) (ts : List ℕ) → from < length vs → v ≡ get_or vs from v → r ≡ v → ts ≡ r.items → ts ≡ members (rows vs) from
moved_is vs from v r ts within is e f = f ∙ ap (λ (u : Row). u.items) e ∙ sym (row_read vs from v within is)

pub relabel-requires : goal.relabel-requires
relabel-requires c =
    let vs = c.args.self.now.members.items in
    let k = c.requires.kept in
    let lt : c.args.from < length vs = omega (arith, length-map {A = Row} {B = List ℕ} vs (λ v. v.items)) in
    let e = moved_is vs c.args.from c.index_mut.result.now c.replace-moved.result c.deref.result.now lt c.index_mut.ensures.value c.replace-moved.ensures.value c.deref.ensures.value in
    let inside : All (λ t. t < length c.args.self.now.group.items) c.deref.result.now = subst (λ (ts : List ℕ). All (λ t. t < length c.args.self.now.group.items) ts) (sym e) (members_within (length c.args.self.now.group.items) c.args.from c.args.self.now.group.items (rows vs) k c.requires.from) in
    record { within = subst (λ (g : List ℕ). All (λ t. t < length g) c.deref.result.now) (sym c.deref_mut.ensures.value) inside }

-- what a row holds while another is emptied
other_read : (vs : List Row) (from to : ℕ) (u v : Row) → to < length vs → to ≢ from → v ≡ get_or (set vs from u) to v → v.items ≡ members (rows vs) to
other_read vs from to u v within ne is = sym (row_read vs to v within (is ∙ get_or-set_other vs from to u v ne))

module _ (c : goal.After-drop-moved-2) where
  abbrev vs : List Row
  vs = c.args.self.now.members.items

  abbrev group : List ℕ
  group = c.args.self.now.group.items

  count_rows : length vs ≡ length group
  count_rows = sym (length-map {A = Row} {B = List ℕ} vs (λ v. v.items)) ∙ c.requires.kept.groups

  moved : c.deref.result.now ≡ members (rows vs) c.args.from
  moved = moved_is vs c.args.from c.index_mut.result.now c.replace-moved.result c.deref.result.now (omega (arith, count_rows)) c.index_mut.ensures.value c.replace-moved.ensures.value c.deref.ensures.value

  length_new : length c.relabel.new.group ≡ length group
  length_new = c.relabel.auto.group ∙ ap (λ (g : List ℕ). length g) c.deref_mut.ensures.value

  relabeled : Relabels (members (rows vs) c.args.from) c.args.to group c.relabel.new.group
  relabeled =
      subst (λ (ts : List ℕ). Relabels ts c.args.to group c.relabel.new.group) moved
      (subst (λ (g : List ℕ). Relabels c.deref.result.now c.args.to g c.relabel.new.group) c.deref_mut.ensures.value c.relabel.ensures)

  written : take c.args.self.now.group.len (c.relabel.new.group ++ drop (length c.relabel.new.group) group) ≡ c.relabel.new.group
  written = with_items_is c.args.self.now.group c.relabel.new.group (omega (arith, length_new, c.args.self.now.group.ok.0))

  joined : c.extend_from_slice.new.self.items ≡ members (rows vs) c.args.to ++ members (rows vs) c.args.from
  joined =
      c.in_ok-extend_from_slice.ensures.items
      ∙ ap (λ (xs : List ℕ). xs ++ c.deref-2.result.now) (other_read vs c.args.from c.args.to c.replace-moved.new.dest c.index_mut-2.result.now (omega (arith, count_rows)) (λ e. c.requires.apart (sym e)) c.index_mut-2.ensures.value)
      ∙ ap (λ (xs : List ℕ). members (rows vs) c.args.to ++ xs) (c.deref-2.ensures.value ∙ sym c.deref.ensures.value ∙ moved)

  rows_are : rows (set (set vs c.args.from c.replace-moved.new.dest) c.args.to c.extend_from_slice.new.self) ≡ set (set (rows vs) c.args.from []) c.args.to (members (rows vs) c.args.to ++ members (rows vs) c.args.from)
  rows_are = rows_after vs c.args.from c.args.to c.replace-moved.new.dest c.extend_from_slice.new.self _ (ap (λ (v : Row). v.items) c.replace-moved.ensures.after ∙ c.new.ensures.items) joined

pub returns-clause-kept : goal.returns-clause-kept
returns-clause-kept c =
    subst (λ (g : List ℕ). Agree (length (group c)) g (rows (set (set (vs c) c.args.from c.replace-moved.new.dest) c.args.to c.extend_from_slice.new.self))) (sym (written c))
    (subst (λ (rs : List (List ℕ)). Agree (length (group c)) c.relabel.new.group rs) (sym (rows_are c)) (agree_after (length (group c)) c.args.from c.args.to (group c) (rows (vs c)) c.relabel.new.group c.requires.kept (length_new c) c.requires.from c.requires.to c.requires.apart (relabeled c)))

pub returns-clause-moved : goal.returns-clause-moved
returns-clause-moved c =
    subst (λ (g : List ℕ). Moves (length (group c)) c.args.from c.args.to (group c) g) (sym (written c))
    (moves (length (group c)) c.args.from c.args.to (group c) (rows (vs c)) c.relabel.new.group c.requires.kept (length_new c) c.requires.from c.requires.to c.requires.apart (relabeled c))
