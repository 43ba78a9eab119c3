-- The ports that texts name, one text on.
use Rattle.std.proofs.Common.{◌≡◌, ℕ, zero, suc, ◌+◌, ◌<◌, ◌≤◌, inl, inr, Bool, true, false, not, ◌&&◌, ◌||◌, nat_eq, nat_lt, codes, IsTrue, cond, Option, Some, None, List, [], ◌∷◌, ◌++◌, length, get_or, take, map, bytes_eq, refl, sym, ap, subst, ◌∙◌, arith}
use Rattle.std.proofs.lemmas.Bool.{both_ways, cases_eq, cases_order, and_parts, and_from}
use Rattle.std.proofs.lemmas.List.{take_more, map_more, map-append, length-map}
use Rattle.std.proofs.lemmas.List.Quantifiers.{position-Some}
use Rattle.std.proofs.lemmas.Option.{slice_get-get_or, slice_get_within, get_or_from_slice_get, slice_get-map}
use Rattle.std.proofs.lemmas.Slice.Eq.{bytes_eq-Decides}
use Rattle.std.proofs.lemmas.Iterator.Adapters.{position_from-zero}
use Rattle.std.proofs.lemmas.List.Elements.{filter_map-append}
use Rattle.std.specs.Option.{option_map}
use Rattle.std.specs.List.{AllZip, list_any, starts_with, slice_get, position, position_from}
use Rattle.pt_document.specs.Names.{top_path, below}
use Rattle.pt_net.specs.declared.net.NetPort.{NetPort}
use Rattle.pt_survey.specs.declared.tables.PlacedPort.{PlacedPort}
use Rattle.pt_survey.specs.Survey.{port_at, ports_view}
use Rattle.pt_net.specs.Standing.{is_opaque}
use Rattle.pt_net.specs.Table.{PortAt, Tables, port_path, shown}
use Rattle.pt_net.specs.Wires.{is_input}
use Rattle.pt_net.specs.Net.{net_port, Names, Records}
use Rattle.pt_net.specs.Stands.{IsRecordFault, names_no_port, repeated}
use Rattle.pt_links.specs.Recorded.{OutputAt, output_of, begins_with, may_name, sought_of, sought_in, AreDistinct}
use Rattle.pt_net.proofs.Members.{zip_push, contains_slice, slice_contains, contains_filter_map, filter_map_contains, contains_map}

-- the first texts have their ports, and each stands there for the first time
pub record AreRecorded (t : Tables) (records : List (List ℕ)) (n : ℕ) (ports : List NetPort) : Type 0 where
  pub named : AllZip (Records t) (take n records) ports
  pub first : (k : ℕ) (text : List ℕ) → k < n → slice_get records k ≡ Some text → position (bytes_eq text) records ≡ Some k

same_text : (a b : List ℕ) → bytes_eq a b ≡ true → a ≡ b
same_text a b e = (bytes_eq-Decides a b).0 e

text_same : (a : List ℕ) → bytes_eq a a ≡ true
text_same a = (bytes_eq-Decides a a).1 refl

none_from : {X : Type 0} (p : X → Bool) (n : ℕ) (xs : List X) → position_from p n xs ≡ None → (i : ℕ) (x : X) → slice_get xs i ≡ Some x → p x ≡ true → ⊥
none_from p n [] e i x is holds = let h : None ≡ Some x = is in absurd cc
none_from p n (y ∷ ys) e zero x is holds =
    let same : y ≡ x = cc in
    let t : p y ≡ true = ap p same ∙ holds in
    let h : Some n ≡ None = sym (ap (λ b. cond b (Some n) (position_from p (n + 1) ys)) t) ∙ e in
    absurd cc
none_from p n (y ∷ ys) e (suc i) x is holds = later (p y) e (λ h. none_from p (n + 1) ys h i x is holds)
  where
    later : (b : Bool) → cond b (Some n) (position_from p (n + 1) ys) ≡ None → (position_from p (n + 1) ys ≡ None → ⊥) → ⊥
    later true h rest = absurd cc
    later false h rest = rest h

no_position : {X : Type 0} (p : X → Bool) (xs : List X) → position p xs ≡ None → (i : ℕ) (x : X) → slice_get xs i ≡ Some x → p x ≡ true → ⊥
no_position p xs e i x is holds = none_from p 0 xs (sym (position_from-zero p xs) ∙ e) i x is holds

-- the text at the first place that a text has
position_text : (text : List ℕ) (texts : List (List ℕ)) (j : ℕ) → position (bytes_eq text) texts ≡ Some j → slice_get texts j ≡ Some text
position_text text texts j e =
    let w = position-Some (bytes_eq text) texts j [] e in
    slice_get-get_or texts j [] w.0 ∙ ap Some (sym (same_text text (get_or texts j []) w.1))

-- a text that doesn't stand there for the first time
pub repeated_told : (t : Tables) (records : List (List ℕ)) (i : ℕ) (text : List ℕ) → slice_get records i ≡ Some text → (position (bytes_eq text) records ≡ Some i → ⊥) → IsRecordFault t records (shown text)
repeated_told t records i text is other = go (position (bytes_eq text) records) refl
  where
    go : (o : Option ℕ) → position (bytes_eq text) records ≡ o → IsRecordFault t records (shown text)
    go None e = absurd (no_position (bytes_eq text) records e i text is (text_same text))
    go (Some j) e =
        elim (cases_order j i) [
          | inl same ↦ absurd (other (e ∙ ap Some same))
          | inr w ↦ elim w [
            | inl before ↦ repeated j i text before (position_text text records j e) is
            | inr after ↦ absurd (both_ways (bytes_eq text (get_or records i [])) ((position-Some (bytes_eq text) records j [] e).2 i after) (ap (bytes_eq text) (get_or_from_slice_get records i text [] is) ∙ text_same text))
          ]
        ]

pub distinct : (t : Tables) (records : List (List ℕ)) (n : ℕ) (ports : List NetPort) → length records ≤ n → AreRecorded t records n ports → AreDistinct records
distinct t records n ports whole all first second text before a b =
    let e = all.first second text (omega (arith, slice_get_within records second text b)) b in
    both_ways (bytes_eq text (get_or records first [])) ((position-Some (bytes_eq text) records second [] e).2 first before) (ap (bytes_eq text) (get_or_from_slice_get records first text [] a) ∙ text_same text)

or_true : (b : Bool) → (b || true) ≡ true
or_true true = refl
or_true false = refl

any_at : {X : Type 0} (p : X → Bool) (xs : List X) (i : ℕ) (x : X) → slice_get xs i ≡ Some x → p x ≡ true → list_any p xs ≡ true
any_at p [] i x is holds = let h : None ≡ Some x = is in absurd cc
any_at p (y ∷ ys) zero x is holds = let same : y ≡ x = cc in ap (λ b. b || list_any p ys) (ap p same ∙ holds)
any_at p (y ∷ ys) (suc i) x is holds = ap (λ b. p y || b) (any_at p ys i x is holds) ∙ or_true (p y)

take_front : (xs ys zs : List ℕ) → take (length xs) (xs ++ ys ++ zs) ≡ xs
take_front [] ys zs = refl
take_front (x ∷ xs) ys zs = ap (λ ws. x ∷ ws) (take_front xs ys zs)

-- the path of a port begins with that of its entity
begins_below : (path name : List ℕ) → bytes_eq path top_path ≡ false → starts_with nat_eq (below path name) path ≡ true
unfolding below
begins_below path name e =
    ap (λ (b : Bool). starts_with nat_eq (cond b name (path ++ codes "." ++ name)) path) e
    ∙ ap (λ (xs : List ℕ). bytes_eq path xs) (take_front path (codes ".") name)
    ∙ text_same path

-- where a text is the path of a port, a port of its entity may be named
named_below : (texts : List (List ℕ)) (i : ℕ) (path name : List ℕ) → slice_get texts i ≡ Some (below path name) → may_name texts path ≡ true
named_below texts i path name is = go (bytes_eq path top_path) refl
  where
    go : (b : Bool) → bytes_eq path top_path ≡ b → may_name texts path ≡ true
    go true e = ap (λ b. b || (nat_lt 8 (length texts) || list_any (begins_with path) texts)) e
    go false e =
        ap (λ b. b || (nat_lt 8 (length texts) || list_any (begins_with path) texts)) e
        ∙ ap (λ b. nat_lt 8 (length texts) || b) (any_at (begins_with path) texts i (below path name) is (begins_below path name e))
        ∙ or_true (nat_lt 8 (length texts))

module _ (t : Tables) (records : List (List ℕ)) (text : List ℕ) where
  abbrev all : List OutputAt
  all = sought_in records t.ports

  abbrev paths : List (List ℕ)
  paths = map (λ o. o.path) all

  output_is : (p : PortAt) → IsTrue (is_opaque p.standing) → IsTrue (not (is_input p)) → output_of p ≡ Some (record { path = port_path p; port = net_port p })
  output_is p opaque output = ap (λ (b : Bool). cond b (Some (record { path = port_path p; port = net_port p })) None) (and_from (is_opaque p.standing) (not (is_input p)) opaque output)

  sought_is : (p : PortAt) (o : OutputAt) → may_name records p.standing.path ≡ true → output_of p ≡ Some o → sought_of records p ≡ Some o
  sought_is p o may is = ap (λ (b : Bool). cond b (output_of p) None) may ∙ is

  sought_from : (p : PortAt) (o : OutputAt) → sought_of records p ≡ Some o → output_of p ≡ Some o
  sought_from p o e = chosen (may_name records p.standing.path) e
    where
      chosen : (b : Bool) → cond b (output_of p) None ≡ Some o → output_of p ≡ Some o
      chosen true e' = e'
      chosen false e' = absurd cc

  pub unnamed : (i : ℕ) → slice_get records i ≡ Some text → position (bytes_eq text) paths ≡ None → (p : PortAt) → Names t text p → ⊥
  unnamed i at e p n =
      let o : OutputAt = record { path = port_path p; port = net_port p } in
      let may = named_below records i p.standing.path p.port.name (at ∙ ap Some (sym n.told)) in
      let w = contains_filter_map (sought_of records) t.ports p o n.there (sought_is p o may (output_is p n.opaque n.output)) in
      let v = contains_map (λ q. q.path) all o w in
      let s = slice_contains paths (port_path p) v in
      no_position (bytes_eq text) paths e s.0 (port_path p) s.1 (subst (λ x. bytes_eq x (port_path p) ≡ true) n.told (text_same (port_path p)))

  output_from : (p : PortAt) (o : OutputAt) → output_of p ≡ Some o → (IsTrue (is_opaque p.standing)) × (IsTrue (not (is_input p))) × (port_path p ≡ o.path) × (o.port ≡ net_port p)
  output_from p o e = chosen (is_opaque p.standing && not (is_input p)) refl e
    where
      chosen : (b : Bool) → (is_opaque p.standing && not (is_input p)) ≡ b → cond b (Some (record { path = port_path p; port = net_port p })) None ≡ Some o → (IsTrue (is_opaque p.standing)) × (IsTrue (not (is_input p))) × (port_path p ≡ o.path) × (o.port ≡ net_port p)
      chosen true h e' =
          let a = and_parts (is_opaque p.standing) (not (is_input p)) h in
          let made : OutputAt = record { path = port_path p; port = net_port p } in
          let same : made ≡ o = cc in
          (a.0, a.1, ap (λ (q : OutputAt). q.path) same, sym (ap (λ (q : OutputAt). q.port) same))
      chosen false h e' = absurd cc

  pub named : (place : ℕ) (port : NetPort) → position (bytes_eq text) paths ≡ Some place → slice_get (map (λ o. o.port) all) place ≡ Some port → Records t text port
  named place port e is = go (slice_get all place) refl
    where
      go : (o : Option OutputAt) → slice_get all place ≡ o → Records t text port
      go None h = let x : option_map (λ (q : OutputAt). q.port) None ≡ Some port = sym (ap (option_map (λ (q : OutputAt). q.port)) h) ∙ sym (slice_get-map (λ (q : OutputAt). q.port) all place) ∙ is in absurd cc
      go (Some o) h =
          let x : Some o.port ≡ Some port = sym (ap (option_map (λ (q : OutputAt). q.port)) h) ∙ sym (slice_get-map (λ (q : OutputAt). q.port) all place) ∙ is in
          let y : Some o.path ≡ Some text = sym (ap (option_map (λ (q : OutputAt). q.path)) h) ∙ sym (slice_get-map (λ (q : OutputAt). q.path) all place) ∙ position_text text paths place e in
          let port_same : o.port ≡ port = cc in
          let path_same : o.path ≡ text = cc in
          let w = filter_map_contains (sought_of records) t.ports o (contains_slice all place o h) in
          let v = output_from w.0 o (sought_from w.0 o w.2) in
          (w.0, record { there = w.1; opaque = v.0; output = v.1; told = v.2 ∙ path_same }, sym port_same ∙ v.3)

  pub place_below : (place : ℕ) → position (bytes_eq text) paths ≡ Some place → place < length (map (λ o. o.port) all)
  place_below place e = omega (arith, slice_get_within paths place text (position_text text paths place e), length-map all (λ (o : OutputAt). o.path), length-map all (λ (o : OutputAt). o.port))

pub unnamed_told : (t : Tables) (records : List (List ℕ)) (i : ℕ) (text : List ℕ) → slice_get records i ≡ Some text → position (bytes_eq text) (map (λ o. o.path) (sought_in records t.ports)) ≡ None → IsRecordFault t records (shown text)
unnamed_told t records i text is e = names_no_port text (contains_slice records i text is) (unnamed t records text i is e)

pub recorded_more : (t : Tables) (records : List (List ℕ)) (i : ℕ) (d : List ℕ) (ports : List NetPort) (port : NetPort) → i < length records → position (bytes_eq (get_or records i d)) records ≡ Some i → Records t (get_or records i d) port → AreRecorded t records i ports → AreRecorded t records (i + 1) (ports ++ port ∷ [])
recorded_more t records i d ports port within first' r so_far = record {
  named = subst (λ (ts : List (List ℕ)). AllZip (Records t) ts (ports ++ port ∷ [])) (sym (take_more records i d within)) (zip_push (Records t) (take i records) ports (get_or records i d) port so_far.named r);
  first = λ k text below is. elim (cases_eq k i) [ inl e ↦ newest k text e is | inr ne ↦ so_far.first k text (omega arith) is ];
}
  where
    newest : (k : ℕ) (text : List ℕ) → k ≡ i → slice_get records k ≡ Some text → position (bytes_eq text) records ≡ Some k
    newest k text e is =
        let a : get_or records i d ≡ text = ap (λ j. get_or records j d) (sym e) ∙ get_or_from_slice_get records k text d is in
        subst (λ (x : List ℕ). position (bytes_eq x) records ≡ Some k) a (first' ∙ ap Some (sym e))

-- the outputs of one port more
pub outputs_more : (records : List (List ℕ)) (ports : List PortAt) (p : PortAt) → sought_in records (ports ++ p ∷ []) ≡ sought_in records ports ++ sought_in records (p ∷ [])
outputs_more records ports p = filter_map-append (sought_of records) ports (p ∷ [])

outputs_view : (records : List (List ℕ)) (ports : List PlacedPort) (i : ℕ) (d : PlacedPort) → i < length ports → sought_in records (ports_view (take (i + 1) ports)) ≡ sought_in records (ports_view (take i ports)) ++ sought_in records (port_at (get_or ports i d) ∷ [])
outputs_view records ports i d within = ap (sought_in records) (map_more port_at ports i d within) ∙ outputs_more records (ports_view (take i ports)) (port_at (get_or ports i d))

pub outputs_next : (records : List (List ℕ)) (ports : List PlacedPort) (i : ℕ) (p : PlacedPort) (paths new_paths : List (List ℕ)) (held new_held : List NetPort) → i < length ports → p ≡ get_or ports i p → new_paths ≡ paths ++ map (λ o. o.path) (sought_in records (port_at p ∷ [])) → new_held ≡ held ++ map (λ o. o.port) (sought_in records (port_at p ∷ [])) → paths ≡ map (λ o. o.path) (sought_in records (ports_view (take i ports))) → held ≡ map (λ o. o.port) (sought_in records (ports_view (take i ports))) → (new_paths ≡ map (λ o. o.path) (sought_in records (ports_view (take (i + 1) ports)))) × (new_held ≡ map (λ o. o.port) (sought_in records (ports_view (take (i + 1) ports))))
outputs_next records ports i p old_paths new_paths held new_held within is a b c d =
    let before = sought_in records (ports_view (take i ports)) in
    let here = sought_in records (port_at p ∷ []) in
    let all : sought_in records (ports_view (take (i + 1) ports)) ≡ before ++ here = outputs_view records ports i p within ∙ ap (λ (q : PlacedPort). before ++ sought_in records (port_at q ∷ [])) (sym is) in
    (a ∙ ap (λ (xs : List (List ℕ)). xs ++ map (λ o. o.path) here) c ∙ sym (map-append (λ (o : OutputAt). o.path) before here) ∙ ap (map (λ (o : OutputAt). o.path)) (sym all), b ∙ ap (λ (xs : List NetPort). xs ++ map (λ o. o.port) here) d ∙ sym (map-append (λ (o : OutputAt). o.port) before here) ∙ ap (map (λ (o : OutputAt). o.port)) (sym all))
