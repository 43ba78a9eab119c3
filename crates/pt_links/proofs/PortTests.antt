-- What the tests of a port's links find.
use Rattle.std.proofs.Common.{◌≡◌, ℕ, ◌≤◌, inl, inr, Bool, true, false, ◌&&◌, ◌||◌, Some, List, [], length, nat_eq, nat_lt, ap}
use Rattle.std.proofs.lemmas.Bool.{or_cases, or_parts, and_parts, and_cases, and_from, ltb-true, ltb-false, eqb-true, both_ways}
use Rattle.std.proofs.lemmas.List.{nil_from_length}
use Rattle.std.specs.List.{slice_get}
use Rattle.pt_net.specs.Table.{PortAt, Tables, port_path}
use Rattle.pt_net.specs.Wires.{is_input, outside_of, inside_of}
use Rattle.pt_net.specs.Net.{wires}
use Rattle.pt_net.specs.Stands.{IsLinkFault, twice_outside, twice_inside, no_link, no_link_inside, no_channel, is_single, is_many, needs_link, needs_link_inside}
use Rattle.pt_links.specs.Wiring.{IsFine, is_amiss, lacks_channel}

module _ (t : Tables) (g : ℕ) (p : PortAt) (is : slice_get t.ports g ≡ Some p) where
  abbrev out : List ℕ
  out = outside_of (wires t) g

  abbrev ins : List ℕ
  ins = inside_of (wires t) g

  abbrev a : Bool
  a = is_single p && nat_lt 1 (length out)

  abbrev b : Bool
  b = nat_lt 1 (length ins)

  abbrev c : Bool
  c = needs_link p && nat_eq (length out) 0

  abbrev d : Bool
  d = needs_link_inside p && nat_eq (length ins) 0

  pub amiss_told : is_amiss p (length out) (length ins) ≡ true → IsLinkFault t (port_path p)
  amiss_told h =
      elim (or_cases (a || b) (c || d) h) [
        | inl ab ↦ elim (or_cases a b ab) [
          | inl e ↦ (let w = and_parts (is_single p) (nat_lt 1 (length out)) e in twice_outside g p is w.0 (ltb-true 1 (length out) w.1))
          | inr e ↦ twice_inside g p is (ltb-true 1 (length ins) e)
        ]
        | inr cd ↦ elim (or_cases c d cd) [
          | inl e ↦ (let w = and_parts (needs_link p) (nat_eq (length out) 0) e in no_link g p is w.0 (nil_from_length out (eqb-true (length out) 0 w.1)))
          | inr e ↦ (let w = and_parts (needs_link_inside p) (nat_eq (length ins) 0) e in no_link_inside g p is w.0 (nil_from_length ins (eqb-true (length ins) 0 w.1)))
        ]
      ]

  pub lacking_told : lacks_channel p (length out) ≡ true → IsLinkFault t p.standing.path
  lacking_told h =
      let w = and_parts (is_input p && is_many p) (nat_eq (length out) 0) h in
      let v = and_parts (is_input p) (is_many p) w.0 in
      no_channel g p is v.0 v.1 (nil_from_length out (eqb-true (length out) 0 w.1))

  -- a test that failed, and the fact that it asked for
  not_empty : (x : Bool) (xs : List ℕ) → (x && nat_eq (length xs) 0) ≡ false → x ≡ true → xs ≡ [] → ⊥
  not_empty x xs h e nil = both_ways (x && nat_eq (length xs) 0) h (and_from x (nat_eq (length xs) 0) e (ap (λ (ys : List ℕ). nat_eq (length ys) 0) nil))

  short : (x : Bool) (n : ℕ) → (x && nat_lt 1 n) ≡ false → x ≡ true → n ≤ 1
  short x n h e = elim (and_cases x (nat_lt 1 n) h) [ inl f ↦ absurd (both_ways x f e) | inr f ↦ ltb-false 1 n f ]

  pub fine : is_amiss p (length out) (length ins) ≡ false → lacks_channel p (length out) ≡ false → IsFine t g p
  fine h k =
      let w = or_parts (a || b) (c || d) h in
      let u = or_parts a b w.0 in
      let v = or_parts c d w.1 in
      record {
        single = λ e. short (is_single p) (length out) u.0 e;
        single_inside = ltb-false 1 (length ins) u.1;
        linked = λ e nil. not_empty (needs_link p) out v.0 e nil;
        linked_inside = λ e nil. not_empty (needs_link_inside p) ins v.1 e nil;
        has_channel = λ e f nil. not_empty (is_input p && is_many p) out k (and_from (is_input p) (is_many p) e f) nil;
      }
