-- Raising types by rules keeps them below each solution, and comes to an end.
use Rattle.std.proofs.Common.{◌≡◌, ℕ, zero, suc, ◌+◌, ◌-◌, ◌*◌, ◌≤◌, ◌<◌, ◌⊎◌, inl, inr, Bool, true, false, ◌||◌, List, [], ◌∷◌, length, get_or, set, All, map, refl, sym, ap, subst, ◌∙◌, if◌then◌else◌, arith}
use Rattle.std.proofs.lemmas.List.{length-set, get_or-set_same, get_or-set_other, get_or_default, map-set}
use Rattle.std.proofs.lemmas.List.Sums.{sum_by-set}
use Rattle.std.proofs.lemmas.Bool.{cases_lt}
use Rattle.std.proofs.Math.ListN.{get_or-map}
use Rattle.pt_datatypes.specs.Datatype.{Datatype, Unknown}
use Rattle.pt_datatypes.specs.Order.{is_below, IsBelow}
use Rattle.pt_datatypes.specs.Normal.{normal, IsType}
use Rattle.pt_datatypes.specs.Join.{join}
use Rattle.pt_datatypes.specs.Join.{joined as part_by_part}
use Rattle.pt_datatypes.specs.Rank.{rank, room}
use Rattle.pt_datatypes.specs.Rules.{type_at, AllBelow, AreMet, IsReached, IsLeastSolution, IsRaised}
use Rattle.pt_types.specs.Ty.{type_of, written}
use Rattle.pt_types.specs.declared.ty.Ty.{Ty}
use Rattle.pt_types.specs.declared.ty.Ty.TheVariants as ty
use Rattle.pt_datatypes.proofs.Order.{below-trans}
use Rattle.pt_datatypes.proofs.Joins.{normal_is_type, join-is_join}
use Rattle.pt_datatypes.proofs.Rank.{rank-type, rank-above}

-- what the program holds are types
pub all_types : (ts : List Ty) → All IsType (map type_of ts)
all_types ts k d short =
    subst IsType (sym (get_or_default (map type_of ts) k d (type_of ty.Unknown) short ∙ get_or-map type_of ts k ty.Unknown)) (normal_is_type (written (get_or ts k ty.Unknown)))

-- a number that is the one that changed, or not
same_or_other : (k v : ℕ) → (k ≡ v) ⊎ (k ≡ v → ⊥)
same_or_other zero zero = inl refl
same_or_other zero (suc v) = inr (λ e. omega (arith, e))
same_or_other (suc k) zero = inr (λ e. omega (arith, e))
same_or_other (suc k) (suc v) = elim (same_or_other k v) [ inl e ↦ inl (ap suc e) | inr d ↦ inr (λ e. d (omega (arith, e))) ]

-- the types after one is raised
types-set : (xs : List Datatype) (v : ℕ) (j : Datatype) → All IsType xs → IsType j → All IsType (set xs v j)
types-set xs v j all is k d short = elim (same_or_other k v) [
  | inl e ↦ subst IsType (sym (ap (λ i. get_or (set xs v j) i d) e ∙ get_or-set_same xs v j d (omega (arith, e, short, length-set xs v j)))) is
  | inr o ↦ subst IsType (sym (get_or-set_other xs v k j d o)) (all k d (omega (arith, short, length-set xs v j)))
]

type_at-unknowns : (ts : List Ty) → All (λ t. type_of t ≡ Unknown) ts → (k : ℕ) → type_at (map type_of ts) k ≡ Unknown
type_at-unknowns [] h k = refl
type_at-unknowns (t ∷ ts) h zero = h 0 t (omega arith)
type_at-unknowns (t ∷ ts) h (suc k) = type_at-unknowns ts (λ i d short. h (suc i) d (omega (arith, short))) k

differ : false ≡ true → ⊥
differ e = cc

-- a raise takes some of the room
pub room-raised : (v : ℕ) (w : Datatype) (xs ys : List Datatype) → v < length xs → All IsType xs → IsRaised v w xs ys true → room ys < room xs
room-raised v w xs ys short all h =
    let a : Datatype = type_at xs v in
    let j : Datatype = join a w in
    let is : IsType j = normal_is_type (part_by_part a w) in
    let up : rank a < rank j = elim (rank-above a j (all v Unknown short) is (join-is_join a w).first) [
      | inl e ↦ absurd (differ (sym h.0 ∙ subst (λ q. IsBelow w q) (sym e) (join-is_join a w).second))
      | inr low ↦ low
    ] in
    subst (λ q. room q < room xs) (sym h.1) (omega (arith, up, rank-type j is, sum_by-set (λ t. 1025 - rank t) xs v j Unknown short))

pub room-kept : (v : ℕ) (w : Datatype) (xs ys : List Datatype) (raised : Bool) → v < length xs → All IsType xs → IsRaised v w xs ys raised → 2 * room ys + (if raised then 1 else 0) ≤ 2 * room xs
room-kept v w xs ys true short all h = omega (arith, room-raised v w xs ys short all h)
room-kept v w xs ys false short all h = omega (arith, ap room h.1)

type_at-map : (ts : List Ty) (k : ℕ) (t : Ty) → k < length ts → t ≡ get_or ts k t → type_at (map type_of ts) k ≡ type_of t
type_at-map ts k t short is = get_or-map type_of ts k ty.Unknown ∙ ap type_of (get_or_default ts k ty.Unknown t short ∙ sym is)

-- what the program does where the value isn't below the type
pub raised-by : (ts : List Ty) (u v : ℕ) (w : Datatype) (t s value joined : Ty) → u ≡ v → u < length ts → t ≡ get_or ts v t → s ≡ get_or ts v s → type_of value ≡ w → is_below (type_of value) (type_of t) ≡ false → written joined ≡ join (type_of s) (type_of value) → IsRaised u w (map type_of ts) (map type_of (set ts v joined)) true
raised-by ts u v w t s value joined e short is also same low j =
    let inside : v < length ts = omega (arith, e, short) in
    let at = type_at-map ts v t inside is in
    let two = type_at-map ts v s inside also in
    let after : type_of joined ≡ join (type_at (map type_of ts) v) w = ap normal j ∙ normal_is_type (part_by_part (type_of s) (type_of value)) ∙ (λ i. join (sym two i) (same i)) in
    subst (λ m. IsRaised m w (map type_of ts) (map type_of (set ts v joined)) true) (sym e) ((λ i. is_below (sym same i) (at i)) ∙ low, map-set type_of ts v joined ∙ ap (λ x. set (map type_of ts) v x) after)

-- the target of a rule is one of the types
pub target-low : {R : Type 0} (target : R → ℕ) (rules : List R) (n m i : ℕ) (rule : R) → All (λ r. target r < n) rules → m ≡ n → i < length rules → rule ≡ get_or rules i rule → target rule < m
target-low target rules n m i rule all e short is = omega (arith, subst (λ q. target q < n) (sym is) (all i rule short), e)

module _ {R : Type 0} (target : R → ℕ) (value : R → List Datatype → Datatype) (grows : (rule : R) (xs ys : List Datatype) → AllBelow xs ys → IsBelow (value rule xs) (value rule ys)) (rules : List R) where
  -- a raise by one of the rules keeps the types below each solution
  pub reached-raise : (xs ys : List Datatype) (i : ℕ) (rule : R) (raised : Bool) → i < length rules → rule ≡ get_or rules i rule → target rule < length xs → IsRaised (target rule) (value rule xs) xs ys raised → IsReached target value rules xs → IsReached target value rules ys
  reached-raise xs ys i rule false short is low h r = subst (IsReached target value rules) (sym h.1) r
  reached-raise xs ys i rule true short is low h r =
      let w : Datatype = value rule xs in
      let v : ℕ = target rule in
      let j : Datatype = join (type_at xs v) w in
      subst (IsReached target value rules) (sym h.1) (record {
        are_types = types-set xs v j r.are_types (normal_is_type (part_by_part (type_at xs v) w));
        least = λ other s.
            let counted : length other ≡ length xs = s.counted ∙ length-set xs v j in
            let b = r.least other (record { counted = counted; are_types = s.are_types; met = s.met }) in
            let met : IsBelow (value rule other) (type_at other v) = subst (λ q. IsBelow (value q other) (type_at other (target q))) (sym is) (s.met i rule short) in
            let lower : IsBelow w (type_at other v) = below-trans w (value rule other) (type_at other v) (grows rule xs other b) met in
            let least : IsBelow j (type_at other v) = (join-is_join (type_at xs v) w).least (type_at other v) (s.are_types v Unknown (omega (arith, low, counted))) (b.each v) lower in
            record {
              counted = length-set xs v j ∙ b.counted;
              each = λ k. elim (same_or_other k v) [
                | inl e ↦ subst (λ q. IsBelow q (type_at other k)) (sym (ap (λ m. type_at (set xs v j) m) e ∙ get_or-set_same xs v j Unknown (omega (arith, low)))) (subst (λ m. IsBelow j (type_at other m)) (sym e) least)
                | inr o ↦ subst (λ q. IsBelow q (type_at other k)) (sym (get_or-set_other xs v k j Unknown o)) (b.each k)
              ];
            };
      })

-- where nothing is known all solutions are above
pub reached-unknowns : {R : Type 0} (target : R → ℕ) (value : R → List Datatype → Datatype) (rules : List R) (ts : List Ty) → All (λ t. type_of t ≡ Unknown) ts → IsReached target value rules (map type_of ts)
reached-unknowns target value rules ts unknown = record {
  are_types = all_types ts;
  least = λ other s. record {
    counted = sym s.counted;
    each = λ k. subst (λ q. IsBelow q (type_at other k)) (sym (type_at-unknowns ts unknown k)) refl;
  };
}

-- types below each solution that meet all rules are the least solution
pub least-end : {R : Type 0} (target : R → ℕ) (value : R → List Datatype → Datatype) (rules : List R) (n : ℕ) (xs : List Datatype) → length xs ≡ n → IsReached target value rules xs → AreMet target value rules xs → IsLeastSolution target value n rules xs
least-end target value rules n xs e r met = subst (λ m. IsLeastSolution target value m rules xs) e (record {
  solution = record { counted = refl; are_types = r.are_types; met = met };
  least = r.least;
})

-- a round so far: it has taken room, or all is as at its start and the rules so far are met
abbrev pub Round : {R : Type 0} → (R → ℕ) → (R → List Datatype → Datatype) → List R → ℕ → List Datatype → List Datatype → Bool → Type 0
Round target value rules i xs ys true = room ys < room xs
Round target value rules i xs ys false = (ys ≡ xs) × ((k : ℕ) → k < i → (rule : _) → rule ≡ get_or rules k rule → IsBelow (value rule ys) (type_at ys (target rule)))

pub round-more : {R : Type 0} (target : R → ℕ) (value : R → List Datatype → Datatype) (rules : List R) (i : ℕ) (xs ys zs : List Datatype) (any raised : Bool) (rule : R) → i < length rules → rule ≡ get_or rules i rule → target rule < length ys → All IsType ys → IsRaised (target rule) (value rule ys) ys zs raised → Round target value rules i xs ys any → Round target value rules (i + 1) xs zs (any || raised)
round-more target value rules i xs ys zs true true rule short is low all h r = omega (arith, r, room-raised (target rule) (value rule ys) ys zs low all h)
round-more target value rules i xs ys zs true false rule short is low all h r = omega (arith, r, ap room h.1)
round-more target value rules i xs ys zs false true rule short is low all h r = omega (arith, ap room r.0, room-raised (target rule) (value rule ys) ys zs low all h)
round-more target value rules i xs ys zs false false rule short is low all h r = (
  h.1 ∙ r.0,
  λ k lower other at. subst (λ us. IsBelow (value other us) (type_at us (target other))) (sym h.1) (elim (cases_lt k i) [
    | inl low ↦ r.1 k low other at
    | inr high ↦ (let k_is : k ≡ i = omega (arith, lower, high) in
        let same : other ≡ rule = at ∙ ap (λ j. get_or rules j other) k_is ∙ get_or_default rules i other rule short ∙ sym is in
        subst (λ q. IsBelow (value q ys) (type_at ys (target q))) (sym same) h.0)
  ]),
)

-- a round without a raise meets all rules
pub round-end : {R : Type 0} (target : R → ℕ) (value : R → List Datatype → Datatype) (rules : List R) (i : ℕ) (xs ys : List Datatype) (any : Bool) → length rules ≤ i → Round target value rules i xs ys any → any ≡ false → AreMet target value rules ys
round-end target value rules i xs ys true past r e = absurd (differ (sym e))
round-end target value rules i xs ys false past r e = λ k d short. r.1 k (omega (arith, short, past)) (get_or rules k d) (get_or_default rules k d (get_or rules k d) short)

pub round-room : {R : Type 0} (target : R → ℕ) (value : R → List Datatype → Datatype) (rules : List R) (i : ℕ) (xs ys : List Datatype) (any : Bool) → Round target value rules i xs ys any → any ≡ true → room ys < room xs
round-room target value rules i xs ys true r e = r
round-room target value rules i xs ys false r e = absurd (differ e)
