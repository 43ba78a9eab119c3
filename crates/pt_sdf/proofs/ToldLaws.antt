-- The calls that need no walk, at the fields of a core.
use Rattle.std.proofs.Common.{◌≡◌, ℕ, ◌+◌, ◌<◌, ◌≤◌, ◌&&◌, List, [], ◌∷◌, true, Some, length, replicate, pos, get_or, take, drop, map, nat_eq, refl, ap, sym, subst, ◌∙◌, arith, inl}
use Rattle.std.proofs.lemmas.Bool.Decides.{nat_tests}
use Rattle.std.proofs.lemmas.List.{get_or-drop, get_or-take, length-take, length-replicate}
use Rattle.pt_meaning.specs.Streams.{Streams}
use Rattle.pt_meaning.specs.Rounds.{has_rates}
use Rattle.pt_value.specs.declared.token.Token.{Token}
use Rattle.pt_value.specs.declared.token.Token.TheVariants.{Int}
use Rattle.pt_sdf_parts.specs.declared.feeds.Feed.{Feed}
use Rattle.pt_sdf.specs.declared.sdf.Stage.TheVariants as code
use Rattle.pt_sdf.specs.declared.sdf.Core.TheInside.{Inside}
use Rattle.pt_sdf_parts.specs.ByNeed.{place_of, skip_at}
use Rattle.pt_sdf.specs.State.{after_told}
use Rattle.pt_meaning.specs.Running.{plus, puts}
use Rattle.pt_sdf_parts.specs.Plan.{plan_of}
use Rattle.pt_core.specs.Source.{source_of}
use Rattle.pt_sdf_parts.specs.Feeds.{Target, no_feed, target_of, rows_in, put_back, AreThere}
use Rattle.pt_sdf_parts.specs.declared.lanes.Lane.{Lane}
use Rattle.pt_sdf_parts.specs.declared.lanes.Inlet.TheVariants as inlet
use Rattle.pt_sdf_parts.specs.declared.lanes.Outlet.{Outlet}
use Rattle.pt_sdf_parts.specs.declared.lanes.Outlet.TheVariants.{Nothing, One, Burst, Several}
use Rattle.pt_sdf_parts.specs.Lanes.{IsInlet, FitsInlet, IsOutlet, FitsOutlet, IsLane, IsOutletIn, NeedsOneEach, no_lane, targets_of, count_of}
use Rattle.pt_sdf_parts.specs.Rooms.{HaveRooms}
use Rattle.pt_sdf.specs.Core.{state_of, state_in, seen_in, unmoved, Sound, IsSound, IsWhole, order_in, at_in}
use Rattle.pt_sdf_parts.specs.Stretches.{place_behind}
use Rattle.pt_sdf_parts.proofs.Lists.{read-at, skip-long}
use Rattle.pt_sdf.proofs.SoundLaws.{told-sound, told-firings}
use Rattle.pt_sdf.proofs.CallLaws.{child-puts-on, child-feeds-there, told-state}
use Rattle.pt_sdf.proofs.CoreLaws.{SoundAt, asked-rooms, told-child}
use Rattle.pt_sdf.proofs.HandLaws.{reopened, handing, reopened-sound, reopened-left, reopened-next, busy-there, busy-rooms, place-is, unmoved-fits, unmoved-enough, offset-read, handing-sound, handing-told}
use Rattle.pt_sdf_parts.proofs.LaneLaws.{given-keeps, given-long, given-skip, outlet-of}

-- what is told of a child
module _ (i : Inside) (w : IsWhole i) (child : ℕ) (h : child < length i.plan.places) (lane : Lane) (e : lane ≡ get_or i.tables.lanes.items child lane) where
  pub is-lane : IsLane i.plan.needs (place_of i.plan.places child) (get_or i.plan.places child 0) (get_or i.plan.rates.items child []) (get_or (rows_in i.tables.feeds.items) child []) lane
  is-lane =
      subst (λ v. IsLane i.plan.needs (place_of i.plan.places child) (get_or i.plan.places child 0) (get_or i.plan.rates.items child []) (get_or (rows_in i.tables.feeds.items) child []) v)
      (sym (read-at i.tables.lanes.items child lane no_lane (omega (arith, h, w.lanes.counted)) e)) (w.lanes.each child h)

  pub source-of : lane.inlet ≡ inlet.Nothing → get_or i.plan.places child 0 ≡ 0
  source-of f = subst (λ v. FitsInlet i.plan.needs (place_of i.plan.places child) (get_or i.plan.places child 0) v) f is-lane.inlet

  pub inlet-of : (c need : ℕ) → lane.inlet ≡ inlet.Alone c need → IsInlet i.plan.needs (place_of i.plan.places child) (get_or i.plan.places child 0) c need
  inlet-of c need f = subst (λ v. FitsInlet i.plan.needs (place_of i.plan.places child) (get_or i.plan.places child 0) v) f is-lane.inlet

  pub each-of : lane.inlet ≡ inlet.Each → NeedsOneEach i.plan.needs (place_of i.plan.places child) (get_or i.plan.places child 0)
  each-of f = subst (λ v. FitsInlet i.plan.needs (place_of i.plan.places child) (get_or i.plan.places child 0) v) f is-lane.inlet

-- it was told so many tokens, and feeds these channels alone
module _ (i : Inside) (s : IsSound i) (child : ℕ) (g : i.stage ≡ code.Handed child) (tokens : List Token) (count : ℕ) (m : length tokens ≡ count) (ts : List Target) (o : IsOutlet (get_or i.plan.rates.items child []) (get_or (rows_in i.tables.feeds.items) child []) count ts) where
  told : SoundAt i (code.Handed child)
  told = subst (λ v. SoundAt i v) g s

  fits : has_rates (get_or i.plan.rates.items child []) (tokens ∷ []) ≡ true
  fits = subst (λ v. has_rates v (tokens ∷ []) ≡ true) (sym o.rate) (subst (λ v. has_rates (v ∷ []) (tokens ∷ []) ≡ true) m (one-rated tokens))
    where
      one-rated : (tokens : List Token) → has_rates (length tokens ∷ []) (tokens ∷ []) ≡ true
      one-rated tokens =
          let t : nat_eq (length tokens) (length tokens) ≡ true = grind (arith, nat_tests) in
          ap (λ b. b && true) t

  there-all : AreThere (length i.channels.lists) 1 (get_or (rows_in i.tables.feeds.items) child [])
  there-all = child-feeds-there (plan_of i.plan) i.plan.needs (order_in i) i.plan.room i.tables.offsets.items i.tables.feeds.items i.first.lists i.channels.lists i.rooms.items i.lent.items i.staged.list i.turns i.left (at_in i) i.stage s child (tokens ∷ []) (told-child i s child g) fits

  pub fed-there : (c : ℕ) → ts ≡ record { channel = c; port = 0 } ∷ [] → c < length i.channels.lists
  fed-there c e = one-there (get_or (rows_in i.tables.feeds.items) child []) c (o.fed ∙ e) there-all
    where
      one-there : (fs : List Feed) (c : ℕ) → map target_of fs ≡ record { channel = c; port = 0 } ∷ [] → AreThere (length i.channels.lists) 1 fs → c < length i.channels.lists
      one-there [] c e h = absurd (cc)
      one-there (f ∷ fs) c e h = subst (λ v. v < length i.channels.lists) (ap (λ v. (get_or v 0 (target_of no_feed)).channel) e) (h.channels 0 (omega arith))

  module _ (held' : Streams Token) (d : held' ≡ put_back ts (tokens ∷ []) i.channels.lists) (next : ℕ × ℕ) (n : next ≡ place_behind (nat_eq ((at_in i) + 1) (length (order_in i))) i.left (at_in i)) where
    puts-are : held' ≡ plus i.channels.lists (puts child (tokens ∷ []) (map source_of i.plan.sources.items))
    puts-are = child-puts-on (plan_of i.plan) i.plan.needs (order_in i) i.plan.room i.tables.offsets.items i.tables.feeds.items i.first.lists i.channels.lists i.rooms.items i.lent.items i.staged.list i.turns i.left (at_in i) i.stage s child ts (tokens ∷ []) held' (told-child i s child g) o.fed d

    pub outlet-sound : HaveRooms i.plan.needs i.rooms.items (place_of i.plan.places child) (get_or i.plan.places child 0) → Sound (plan_of i.plan) i.plan.needs (order_in i) i.plan.room i.tables.offsets.items i.tables.feeds.items i.first.lists held' i.rooms.items i.lent.items i.staged.list i.turns next.0 next.1 code.Open
    outlet-sound roomy =
        told-sound (plan_of i.plan) i.plan.needs (order_in i) i.plan.room i.tables.offsets.items i.tables.feeds.items i.first.lists i.channels.lists i.rooms.items i.lent.items i.staged.list i.turns i.left (at_in i) child told (tokens ∷ []) held' i.rooms.items i.staged.list next fits puts-are
        s.none_staged refl (λ k h. h) roomy n

    pub outlet-state : state_of (plan_of i.plan) i.plan.needs (order_in i) i.first.lists held' i.lent.items i.turns next.0 next.1 i.tag code.Open ≡ after_told child (tokens ∷ []) (state_in i)
    outlet-state =
        told-state (plan_of i.plan) i.plan.needs (order_in i) i.first.lists i.channels.lists held' i.lent.items i.turns i.left (at_in i) child next i.tag i.stage (tokens ∷ []) fits puts-are
        (told-firings (plan_of i.plan) i.plan.needs (order_in i) i.plan.room i.tables.offsets.items i.tables.feeds.items i.first.lists i.channels.lists i.rooms.items i.lent.items i.staged.list i.turns i.left (at_in i) child told next n)

-- a child that was asked for alone gave tokens by its lane, and its inputs, at n places from o on, are taken behind that
module _ (i : Inside) (w : IsWhole i) (child : ℕ) (g : i.stage ≡ code.Asked child) (lane : Lane) (e : lane ≡ get_or i.tables.lanes.items child lane) where
  pub lane-there : child < length i.plan.places
  lane-there = busy-there i w.sound child (inl g)

  fits-outlet : FitsOutlet (get_or i.plan.rates.items child []) (get_or (rows_in i.tables.feeds.items) child []) lane.outlet
  fits-outlet = (is-lane i w child lane-there lane e).outlet

  module _ (o n : ℕ) (f : o ≡ get_or i.tables.offsets.items child o) (p : n ≡ get_or i.plan.places child 0) where
    unmoved-all : n ≡ unmoved i.stage n
    unmoved-all = sym (ap (λ v. unmoved v n) g)

    abbrev taken : Streams Token
    taken = skip_at o (take n (drop o i.plan.needs)) i.channels.lists

    sound : IsSound (handing i child taken)
    sound = handing-sound i w.sound child (inl g) o n n f p unmoved-all taken refl

    pub lane-enough : (k : ℕ) → k < n → get_or i.plan.needs (o + k) 0 ≤ length (get_or i.channels.lists (o + k) [])
    lane-enough = unmoved-enough i w.sound child (inl g) o n n f p unmoved-all

    pub lane-inlet : FitsInlet i.plan.needs o n lane.inlet
    lane-inlet =
        subst (λ v. FitsInlet i.plan.needs v n lane.inlet) (sym (place-is i w.sound child (inl g) o n n f p unmoved-all))
        (subst (λ v. FitsInlet i.plan.needs (place_of i.plan.places child) v lane.inlet) (sym p) (is-lane i w child lane-there lane e).inlet)

    pub lane-fits : (o + n ≤ length i.channels.lists) × (o + n ≤ length i.plan.needs)
    lane-fits = unmoved-fits i w.sound child (inl g) o n n f p unmoved-all

    module _ (tokens : List Token) (count : count_of lane.outlet ≡ Some (length tokens)) (given : Streams Token) (a : given ≡ put_back (targets_of lane.outlet) (tokens ∷ []) i.channels.lists) where
      pub lane-given-places : o + n ≤ length given
      lane-given-places = omega (arith, lane-fits.0, ap (λ v. length v) a, given-long lane.outlet tokens i.channels.lists)

      pub lane-given-enough : (k : ℕ) → k < n → get_or i.plan.needs (o + k) 0 ≤ length (get_or given (o + k) [])
      lane-given-enough k h = omega (arith, lane-enough k h, given-keeps lane.outlet tokens i.channels.lists (o + k), ap (λ v. length (get_or v (o + k) [])) a)

      module _ (held' : Streams Token) (b : held' ≡ skip_at o (take n (drop o i.plan.needs)) given) (next : ℕ × ℕ) (d : next ≡ place_behind (nat_eq ((at_in i) + 1) (length (order_in i))) i.left (at_in i)) where
        enough-taken : (k : ℕ) → k < length (take n (drop o i.plan.needs)) → get_or (take n (drop o i.plan.needs)) k 0 ≤ length (get_or i.channels.lists (o + k) [])
        enough-taken k h =
            let l : k < n = omega (arith, h, length-take n (drop o i.plan.needs)) in
            subst (λ v. v ≤ length (get_or i.channels.lists (o + k) [])) (sym (get_or-take n (drop o i.plan.needs) k 0 l ∙ get_or-drop o i.plan.needs k 0)) (lane-enough k l)

        put-is : held' ≡ put_back (targets_of lane.outlet) (tokens ∷ []) taken
        put-is = b ∙ ap (λ v. skip_at o (take n (drop o i.plan.needs)) v) a ∙ given-skip lane.outlet tokens i.channels.lists o (take n (drop o i.plan.needs)) enough-taken

        outlet : IsOutlet (get_or i.plan.rates.items child []) (get_or (rows_in i.tables.feeds.items) child []) (length tokens) (targets_of lane.outlet)
        outlet = outlet-of (get_or i.plan.rates.items child []) (get_or (rows_in i.tables.feeds.items) child []) lane.outlet (length tokens) fits-outlet count

        pub lane-sound : Sound (plan_of i.plan) i.plan.needs (order_in i) i.plan.room i.tables.offsets.items i.tables.feeds.items i.first.lists held' i.rooms.items i.lent.items i.staged.list i.turns next.0 next.1 code.Open
        lane-sound =
            outlet-sound (handing i child taken) sound child refl tokens (length tokens) refl (targets_of lane.outlet) outlet held' put-is next d
            (busy-rooms i w.sound child (inl g) o n n f p unmoved-all i.rooms.items (asked-rooms (reopened i) (reopened-sound i w.sound child g) refl (reopened-left i w.sound child g) child (reopened-next i w.sound child g) o n f p))

        pub lane-state : state_of (plan_of i.plan) i.plan.needs (order_in i) i.first.lists held' i.lent.items i.turns next.0 next.1 i.tag code.Open ≡ after_told child (tokens ∷ []) (seen_in i)
        lane-state =
            outlet-state (handing i child taken) sound child refl tokens (length tokens) refl (targets_of lane.outlet) outlet held' put-is next d
            ∙ handing-told i w.sound child (inl g) o n n f p unmoved-all taken refl (tokens ∷ [])

  pub lane-outlet : IsOutletIn (length i.channels.lists) lane.outlet
  lane-outlet = by lane.outlet fits-outlet
    where
      at-place : place_of i.plan.places child ≡ get_or i.tables.offsets.items child (place_of i.plan.places child)
      at-place = offset-read i w.sound child lane-there

      fed : (c count : ℕ) → IsOutlet (get_or i.plan.rates.items child []) (get_or (rows_in i.tables.feeds.items) child []) count (record { channel = c; port = 0 } ∷ []) → c < length i.channels.lists
      fed c count o =
          subst (λ v. c < v) (skip-long (place_of i.plan.places child) (take (get_or i.plan.places child 0) (drop (place_of i.plan.places child) i.plan.needs)) i.channels.lists)
          (fed-there (handing i child (taken (place_of i.plan.places child) (get_or i.plan.places child 0) at-place refl)) (sound (place_of i.plan.places child) (get_or i.plan.places child 0) at-place refl) child refl (replicate count (Int (pos 0))) count (length-replicate count (Int (pos 0))) (record { channel = c; port = 0 } ∷ []) o c refl)

      by : (o : Outlet) → FitsOutlet (get_or i.plan.rates.items child []) (get_or (rows_in i.tables.feeds.items) child []) o → IsOutletIn (length i.channels.lists) o
      by Nothing f = tt
      by (One c) f = fed c 1 f
      by (Burst c rate) f = fed c rate f
      by Several f = tt
