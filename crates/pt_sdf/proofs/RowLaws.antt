-- A core that is told of firings of one child in a row.
use Rattle.std.proofs.Common.{◌≡◌, ℕ, ℤ, zero, suc, ◌+◌, ◌*◌, ◌<◌, ◌≤◌, ◌&&◌, List, [], ◌∷◌, length, map, get_or, nat_eq, take, drop, true, Vec, Global, inl, refl, ap, sym, subst, ◌∙◌, arith}
use Rattle.std.proofs.Math.Nat.{mul-le-mul_right}
use Rattle.std.proofs.lemmas.Bool.Decides.{nat_tests}
use Rattle.std.proofs.lemmas.List.{length-map, length-take-le, length-drop, take_all}
use Rattle.pt_meaning.specs.Streams.{Streams}
use Rattle.pt_meaning.specs.Rounds.{has_rates}
use Rattle.pt_meaning.specs.Running.{plus, puts}
use Rattle.pt_value.specs.declared.token.Token.{Token}
use Rattle.pt_value.specs.declared.token.Token.TheVariants.{Int}
use Rattle.pt_firing.specs.declared.ask.Ask.TheVariants as ask
use Rattle.pt_core.specs.Source.{source_of}
use Rattle.pt_sdf.specs.declared.sdf.Stage.TheVariants as code
use Rattle.pt_sdf.specs.declared.sdf.Core.TheInside.{Inside}
use Rattle.pt_sdf_parts.specs.ByNeed.{place_of, skip_at}
use Rattle.pt_sdf.specs.State.{after_told, lent_in}
use Rattle.pt_sdf.specs.Clauses.{State, IsAsked}
use Rattle.pt_sdf.specs.InARow.{AsksAgain, TellsInTurn, given_by}
use Rattle.pt_sdf_parts.specs.Feeds.{target_of, put_back, AreThere, AreApart}
use Rattle.pt_sdf_parts.specs.declared.lanes.Inlet.{Inlet}
use Rattle.pt_sdf_parts.specs.declared.lanes.Inlet.TheVariants as inlet
use Rattle.pt_sdf_parts.specs.Lanes.{FitsInlet, IsInletIn, HasRow, row_left}
use Rattle.pt_sdf_parts.specs.declared.feeds.Feed.{Feed}
use Rattle.pt_sdf_parts.specs.declared.lanes.Lane.{Lane}
use Rattle.pt_sdf_parts.specs.Plan.{plan_of}
use Rattle.pt_sdf_parts.specs.Stretches.{no_stretch, place_at, IsAdvanced}
use Rattle.pt_sdf.specs.Core.{state_of, seen_in, unmoved, Sound, IsSound, IsWhole, order_in, at_in}
use Rattle.pt_sdf.proofs.SoundLaws.{told-sound, told-firings, asked-alone}
use Rattle.pt_sdf.proofs.CallLaws.{told-state, row-targets, child-ports}
use Rattle.pt_sdf.proofs.CallLaws as calls
use Rattle.pt_sdf_parts.proofs.FeedLaws.{put-back-is, row-puts}
use Rattle.pt_sdf.proofs.ToldLaws.{is-lane}
use Rattle.pt_sdf.proofs.CoreLaws.{SoundAt, asked-rooms, asked-allowed, seen-at}
use Rattle.pt_sdf.proofs.HandLaws.{reopened, handing, reopened-sound, reopened-left, reopened-next, busy-there, busy-left, busy-rooms, unmoved-fits, offset-read, handing-sound, handing-told}
use Rattle.pt_sdf_parts.proofs.StretchLaws.{place-child, stays-in-stretch}
use Rattle.pt_sdf.proofs.RowLists.{skipped, after_row, row-apart, row-left-is, row-enough, row-left-long}

-- the child asked for, after so many firings of its stretch, with these channels
abbrev pub asked_at : Inside → ℕ → (done : ℕ) → Streams Token → Inside
asked_at i child done X = record { plan = i.plan; tables = i.tables; first = i.first; channels = record { lists = X; spares = i.channels.spares }; rooms = i.rooms; lent = i.lent; heavy = i.heavy; staged = i.staged; tag = i.tag; turns = i.turns; left = i.left; at = i.at; done = done; stage = code.Asked child }

-- where its places begin, and what it needs there
abbrev pub from_of : Inside → ℕ → ℕ
from_of i child = place_of i.plan.places child

abbrev pub needs_of : Inside → ℕ → List ℕ
needs_of i child = take (get_or i.plan.places child 0) (drop (from_of i child) i.plan.needs)

abbrev pub fed_by : Inside → ℕ → Streams Token → Streams Token
fed_by i child out = puts child out (map source_of i.plan.sources.items)

-- one firing more, with which the order goes on
module _ (i : Inside) (w : IsWhole i) (child : ℕ) (g : i.stage ≡ code.Asked child) (out : Streams Token) (r : has_rates (get_or i.plan.rates.items child []) out ≡ true) (left' at' done' : ℕ) (goes : IsAdvanced i.plan.order.items i.left i.at i.done left' at' done') where
  there : child < length i.plan.places
  there = busy-there i w.sound child (inl g)

  abbrev o : ℕ
  o = from_of i child

  abbrev n : ℕ
  n = get_or i.plan.places child 0

  begins : o ≡ get_or i.tables.offsets.items child o
  begins = offset-read i w.sound child there

  all-unmoved : n ≡ unmoved i.stage n
  all-unmoved = sym (ap (λ v. unmoved v n) g)

  abbrev taken : Streams Token
  taken = skip_at o (needs_of i child) i.channels.lists

  without : IsSound (handing i child taken)
  without = handing-sound i w.sound child (inl g) o n n begins refl all-unmoved taken refl

  abbrev next : ℕ × ℕ
  next = (left', place_at at' done' i.plan.order.items)

  pub told-on-sound : Sound (plan_of i.plan) i.plan.needs (order_in i) i.plan.room i.tables.offsets.items i.tables.feeds.items i.first.lists (plus taken (fed_by i child out)) i.rooms.items i.lent.items i.staged.list i.turns left' (place_at at' done' i.plan.order.items) code.Open
  told-on-sound =
      told-sound (plan_of i.plan) i.plan.needs (order_in i) i.plan.room i.tables.offsets.items i.tables.feeds.items i.first.lists taken i.rooms.items i.lent.items i.staged.list i.turns i.left (at_in i) child without out (plus taken (fed_by i child out)) i.rooms.items i.staged.list next r refl
      w.sound.none_staged refl (λ k had. had)
      (busy-rooms i w.sound child (inl g) o n n begins refl all-unmoved i.rooms.items (asked-rooms (reopened i) (reopened-sound i w.sound child g) refl (reopened-left i w.sound child g) child (reopened-next i w.sound child g) o n begins refl)) goes.place

  pub told-on-state : state_of (plan_of i.plan) i.plan.needs (order_in i) i.first.lists (plus taken (fed_by i child out)) i.lent.items i.turns left' (place_at at' done' i.plan.order.items) i.tag code.Open ≡ after_told child out (seen_in i)
  told-on-state =
      told-state (plan_of i.plan) i.plan.needs (order_in i) i.first.lists taken (plus taken (fed_by i child out)) i.lent.items i.turns i.left (at_in i) child next i.tag (code.Handed child) out r refl
      (told-firings (plan_of i.plan) i.plan.needs (order_in i) i.plan.room i.tables.offsets.items i.tables.feeds.items i.first.lists taken i.rooms.items i.lent.items i.staged.list i.turns i.left (at_in i) child without next goes.place)
      ∙ handing-told i w.sound child (inl g) o n n begins refl all-unmoved taken refl out

-- its stretch isn't over then, and it is asked for again
module _ (i : Inside) (w : IsWhole i) (child : ℕ) (g : i.stage ≡ code.Asked child) (out : Streams Token) (r : has_rates (get_or i.plan.rates.items child []) out ≡ true) (h : i.done < (get_or i.plan.order.items i.at no_stretch).again) where
  left : 0 < i.left
  left = busy-left i w.sound child (inl g)

  goes : IsAdvanced i.plan.order.items i.left i.at i.done i.left i.at (i.done + 1)
  goes = stays-in-stretch i.plan.order.items i.left i.at i.done (w.stretch left) h

  abbrev held : Streams Token
  held = plus (skip_at (from_of i child) (needs_of i child) i.channels.lists) (fed_by i child out)

  abbrev later : Inside
  later = asked_at i child (i.done + 1) held

  -- the child's firings in the stretch aren't all made
  its-turn : get_or (order_in i) (place_at i.at (i.done + 1) i.plan.order.items) 0 ≡ child
  its-turn = place-child i.plan.order.items i.at (i.done + 1) goes.within ∙ sym (place-child i.plan.order.items i.at i.done (w.stretch left)) ∙ (subst (λ v. SoundAt i v) g w.sound).position.fits.1

  pub again-whole : IsWhole later
  again-whole = record {
    sound = asked-alone (plan_of i.plan) i.plan.needs (order_in i) i.plan.room i.tables.offsets.items i.tables.feeds.items i.first.lists held i.rooms.items i.lent.items i.staged.list i.turns i.left (place_at i.at (i.done + 1) i.plan.order.items) child (told-on-sound i w child g out r i.left i.at (i.done + 1) goes) left its-turn;
    stretch = λ l. goes.within;
    lanes = w.lanes;
  }

  pub again-asked : IsAsked (after_told child out (seen_in i)) (ask.Fire child i.tag) (seen_in later)
  again-asked =
      subst (λ (s : State). IsAsked s (ask.Fire child i.tag) (seen_in later)) (told-on-state i w child g out r i.left i.at (i.done + 1) goes)
      (refl, busy-there i w.sound child (inl g), asked-allowed (reopened later) (reopened-sound later again-whole.sound child refl) refl left child (reopened-next later again-whole.sound child refl), refl, refl)

-- each of the firings gives as many as the rate
given-rated : (rate : ℕ) (numbers : List ℤ) (firings j : ℕ) → length numbers ≡ firings * rate → j < firings → has_rates (rate ∷ []) (given_by rate numbers j) ≡ true
given-rated rate numbers firings j long short =
    let next : suc j ≤ firings = omega (arith, short) in
    let more : suc j * rate ≤ firings * rate = mul-le-mul_right rate next in
    let enough : rate ≤ length (drop (j * rate) numbers) = omega (arith, long, more, length-drop (j * rate) numbers) in
    let some : rate ≡ length (map Int (take rate (drop (j * rate) numbers))) = sym (length-map (take rate (drop (j * rate) numbers)) Int ∙ length-take-le rate (drop (j * rate) numbers) enough) in
    let same : nat_eq rate (length (map Int (take rate (drop (j * rate) numbers)))) ≡ true = grind (arith, nat_tests) in
    ap (λ b. b && true) same

-- many more
module _ (i : Inside) (w : IsWhole i) (child : ℕ) (g : i.stage ≡ code.Asked child) (rate : ℕ) (numbers : List ℤ) where
  -- the channels after so many firings
  abbrev pub row_held : ℕ → Streams Token
  row_held k = after_row child (from_of i child) (needs_of i child) rate numbers (map source_of i.plan.sources.items) k i.channels.lists

  abbrev pub row_at : ℕ → Inside
  row_at k = asked_at i child (i.done + k) (row_held k)

  -- what the next one takes
  abbrev pub row_inputs : ℕ → Streams Token
  row_inputs k = lent_in (seen_in (row_at k)).stage

  abbrev AtFirst : ℕ → Type 0
  AtFirst d = IsWhole (asked_at i child d i.channels.lists) × (seen_in (asked_at i child d i.channels.lists) ≡ seen_in i)

  at-first : AtFirst (i.done + 0)
  at-first =
      let same : i.done ≡ i.done + 0 = omega arith in
      subst AtFirst same (record { sound = subst (λ v. SoundAt i v) g w.sound; stretch = w.stretch; lanes = w.lanes }, seen-at i (code.Asked child) g)

  abbrev Later : ℕ → ℕ → Type 0
  Later k d = IsWhole (asked_at i child d (row_held (suc k))) × IsAsked (after_told child (given_by rate numbers k) (seen_in (row_at k))) (ask.Fire child i.tag) (seen_in (asked_at i child d (row_held (suc k))))

  -- it is asked for again after so many
  pub row-asked : (k : ℕ) → i.done + k ≤ (get_or i.plan.order.items i.at no_stretch).again → ((j : ℕ) → j < k → has_rates (get_or i.plan.rates.items child []) (given_by rate numbers j) ≡ true) → IsWhole (row_at k) × AsksAgain child row_inputs (given_by rate numbers) k (seen_in i) (seen_in (row_at k))
  row-asked zero within r = at-first
  row-asked (suc k) within r =
      let before = row-asked k (omega (arith, within)) (λ j l. r j (omega (arith, l))) in
      let fits = r k (omega arith) in
      let more : i.done + k < (get_or i.plan.order.items i.at no_stretch).again = omega (arith, within) in
      let same : i.done + k + 1 ≡ i.done + suc k = omega arith in
      let later : Later k (i.done + suc k) = subst (Later k) same (again-whole (row_at k) before.0 child refl (given_by rate numbers k) fits more, again-asked (row_at k) before.0 child refl (given_by rate numbers k) fits more) in
      (later.0, (seen_in (row_at k), before.1, refl, later.1))

  -- it is told of one more than that, with which the order goes on; and all of them took first, and then put what they gave
  module _ (again : ℕ) (within : i.done + again ≤ (get_or i.plan.order.items i.at no_stretch).again) (rates : get_or i.plan.rates.items child [] ≡ rate ∷ []) (long : length numbers ≡ suc again * rate) where
    fits : (j : ℕ) → j < suc again → has_rates (get_or i.plan.rates.items child []) (given_by rate numbers j) ≡ true
    fits j short = subst (λ v. has_rates v (given_by rate numbers j) ≡ true) (sym rates) (given-rated rate numbers (suc again) j long short)

    so-far : IsWhole (row_at again) × AsksAgain child row_inputs (given_by rate numbers) again (seen_in i) (seen_in (row_at again))
    so-far = row-asked again within (λ j short. fits j (omega (arith, short)))

    module _ (left' at' done' : ℕ) (goes : IsAdvanced i.plan.order.items i.left i.at (i.done + again) left' at' done') where
      pub row-told-sound : Sound (plan_of i.plan) i.plan.needs (order_in i) i.plan.room i.tables.offsets.items i.tables.feeds.items i.first.lists (row_held (suc again)) i.rooms.items i.lent.items i.staged.list i.turns left' (place_at at' done' i.plan.order.items) code.Open
      row-told-sound = told-on-sound (row_at again) so-far.0 child refl (given_by rate numbers again) (fits again (omega arith)) left' at' done' goes

      pub row-told : (seen : State) → seen_in i ≡ seen → TellsInTurn child row_inputs (given_by rate numbers) (suc again) seen (state_of (plan_of i.plan) i.plan.needs (order_in i) i.first.lists (row_held (suc again)) i.lent.items i.turns left' (place_at at' done' i.plan.order.items) i.tag code.Open)
      row-told seen e =
          subst (λ (s : State). TellsInTurn child row_inputs (given_by rate numbers) (suc again) s (state_of (plan_of i.plan) i.plan.needs (order_in i) i.first.lists (row_held (suc again)) i.lent.items i.turns left' (place_at at' done' i.plan.order.items) i.tag code.Open)) e
          (seen_in (row_at again), so-far.1, refl, told-on-state (row_at again) so-far.0 child refl (given_by rate numbers again) (fits again (omega arith)) left' at' done' goes, refl)

    in-place : child < length i.plan.places
    in-place = busy-there i w.sound child (inl g)

    -- the channels that the child feeds
    module _ (row : Vec Feed Global) (f : row ≡ get_or i.tables.feeds.items child row) where
      pub row-fed : AreThere (length i.channels.lists) 1 row.items
      row-fed =
          calls.row-there (plan_of i.plan) i.plan.needs (order_in i) i.plan.room i.tables.offsets.items i.tables.feeds.items i.first.lists i.channels.lists i.rooms.items i.lent.items i.staged.list i.turns i.left (at_in i) i.stage w.sound child row (omega (arith, in-place)) f 1
          (child-ports (plan_of i.plan) i.plan.needs (order_in i) i.plan.room i.tables.offsets.items i.tables.feeds.items i.first.lists i.channels.lists i.rooms.items i.lent.items i.staged.list i.turns i.left (at_in i) i.stage w.sound child (given_by rate numbers 0) in-place (fits 0 (omega arith)))

      pub row-fed-apart : AreApart row.items
      row-fed-apart = calls.row-apart (plan_of i.plan) i.plan.needs (order_in i) i.plan.room i.tables.offsets.items i.tables.feeds.items i.first.lists i.channels.lists i.rooms.items i.lent.items i.staged.list i.turns i.left (at_in i) i.stage w.sound child row (omega (arith, in-place)) f

    -- the channel of its one place
    module _ (lane : Lane) (e : lane ≡ get_or i.tables.lanes.items child lane) where
      fit : (from_of i child + get_or i.plan.places child 0 ≤ length i.channels.lists) × (from_of i child + get_or i.plan.places child 0 ≤ length i.plan.needs)
      fit = unmoved-fits i w.sound child (inl g) (from_of i child) (get_or i.plan.places child 0) (get_or i.plan.places child 0) (offset-read i w.sound child in-place) refl (sym (ap (λ v. unmoved v (get_or i.plan.places child 0)) g))

      lane-is : FitsInlet i.plan.needs (from_of i child) (get_or i.plan.places child 0) lane.inlet
      lane-is = (is-lane i w child in-place lane e).inlet

      pub row-inlet : IsInletIn (length i.channels.lists) lane.inlet
      row-inlet = by lane.inlet lane-is
        where
          by : (l : Inlet) → FitsInlet i.plan.needs (from_of i child) (get_or i.plan.places child 0) l → IsInletIn (length i.channels.lists) l
          by inlet.Nothing a = tt
          by (inlet.Alone c need) a = omega (arith, a.place, a.alone, fit.0)
          by inlet.Each a = tt
          by inlet.Several a = tt

      -- what the calls make of the channels
      module _ (has : HasRow lane.inlet (suc again) i.channels.lists) (row : Vec Feed Global) (f : row ≡ get_or i.tables.feeds.items child row) where
        pub row-put : put_back (map target_of row.items) (map Int numbers ∷ []) (row_left lane.inlet (suc again) i.channels.lists) ≡ row_held (suc again)
        row-put =
            let X : Streams Token = i.channels.lists in
            let left : Streams Token = row_left lane.inlet (suc again) X in
            let long-left : length (map source_of i.plan.sources.items) ≡ length left = sym (row-left-long lane.inlet (suc again) X ∙ w.sound.counted) in
            let all-given : take (suc again * rate) numbers ≡ numbers = take_all (suc again * rate) numbers (omega (arith, long)) in
            ap (λ v. put_back v (map Int numbers ∷ []) left) (row-targets (plan_of i.plan) i.plan.needs (order_in i) i.plan.room i.tables.offsets.items i.tables.feeds.items i.first.lists i.channels.lists i.rooms.items i.lent.items i.staged.list i.turns i.left (at_in i) i.stage w.sound child row (omega (arith, in-place)) f)
            ∙ put-back-is (length i.plan.places) child (map Int numbers ∷ []) (map source_of i.plan.sources.items) left long-left
            ∙ ap (λ v. plus left v) (row-puts (length i.plan.places) child (map Int numbers ∷ []) (map source_of i.plan.sources.items) in-place)
            ∙ ap (λ V. plus V (fed_by i child (map Int numbers ∷ []))) (row-left-is i.plan.needs (from_of i child) (get_or i.plan.places child 0) fit.1 X fit.0 lane.inlet (suc again) lane-is has)
            ∙ ap (λ ns. plus (skipped (from_of i child) (needs_of i child) (suc again) X) (fed_by i child (map Int ns ∷ []))) (sym all-given)
            ∙ sym (row-apart child (from_of i child) (needs_of i child) rate numbers (map source_of i.plan.sources.items) (suc again) X (row-enough i.plan.needs (from_of i child) (get_or i.plan.places child 0) fit.1 X fit.0 lane.inlet (suc again) lane-is has))
