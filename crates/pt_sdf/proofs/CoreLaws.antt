-- The laws of the calls, at the fields of a core.
use Rattle.std.proofs.Common.{◌≡◌, ℕ, ◌+◌, ◌^◌, ◌<◌, ◌≤◌, ◌⊎◌, List, [], length, get_or, take, drop, map, nat_eq, true, false, Option, Some, None, Vec, Global, refl, ap, ap₂, sym, subst, ◌∙◌, arith}
use Rattle.std.proofs.lemmas.List.{length-map}
use Rattle.pt_meaning.specs.Tag.{Tag}
use Rattle.pt_meaning.specs.Streams.{Streams}
use Rattle.pt_meaning.specs.Rounds.{has_rates}
use Rattle.pt_meaning.specs.Kahn.{arrived, firsts}
use Rattle.pt_meaning.specs.Sdf.{or_one, iterations, times, leaves}
use Rattle.pt_meaning.specs.Running.{total, plus, puts}
use Rattle.pt_laws.proofs.FiringLaws.{arrived-long}
use Rattle.pt_value.specs.declared.token.Token.{Token}
use Rattle.pt_sdf_parts.specs.declared.feeds.Feed.{Feed}
use Rattle.pt_sdf.specs.declared.sdf.Stage as declared
use Rattle.pt_sdf.specs.declared.sdf.Stage.TheVariants as code
use Rattle.pt_sdf.specs.declared.sdf.Core.TheInside.{Inside}
use Rattle.pt_sdf_parts.specs.ByNeed.{place_of, skip_at}
use Rattle.pt_sdf.specs.State.{Open, Idle, Closed, Allows, IsEnough, asked_child, lent_in, asked, handed, restarted, begun, after_told, closed}
use Rattle.pt_sdf.specs.Clauses.{State}
use Rattle.pt_sdf_parts.specs.Plan.{plan_of}
use Rattle.pt_core.specs.Source.{source_of}
use Rattle.pt_sdf_parts.specs.Feeds.{target_of, put_back, allowed_by, AreThere, AreApart, MovesOnce}
use Rattle.pt_sdf_parts.specs.Rooms.{HasRoom, HaveRooms}
use Rattle.pt_sdf.specs.Core.{stage_of, state_of, state_in, with_asked, seen_in, busy, Sound, IsSound, order_in, at_in}
use Rattle.pt_sdf_parts.specs.Stretches.{left_at_first}
use Rattle.pt_sdf_parts.specs.Stretches.{place_behind}
use Rattle.pt_sdf_parts.proofs.Lists.{read-at, at-is, skip-long}
use Rattle.pt_sdf_parts.proofs.NeedLaws.{part-fits}
use Rattle.pt_sdf.proofs.SoundLaws.{child-there, offset-is, total-fits, enough, may-fire, ask-sound, asked-alone, stage-open, stage-idle, stage-closed, stage-asked, told-there, told-firings, told-sound, told-kept, wrong-sound}
use Rattle.pt_sdf.proofs.CallLaws.{whole-fired, row-apart, row-moves, row-there, child-ports, child-puts, own-ports, own-arrives, own-turns, begin-sound, begin-state, finish-sound, finish-state, ask-state, told-state, wrong-state}
use Rattle.pt_sdf_parts.proofs.UnfedLaws.{counts_of, all-left}

-- the same core, by its parts at another stage
abbrev pub SoundAt : Inside → declared.Stage → Type 0
SoundAt i stage =
    Sound (plan_of i.plan) i.plan.needs (order_in i) i.plan.room i.tables.offsets.items i.tables.feeds.items i.first.lists i.channels.lists i.rooms.items i.lent.items i.staged.list i.turns i.left (at_in i) stage

-- the stage by what contracts see
pub is-open : (i : Inside) (v : State) → seen_in i ≡ v → v.stage ≡ Open → i.stage ≡ code.Open
is-open i v e h = stage-open i.plan.places i.lent.items i.stage (state_in i) refl (ap (λ (s : State). s.stage) e ∙ h)

pub is-idle : (i : Inside) (v : State) → seen_in i ≡ v → v.stage ≡ Idle → i.stage ≡ code.Idle
is-idle i v e h = stage-idle i.plan.places i.lent.items i.stage (state_in i) refl (ap (λ (s : State). s.stage) e ∙ h)

pub is-closed : (i : Inside) (v : State) → seen_in i ≡ v → v.stage ≡ Closed → i.stage ≡ code.Closed
is-closed i v e h = stage-closed i.plan.places i.lent.items i.stage (state_in i) refl (ap (λ (s : State). s.stage) e ∙ h)

pub is-asked : (i : Inside) (v : State) (child : ℕ) → seen_in i ≡ v → asked_child v.stage ≡ Some child → (i.stage ≡ code.Asked child) ⊎ (i.stage ≡ code.Handed child)
is-asked i v child e h = stage-asked i.plan.places i.lent.items i.stage (state_in i) child refl (ap (λ (s : State). asked_child s.stage) e ∙ h)

-- what contracts see of a core at a stage
pub seen-at : (i : Inside) (g : declared.Stage) → i.stage ≡ g → with_asked g (state_in i) ≡ seen_in i
seen-at i g e = sym (ap (λ v. with_asked v (state_in i)) e)

-- a core starts again from any stage alike
pub seen-restarted : (i : Inside) → restarted (state_in i) ≡ restarted (seen_in i)
seen-restarted i = by i.stage (state_in i)
  where
    by : (g : declared.Stage) (s : State) → restarted s ≡ restarted (with_asked g s)
    by code.Idle s = refl
    by code.Open s = refl
    by (code.Asked child) s = refl
    by (code.Handed child) s = refl
    by (code.Wrong child) s = refl
    by code.Closed s = refl

-- a child is asked for
module _ (i : Inside) (s : IsSound i) (g : i.stage ≡ code.Open) (l : 0 < i.left) (child : ℕ) (e : child ≡ get_or (order_in i) (at_in i) child) where
  opened : SoundAt i code.Open
  opened = subst (λ v. SoundAt i v) g s

  next : get_or (order_in i) (at_in i) 0 ≡ child
  next = sym (read-at (order_in i) (at_in i) child 0 (s.position.within l) e)

  pub asked-there : child < length i.plan.places
  asked-there =
      child-there (plan_of i.plan) i.plan.needs (order_in i) i.plan.room i.tables.offsets.items i.tables.feeds.items i.first.lists i.channels.lists i.rooms.items i.lent.items i.staged.list i.turns i.left (at_in i) i.stage s child l next

  module _ (o n : ℕ) (f : o ≡ get_or i.tables.offsets.items child o) (m : n ≡ get_or i.plan.places child 0) where
    asked-place : o ≡ place_of i.plan.places child
    asked-place = offset-is (plan_of i.plan) i.plan.needs (order_in i) i.plan.room i.tables.offsets.items i.tables.feeds.items i.first.lists i.channels.lists i.rooms.items i.lent.items i.staged.list i.turns i.left (at_in i) i.stage s child o asked-there f

    pub asked-fits : (o + n ≤ length i.channels.lists) × (o + n ≤ length i.plan.needs) × (o + n ≤ length i.rooms.items)
    asked-fits =
        let t = total-fits (plan_of i.plan) i.plan.needs (order_in i) i.plan.room i.tables.offsets.items i.tables.feeds.items i.first.lists i.channels.lists i.rooms.items i.lent.items i.staged.list i.turns i.left (at_in i) i.stage s child asked-there in
        (omega (arith, t.0, asked-place, m), omega (arith, t.1, asked-place, m), omega (arith, t.2, asked-place, m))

    pub asked-lists : o + n ≤ length i.lent.items
    asked-lists = omega (arith, s.lists, part-fits i.plan.places child asked-there, asked-place, m)

    pub asked-enough : (k : ℕ) → k < n → get_or i.plan.needs (o + k) 0 ≤ length (get_or i.channels.lists (o + k) [])
    asked-enough k h =
        subst (λ v. get_or i.plan.needs (v + k) 0 ≤ length (get_or i.channels.lists (v + k) [])) (sym asked-place)
        (subst (λ v. get_or i.plan.needs (place_of i.plan.places child + k) 0 ≤ length v) (at-is i.channels.lists (place_of i.plan.places child + k))
        (enough (plan_of i.plan) i.plan.needs (order_in i) i.plan.room i.tables.offsets.items i.tables.feeds.items i.first.lists i.channels.lists i.rooms.items i.lent.items i.staged.list i.turns i.left (at_in i) i.stage s child l next (ap busy g) k (subst (λ v. k < v) m h)))

    pub asked-rooms : HaveRooms i.plan.needs i.rooms.items o n
    asked-rooms k h =
        subst (λ v. HasRoom (get_or i.plan.needs (v + k) 0) (get_or i.rooms.items (v + k) None)) (sym asked-place)
        (opened.roomy child k asked-there (subst (λ v. k < v) m h) (λ z. cc))

    module _ (held' lent' : Streams Token) (rooms' : List (Option (Vec Token Global))) (a : held' ≡ skip_at o (take n (drop o i.plan.needs)) i.channels.lists) where
      pub asked-sound : ((c : ℕ) → (c < o) ⊎ (o + n ≤ c) ⊎ (get_or i.plan.needs c 0 ≤ 1) → get_or rooms' c None ≡ get_or i.rooms.items c None) → length rooms' ≡ length i.rooms.items → length lent' ≡ length i.lent.items →
          Sound (plan_of i.plan) i.plan.needs (order_in i) i.plan.room i.tables.offsets.items i.tables.feeds.items i.first.lists held' rooms' lent' i.staged.list i.turns i.left (at_in i) (code.Handed child)
      asked-sound b r q =
          ask-sound (plan_of i.plan) i.plan.needs (order_in i) i.plan.room i.tables.offsets.items i.tables.feeds.items i.first.lists i.channels.lists i.rooms.items i.lent.items i.staged.list i.turns i.left (at_in i) child opened l next held' rooms' lent'
          (a ∙ ap₂ (λ x y. skip_at x (take y (drop x i.plan.needs)) i.channels.lists) asked-place m)
          (subst (λ v. (c : ℕ) → (c < v) ⊎ (v + get_or i.plan.places child 0 ≤ c) ⊎ (get_or i.plan.needs c 0 ≤ 1) → get_or rooms' c None ≡ get_or i.rooms.items c None) asked-place (subst (λ v. (c : ℕ) → (c < o) ⊎ (o + v ≤ c) ⊎ (get_or i.plan.needs c 0 ≤ 1) → get_or rooms' c None ≡ get_or i.rooms.items c None) m b)) r q

      pub asked-state : take n (drop o lent') ≡ firsts (take n (drop o i.plan.needs)) (take n (drop o i.channels.lists)) →
          state_of (plan_of i.plan) i.plan.needs (order_in i) i.first.lists held' lent' i.turns i.left (at_in i) i.tag (code.Handed child) ≡ handed (asked child (state_in i))
      asked-state b = ask-state (plan_of i.plan) i.plan.needs (order_in i) i.first.lists i.channels.lists held' i.lent.items lent' i.turns i.left (at_in i) child o n i.tag i.stage asked-place m b a

  pub asked-allowed : Allows (state_in i) child
  asked-allowed =
      may-fire (plan_of i.plan) i.plan.needs (order_in i) i.plan.room i.tables.offsets.items i.tables.feeds.items i.first.lists i.channels.lists i.rooms.items i.lent.items i.staged.list i.turns i.left (at_in i) i.stage s child l next i.tag (ap busy g)

  -- it takes nothing yet
  pub ask-alone : SoundAt i (code.Asked child)
  ask-alone = asked-alone (plan_of i.plan) i.plan.needs (order_in i) i.plan.room i.tables.offsets.items i.tables.feeds.items i.first.lists i.channels.lists i.rooms.items i.lent.items i.staged.list i.turns i.left (at_in i) child opened l next

-- the end of a firing
pub enough-fired : (i : Inside) (s : IsSound i) → i.left ≡ 0 → IsEnough (state_in i)
enough-fired i s e = whole-fired (plan_of i.plan) i.plan.needs (order_in i) i.plan.room i.tables.offsets.items i.tables.feeds.items i.first.lists i.channels.lists i.rooms.items i.lent.items i.staged.list i.turns i.left (at_in i) i.stage s e

-- a firing of the composite begins
module _ (i : Inside) (s : IsSound i) (row : Vec Feed Global) (e : row ≡ get_or i.tables.feeds.items (length i.plan.places) row) where
  pub begin-there : (inputs : Streams Token) → length inputs ≡ length i.plan.takes → AreThere (length i.channels.lists) (length inputs) row.items
  begin-there inputs l =
      row-there (plan_of i.plan) i.plan.needs (order_in i) i.plan.room i.tables.offsets.items i.tables.feeds.items i.first.lists i.channels.lists i.rooms.items i.lent.items i.staged.list i.turns i.left (at_in i) i.stage s (length i.plan.places) row (omega arith) e (length inputs)
      (own-ports (plan_of i.plan) i.plan.needs (order_in i) i.plan.room i.tables.offsets.items i.tables.feeds.items i.first.lists i.channels.lists i.rooms.items i.lent.items i.staged.list i.turns i.left (at_in i) i.stage s inputs l)

  pub begin-apart : AreApart row.items
  begin-apart = row-apart (plan_of i.plan) i.plan.needs (order_in i) i.plan.room i.tables.offsets.items i.tables.feeds.items i.first.lists i.channels.lists i.rooms.items i.lent.items i.staged.list i.turns i.left (at_in i) i.stage s (length i.plan.places) row (omega arith) e

  pub begin-moves : MovesOnce row.items
  begin-moves = row-moves (plan_of i.plan) i.plan.needs (order_in i) i.plan.room i.tables.offsets.items i.tables.feeds.items i.first.lists i.channels.lists i.rooms.items i.lent.items i.staged.list i.turns i.left (at_in i) i.stage s (length i.plan.places) row (omega arith) e

  module _ (inputs held' : Streams Token) (d : held' ≡ put_back (map target_of row.items) inputs i.channels.lists) where
    arrives : held' ≡ arrived (map source_of i.plan.sources.items) inputs i.channels.lists
    arrives = own-arrives (plan_of i.plan) i.plan.needs (order_in i) i.plan.room i.tables.offsets.items i.tables.feeds.items i.first.lists i.channels.lists i.rooms.items i.lent.items i.staged.list i.turns i.left (at_in i) i.stage s row inputs held' e d

    pub begin-long : length held' ≡ length i.channels.lists
    begin-long = ap (λ v. length v) arrives ∙ arrived-long (map source_of i.plan.sources.items) inputs i.channels.lists

    module _ (g : i.stage ≡ code.Idle) (turns left : ℕ) (t : turns ≡ or_one (allowed_by i.plan.takes (map target_of row.items) held')) (l : left ≡ left_at_first (order_in i) turns) where
      turns-are : turns ≡ iterations (plan_of i.plan) held'
      turns-are = own-turns (plan_of i.plan) i.plan.needs (order_in i) i.plan.room i.tables.offsets.items i.tables.feeds.items i.first.lists i.channels.lists i.rooms.items i.lent.items i.staged.list i.turns i.left (at_in i) i.stage s row turns held' e begin-long t

      pub begun-sound : (staged : List Token) → staged ≡ [] → Sound (plan_of i.plan) i.plan.needs (order_in i) i.plan.room i.tables.offsets.items i.tables.feeds.items i.first.lists held' i.rooms.items i.lent.items staged turns left 0 code.Open
      begun-sound staged n =
          begin-sound (plan_of i.plan) i.plan.needs (order_in i) i.plan.room i.tables.offsets.items i.tables.feeds.items i.first.lists i.channels.lists i.rooms.items i.lent.items i.staged.list i.turns i.left (at_in i) i.stage s g inputs held' turns left arrives turns-are l staged n

      pub begun-state : (tag : Tag) → state_of (plan_of i.plan) i.plan.needs (order_in i) i.first.lists held' i.lent.items turns left 0 tag code.Open ≡ begun tag inputs (state_in i)
      begun-state tag =
          begin-state (plan_of i.plan) i.plan.needs (order_in i) i.plan.room i.tables.offsets.items i.tables.feeds.items i.first.lists i.channels.lists i.rooms.items i.lent.items i.staged.list i.turns i.left (at_in i) i.stage s g inputs held' turns left arrives turns-are l i.tag tag

-- the own outputs are handed out, and then what the iterations took from own inputs that feed nothing is gone
module _ (i : Inside) (s : IsSound i) (from : ℕ) (given : Streams Token) (d : given ≡ skip_at from (times i.turns i.plan.gives) i.channels.lists) where
  pub given-long : length i.plan.sources.items ≡ length given
  given-long = sym (ap (λ v. length v) d ∙ skip-long from (times i.turns i.plan.gives) i.channels.lists ∙ s.counted ∙ length-map i.plan.sources.items source_of)

  pub given-few : length given < 2 ^ 32
  given-few = omega (arith, s.lawful.few, length-map i.plan.sources.items source_of, given-long)

  module _ (g : i.stage ≡ code.Closed) (f : from ≡ length i.lent.items) (left : Streams Token) (e : left ≡ skip_at (from + length i.plan.gives) (times i.turns (counts_of i.plan.takes i.plan.sources.items (from + length i.plan.gives))) given) where
    left-of-all : left ≡ skip_at (total i.plan.places) (times i.turns (leaves (plan_of i.plan))) i.channels.lists
    left-of-all =
        let o : from ≡ total i.plan.places = f ∙ s.lists in
        all-left (plan_of i.plan) s.lawful.channels i.turns i.channels.lists given s.counted (d ∙ ap (λ v. skip_at v (times i.turns i.plan.gives) i.channels.lists) o) left
        (e ∙ ap (λ v. skip_at (v + length i.plan.gives) (times i.turns (counts_of i.plan.takes i.plan.sources.items (v + length i.plan.gives))) given) o)

    pub finished-sound : Sound (plan_of i.plan) i.plan.needs (order_in i) i.plan.room i.tables.offsets.items i.tables.feeds.items i.first.lists left i.rooms.items i.lent.items i.staged.list i.turns i.left (at_in i) code.Idle
    finished-sound =
        finish-sound (plan_of i.plan) i.plan.needs (order_in i) i.plan.room i.tables.offsets.items i.tables.feeds.items i.first.lists i.channels.lists i.rooms.items i.lent.items i.staged.list i.turns i.left (at_in i) i.stage s g left left-of-all

    pub finished-state : state_of (plan_of i.plan) i.plan.needs (order_in i) i.first.lists left i.lent.items i.turns i.left (at_in i) i.tag code.Idle ≡ closed (state_in i)
    finished-state =
        finish-state (plan_of i.plan) i.plan.needs (order_in i) i.plan.room i.tables.offsets.items i.tables.feeds.items i.first.lists i.channels.lists i.rooms.items i.lent.items i.staged.list i.turns i.left (at_in i) i.stage s g left left-of-all i.tag

-- a child was told
module _ (i : Inside) (s : IsSound i) (child : ℕ) (g : i.stage ≡ code.Handed child) where
  told : SoundAt i (code.Handed child)
  told = subst (λ v. SoundAt i v) g s

  pub told-child : child < length i.plan.places
  told-child = told-there (plan_of i.plan) i.plan.needs (order_in i) i.plan.room i.tables.offsets.items i.tables.feeds.items i.first.lists i.channels.lists i.rooms.items i.lent.items i.staged.list i.turns i.left (at_in i) child told

  pub told-left : 0 < i.left
  told-left = told.position.fits.0

  pub told-within : (at_in i) < length (order_in i)
  told-within = told.position.within told.position.fits.0

  pub told-wrong : SoundAt i (code.Wrong child)
  told-wrong = wrong-sound (plan_of i.plan) i.plan.needs (order_in i) i.plan.room i.tables.offsets.items i.tables.feeds.items i.first.lists i.channels.lists i.rooms.items i.lent.items i.staged.list i.turns i.left (at_in i) child told

  pub wrongly-told : (out : Streams Token) → has_rates (get_or i.plan.rates.items child []) out ≡ false → state_of (plan_of i.plan) i.plan.needs (order_in i) i.first.lists i.channels.lists i.lent.items i.turns i.left (at_in i) i.tag (code.Wrong child) ≡ after_told child out (state_in i)
  wrongly-told out r = wrong-state (plan_of i.plan) i.plan.needs (order_in i) i.first.lists i.channels.lists i.lent.items i.turns i.left (at_in i) child i.tag i.stage out r

  pub told-keeps : (held' : Streams Token) (rooms' : List (Option (Vec Token Global))) (staged' : List Token) → held' ≡ i.channels.lists → staged' ≡ [] → length rooms' ≡ length i.rooms.items → ((c : ℕ) → HasRoom (get_or i.plan.needs c 0) (get_or i.rooms.items c None) → HasRoom (get_or i.plan.needs c 0) (get_or rooms' c None)) →
      Sound (plan_of i.plan) i.plan.needs (order_in i) i.plan.room i.tables.offsets.items i.tables.feeds.items i.first.lists held' rooms' i.lent.items staged' i.turns i.left (at_in i) i.stage
  told-keeps held' rooms' staged' d m n k =
      subst (λ v. Sound (plan_of i.plan) i.plan.needs (order_in i) i.plan.room i.tables.offsets.items i.tables.feeds.items i.first.lists held' rooms' i.lent.items staged' i.turns i.left (at_in i) v) (sym g)
      (told-kept (plan_of i.plan) i.plan.needs (order_in i) i.plan.room i.tables.offsets.items i.tables.feeds.items i.first.lists i.channels.lists i.rooms.items i.lent.items i.staged.list i.turns i.left (at_in i) child told rooms' staged' held' d m n k)

  module _ (o n : ℕ) (f : o ≡ get_or i.tables.offsets.items child o) (m : n ≡ get_or i.plan.places child 0) where
    pub told-place : o ≡ place_of i.plan.places child
    told-place = offset-is (plan_of i.plan) i.plan.needs (order_in i) i.plan.room i.tables.offsets.items i.tables.feeds.items i.first.lists i.channels.lists i.rooms.items i.lent.items i.staged.list i.turns i.left (at_in i) i.stage s child o told-child f

    pub told-fits : (o + n ≤ length i.plan.needs) × (o + n ≤ length i.rooms.items)
    told-fits =
        let t = total-fits (plan_of i.plan) i.plan.needs (order_in i) i.plan.room i.tables.offsets.items i.tables.feeds.items i.first.lists i.channels.lists i.rooms.items i.lent.items i.staged.list i.turns i.left (at_in i) i.stage s child told-child in
        (omega (arith, t.1, told-place, m), omega (arith, t.2, told-place, m))

    pub told-lists : o + n ≤ length i.lent.items
    told-lists = omega (arith, s.lists, part-fits i.plan.places child told-child, told-place, m)

    pub told-lent : lent_in (state_in i).stage ≡ take n (drop o i.lent.items)
    told-lent = ap (λ v. lent_in (stage_of i.plan.places i.lent.items v)) g ∙ sym (ap₂ (λ x y. take y (drop x i.lent.items)) told-place m)

    pub told-rooms : (rooms' : List (Option (Vec Token Global))) → HaveRooms i.plan.needs rooms' o n → HaveRooms i.plan.needs rooms' (place_of i.plan.places child) (get_or i.plan.places child 0)
    told-rooms rooms' h = subst (λ v. HaveRooms i.plan.needs rooms' v (get_or i.plan.places child 0)) told-place (subst (λ v. HaveRooms i.plan.needs rooms' o v) m h)

  module _ (out : Streams Token) (r : has_rates (get_or i.plan.rates.items child []) out ≡ true) (row : Vec Feed Global) (e : row ≡ get_or i.tables.feeds.items child row) where
    child-fits : child < length i.plan.places + 1
    child-fits = let h = told-child in omega (arith, h)

    pub told-into : AreThere (length i.channels.lists) (length out) row.items
    told-into =
        row-there (plan_of i.plan) i.plan.needs (order_in i) i.plan.room i.tables.offsets.items i.tables.feeds.items i.first.lists i.channels.lists i.rooms.items i.lent.items i.staged.list i.turns i.left (at_in i) i.stage s child row child-fits e (length out)
        (child-ports (plan_of i.plan) i.plan.needs (order_in i) i.plan.room i.tables.offsets.items i.tables.feeds.items i.first.lists i.channels.lists i.rooms.items i.lent.items i.staged.list i.turns i.left (at_in i) i.stage s child out told-child r)

    pub told-apart : AreApart row.items
    told-apart = row-apart (plan_of i.plan) i.plan.needs (order_in i) i.plan.room i.tables.offsets.items i.tables.feeds.items i.first.lists i.channels.lists i.rooms.items i.lent.items i.staged.list i.turns i.left (at_in i) i.stage s child row child-fits e

    pub told-moves : MovesOnce row.items
    told-moves = row-moves (plan_of i.plan) i.plan.needs (order_in i) i.plan.room i.tables.offsets.items i.tables.feeds.items i.first.lists i.channels.lists i.rooms.items i.lent.items i.staged.list i.turns i.left (at_in i) i.stage s child row child-fits e

    module _ (held' : Streams Token) (d : held' ≡ put_back (map target_of row.items) out i.channels.lists) (next : ℕ × ℕ) (t : next ≡ place_behind (nat_eq ((at_in i) + 1) (length (order_in i))) i.left (at_in i)) where
      puts-are : held' ≡ plus i.channels.lists (puts child out (map source_of i.plan.sources.items))
      puts-are = child-puts (plan_of i.plan) i.plan.needs (order_in i) i.plan.room i.tables.offsets.items i.tables.feeds.items i.first.lists i.channels.lists i.rooms.items i.lent.items i.staged.list i.turns i.left (at_in i) i.stage s child row out held' told-child e d

      pub told-goes-on : (rooms' : List (Option (Vec Token Global))) (staged' : List Token) → staged' ≡ [] → length rooms' ≡ length i.rooms.items → ((c : ℕ) → HasRoom (get_or i.plan.needs c 0) (get_or i.rooms.items c None) → HasRoom (get_or i.plan.needs c 0) (get_or rooms' c None)) → HaveRooms i.plan.needs rooms' (place_of i.plan.places child) (get_or i.plan.places child 0) →
          Sound (plan_of i.plan) i.plan.needs (order_in i) i.plan.room i.tables.offsets.items i.tables.feeds.items i.first.lists held' rooms' i.lent.items staged' i.turns next.0 next.1 code.Open
      told-goes-on rooms' staged' m n k h =
          told-sound (plan_of i.plan) i.plan.needs (order_in i) i.plan.room i.tables.offsets.items i.tables.feeds.items i.first.lists i.channels.lists i.rooms.items i.lent.items i.staged.list i.turns i.left (at_in i) child told out held' rooms' staged' next r puts-are m n k h t

      pub told-is : state_of (plan_of i.plan) i.plan.needs (order_in i) i.first.lists held' i.lent.items i.turns next.0 next.1 i.tag code.Open ≡ after_told child out (state_in i)
      told-is =
          told-state (plan_of i.plan) i.plan.needs (order_in i) i.first.lists i.channels.lists held' i.lent.items i.turns i.left (at_in i) child next i.tag i.stage out r puts-are
          (told-firings (plan_of i.plan) i.plan.needs (order_in i) i.plan.room i.tables.offsets.items i.tables.feeds.items i.first.lists i.channels.lists i.rooms.items i.lent.items i.staged.list i.turns i.left (at_in i) child told next t)

-- the rates that are read are those of the child
pub rates-read : (i : Inside) (s : IsSound i) (child : ℕ) (rs : List ℕ) → child < length i.plan.places → rs ≡ get_or i.plan.rates.items child rs → rs ≡ get_or i.plan.rates.items child []
rates-read i s child rs h e = read-at i.plan.rates.items child rs [] (omega (arith, h, s.lawful.rates)) e
