-- A child that was asked for, whose inputs stand on their channels or were handed over.
use Rattle.std.proofs.Common.{◌≡◌, ℕ, zero, suc, ◌+◌, ◌<◌, ◌≤◌, ◌⊎◌, ⊎_elim, List, [], ◌∷◌, Bool, true, false, length, get_or, take, drop, Some, Option, Vec, Global, refl, ap, ap₂, sym, subst, ◌∙◌, arith, zero-add}
use Rattle.pt_meaning.specs.Streams.{Streams}
use Rattle.pt_meaning.specs.Rounds.{has_rates}
use Rattle.pt_value.specs.declared.token.Token.{Token}
use Rattle.pt_sdf.specs.declared.sdf.Stage as declared
use Rattle.pt_sdf.specs.declared.sdf.Stage.TheVariants as code
use Rattle.pt_sdf.specs.declared.sdf.Core.TheInside.{Inside}
use Rattle.pt_sdf_parts.specs.ByNeed.{place_of, skip_at}
use Rattle.pt_sdf.specs.State.{Open, asked_child, asked, handed, in_stage, if_told, after_told}
use Rattle.pt_sdf_parts.specs.Rooms.{HaveRooms}
use Rattle.pt_sdf.specs.Clauses.{State}
use Rattle.pt_sdf_parts.specs.Plan.{plan_of}
use Rattle.pt_sdf.specs.Core.{state_in, seen_in, unmoved, IsSound, order_in, at_in}
use Rattle.pt_sdf_parts.proofs.Lists.{skip-zero}
use Rattle.pt_sdf.proofs.SoundLaws.{open-again, told-kept, offset-is, total-fits}
use Rattle.pt_sdf_parts.proofs.TableLaws.{begins-long, begins-at}
use Rattle.pt_sdf.proofs.CoreLaws.{SoundAt, is-asked, seen-at, asked-there, asked-enough, asked-sound, told-child, told-left}

-- the core before the child was asked for
abbrev pub reopened : Inside → Inside
reopened i = record { plan = i.plan; tables = i.tables; first = i.first; channels = i.channels; rooms = i.rooms; lent = i.lent; heavy = i.heavy; staged = i.staged; tag = i.tag; turns = i.turns; left = i.left; at = i.at; done = i.done; stage = code.Open }

-- and as if the inputs of the child had been taken, with these channels left
abbrev pub handing : Inside → ℕ → Streams Token → Inside
handing i child held' = record { plan = i.plan; tables = i.tables; first = i.first; channels = record { lists = held'; spares = i.channels.spares }; rooms = i.rooms; lent = i.lent; heavy = i.heavy; staged = i.staged; tag = i.tag; turns = i.turns; left = i.left; at = i.at; done = i.done; stage = code.Handed child }

read-back : (xs : List ℕ) (i x : ℕ) → i < length xs → get_or xs i 0 ≡ x → x ≡ get_or xs i x
read-back [] i x h e = absurd (omega arith)
read-back (y ∷ xs) zero x h e = sym e
read-back (y ∷ xs) (suc i) x h e = read-back xs i x (omega arith) e

-- what comes of what a child gave doesn't depend on where its inputs are
stage-unread : (b : Bool) (child : ℕ) (out : Streams Token) (s : State) → if_told b child out s ≡ if_told b child out (in_stage Open s)
stage-unread true child out s = refl
stage-unread false child out s = refl

told-alike : (child : ℕ) (out : Streams Token) (s t : State) → in_stage Open s ≡ in_stage Open t → after_told child out s ≡ after_told child out t
told-alike child out s t e = stage-unread (has_rates (get_or s.plan.rates child []) out) child out s ∙ ap (λ v. after_told child out v) e ∙ sym (stage-unread (has_rates (get_or t.plan.rates child []) out) child out t)

pub told-handed : (child : ℕ) (out : Streams Token) (s : State) → after_told child out (handed s) ≡ after_told child out s
told-handed child out s = told-alike child out (handed s) s refl

-- a child that was asked for alone is the one that is told of
pub asked-now : (i : Inside) (v : State) (child : ℕ) → seen_in i ≡ v → asked_child v.stage ≡ Some child → (j : ℕ) → i.stage ≡ code.Asked j → i.stage ≡ code.Asked child
asked-now i v child e h j g = ⊎_elim (λ a. a) (λ a. absurd (other (sym g ∙ a))) (is-asked i v child e h)
  where
    other : code.Asked j ≡ code.Handed child → ⊥
    other e = cc

-- it was asked for alone
module _ (i : Inside) (s : IsSound i) (child : ℕ) (g : i.stage ≡ code.Asked child) where
  asked-here : SoundAt i (code.Asked child)
  asked-here = subst (λ v. SoundAt i v) g s

  pub reopened-sound : IsSound (reopened i)
  reopened-sound = open-again (plan_of i.plan) i.plan.needs (order_in i) i.plan.room i.tables.offsets.items i.tables.feeds.items i.first.lists i.channels.lists i.rooms.items i.lent.items i.staged.list i.turns i.left (at_in i) child asked-here

  pub reopened-left : 0 < i.left
  reopened-left = asked-here.position.fits.0

  pub reopened-next : child ≡ get_or (order_in i) (at_in i) child
  reopened-next = read-back (order_in i) (at_in i) child (asked-here.position.within reopened-left) asked-here.position.fits.1

-- where the places of a child begin
pub offset-read : (i : Inside) (s : IsSound i) (child : ℕ) → child < length i.plan.places → place_of i.plan.places child ≡ get_or i.tables.offsets.items child (place_of i.plan.places child)
offset-read i s child h =
    read-back i.tables.offsets.items child (place_of i.plan.places child) (omega (arith, h, ap (λ v. length v) s.places_begin, begins-long 0 i.plan.places))
    (ap (λ v. get_or v child 0) s.places_begin ∙ begins-at 0 i.plan.places child h ∙ zero-add (place_of i.plan.places child))

-- it was asked for
module _ (i : Inside) (s : IsSound i) (child : ℕ) (a : (i.stage ≡ code.Asked child) ⊎ (i.stage ≡ code.Handed child)) where
  pub busy-there : child < length i.plan.places
  busy-there = ⊎_elim (λ g. asked-there (reopened i) (reopened-sound i s child g) refl (reopened-left i s child g) child (reopened-next i s child g)) (λ g. told-child i s child g) a

  pub busy-left : 0 < i.left
  busy-left = ⊎_elim (λ g. reopened-left i s child g) (λ g. told-left i s child g) a

  pub busy-within : (at_in i) < length (order_in i)
  busy-within = s.position.within busy-left

  module _ (o n m : ℕ) (f : o ≡ get_or i.tables.offsets.items child o) (p : n ≡ get_or i.plan.places child 0) (u : m ≡ unmoved i.stage n) where
    pub place-is : o ≡ place_of i.plan.places child
    place-is = offset-is (plan_of i.plan) i.plan.needs (order_in i) i.plan.room i.tables.offsets.items i.tables.feeds.items i.first.lists i.channels.lists i.rooms.items i.lent.items i.staged.list i.turns i.left (at_in i) i.stage s child o busy-there f

    fewer : m ≤ n
    fewer = subst (λ v. v ≤ n) (sym u) (some i.stage)
      where
        some : (g : declared.Stage) → unmoved g n ≤ n
        some code.Idle = omega arith
        some code.Open = omega arith
        some (code.Asked child) = omega arith
        some (code.Handed child) = omega arith
        some (code.Wrong child) = omega arith
        some code.Closed = omega arith

    all-fit : (o + n ≤ length i.channels.lists) × (o + n ≤ length i.plan.needs) × (o + n ≤ length i.rooms.items)
    all-fit =
        let t = total-fits (plan_of i.plan) i.plan.needs (order_in i) i.plan.room i.tables.offsets.items i.tables.feeds.items i.first.lists i.channels.lists i.rooms.items i.lent.items i.staged.list i.turns i.left (at_in i) i.stage s child busy-there in
        (omega (arith, t.0, place-is, p), omega (arith, t.1, place-is, p), omega (arith, t.2, place-is, p))

    pub busy-fits : (o + n ≤ length i.plan.needs) × (o + n ≤ length i.rooms.items)
    busy-fits = (all-fit.1, all-fit.2)

    pub unmoved-fits : (o + m ≤ length i.channels.lists) × (o + m ≤ length i.plan.needs)
    unmoved-fits = (omega (arith, fewer, all-fit.0), omega (arith, fewer, all-fit.1))

    pub unmoved-enough : (k : ℕ) → k < m → get_or i.plan.needs (o + k) 0 ≤ length (get_or i.channels.lists (o + k) [])
    unmoved-enough k h =
        ⊎_elim
        (λ g. asked-enough (reopened i) (reopened-sound i s child g) refl (reopened-left i s child g) child (reopened-next i s child g) o n f p k (omega (arith, h, fewer)))
        (λ g. absurd (omega (arith, h, u ∙ ap (λ v. unmoved v n) g))) a

    pub busy-rooms : (rooms' : List (Option (Vec Token Global))) → HaveRooms i.plan.needs rooms' o n → HaveRooms i.plan.needs rooms' (place_of i.plan.places child) (get_or i.plan.places child 0)
    busy-rooms rooms' h = subst (λ v. HaveRooms i.plan.needs rooms' v (get_or i.plan.places child 0)) place-is (subst (λ v. HaveRooms i.plan.needs rooms' o v) p h)

    module _ (held' : Streams Token) (d : held' ≡ skip_at o (take m (drop o i.plan.needs)) i.channels.lists) where
      taken-all : i.stage ≡ code.Asked child → held' ≡ skip_at o (take n (drop o i.plan.needs)) i.channels.lists
      taken-all g = d ∙ ap (λ v. skip_at o (take v (drop o i.plan.needs)) i.channels.lists) (u ∙ ap (λ v. unmoved v n) g)

      taken-none : i.stage ≡ code.Handed child → held' ≡ i.channels.lists
      taken-none g = d ∙ ap (λ v. skip_at o (take v (drop o i.plan.needs)) i.channels.lists) (u ∙ ap (λ v. unmoved v n) g) ∙ skip-zero o i.channels.lists

      pub handing-sound : IsSound (handing i child held')
      handing-sound =
          ⊎_elim
          (λ g. asked-sound (reopened i) (reopened-sound i s child g) refl (reopened-left i s child g) child (reopened-next i s child g) o n f p held' i.lent.items i.rooms.items (taken-all g) (λ c h. refl) refl refl)
          (λ g. told-kept (plan_of i.plan) i.plan.needs (order_in i) i.plan.room i.tables.offsets.items i.tables.feeds.items i.first.lists i.channels.lists i.rooms.items i.lent.items i.staged.list i.turns i.left (at_in i) child (subst (λ v. SoundAt i v) g s) i.rooms.items i.staged.list held' (taken-none g) s.none_staged refl (λ c h. h)) a

      pub handing-told : (out : Streams Token) → after_told child out (state_in (handing i child held')) ≡ after_told child out (seen_in i)
      handing-told out =
          ⊎_elim
          (λ g. told-alike child out (state_in (handing i child held')) (asked child (state_in i)) (with_held (taken-all g ∙ ap₂ (λ x y. skip_at x (take y (drop x i.plan.needs)) i.channels.lists) place-is p)) ∙ ap (λ v. after_told child out v) (seen-at i (code.Asked child) g))
          (λ g. told-alike child out (state_in (handing i child held')) (state_in i) (with_held (taken-none g)) ∙ ap (λ v. after_told child out v) (seen-at i (code.Handed child) g)) a
        where
          with_held : {x y : Streams Token} → x ≡ y → in_stage Open (state_in (handing i child x)) ≡ in_stage Open (state_in (handing i child y))
          with_held e = ap (λ v. in_stage Open (state_in (handing i child v))) e
