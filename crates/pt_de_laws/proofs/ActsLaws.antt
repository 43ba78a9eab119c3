-- The calls of the core are lawful.
use Rattle.std.proofs.Common.{◌≡◌, ◌⊎◌, inl, inr, ℕ, zero, suc, max, ◌+◌, ◌<◌, ◌≤◌, List, [], ◌∷◌, ◌++◌, Bool, true, false, length, map, get_or, set, take, drop, Option, Some, None, refl, sym, ap, subst, ◌∙◌, arith, length-set, length-drop}
use Rattle.std.specs.Prelude.{IsSome}
use Rattle.std.proofs.lemmas.Bool.{cases_eq}
use Rattle.std.proofs.lemmas.List.{length-map, length-take-le}
use Rattle.pt_meaning.specs.Tag.{Tag, least}
use Rattle.pt_meaning.specs.Streams.{Streams, get}
use Rattle.pt_meaning.specs.Machine.{Fault, Stepping, Partial, Unknown, Known}
use Rattle.pt_meaning.specs.Valuation.{TickPlan, known, known_then}
use Rattle.pt_meaning.specs.De.{heads, tails, rows_from, longest}
use Rattle.pt_meaning.specs.Running.{total}
use Rattle.pt_meaning.specs.Lawful.{LawfulRows}
use Rattle.pt_meaning.specs.Meetings.{below_child}
use Rattle.pt_meaning.specs.Children.{Child, numbered, child_facts}
use Rattle.pt_meaning.specs.Tree.{Rows, De, Past, Node, Composite, list_of, nodes_of, made_of, reset_of, fired_at, height, heights}
use Rattle.pt_meaning.specs.NodeFacts.{facts_of, early_of, next_of, wakes_of, whole_of}
use Rattle.pt_meaning.specs.Step.{step_at, Step}
use Rattle.pt_meaning.specs.Asked.{IsAsked}
use Rattle.pt_laws.specs.CompositeRuns.{steps_below}
use Rattle.pt_laws.specs.TickRuns.{places_at}
use Rattle.pt_value.specs.declared.token.Token.{Token}
use Rattle.pt_firing.specs.declared.ask.Ask.{Ask}
use Rattle.pt_firing.specs.declared.ask.Ask.TheVariants as ask
use Rattle.pt_records.specs.Kept.{Kept, Entry, kept_at, kept_by}
use Rattle.pt_records.specs.Fired.{FromSome, FiresTo, SticksAt, LeavesOff}
use Rattle.pt_records.specs.Shut.{IsShut}
use Rattle.pt_records.proofs.SoFarLaws.{recorded-done}
use Rattle.pt_core.specs.Acts.{Beginning, Acts}
use Rattle.pt_core.specs.Lawful.{Lawful, IsUsual, IsMove, IsLentTo, IsStuck, IsLeftOff, node, outcome, below_fault}
use Rattle.pt_core.specs.Reached.{Becomes, Stays, Fires, Always, AllAlways}
use Rattle.pt_core.proofs.MetLaws.{tells-none}
use Rattle.pt_core.proofs.ReachedLaws.{always-reset}
use Rattle.pt_de_laws.specs.State.{Roles, Stage, Idle, Open, Listens, Asked, Between, Closed, MayAnswer, IsOver, rows_for, asked_child, asked_row, partial_of, own_of, in_stage, begun, asked_on, after_row, after_fired, after_told, after_heard, closed}
use Rattle.pt_de_laws.specs.Chain.{Answers, IsFor, AsksFor, IsAmid, Underway, with_tokens, rounds_of}
use Rattle.pt_de_laws.specs.SoFar.{DeSoFar}
use Rattle.pt_de_laws.specs.DeActs.{State, AnswersIf, HasPlaces, Suits, MayAsk, Going, Gives, de_calls, de_acts}
use Rattle.pt_de_laws.proofs.PlaceLaws.{get-or-there}
use Rattle.pt_de_laws.proofs.ReadyLaws.{clash, known-long}
use Rattle.pt_de_laws.proofs.ChainLaws.{its-turn}
use Rattle.pt_de_laws.proofs.LeftLaws.{calls-are-de}
use Rattle.pt_de_laws.proofs.SoFarLaws.{asks-planned, de-begins, under, asks, on-heard, on-fired, over, off-between, off-within, stuck-within, mapped-numbered}

-- what holds of all that a list of nodes becomes, where one of them has fired
get-set-same : {B : Type 0} (xs : List B) (i : ℕ) (x y : B) → get (set xs i x) i ≡ Some y → y ≡ x
get-set-same [] i x y e = absurd (cc)
get-set-same (z ∷ xs) zero x y e = cc
get-set-same (z ∷ xs) (suc i) x y e = get-set-same xs i x y e

get-set-other : {B : Type 0} (xs : List B) (i j : ℕ) (x : B) → (j ≡ i → ⊥) → get (set xs i x) j ≡ get xs j
get-set-other [] i j x z = refl
get-set-other (y ∷ xs) zero zero x z = absurd (z refl)
get-set-other (y ∷ xs) zero (suc j) x z = refl
get-set-other (y ∷ xs) (suc i) zero x z = refl
get-set-other (y ∷ xs) (suc i) (suc j) x z = get-set-other xs i j x (λ e. z (ap (λ n. suc n) e))

always-set : {T A : Type 0} (rows : Rows T A) (P : ℕ → Node T A → Type 0) (nodes : List (Node T A)) (i : ℕ) (first next : Node T A) → get nodes i ≡ Some first → ((later : Node T A) → Becomes rows next later → Becomes rows first later) → AllAlways rows P nodes → AllAlways rows P (set nodes i next)
always-set {T} {A} rows P nodes i first next e more all j other f = by (cases_eq j i)
  where
    by : (j ≡ i) ⊎ (j ≡ i → ⊥) → Always rows (P j) other
    by (inr z) = all j other (sym (get-set-other nodes i j next z) ∙ f)
    by (inl z) = λ later b. all j first (ap (λ n. get nodes n) z ∙ e) later (more later (subst (λ (n : Node T A). Becomes rows n later) (get-set-same nodes i next other (sym (ap (λ n. get (set nodes i next) n) z) ∙ f)) b))

-- rows are as wide as what they are rows of
abbrev AreWide : {T : Type 0} → ℕ → List (Streams T) → Type 0
AreWide w [] = Unit {0}
AreWide w (X ∷ Xs) = (length X ≡ w) × AreWide w Xs

heads-long : {T : Type 0} (X : Streams T) → length (heads X) ≡ length X
heads-long [] = refl
heads-long ([] ∷ X) = ap (λ n. suc n) (heads-long X)
heads-long ((x ∷ xs) ∷ X) = ap (λ n. suc n) (heads-long X)

tails-long : {T : Type 0} (X : Streams T) → length (tails X) ≡ length X
tails-long [] = refl
tails-long ([] ∷ X) = ap (λ n. suc n) (tails-long X)
tails-long ((x ∷ xs) ∷ X) = ap (λ n. suc n) (tails-long X)

from-wide : {T : Type 0} (n : ℕ) (X : Streams T) (w : ℕ) → length X ≡ w → AreWide w (rows_from n X)
from-wide zero X w e = tt
from-wide (suc n) X w e = (heads-long X ∙ e, from-wide n (tails X) w (tails-long X ∙ e))

rows-wide : {T : Type 0} (b : Bool) (X : Streams T) → AreWide (length X) (rows_for b X)
rows-wide true X = (refl, tt)
rows-wide false X = from-wide (max 1 (longest X)) X (length X) refl

wide-in : {T : Type 0} (w : ℕ) (Ys : List (Streams T)) (X : Streams T) (Xs : List (Streams T)) → AreWide w (Ys ++ (X ∷ Xs)) → length X ≡ w
wide-in w [] X Xs h = h.0
wide-in w (Y ∷ Ys) X Xs h = wide-in w Ys X Xs h.1

known-wide : {T : Type 0} (vs : List (Partial T)) (X : Streams T) → known vs ≡ Some X → length X ≡ length vs
known-wide {T} [] X e = ap (λ (Y : Streams T). length Y) (some-same [] X e)
  where
    some-same : (a b : Streams T) → Some a ≡ Some b → b ≡ a
    some-same a b e = cc
known-wide {T} (Unknown ∷ vs) X e = absurd (no (known vs) e)
  where
    no : (o : Option (Streams T)) → known_then Unknown o ≡ Some X → ⊥
    no None e = cc
    no (Some Y) e = cc
known-wide {T} (Known xs ∷ vs) X e = go (known vs) e (λ Y f. known-wide vs Y f)
  where
    go : (o : Option (Streams T)) → known_then (Known xs) o ≡ Some X → ((Y : Streams T) → o ≡ Some Y → length Y ≡ length vs) → length X ≡ suc (length vs)
    go None e ih = absurd (cc)
    go (Some Y) e ih = let same : X ≡ xs ∷ Y = cc in ap (λ (Z : Streams T). length Z) same ∙ ap (λ n. suc n) (ih Y refl)

total-within : (ns : List ℕ) (i : ℕ) → i < length ns → total (take i ns) + get_or ns i 0 ≤ total ns
total-within [] i h = absurd (omega (arith, h))
total-within (n ∷ ns) zero h = omega arith
total-within (n ∷ ns) (suc i) h = let r = total-within ns i (omega (arith, h)) in omega (arith, r)

places-count : {B : Type 0} (ns : List ℕ) (i : ℕ) (V : List B) → i < length ns → total ns ≤ length V → length (places_at ns i V) ≡ get_or ns i 0
places-count ns i V h l = let r = total-within ns i h in length-take-le (get_or ns i 0) (drop (total (take i ns)) V) (omega (arith, r, l, length-drop (total (take i ns)) V))

-- wakes by children
wakes-are : {A : Type 0} (rows : Rows Token A) (kids : List (Node Token A)) → map (next_of rows) kids ≡ wakes_of rows (nodes_of kids)
wakes-are rows [] = refl
wakes-are rows (n ∷ ns) = ap (λ ws. next_of rows n ∷ ws) (wakes-are rows ns)

starts-are : {A : Type 0} (rows : Rows Token A) (starts : List (Option Tag)) (kids : List (Node Token A)) → length starts ≡ length kids → ((i : ℕ) (child : Node Token A) → get kids i ≡ Some child → next_of rows (reset_of child) ≡ get_or starts i None) → starts ≡ map (next_of rows) (map reset_of kids)
starts-are rows [] [] l h = refl
starts-are rows [] (n ∷ ns) l h = absurd (omega (arith, l))
starts-are rows (w ∷ ws) [] l h = absurd (omega (arith, l))
starts-are rows (w ∷ ws) (n ∷ ns) l h =
    let head : next_of rows (reset_of n) ≡ w = h 0 n refl in
    ap (λ (vs : List (Option Tag)). w ∷ vs) (starts-are rows ws ns (omega (arith, l)) (λ i child e. h (suc i) child e)) ∙ ap (λ (v : Option Tag). v ∷ map (next_of rows) (map reset_of ns)) (sym head)

-- stages of the calls
asked-child : (s : State) (st : Stage Token) (i : ℕ) → AsksFor s st i → asked_child (asked_on st i s).stage ≡ Some i
asked-child s Idle i a = absurd a
asked-child s Open i a = refl
asked-child s (Listens child) i a = absurd a
asked-child s (Asked child left) i a = absurd a
asked-child s (Between child left) i a = ap (λ n. Option.Some n) a
asked-child s Closed i a = absurd a

row-asks : (i : ℕ) (left : List (Streams Token)) → MayAsk (after_row i left)
row-asks i [] = tt
row-asks i (X ∷ []) = tt
row-asks i (X ∷ (Y ∷ Ys)) = tt

told-asks : (st : Stage Token) (i : ℕ) → asked_child st ≡ Some i → MayAsk (after_fired st)
told-asks Idle i e = absurd (cc)
told-asks Open i e = tt
told-asks (Listens child) i e = tt
told-asks (Asked child left) i e = row-asks child left
told-asks (Between child left) i e = tt
told-asks Closed i e = absurd (cc)

-- a question changes neither the plan nor the tag
record Keeps (s t : State) : Type 0 where
  tag : t.tag ≡ s.tag
  plan : t.plan ≡ s.plan
  roles : t.roles ≡ s.roles

asked-keeps : (s : State) (st : Stage Token) (i : ℕ) → Keeps s (asked_on st i s)
asked-keeps s Idle i = record { tag = refl; plan = refl; roles = refl }
asked-keeps s Open i = record { tag = refl; plan = refl; roles = refl }
asked-keeps s (Listens child) i = record { tag = refl; plan = refl; roles = refl }
asked-keeps s (Asked child left) i = record { tag = refl; plan = refl; roles = refl }
asked-keeps s (Between child left) i = record { tag = refl; plan = refl; roles = refl }
asked-keeps s Closed i = record { tag = refl; plan = refl; roles = refl }

module _ {A : Type 0} (rows : Rows Token A) (law : LawfulRows rows) where
  usual-one : (s : State) (a : Ask) → Gives s a → IsUsual a
  usual-one s (ask.Fire child tag) q = tt
  usual-one s (ask.Early child tag) q = tt
  usual-one s ask.Finished q = tt
  usual-one s (ask.Faulted kind (Some child)) q = absurd q
  usual-one s (ask.Faulted kind None) q = absurd q
  usual-one s (ask.Reset child) q = absurd q
  usual-one s (ask.Get child) q = absurd q
  usual-one s (ask.Put child) q = absurd q
  usual-one s ask.Grow q = absurd q
  usual-one s (ask.Meet meeting) q = absurd q
  usual-one s ask.Await q = q
  usual-one s ask.Full q = absurd q

  -- it makes no moves
  none-moves : (s : State) (a : Ask) → IsMove a → Gives s a → ⊥
  none-moves s (ask.Get child) m q = q
  none-moves s (ask.Put child) m q = q
  none-moves s ask.Grow m q = q
  none-moves s (ask.Fire child tag) m q = m
  none-moves s (ask.Early child tag) m q = m
  none-moves s (ask.Reset child) m q = m
  none-moves s ask.Finished m q = m
  none-moves s (ask.Faulted kind child) m q = m
  none-moves s ask.Full m q = m
  none-moves s (ask.Meet meeting) m q = q
  none-moves s ask.Await m q = m

  -- it fits the children as they are now
  suits-for : (plan : TickPlan) (roles : Roles) (kids : List (Node Token A)) → Suits rows plan roles kids → IsFor (facts_of rows) plan roles kids
  suits-for plan roles kids f = record {
    children = f.children;
    whole = λ i d l. f.whole i (get_or kids i d) (get-or-there kids i d l) (get_or kids i d) (Stays (get_or kids i d));
    answers = λ i d l q. by i (get_or kids i d) (get_or roles.early i false) q (f.answers i (get_or kids i d) (get-or-there kids i d l) (get_or kids i d) (Stays (get_or kids i d)));
  }
    where
      by : (i : ℕ) (n : Node Token A) (b : Bool) → b ≡ true → AnswersIf rows plan roles i b n → Answers (facts_of rows) plan roles i n
      by i n true q h = h
      by i n false q h = clash (sym q)

  suits-set : (plan : TickPlan) (roles : Roles) (now : List (Node Token A)) (i : ℕ) (child next : Node Token A) → get now i ≡ Some child → ((later : Node Token A) → Becomes rows next later → Becomes rows child later) → Suits rows plan roles now → Suits rows plan roles (set now i next)
  suits-set plan roles now i child next e becomes f = record {
    lawful = f.lawful;
    children = length-set now i next ∙ f.children;
    whole = always-set rows (λ j n. whole_of rows n ≡ get_or roles.whole j false) now i child next e becomes f.whole;
    answers = always-set rows (λ j n. AnswersIf rows plan roles j (get_or roles.early j false) n) now i child next e becomes f.answers;
    starts = always-set rows (λ j n. next_of rows (reset_of n) ≡ get_or roles.starts j None) now i child next e becomes f.starts;
    places = always-set rows (λ j n. HasPlaces rows (get_or plan.net.places j 0) n) now i child next e becomes f.places;
  }

  suits-again : (plan : TickPlan) (roles : Roles) (kids : List (Node Token A)) → Suits rows plan roles kids → Suits rows plan roles (map reset_of kids)
  suits-again plan roles kids f = record {
    lawful = f.lawful;
    children = length-map kids reset_of ∙ f.children;
    whole = always-reset rows (λ j n. whole_of rows n ≡ get_or roles.whole j false) kids f.whole;
    answers = always-reset rows (λ j n. AnswersIf rows plan roles j (get_or roles.early j false) n) kids f.answers;
    starts = always-reset rows (λ j n. next_of rows (reset_of n) ≡ get_or roles.starts j None) kids f.starts;
    places = always-reset rows (λ j n. HasPlaces rows (get_or plan.net.places j 0) n) kids f.places;
  }

  again-starts : (plan : TickPlan) (roles : Roles) (kids : List (Node Token A)) → Suits rows plan roles kids → roles.starts ≡ map (next_of rows) (map reset_of kids)
  again-starts plan roles kids f = starts-are rows roles.starts kids (f.lawful.starts ∙ sym f.children) (λ i child e. f.starts i child e child (Stays child))

  begins-one : (b : Beginning A State) → b.before.wakes ≡ map (next_of rows) (list_of b.kids) → Suits rows b.before.plan b.before.roles (list_of b.kids) → length (list_of b.kids) ≡ length b.olds → Going rows b (begun b.tag b.inputs b.before) (list_of b.kids) b.olds
  begins-one b w f o = record {
    stage = tt;
    tag = refl;
    plan = refl;
    suits = f;
    so_far = de-begins rows law b.meets b.tag b.before b.kids b.inputs b.olds f.lawful (suits-for b.before.plan b.before.roles (list_of b.kids) f) w o;
  }

  abbrev a : Acts rows State
  a = de_acts rows

  module _ (b : Beginning A State) (s : State) (now : List (Node Token A)) (news : List (Kept Token)) (g : Going rows b s now news) where
    wakes-now : s.wakes ≡ map (next_of rows) now
    wakes-now = (under rows b.meets b.before b.kids b.inputs b.olds s now news g.so_far).course.wakes ∙ mapped-numbered (next_of rows) 0 now

    hears-one : (i : ℕ) (child : Node Token A) → get now i ≡ Some child → s.stage ≡ Open → MayAnswer s i → Going rows b (after_heard i (early_of rows s.tag child (partial_of s i)) s) now news
    hears-one i child e o may = record { stage = tt; tag = g.tag; plan = g.plan; suits = g.suits; so_far = on-heard rows b.meets b.before b.kids b.inputs b.olds s now news g.so_far i child e o may }

    -- over the plan from which the firing began, and at its tag
    module _ (h : Past) (e : Entry Token) where
      ends-one : s.stage ≡ Open → IsOver s → FiresTo (outcome a b h) (node a (fired_at b.tag h) (closed (in_stage Closed s)) (nodes_of now)) (own_of s) (kept_by e b.olds) (kept_by e news)
      ends-one o f =
          subst (λ (p : TickPlan). FiresTo (outcome a b h) (Composite (fired_at b.tag h) (De p) (De p) (nodes_of now)) (own_of s) (kept_by e b.olds) (kept_by e news)) (sym g.plan)
          (subst (λ t. FiresTo (λ fuel. step_at rows fuel (suc (heights b.kids)) b.meets t (Composite h (De b.before.plan) (De b.before.plan) b.kids) b.inputs) (Composite (fired_at t h) (De b.before.plan) (De b.before.plan) (nodes_of now)) (own_of s) (kept_by e b.olds) (kept_by e news)) g.tag
          (over rows b.meets b.before b.kids b.inputs b.olds s now news g.so_far h (De b.before.plan) e o f))

      off-one : IsLeftOff a b h e s news
      off-one =
          subst (λ t. LeavesOff (λ fuel. step_at rows fuel (suc (heights b.kids)) b.meets t (Composite h (De b.before.plan) (De b.before.plan) b.kids) b.inputs) (IsShut rows b.meets (Composite h (De b.before.plan) (De b.before.plan) b.kids) t b.inputs None) (kept_by e b.olds) (kept_by e news)) g.tag
          (off-between rows b.meets b.before b.kids b.inputs b.olds s now news g.so_far h (De b.before.plan) e law)

    -- child i is asked to fire on a row
    module _ (i : ℕ) (may : AsksFor s s.stage i) where
      abbrev t : State
      t = asked_on s.stage i s

      so-far : DeSoFar rows b.meets b.before b.kids b.inputs b.olds t now news
      so-far = (asks rows b.meets b.before b.kids b.inputs b.olds s now news g.so_far i may).0

      its-row : (X : Streams Token) × (Xs : List (Streams Token)) × (t.stage ≡ Asked i (X ∷ Xs))
      its-row = (asks rows b.meets b.before b.kids b.inputs b.olds s now news g.so_far i may).1

      row-is : asked_row t.stage ≡ its-row.0
      row-is = ap (λ (st : Stage Token). asked_row st) its-row.2

      kept : Keeps s t
      kept = asked-keeps s s.stage i

      tag-is : t.tag ≡ b.tag
      tag-is = kept.tag ∙ g.tag

      its-suits : Suits rows t.plan t.roles now
      its-suits = subst (λ (p : TickPlan). Suits rows p t.roles now) (sym kept.plan) (subst (λ (r : Roles). Suits rows s.plan r now) (sym kept.roles) g.suits)

      abbrev its-steps : Stepping Token (Child (Node Token A))
      its-steps = steps_below rows so-far.run.0 (heights b.kids) b.meets

      asked-under : Underway (child_facts (facts_of rows)) its-steps b.before (numbered 0 (list_of b.kids)) b.inputs so-far.any t (numbered 0 now) so-far.logs
      asked-under = under rows b.meets b.before b.kids b.inputs b.olds t now news so-far

      within : i < length t.plan.net.places
      within = let amid : IsAmid (length t.plan.net.places) t.turns (Asked i (its-row.0 ∷ its-row.1)) = subst (λ (st : Stage Token). IsAmid (length t.plan.net.places) t.turns st) its-row.2 asked-under.course.amid in amid.0

      fires-one : i < length now
      fires-one = omega (arith, within, its-suits.children)

      lends-one : (child : Node Token A) → get now i ≡ Some child → IsLentTo rows child (asked_row t.stage)
      lends-one child e = record { places = λ ns n. ap (λ (X : Streams Token). length X) row-is ∙ row-wide ∙ sym (its-suits.places i child e child (Stays child) ns n) }
        where
          row-wide : length its-row.0 ≡ get_or t.plan.net.places i 0
          row-wide =
              let h = its-turn (child_facts (facts_of rows)) its-steps b.before (numbered 0 (list_of b.kids)) b.inputs so-far.any (with_tokens asked-under.all t) (numbered 0 now) so-far.logs asked-under.course i its-row.0 its-row.1 its-row.2 in
              wide-in (length h.inputs) h.done its-row.0 its-row.1 (subst (λ Ys. AreWide (length h.inputs) Ys) h.rows (rows-wide _ h.inputs)) ∙ known-wide _ h.inputs h.on ∙
              known-long (child_facts (facts_of rows)) its-steps b.before (numbered 0 (list_of b.kids)) b.inputs so-far.any (with_tokens asked-under.all t) (numbered 0 now) so-far.logs asked-under.course i (rounds_of t.roles.depths) ∙
              places-count t.plan.net.places i asked-under.all within (omega (arith, its-suits.lawful.channels, asked-under.course.channels))

      module _ (child : Node Token A) (e : get now i ≡ Some child) where
        goes-one : (next : Node Token A) (out : Streams Token) (k : Kept Token) → FiresTo (λ fuel. Step fuel rows (below_child i b.meets) child s.tag (asked_row t.stage)) next out (kept_at news i) k → Going rows b (after_told i out (next_of rows next) t) (set now i next) (set news i k)
        goes-one next out k f0 = record {
          stage = told-asks t.stage i (asked-child s s.stage i may);
          tag = tag-is;
          plan = kept.plan ∙ g.plan;
          suits = suits-set t.plan t.roles now i child next e becomes its-suits;
          so_far = on-fired rows b.meets b.before b.kids b.inputs b.olds t now news so-far i its-row.0 its-row.1 its-row.2 child e next out k f;
        }
          where
            f : FiresTo (λ fuel. Step fuel rows (below_child i b.meets) child t.tag its-row.0) next out (kept_at news i) k
            f = subst (λ v. FiresTo (λ fuel. Step fuel rows (below_child i b.meets) child v its-row.0) next out (kept_at news i) k) (sym kept.tag) (subst (λ (X : Streams Token). FiresTo (λ fuel. Step fuel rows (below_child i b.meets) child s.tag X) next out (kept_at news i) k) row-is f0)

            becomes : (later : Node Token A) → Becomes rows next later → Becomes rows child later
            becomes later m =
                let r = recorded-done (made_of child) t.tag its-row.0 (step_at rows f.done.0 (height child) (below_child i b.meets) t.tag child its-row.0) next out f.log (f.done.1 f.done.0 (omega arith)) in
                Fires child next later f.done.0 (height child) (below_child i b.meets) t.tag its-row.0 out r.0 r.1 m

        -- which the composite's firing asks for
        module _ (h : Past) where
          abbrev AskedFor : Tag → Tag → Streams Token → Type 0
          AskedFor tag when got = FromSome (λ k. IsAsked (child_facts (facts_of rows)) (steps_below rows k (heights b.kids) b.meets) (b.meets [] h.made) h.made (De b.before.plan) (numbered 0 (list_of b.kids)) tag b.inputs i (record { number = i; node = child }) when got)

          asks-one : (when : Tag) → when ≡ s.tag → AskedFor b.tag when (asked_row t.stage)
          asks-one when q =
              subst (λ v. AskedFor b.tag v (asked_row t.stage)) (sym q)
              (subst (λ (X : Streams Token). AskedFor b.tag s.tag X) (sym row-is)
              (subst (λ v. AskedFor b.tag v its-row.0) kept.tag
              (subst (λ v. AskedFor v t.tag its-row.0) tag-is
              (so-far.run.0, λ k o. asks-planned rows k b.meets h b.before b.kids b.inputs so-far.any (with_tokens (so-far.run.1 k o).all t) now so-far.logs (so-far.run.1 k o).course i its-row.0 its-row.1 its-row.2 child e))))

        module _ (h : Past) (e' : Entry Token) (k : Kept Token) where
          sticks-one : (f : Fault) → SticksAt (λ fuel. step_at rows fuel (height child) (below_child i b.meets) s.tag child (asked_row t.stage)) (IsShut rows (below_child i b.meets) child s.tag (asked_row t.stage) (Some f)) f (kept_at news i) k → IsStuck a b h e' s (below_fault i f) (set news i k)
          sticks-one f x0 =
              subst (λ v. SticksAt (λ fuel. step_at rows fuel (suc (heights b.kids)) b.meets v (Composite h (De b.before.plan) (De b.before.plan) b.kids) b.inputs) (IsShut rows b.meets (Composite h (De b.before.plan) (De b.before.plan) b.kids) v b.inputs (Some (below_fault i f))) (below_fault i f) (kept_by e' b.olds) (kept_by e' (set news i k))) tag-is
              (stuck-within rows b.meets b.before b.kids b.inputs b.olds t now news so-far h (De b.before.plan) e' i its-row.0 its-row.1 its-row.2 child e k law f
              (subst (λ v. SticksAt (λ fuel. step_at rows fuel (height child) (below_child i b.meets) v child its-row.0) (IsShut rows (below_child i b.meets) child v its-row.0 (Some f)) f (kept_at news i) k) (sym kept.tag)
              (subst (λ (X : Streams Token). SticksAt (λ fuel. step_at rows fuel (height child) (below_child i b.meets) s.tag child X) (IsShut rows (below_child i b.meets) child s.tag X (Some f)) f (kept_at news i) k) row-is x0)))

          within-one : LeavesOff (λ fuel. step_at rows fuel (height child) (below_child i b.meets) s.tag child (asked_row t.stage)) (IsShut rows (below_child i b.meets) child s.tag (asked_row t.stage) None) (kept_at news i) k → IsLeftOff a b h e' s (set news i k)
          within-one x0 =
              subst (λ v. LeavesOff (λ fuel. step_at rows fuel (suc (heights b.kids)) b.meets v (Composite h (De b.before.plan) (De b.before.plan) b.kids) b.inputs) (IsShut rows b.meets (Composite h (De b.before.plan) (De b.before.plan) b.kids) v b.inputs None) (kept_by e' b.olds) (kept_by e' (set news i k))) tag-is
              (off-within rows b.meets b.before b.kids b.inputs b.olds t now news so-far h (De b.before.plan) e' i its-row.0 its-row.1 its-row.2 child e k law
              (subst (λ v. LeavesOff (λ fuel. step_at rows fuel (height child) (below_child i b.meets) v child its-row.0) (IsShut rows (below_child i b.meets) child v its-row.0 None) (kept_at news i) k) (sym kept.tag)
              (subst (λ (X : Streams Token). LeavesOff (λ fuel. step_at rows fuel (height child) (below_child i b.meets) s.tag child X) (IsShut rows (below_child i b.meets) child s.tag X None) (kept_at news i) k) row-is x0)))

  pub de-is-lawful : Lawful (de_acts rows)
  de-is-lawful = record {
    agree = record {
      asked = λ s i when q. asked-child s s.stage i q.0;
      listened = λ s i when q. refl;
      hands = λ s i e. (subst (λ v. IsSome v) (sym e) refl, e, refl);
      hands_on = λ s i e out wake need. (refl, refl, refl);
      asks_on = λ s i out wake need q. told-asks s.stage i q;
      tells = λ s i out wake need q. refl;
      finishes = λ s q. refl;
      restarts = λ s. (refl, refl);
      keeps_maximum = record { begun = λ tag inputs s. refl; asking = λ answer s. refl; handed = λ s. refl; told = λ i out wake need s. refl; heard = λ i early s. refl; closed = λ s. refl; restarted = λ s. refl };
      tells_meetings = tells-none de_calls (λ s. refl) (λ m s q. q);
    };
    idle = λ s kids f. f.0;
    wakes = λ s kids f. ap (λ ws. least ws) (f.1 ∙ wakes-are rows kids);
    fits_again = λ s kids f. (refl, again-starts s.plan s.roles kids f.2, suits-again s.plan s.roles kids f.2);
    begins = λ b f t o. begins-one b f.1 f.2 o;
    middle = λ b s now news g. record {
      asks = g.stage;
      usual = usual-one s;
      fires_one = λ i when q. fires-one b s now news g i q.0;
      lends = λ i when q child e. lends-one b s now news g i q.0 child e;
      goes_on = λ i when q child next out k e f ok. goes-one b s now news g i q.0 child e next out k (subst (λ v. FiresTo (λ fuel. Step fuel rows (below_child i b.meets) child v (asked_row (asked_on s.stage i s).stage)) next out (kept_at news i) k) q.1 f);
      refuses = λ i when q child next out k there f no. clash no;
      sticks = λ i when q child k f there x h e met. sticks-one b s now news g i q.0 child there h e k f (subst (λ v. SticksAt (λ fuel. step_at rows fuel (height child) (below_child i b.meets) v child (asked_row (asked_on s.stage i s).stage)) (IsShut rows (below_child i b.meets) child v (asked_row (asked_on s.stage i s).stage) (Some f)) f (kept_at news i) k) q.1 x);
      asks_as = λ i when q child there h met. asks-one b s now news g i q.0 child there h when q.1;
      listens = λ i when q. omega (arith, q.1.0.there, g.suits.children);
      hears = λ i when q child e. subst (λ v. Going rows b (after_heard i (early_of rows v child (partial_of s i)) s) now news) (sym q.2) (hears-one b s now news g i child e q.0 q.1);
      learns = λ i when q early. calls-are-de.learns (child_facts (facts_of rows)) _ b.before (numbered 0 (list_of b.kids)) b.inputs _ s (numbered 0 now) _ (under rows b.meets b.before b.kids b.inputs b.olds s now news g.so_far) i q.1 early;
      resets_one = λ i q. absurd q;
      resets = λ i q child e. absurd q;
      rests = λ i q. absurd q;
      moves = λ answer m q. absurd (none-moves s answer m q);
      ends = λ q h e met. ends-one b s now news g h e q.0 q.1;
      fits = λ q. (refl, wakes-now b s now news g, g.suits);
      faults = λ kind q. absurd q;
      jams = λ q. absurd q;
      off = λ h e met. off-one b s now news g h e;
      off_within = λ i when q child k there x h e met. within-one b s now news g i q.0 child there h e k (subst (λ v. LeavesOff (λ fuel. step_at rows fuel (height child) (below_child i b.meets) v child (asked_row (asked_on s.stage i s).stage)) (IsShut rows (below_child i b.meets) child v (asked_row (asked_on s.stage i s).stage) None) (kept_at news i) k) q.1 x);
    };
  }
