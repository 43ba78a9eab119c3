-- The loop over the children of a composite, by the code's list of nodes.
use Rattle.std.proofs.Common.{◌≡◌, ◌⊎◌, inl, inr, ℕ, ℤ, ◌+◌, ◌<◌, ◌≤◌, List, [], ◌∷◌, false, true, length, map, get_or, set, Option, Some, None, refl, sym, ap, subst, ◌∙◌, arith, Result, Ok, Err, is_err, length-set}
use Rattle.std.proofs.lemmas.List.{length-map}
use Rattle.std.specs.Prelude.{OnOk, OnErr}
use Rattle.pt_meaning.specs.Basics.{Tag, Streams}
use Rattle.pt_meaning.specs.Streams.{get}
use Rattle.pt_meaning.specs.Log.{Meeting}
use Rattle.pt_meaning.specs.Meetings.{Meets}
use Rattle.pt_meaning.specs.NodeFacts.{early_of}
use Rattle.pt_value.specs.declared.token.Token.{Token}
use Rattle.pt_value.specs.declared.token.Token.TheVariants.{Int}
use Rattle.pt_firing.specs.declared.ask.Ask.{Ask}
use Rattle.pt_firing.specs.declared.ask.Ask.TheVariants as ask
use Rattle.pt_firing.specs.declared.answer.Blocked.{Blocked}
use Rattle.pt_firing.specs.declared.answer.Place.{Place}
use Rattle.pt_firing.specs.declared.fault.RunFault.{RunFault}
use Rattle.pt_records.specs.Kept.{kept_by}
use Rattle.pt_records.specs.Made.{AreMade, AllMade}
use Rattle.pt_core.specs.Acts.{Calls, Acts}
use Rattle.pt_core.specs.Met.{met_after}
use Rattle.pt_core.specs.Lawful.{Lawful, IsMove, IsLentTo}
use Rattle.pt_library.specs.LibraryActor.{rows}
use Rattle.pt_node.specs.declared.node.Node.{Node}
use Rattle.pt_node.specs.Shown.{Shown, shown, shown_node, all_of}
use Rattle.pt_node.specs.Reset.{WasReset, KeepsRecords}
use Rattle.pt_node.specs.View.{node_of, kept_of, kepts_of, outline_of, outlines_of, depth, depths, count_of, counts_of}
use Rattle.pt_node.specs.Live as live
use Rattle.pt_node.specs.Live.{IsFit}
use Rattle.pt_node.proofs.Link.{shown-node}
use Rattle.pt_turns.specs.declared.within.Within.TheVariants as within
use Rattle.pt_turns.specs.declared.turn.Turn.{Turn}
use Rattle.pt_turns.specs.declared.turn.Turn.TheVariants as turn
use Rattle.pt_turns.specs.Within.{IsLeftOff, Given}
use Rattle.pt_turns.specs.Composite.{composite, CompositeTo}
use Rattle.pt_turns.specs.Turns.{ChildFired, TurnTo, TurnFrom, MayFire}
use Rattle.pt_turns.specs.Between.{At, Between, InTurn, Halts}
use Rattle.pt_turns.specs.OwnMeetings.{OwnMeetings, with_meetings}
use Rattle.pt_turns.proofs.Children.{get-or, get-map, map-set, set-again, get-again, set-same, get-some, fit-get, depth-get, kepts-same, outlines-set, counts-same}
use Rattle.pt_turns.proofs.Turning.{turn-told}
use Rattle.pt_turns.proofs.Taking.{lent-takes}
use Rattle.pt_turns.proofs.Firing.{LeftOffAt, fire-asked, fire-in, fire-lent, at-fired, outlines-after, counted-after, off-within, fault-within, early-asked, early-in, early-learns, at-heard, reset-in, reset-rests, at-reset, reset-halts, asked-maximum, is-usual, off-here, full-within}

pub on-ok : {A E : Type 0} (r : Result A E) (P : Type 0) → is_err r ≡ false → OnOk r P → P
on-ok (Ok a) P e h = h
on-ok (Err x) P e h = absurd (cc)

pub ok-so : {A E P Q : Type 0} (r : Result A E) → (P → Q) → OnOk r P → OnOk r Q
ok-so (Ok a) f h = f h
ok-so (Err x) f h = tt

pub on-err : {A E : Type 0} (r : Result A E) (P : Type 0) → is_err r ≡ true → OnErr r P → P
on-err (Ok a) P e h = absurd (cc)
on-err (Err x) P e h = h

-- a child of the code's list
pub in-list : (kids : List Node) (i : ℕ) → i < length (map shown kids) → i < length kids
in-list kids i h = omega (arith, h, length-map kids shown)

pub there-in : (kids : List Node) (i : ℕ) (d : Node) → i < length (map shown kids) → d ≡ get_or kids i d → get (map shown kids) i ≡ Some (shown_node d)
there-in kids i d h value = get-map shown kids i d (get-or kids i d (in-list kids i h) value) ∙ ap (λ v. Option.Some v) (shown-node d)

pub set-is : (kids : List Node) (i : ℕ) (n : Node) → set (map shown kids) i (shown_node n) ≡ map shown (set kids i n)
set-is kids i n = ap (λ v. set (map shown kids) i v) (sym (shown-node n)) ∙ sym (map-set shown kids i n)

-- a number that was given changes neither names nor counts
pub given-outline : (given : Option ℤ) (old : Shown) (X : Streams Token) (new : Shown) → Given given old X new → outline_of new ≡ outline_of old
given-outline (Some n) old X new g = g.0.outline
given-outline None old X new g = ap (λ v. outline_of v) g

given-count : (given : Option ℤ) (old : Shown) (X : Streams Token) (new : Shown) → Given given old X new → count_of new ≡ count_of old
given-count (Some n) old X new g = g.0.count
given-count None old X new g = ap (λ v. count_of v) g

may-fire-as : (given : Option ℤ) (tag : Tag) (child : Shown) (X : Streams Token) (mid : Shown) → Given given child X mid → IsFit child → live.Takes tag child X → MayFire given tag mid X
may-fire-as (Some n) tag child X mid g f t = g.0.fit
may-fire-as None tag child X mid g f t = (subst (λ v. IsFit v) (sym g) f, subst (λ v. live.Takes tag v X) (sym g) t)

module _ {D : Type 0} (c : Calls D) where
  turn-from : (given : Option ℤ) (s : D) (child mid : Shown) (i : ℕ) (tag : Tag) (t : Turn) (s' : D) (after : Shown) → Given given child (c.lent_of s) mid → TurnFrom c given s mid i tag t s' after → TurnTo c s child i tag t s' after
  turn-from (Some n) s child mid i tag t s' after g f = turn-told c s child mid i tag ((Int n ∷ []) ∷ []) t s' after (g.0.goes tag) g.0.fit g.0.outline g.1 f
  turn-from None s child mid i tag t s' after g f = subst (λ v. TurnTo c s v i tag t s' after) g f

  -- one that gave none before
  pub none-given : (given : Option ℤ) (s : D) (child : Shown) (i : ℕ) (tag : Tag) (t : Turn) (s' : D) (after : Shown) → ((n : ℤ) → given ≡ Some n → ⊥) → TurnTo c s child i tag t s' after → TurnFrom c given s child i tag t s' after
  none-given (Some n) s child i tag t s' after f to = absurd (f n refl)
  none-given None s child i tag t s' after f to = to

-- these are moves
pub is-move : (next : Ask) → ((i : ℕ) × (next ≡ ask.Get i)) ⊎ (((i : ℕ) × (next ≡ ask.Put i)) ⊎ (next ≡ ask.Grow)) → IsMove next
is-move next (inl get) = subst (λ v. IsMove v) (sym get.1) tt
is-move next (inr (inl put)) = subst (λ v. IsMove v) (sym put.1) tt
is-move next (inr (inr grow)) = subst (λ v. IsMove v) (sym grow) tt

-- and none of them is a meeting
pub no-meeting : (next : Ask) → ((i : ℕ) × (next ≡ ask.Get i)) ⊎ (((i : ℕ) × (next ≡ ask.Put i)) ⊎ (next ≡ ask.Grow)) → (met : Option (List Meeting)) → met_after next met ≡ met
no-meeting next (inl get) met = ap (λ v. met_after v met) get.1
no-meeting next (inr (inl put)) met = ap (λ v. met_after v met) put.1
no-meeting next (inr (inr grow)) met = ap (λ v. met_after v met) grow

module _ {D : Type 0} (a : Acts rows D) (law : Lawful a) where
  pub once-asked : {before : D} {olds : List Shown} {tag : Tag} {X : Streams Token} {allowance : ℕ} {own : OwnMeetings} {s : D} {now : List Shown} {left : ℕ} → At a before olds tag X allowance own s now left → (next : Ask) (s' : D) → a.calls.Gives s next → s' ≡ a.calls.asking next s → Between a before olds tag X allowance own next s' now left
  once-asked {before} {olds} {tag} {X} {allowance} {own} {s} {now} {left} at next s' g e = record { state = s; at = at; gives = g; asking = e }

  -- the answer by another name
  pub asked-as : {before : D} {olds : List Shown} {tag : Tag} {X : Streams Token} {allowance : ℕ} {own : OwnMeetings} {next other : Ask} {s : D} {now : List Shown} {left : ℕ} → next ≡ other → Between a before olds tag X allowance own next s now left → Between a before olds tag X allowance own other s now left
  asked-as {before} {olds} {tag} {X} {allowance} {own} {next} {other} {s} {now} {left} e b = subst (λ n. Between a before olds tag X allowance own n s now left) e b

  -- the director states the maximum capacity that it stated when the firing began
  pub between-maximum : {before : D} {olds : List Shown} {tag : Tag} {X : Streams Token} {allowance : ℕ} {own : OwnMeetings} {next : Ask} {s : D} {now : List Shown} {left : ℕ} → Between a before olds tag X allowance own next s now left → a.calls.maximum s ≡ a.calls.maximum before
  between-maximum {before} {olds} {tag} {X} {allowance} {own} {next} {s} {now} {left} b = asked-maximum a law b.at next s b.asking

  module _ {before : D} {olds : List Shown} {tag : Tag} {X : Streams Token} {allowance : ℕ} {own : OwnMeetings} where
    -- the fault that is told is the composite's own
    pub faulted-itself : {s : D} {now : List Shown} {left : ℕ} → At a before olds tag X allowance own s now left → (kind : RunFault) (child : Option ℕ) (s' : D) → a.calls.Gives s (ask.Faulted kind child) → s' ≡ a.calls.asking (ask.Faulted kind child) s → Between a before olds tag X allowance own (ask.Faulted kind None) s' now left
    faulted-itself at kind None s' g e = once-asked at (ask.Faulted kind None) s' g e
    faulted-itself at kind (Some child) s' g e = absurd (is-usual a law at (ask.Faulted kind (Some child)) g)

    -- a child of the code's list that was asked for
    module _ {s : D} (kids : List Node) {left i : ℕ} {when : Tag} (b : Between a before olds tag X allowance own (ask.Fire i when) s (map shown kids) left) where
      pub index-in : i < length kids
      index-in = in-list kids i (fire-in a law b.at i when b.gives)

      module _ (d : Node) (value : d ≡ get_or kids i d) where
        there : get (map shown kids) i ≡ Some (shown_node d)
        there = there-in kids i d (fire-in a law b.at i when b.gives) value

        pub child-asked : a.calls.asked_of s ≡ Some i
        child-asked = ap (λ v. a.calls.asked_of v) b.asking ∙ fire-asked a law b.at i when b.gives

        pub child-fit : IsFit (shown_node d)
        child-fit = fit-get (map shown kids) i (shown_node d) there b.at.going.fit

        pub child-takes : live.Takes when (shown_node d) (a.calls.lent_of s)
        child-takes = lent-takes when (shown_node d) (a.calls.lent_of s) (subst (λ v. IsLentTo rows (node_of (shown_node d)) (a.calls.lent_of v)) (sym b.asking) (fire-lent a law b.at i when b.gives (shown_node d) there))

        module _ (n : Node) where
          -- its firing is recorded
          pub goes-on : (s' : D) (left' : ℕ) → ChildFired a.calls s (shown_node d) i when s' (shown_node n) → outline_of (shown_node n) ≡ outline_of (shown_node d) → count_of (shown_node n) + left' ≡ count_of (shown_node d) + left → left' ≤ left → At a before olds tag X allowance own s' (map shown (set kids i n)) left'
          goes-on s' left' f o c l =
              subst (λ ss. At a before olds tag X allowance own s' ss left') (set-is kids i n)
              (at-fired a law b.at i when b.gives (shown_node d) there (shown_node n) s' left' (subst (λ v. ChildFired a.calls v (shown_node d) i when s' (shown_node n)) b.asking f) o c l)

          -- or it is its turn
          pub in-turn : (given : Option ℤ) (s' : D) (left' : ℕ) → s' ≡ s → left' ≡ left → 0 < left → Given given (shown_node d) (a.calls.lent_of s) (shown_node n) → InTurn a before olds tag X allowance own i when given s' (map shown (set kids i n)) left'
          in-turn given s' left' e l p g =
              subst (λ v. InTurn a before olds tag X allowance own i when given v (map shown (set kids i n)) left') (sym e)
              (subst (λ v. InTurn a before olds tag X allowance own i when given s (map shown (set kids i n)) v) (sym l)
              (record {
                kids = map shown kids;
                child = shown_node d;
                mid = shown_node n;
                there = there;
                between = b;
                others = sym (set-is kids i n);
                gave = g;
                some = p;
              }))

          -- or memory was wanting for what is recorded of it
          pub halts-in : (s' : D) (left' : ℕ) → s' ≡ s → left' ≡ left → KeepsRecords (shown_node d) (shown_node n) → Halts a before olds tag X allowance own s' (map shown (set kids i n)) left'
          halts-in s' left' e l k =
              subst (λ v. Halts a before olds tag X allowance own v (map shown (set kids i n)) left') (sym e)
              (subst (λ v. Halts a before olds tag X allowance own s (map shown (set kids i n)) v) (sym l)
              (subst (λ ss. Halts a before olds tag X allowance own s ss left) (set-is kids i n)
              (record {
                state = b.state;
                kids = map shown kids;
                at = b.at;
                kept = kepts-same (map shown kids) i (shown_node d) (shown_node n) there k.kept;
                outlines = outlines-set (map shown kids) i (shown_node d) (shown_node n) there k.outline;
                counts = counts-same (map shown kids) i (shown_node d) (shown_node n) there k.count;
                maximum = between-maximum b;
              })))

    -- it is its turn, and nothing was given
    pub turn-of : {s : D} {now : List Shown} {left i : ℕ} {when : Tag} → Between a before olds tag X allowance own (ask.Fire i when) s now left → 0 < left → InTurn a before olds tag X allowance own i when None s now left
    turn-of {s} {now} {left} {i} {when} b p =
        let found = get-some now i (fire-in a law b.at i when b.gives) in
        record {
          kids = now;
          child = found.0;
          mid = found.0;
          there = found.1;
          between = b;
          others = sym (set-same now i found.0 found.1);
          gave = refl;
          some = p;
        }

    -- the turn of a child of the code's list
    module _ {s : D} (kids : List Node) {left i : ℕ} {when : Tag} {given : Option ℤ} (t : InTurn a before olds tag X allowance own i when given s (map shown kids) left) where
      in-kids : i < length t.kids
      in-kids = fire-in a law t.between.at i when t.between.gives

      pub turn-in : i < length kids
      turn-in = omega (arith, in-kids, length-map kids shown, ap (λ v. length v) t.others, length-set t.kids i t.mid)

      pub turn-maximum : (s' : D) → a.calls.maximum s' ≡ a.calls.maximum s → a.calls.maximum s' ≡ a.calls.maximum before
      turn-maximum s' e = e ∙ between-maximum t.between

      pub turn-asked : a.calls.asked_of s ≡ Some i
      turn-asked = ap (λ v. a.calls.asked_of v) t.between.asking ∙ fire-asked a law t.between.at i when t.between.gives

      module _ (d : Node) (value : d ≡ get_or kids i d) where
        mid-is : t.mid ≡ shown_node d
        mid-is = some-same (sym (ap (λ v. get v i) t.others ∙ get-again t.kids i t.mid in-kids) ∙ get-map shown kids i d (get-or kids i d turn-in value)) ∙ shown-node d
          where
            some-same : {A : Type 0} {x y : A} → Option.Some x ≡ Option.Some y → x ≡ y
            some-same e = cc

        gave : Given given t.child (a.calls.lent_of s) (shown_node d)
        gave = subst (λ v. Given given t.child (a.calls.lent_of s) v) mid-is t.gave

        lent : IsLentTo rows (node_of t.child) (a.calls.lent_of s)
        lent = subst (λ v. IsLentTo rows (node_of t.child) (a.calls.lent_of v)) (sym t.between.asking) (fire-lent a law t.between.at i when t.between.gives t.child t.there)

        pub turn-may : MayFire given when (shown_node d) (a.calls.lent_of s)
        turn-may = may-fire-as given when t.child (a.calls.lent_of s) (shown_node d) gave (fit-get t.kids i t.child t.there t.between.at.going.fit) (lent-takes when t.child (a.calls.lent_of s) lent)

        pub turn-depth : depth (outline_of (shown_node d)) ≤ depths (outlines_of (all_of olds))
        turn-depth =
            subst (λ o. depth o ≤ depths (outlines_of (all_of olds))) (sym (given-outline given t.child (a.calls.lent_of s) (shown_node d) gave))
            (subst (λ os. depth (outline_of t.child) ≤ depths os) t.between.at.outlines (depth-get t.kids i t.child t.there))

        module _ (n : Node) where
          set-so : set t.kids i (shown_node n) ≡ map shown (set kids i n)
          set-so = sym (set-again t.kids i t.mid (shown_node n)) ∙ ap (λ v. set v i (shown_node n)) (sym t.others) ∙ set-is kids i n

          turned : (turn : Turn) (s' : D) → TurnFrom a.calls given s (shown_node d) i when turn s' (shown_node n) → TurnTo a.calls (a.calls.asking (ask.Fire i when) t.between.state) t.child i when turn s' (shown_node n)
          turned turn s' f = subst (λ v. TurnTo a.calls v t.child i when turn s' (shown_node n)) t.between.asking (turn-from a.calls given s t.child (shown_node d) i when turn s' (shown_node n) gave f)

          named : outline_of (shown_node n) ≡ outline_of (shown_node d) → outline_of (shown_node n) ≡ outline_of t.child
          named o = o ∙ given-outline given t.child (a.calls.lent_of s) (shown_node d) gave

          counted : (left' : ℕ) → count_of (shown_node n) + left' ≡ count_of (shown_node d) + left → count_of (shown_node n) + left' ≡ count_of t.child + left
          counted left' c = c ∙ ap (λ v. v + left) (given-count given t.child (a.calls.lent_of s) (shown_node d) gave)

          pub turn-next : (s' : D) (left' : ℕ) → TurnFrom a.calls given s (shown_node d) i when turn.Done s' (shown_node n) → outline_of (shown_node n) ≡ outline_of (shown_node d) → count_of (shown_node n) + left' ≡ count_of (shown_node d) + left → left' ≤ left → At a before olds tag X allowance own s' (map shown (set kids i n)) left'
          turn-next s' left' f o c l = subst (λ ss. At a before olds tag X allowance own s' ss left') set-so (at-fired a law t.between.at i when t.between.gives t.child t.there (shown_node n) s' left' (turned turn.Done s' f) (named o) (counted left' c) l)

          pub turn-outlines : outline_of (shown_node n) ≡ outline_of (shown_node d) → outlines_of (all_of (map shown (set kids i n))) ≡ outlines_of (all_of olds)
          turn-outlines o = subst (λ ss. outlines_of (all_of ss) ≡ outlines_of (all_of olds)) set-so (outlines-after a law t.between.at i when t.between.gives t.child t.there (shown_node n) (named o))

          pub turn-counted : (left' : ℕ) → count_of (shown_node n) + left' ≡ count_of (shown_node d) + left → counts_of (all_of (map shown (set kids i n))) + left' ≡ counts_of (all_of olds) + allowance
          turn-counted left' c = subst (λ ss. counts_of (all_of ss) + left' ≡ counts_of (all_of olds) + allowance) set-so (counted-after a law t.between.at i when t.between.gives t.child t.there (shown_node n) left' (counted left' c))

          pub turn-fault : (path : List ℕ) (labels : List (List ℕ)) (place : Place) (s' : D) → TurnFrom a.calls given s (shown_node d) i when (turn.Fault place) s' (shown_node n) → CompositeTo a path labels own before (all_of olds) tag X (within.Fault place) s' (all_of (map shown (set kids i n)))
          turn-fault path labels place s' f = subst (λ ss. CompositeTo a path labels own before (all_of olds) tag X (within.Fault place) s' (all_of ss)) set-so (fault-within a law t.between.at i when t.between.gives t.child t.there (shown_node n) path labels place s' (turned (turn.Fault place) s' f))

          pub turn-jam : (path : List ℕ) (labels : List (List ℕ)) (blocked : Blocked) (s' : D) → TurnFrom a.calls given s (shown_node d) i when (turn.Full blocked) s' (shown_node n) → CompositeTo a path labels own before (all_of olds) tag X (within.Full blocked) s' (all_of (map shown (set kids i n)))
          turn-jam path labels blocked s' f = subst (λ ss. CompositeTo a path labels own before (all_of olds) tag X (within.Full blocked) s' (all_of ss)) set-so (full-within a law t.between.at i when t.between.gives t.child t.there (shown_node n) path labels blocked s' (turned (turn.Full blocked) s' f))

          off-so : ((m : Meets) → AreMade m (kept_of (shown_node n)) → IsLeftOff m (node_of t.child) when (a.calls.lent_of (a.calls.asking (ask.Fire i when) t.between.state)) (kept_of t.child) (kept_of (shown_node n))) → LeftOffAt a before olds tag X own (map shown (set kids i n))
          off-so off = subst (λ ss. LeftOffAt a before olds tag X own ss) set-so (off-within a law t.between.at i when t.between.gives t.child t.there (shown_node n) off)

          pub turn-spent : (s' : D) → TurnFrom a.calls given s (shown_node d) i when turn.Spent s' (shown_node n) → LeftOffAt a before olds tag X own (map shown (set kids i n))
          turn-spent s' f = off-so (turned turn.Spent s' f)

          pub turn-memory : (s' : D) → TurnFrom a.calls given s (shown_node d) i when turn.Memory s' (shown_node n) → LeftOffAt a before olds tag X own (map shown (set kids i n))
          turn-memory s' f = off-so (turned turn.Memory s' f)

    -- a child of the code's list that is asked for an early answer
    module _ {s : D} (kids : List Node) {left : ℕ} (at : At a before olds tag X allowance own s (map shown kids) left) (i : ℕ) where
      module _ (when : Tag) (g : a.calls.Gives s (ask.Early i when)) (mid : D) (is : mid ≡ a.calls.asking (ask.Early i when) s) where
        pub listen-in : i < length kids
        listen-in = in-list kids i (early-in a law at i when g)

        pub listen-asked : a.calls.listened_of mid ≡ Some i
        listen-asked = ap (λ v. a.calls.listened_of v) is ∙ early-asked a law at i when g

        module _ (d : Node) (value : d ≡ get_or kids i d) (s' : D) (e : s' ≡ a.calls.heard i (early_of rows when (node_of (shown_node d)) (a.calls.partial_of mid)) mid) where
          heard : s' ≡ a.calls.heard i (early_of rows when (node_of (shown_node d)) (a.calls.partial_of (a.calls.asking (ask.Early i when) s))) (a.calls.asking (ask.Early i when) s)
          heard = e ∙ ap (λ v. a.calls.heard i (early_of rows when (node_of (shown_node d)) (a.calls.partial_of v)) v) is

          pub listen-learns : a.calls.waits s' < a.calls.waits s
          listen-learns = early-learns a law at i when g (shown_node d) (there-in kids i d (early-in a law at i when g) value) s' heard

          pub listen-next : At a before olds tag X allowance own s' (map shown kids) left
          listen-next = at-heard a law at i when g (shown_node d) (there-in kids i d (early-in a law at i when g) value) s' heard

      -- or is brought back to its start
      module _ (g : a.calls.Gives s (ask.Reset i)) (mid : D) (is : mid ≡ a.calls.asking (ask.Reset i) s) where
        pub restart-in : i < length kids
        restart-in = in-list kids i (reset-in a law at i g)

        pub restart-rests : a.calls.waits mid < a.calls.waits s
        restart-rests = reset-rests a law at i g mid is

        module _ (d : Node) (value : d ≡ get_or kids i d) where
          again : get (map shown kids) i ≡ Some (shown_node d)
          again = there-in kids i d (reset-in a law at i g) value

          pub restart-fit : IsFit (shown_node d)
          restart-fit = fit-get (map shown kids) i (shown_node d) again at.going.fit

          module _ (n : Node) (k : KeepsRecords (shown_node d) (shown_node n)) where
            pub restart-next : WasReset (shown_node d) (shown_node n) → At a before olds tag X allowance own mid (map shown (set kids i n)) left
            restart-next r = subst (λ ss. At a before olds tag X allowance own mid ss left) (set-is kids i n) (at-reset a law at i g (shown_node d) (shown_node n) again k mid is r)

            pub restart-halts : Halts a before olds tag X allowance own mid (map shown (set kids i n)) left
            restart-halts = subst (λ ss. Halts a before olds tag X allowance own mid ss left) (set-is kids i n) (reset-halts a law at i g (shown_node d) (shown_node n) again k mid is)

    -- it is left off for want of memory
    module _ {s : D} {now : List Shown} {left : ℕ} (h : Halts a before olds tag X allowance own s now left) where
      pub halts-off : LeftOffAt a before olds tag X own now
      halts-off m made past e p =
          subst (λ ks. IsLeftOff m (composite a past before (all_of olds)) tag X (kept_by e (kepts_of (all_of olds))) (kept_by (with_meetings own.now e) ks)) (sym h.kept)
          (off-here a law h.at m (subst (λ ks. AllMade m ks) h.kept made) past e p)

      pub halts-outlines : outlines_of (all_of now) ≡ outlines_of (all_of olds)
      halts-outlines = h.outlines ∙ h.at.outlines

      pub halts-counted : counts_of (all_of now) + left ≡ counts_of (all_of olds) + allowance
      halts-counted = ap (λ n. n + left) h.counts ∙ h.at.counted
