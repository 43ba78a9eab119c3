-- The firing of a composite, turn by turn, from the laws of any director.
use Rattle.std.proofs.Common.{◌≡◌, ℕ, suc, ◌+◌, ◌<◌, ◌≤◌, List, [], ◌∷◌, length, set, Option, Some, None, refl, sym, ap, ap₂, subst, ◌∙◌, arith, inl, inr, ◌⊎◌}
use Rattle.pt_meaning.specs.Basics.{Tag, Streams}
use Rattle.pt_meaning.specs.Streams.{get}
use Rattle.pt_meaning.specs.Machine as machine
use Rattle.pt_meaning.specs.Meetings.{Meets, below_child}
use Rattle.pt_meaning.specs.Tree as tree
use Rattle.pt_meaning.specs.NodeFacts.{need_of, early_of, next_of}
use Rattle.pt_meaning.specs.Step.{Step}
use Rattle.pt_value.specs.declared.token.Token.{Token}
use Rattle.pt_firing.specs.declared.ask.Ask.{Ask}
use Rattle.pt_firing.specs.declared.ask.Ask.TheVariants.{Fire, Early, Reset, Finished, Faulted}
use Rattle.pt_firing.specs.declared.ask.Ask.TheVariants as ask
use Rattle.pt_firing.specs.declared.ask.Meeting.{Meeting}
use Rattle.pt_firing.specs.Meeting.{meeting_of}
use Rattle.pt_firing.specs.declared.answer.Blocked.{Blocked}
use Rattle.pt_firing.specs.declared.answer.Place.{Place}
use Rattle.pt_firing.specs.declared.fault.RunFault.{RunFault}
use Rattle.pt_firing.specs.RunFault.{code_of}
use Rattle.pt_records.specs.Kept.{Made, Kept, Entry, kept_by}
use Rattle.pt_records.specs.Made.{AreMade, AllMade, AllMadeBefore}
use Rattle.pt_records.specs.Fired.{FiresTo}
use Rattle.pt_core.specs.Acts.{Acts}
use Rattle.pt_core.specs.Met.{HasMet, IsListed, none_met, met_after}
use Rattle.pt_core.specs.Lawful as laws
use Rattle.pt_core.specs.Lawful.{Lawful, IsUsual, IsMove, IsLentTo, Middle, own_fault, child_fault}
use Rattle.pt_library.specs.LibraryActor.{rows}
use Rattle.pt_node.specs.Shown.{Shown, all_of}
use Rattle.pt_node.specs.Reset.{WasReset, KeepsRecords}
use Rattle.pt_node.specs.View.{Tree, node_of, nodes_of, kept_of, kepts_of, outline_of, outlines_of, text_below, maximum_at, labels_below, count_of, counts_of}
use Rattle.pt_node.specs.Live.{AllFit}
use Rattle.pt_past.specs.Meetings.{Serves}
use Rattle.pt_node.specs.Stuck.{fault_of}
use Rattle.pt_node.specs.Full.{told_by}
use Rattle.pt_turns.specs.declared.within.Within.{Within}
use Rattle.pt_turns.specs.declared.within.Within.TheVariants.{Done, Fault, Spent, Full, Memory}
use Rattle.pt_turns.specs.declared.turn.Turn.TheVariants as turn
use Rattle.pt_turns.specs.Within.{outcome, IsLeftOff, IsStuckIn, IsStuck, SpendsAll, IsFaultAt, IsFullAt}
use Rattle.pt_turns.specs.Composite.{composite, names, CompositeTo, KeepsFit, FinishTo}
use Rattle.pt_turns.specs.Turns.{ChildFired, ChildRefused, TurnTo}
use Rattle.pt_turns.specs.Between.{beginning, At, Halts}
use Rattle.pt_turns.specs.OwnMeetings.{OwnMeetings, own_of, one_more, AreRecorded, with_meetings, IsOwnPath}
use Rattle.pt_turns.proofs.Children.{nodes-set, kepts-set, kepts-at, kepts-same, nodes-get, kepts-long, nodes-long, nodes-again, fit-set, outlines-set, text-get, labels-get, counts-same, counts-set}
use Rattle.pt_turns.proofs.Jams.{have-made, jam-below}
use Rattle.pt_turns.proofs.MadeOf.{finished-made, meets-in, meets-made, made-of-child, made-of-fired, made-before}
use Rattle.pt_turns.proofs.Recording.{made-within}
use Rattle.pt_turns.proofs.OwnLaws.{has-met, listed-met, entry-own, begun-recorded, more-recorded, ends-recorded}

-- it was left off, with this kept of the children, and with those meetings of its own
abbrev pub LeftOffAt : {D : Type 0} → Acts rows D → D → List Shown → Tag → Streams Token → OwnMeetings → List Shown → Type 0
LeftOffAt a before olds tag X own now = (m : Meets) → AllMade m (kepts_of (all_of now)) → (h : tree.Past) (e : Entry Token) → IsOwnPath m own h e → IsLeftOff m (composite a h before (all_of olds)) tag X (kept_by e (kepts_of (all_of olds))) (kept_by (with_meetings own.now e) (kepts_of (all_of now)))

module _ {D : Type 0} (a : Acts rows D) (law : Lawful a) where
  -- it begins
  pub at-begun : (before s : D) (olds : List Shown) (tag : Tag) (X : Streams Token) (left : ℕ) → a.Fits before (tree.list_of (nodes_of (all_of olds))) → a.calls.Takes before X → AllFit (all_of olds) → s ≡ a.calls.begun tag X before → (number : ℕ) (made : Option Made) → Serves (a.calls.met before) number made → At a before olds tag X left (own_of number made made) s olds left
  at-begun before s olds tag X left fits takes fit e number made serves = record {
    going = record {
      fit = fit;
      so_far = λ m made.
          subst (λ v. a.Underway (beginning a m before (all_of olds) tag X) v (tree.list_of (nodes_of (all_of olds))) (kepts_of (all_of olds))) (sym e)
          (law.begins (beginning a m before (all_of olds) tag X) fits takes (nodes-long olds ∙ sym (kepts-long olds)));
    };
    outlines = refl;
    maximum = ap (λ v. a.calls.maximum v) e ∙ law.agree.keeps_maximum.begun tag X before;
    met = subst (λ v. AreRecorded v (own_of number made made)) (sym (ap (λ v. a.calls.met v) e ∙ law.agree.tells_meetings.begun tag X before)) (begun-recorded (a.calls.met before) number made serves);
    counted = refl;
    lowered = omega arith;
  }

  -- or there is no memory for it to begin
  pub begin-halts : (before s : D) (olds : List Shown) (tag : Tag) (X : Streams Token) (left : ℕ) → a.Fits before (tree.list_of (nodes_of (all_of olds))) → a.calls.Takes before X → AllFit (all_of olds) → s ≡ before → (number : ℕ) (made : Option Made) → Serves (a.calls.met before) number made → Halts a before olds tag X left (own_of number made made) s olds left
  begin-halts before s olds tag X left fits takes fit e number made serves = record {
    state = a.calls.begun tag X before;
    kids = olds;
    at = at-begun before (a.calls.begun tag X before) olds tag X left fits takes fit refl number made serves;
    kept = refl;
    outlines = refl;
    counts = refl;
    maximum = ap (λ v. a.calls.maximum v) e;
  }

  module _ {before : D} {olds : List Shown} {tag : Tag} {X : Streams Token} {allowance : ℕ} {own : OwnMeetings} {s : D} {now : List Shown} {left : ℕ} (at : At a before olds tag X allowance own s now left) where
    middle-of : (m : Meets) → AllMadeBefore m (kepts_of (all_of now)) → Middle a (beginning a m before (all_of olds) tag X) s (tree.list_of (nodes_of (all_of now))) (kepts_of (all_of now))
    middle-of m made = law.middle (beginning a m before (all_of olds) tag X) s (tree.list_of (nodes_of (all_of now))) (kepts_of (all_of now)) (at.going.so_far m made)

    -- under some meetings, for what doesn't speak of them
    some-middle : Middle a (beginning a (meets-in (kepts_of (all_of now))) before (all_of olds) tag X) s (tree.list_of (nodes_of (all_of now))) (kepts_of (all_of now))
    some-middle = middle-of (meets-in (kepts_of (all_of now))) (meets-made (kepts_of (all_of now)))

    -- what the definitions ask of its own meetings holds of those that are recorded, and what is kept of its own path has just these
    met-own : (m : Meets) (h : tree.Past) (e : Entry Token) → IsOwnPath m own h e → HasMet (a.calls.met s) m h e
    met-own m h e p = has-met (a.calls.met s) own at.met m h e p

    listed : (m : Meets) (h : tree.Past) (e : Entry Token) → IsOwnPath m own h e → IsListed (a.calls.met s) m h
    listed m h e p = listed-met (a.calls.met s) own at.met m h e p

    left-off : (m : Meets) (h : tree.Past) (e : Entry Token) → IsOwnPath m own h e → (news : List (Kept Token)) → laws.IsLeftOff a (beginning a m before (all_of olds) tag X) h e s news → IsLeftOff m (composite a h before (all_of olds)) tag X (kept_by e (kepts_of (all_of olds))) (kept_by (with_meetings own.now e) news)
    left-off m h e p news l = subst (λ v. IsLeftOff m (composite a h before (all_of olds)) tag X (kept_by e (kepts_of (all_of olds))) (kept_by v news)) (entry-own (a.calls.met s) own at.met m h e p) l

    stuck-in : (m : Meets) (h : tree.Past) (e : Entry Token) → IsOwnPath m own h e → (f : machine.Fault) (news : List (Kept Token)) → laws.IsStuck a (beginning a m before (all_of olds) tag X) h e s f news → IsStuckIn m (composite a h before (all_of olds)) tag X f (kept_by e (kepts_of (all_of olds))) (kept_by (with_meetings own.now e) news)
    stuck-in m h e p f news k = subst (λ v. IsStuckIn m (composite a h before (all_of olds)) tag X f (kept_by e (kepts_of (all_of olds))) (kept_by v news)) (entry-own (a.calls.met s) own at.met m h e p) k

    -- a state in which as many meetings were made
    same-met : (s' : D) → a.calls.met s' ≡ a.calls.met s → AreRecorded (a.calls.met s') own
    same-met s' e = subst (λ v. AreRecorded v own) (sym e) at.met

    asked-met : (next : Ask) (mid : D) → mid ≡ a.calls.asking next s → a.calls.met mid ≡ met_after next (a.calls.met s)
    asked-met next mid e = ap (λ v. a.calls.met v) e ∙ law.agree.tells_meetings.asking next s

    pub may-ask : a.calls.MayAsk s
    may-ask = some-middle.asks

    pub is-usual : (next : Ask) → a.calls.Gives s next → IsUsual next
    is-usual next g = some-middle.usual next g

    -- whatever it answers, it states the maximum capacity that it stated when the firing began
    pub asked-maximum : (next : Ask) (mid : D) → mid ≡ a.calls.asking next s → a.calls.maximum mid ≡ a.calls.maximum before
    asked-maximum next mid e = ap (λ v. a.calls.maximum v) e ∙ law.agree.keeps_maximum.asking next s ∙ at.maximum

    -- it is left off between two firings
    pub off-here : LeftOffAt a before olds tag X own now
    off-here m made h e p = left-off m h e p (kepts_of (all_of now)) ((middle-of m (finished-made m (kepts_of (all_of now)) made)).off h e (met-own m h e p))

    -- it asks for a firing of child i
    module _ (i : ℕ) (when : Tag) (g : a.calls.Gives s (Fire i when)) where
      abbrev t : D
      t = a.calls.asking (Fire i when) s

      pub fire-asked : a.calls.asked_of t ≡ Some i
      fire-asked = law.agree.asked s i when g

      pub fire-in : i < length now
      fire-in = let p = some-middle.fires_one i when g in omega (arith, p, nodes-long now)

      module _ (child : Shown) (there : get now i ≡ Some child) where
        pub fire-lent : IsLentTo rows (node_of child) (a.calls.lent_of t)
        fire-lent = some-middle.lends i when g (node_of child) (nodes-get now i child there)

        module _ (after : Shown) where
          -- which is done and recorded
          pub at-fired : (s' : D) (left' : ℕ) → ChildFired a.calls t child i when s' after → outline_of after ≡ outline_of child → count_of after + left' ≡ count_of child + left → left' ≤ left → At a before olds tag X allowance own s' (set now i after) left'
          at-fired s' left' f o c l = record {
            going = record {
              fit = fit-set now i after f.fit at.going.fit;
              so_far = λ m made.
                  let fires = f.fires (below_child i m) (made-of-fired m now i child after there made) in
                  subst (λ v. a.Underway (beginning a m before (all_of olds) tag X) v (tree.list_of (nodes_of (all_of (set now i after)))) (kepts_of (all_of (set now i after)))) (sym f.told)
                  (subst (λ ns. a.Underway (beginning a m before (all_of olds) tag X) (a.calls.told i f.out (next_of rows (node_of after)) (need_of rows (node_of after)) t) ns (kepts_of (all_of (set now i after)))) (sym (nodes-set now i after))
                  (subst (λ ks. a.Underway (beginning a m before (all_of olds) tag X) (a.calls.told i f.out (next_of rows (node_of after)) (need_of rows (node_of after)) t) (set (tree.list_of (nodes_of (all_of now))) i (node_of after)) ks) (sym (kepts-set now i after))
                  ((middle-of m (made-before m now i child after there fires.log fires.kept made)).goes_on i when g (node_of child) (node_of after) f.out (kept_of after) (nodes-get now i child there)
                  (subst (λ k. FiresTo (λ fuel. Step fuel rows (below_child i m) (node_of child) when (a.calls.lent_of t)) (node_of after) f.out k (kept_of after)) (sym (kepts-at now i child there)) fires) f.accepted)));
            };
            outlines = outlines-set now i child after there o ∙ at.outlines;
            maximum = ap (λ v. a.calls.maximum v) f.told ∙ law.agree.keeps_maximum.told i f.out (next_of rows (node_of after)) (need_of rows (node_of after)) t ∙ asked-maximum (Fire i when) t refl;
            met = same-met s' (ap (λ v. a.calls.met v) f.told ∙ law.agree.tells_meetings.told i f.out (next_of rows (node_of after)) (need_of rows (node_of after)) t ∙ asked-met (Fire i when) t refl);
            counted = counts-set now i child after left left' (counts_of (all_of olds) + allowance) there c at.counted;
            lowered = omega (arith, l, at.lowered);
          }

          -- names and counts, however it went
          pub outlines-after : outline_of after ≡ outline_of child → outlines_of (all_of (set now i after)) ≡ outlines_of (all_of olds)
          outlines-after o = outlines-set now i child after there o ∙ at.outlines

          pub counted-after : (left' : ℕ) → count_of after + left' ≡ count_of child + left → counts_of (all_of (set now i after)) + left' ≡ counts_of (all_of olds) + allowance
          counted-after left' c = counts-set now i child after left left' (counts_of (all_of olds) + allowance) there c at.counted

          -- it is left off in its middle
          pub off-within : ((m : Meets) → AreMade m (kept_of after) → IsLeftOff m (node_of child) when (a.calls.lent_of t) (kept_of child) (kept_of after)) → LeftOffAt a before olds tag X own (set now i after)
          off-within off m made h e p =
              let l = off (below_child i m) (made-of-child m now i child after there made) in
              subst (λ ks. IsLeftOff m (composite a h before (all_of olds)) tag X (kept_by e (kepts_of (all_of olds))) (kept_by (with_meetings own.now e) ks)) (sym (kepts-set now i after))
              (left-off m h e p (set (kepts_of (all_of now)) i (kept_of after))
              ((middle-of m (made-before m now i child after there l.log l.kept (finished-made m (kepts_of (all_of (set now i after))) made))).off_within i when g (node_of child) (kept_of after) (nodes-get now i child there)
              (subst (λ k. IsLeftOff (below_child i m) (node_of child) when (a.calls.lent_of t) k (kept_of after)) (sym (kepts-at now i child there)) l) h e (met-own m h e p)))

          -- a network within it is in a jam
          module _ (path : List ℕ) (labels : List (List ℕ)) (blocked : Blocked) (s' : D) where
            pub full-within : TurnTo a.calls t child i when (turn.Full blocked) s' after → CompositeTo a path labels own before (all_of olds) tag X (Full blocked) s' (all_of (set now i after))
            full-within full m made h e p hs =
                let f = full (below_child i m) (made-of-child m now i child after there made) in
                let asks = (middle-of m (made-before m now i child after there f.0.log f.0.kept (finished-made m (kepts_of (all_of (set now i after))) made))).asks_as i when g (node_of child) (nodes-get now i child there) h (listed m h e p) in (
                  off-within (λ n those. (full n those).0) m made h e p,
                  record {
                    path = i ∷ f.1.path;
                    full = f.1.full;
                    told = record {
                      path_is = ap (λ os. text_below os i f.1.path) (sym at.outlines) ∙ text-get now i child f.1.path there ∙ f.1.told.path_is;
                      channels = f.1.told.channels ∙ ap (λ ls. told_by ls f.1.full) (sym (ap (λ os. labels_below os i f.1.path) (sym at.outlines) ∙ labels-get now i child f.1.path there));
                    };
                    jams = (
                      asks.0 + f.1.jams.0,
                      λ k l. (
                        p.number ∙ sym p.count,
                        record { number = i; node = node_of child },
                        when,
                        a.calls.lent_of t,
                        asks.1 k (omega (arith, l)),
                        jam-below (below_child i m) now i child after there (outlines_of (all_of olds)) at.outlines k f.1.path when (a.calls.lent_of t) f.1.full (f.1.jams.1 k (omega (arith, l))),
                      ),
                    );
                  },
                )

          module _ (path : List ℕ) (labels : List (List ℕ)) (place : Place) (s' : D) where
            -- it is stuck
            stuck-within : ((m : Meets) → AreMade m (kept_of after) → IsStuck m (node_of child) when (a.calls.lent_of t) (outline_of child) place (kept_of child) (kept_of after)) → CompositeTo a path labels own before (all_of olds) tag X (Fault place) s' (all_of (set now i after))
            stuck-within sticks m made h e p hs =
                let k = sticks (below_child i m) (made-of-child m now i child after there made) in (
                  i ∷ k.0,
                  ap (λ os. text_below os i k.0) (sym at.outlines) ∙ text-get now i child k.0 there ∙ k.1,
                  subst (λ ks. IsStuckIn m (composite a h before (all_of olds)) tag X (fault_of (i ∷ k.0) place) (kept_by e (kepts_of (all_of olds))) (kept_by (with_meetings own.now e) ks)) (sym (kepts-set now i after))
                      (stuck-in m h e p (fault_of (i ∷ k.0) place) (set (kepts_of (all_of now)) i (kept_of after))
                      ((middle-of m (made-before m now i child after there k.2.log k.2.kept (finished-made m (kepts_of (all_of (set now i after))) made))).sticks i when g (node_of child) (kept_of after) (fault_of k.0 place) (nodes-get now i child there)
                      (subst (λ v. IsStuckIn (below_child i m) (node_of child) when (a.calls.lent_of t) (fault_of k.0 place) v (kept_of after)) (sym (kepts-at now i child there)) k.2) h e (met-own m h e p))),
                )

            -- it gave what isn't accepted
            refused-within : ChildRefused a.calls t child i when place after → CompositeTo a path labels own before (all_of olds) tag X (Fault place) s' (all_of (set now i after))
            refused-within u m made h e p hs =
                let gives = u.fires (below_child i m) (made-within (below_child i m) (kept_of after) (made-of-child m now i child after there made)) in
                let told : child_fault i (node_of child) (a.calls.refusal t) ≡ fault_of (i ∷ []) place = ap₂ (λ n c. let f : machine.Fault = record { path = i ∷ []; firing = n; code = c } in f) (sym u.firing) (ap (λ k. code_of k) (sym u.kind)) in (
                  i ∷ [],
                  ap (λ os. text_below os i []) (sym at.outlines) ∙ text-get now i child [] there ∙ u.path,
                  subst (λ ks. IsStuckIn m (composite a h before (all_of olds)) tag X (fault_of (i ∷ []) place) (kept_by e (kepts_of (all_of olds))) (kept_by (with_meetings own.now e) ks)) (sym (kepts-set now i after))
                      (subst (λ f. IsStuckIn m (composite a h before (all_of olds)) tag X f (kept_by e (kepts_of (all_of olds))) (kept_by (with_meetings own.now e) (set (kepts_of (all_of now)) i (kept_of after)))) told
                      (stuck-in m h e p (child_fault i (node_of child) (a.calls.refusal t)) (set (kepts_of (all_of now)) i (kept_of after))
                      ((middle-of m (made-before m now i child after there gives.log gives.kept (finished-made m (kepts_of (all_of (set now i after))) made))).refuses i when g (node_of child) u.next u.out (kept_of after) (nodes-get now i child there)
                      (subst (λ v. FiresTo (outcome (below_child i m) (node_of child) when (a.calls.lent_of t)) u.next u.out v (kept_of after)) (sym (kepts-at now i child there)) gives) u.refused h e (met-own m h e p)))),
                )

            pub fault-within : TurnTo a.calls t child i when (turn.Fault place) s' after → CompositeTo a path labels own before (all_of olds) tag X (Fault place) s' (all_of (set now i after))
            fault-within f = by f
              where
                by : ((m : Meets) → AreMade m (kept_of after) → IsStuck m (node_of child) when (a.calls.lent_of t) (outline_of child) place (kept_of child) (kept_of after)) ⊎ ChildRefused a.calls t child i when place after → CompositeTo a path labels own before (all_of olds) tag X (Fault place) s' (all_of (set now i after))
                by (inl sticks) = stuck-within sticks
                by (inr u) = refused-within u

    -- it asks for an early answer of child i
    module _ (i : ℕ) (when : Tag) (g : a.calls.Gives s (Early i when)) where
      pub early-asked : a.calls.listened_of (a.calls.asking (Early i when) s) ≡ Some i
      early-asked = law.agree.listened s i when g

      pub early-in : i < length now
      early-in = let p = some-middle.listens i when g in omega (arith, p, nodes-long now)

      module _ (child : Shown) (there : get now i ≡ Some child) (s' : D) (e : s' ≡ a.calls.heard i (early_of rows when (node_of child) (a.calls.partial_of (a.calls.asking (Early i when) s))) (a.calls.asking (Early i when) s)) where
        pub early-learns : a.calls.waits s' < a.calls.waits s
        early-learns = subst (λ v. a.calls.waits v < a.calls.waits s) (sym e) (some-middle.learns i when g (early_of rows when (node_of child) (a.calls.partial_of (a.calls.asking (Early i when) s))))

        pub at-heard : At a before olds tag X allowance own s' now left
        at-heard = record {
          going = record {
            fit = at.going.fit;
            so_far = λ m made.
                subst (λ v. a.Underway (beginning a m before (all_of olds) tag X) v (tree.list_of (nodes_of (all_of now))) (kepts_of (all_of now))) (sym e)
                ((middle-of m made).hears i when g (node_of child) (nodes-get now i child there));
          };
          outlines = at.outlines;
          maximum = ap (λ v. a.calls.maximum v) e ∙ law.agree.keeps_maximum.heard i (early_of rows when (node_of child) (a.calls.partial_of (a.calls.asking (Early i when) s))) (a.calls.asking (Early i when) s) ∙ asked-maximum (Early i when) (a.calls.asking (Early i when) s) refl;
          met = same-met s' (ap (λ v. a.calls.met v) e ∙ law.agree.tells_meetings.heard i (early_of rows when (node_of child) (a.calls.partial_of (a.calls.asking (Early i when) s))) (a.calls.asking (Early i when) s) ∙ asked-met (Early i when) (a.calls.asking (Early i when) s) refl);
          counted = at.counted;
          lowered = at.lowered;
        }

    -- it asks that child i is brought back to its start
    module _ (i : ℕ) (g : a.calls.Gives s (Reset i)) where
      pub reset-in : i < length now
      reset-in = let p = some-middle.resets_one i g in omega (arith, p, nodes-long now)

      pub reset-rests : (s' : D) → s' ≡ a.calls.asking (Reset i) s → a.calls.waits s' < a.calls.waits s
      reset-rests s' e = subst (λ v. a.calls.waits v < a.calls.waits s) (sym e) (some-middle.rests i g)

      module _ (child after : Shown) (there : get now i ≡ Some child) (k : KeepsRecords child after) where
        same-kept : kepts_of (all_of (set now i after)) ≡ kepts_of (all_of now)
        same-kept = kepts-same now i child after there k.kept

        pub at-reset : (s' : D) → s' ≡ a.calls.asking (Reset i) s → WasReset child after → At a before olds tag X allowance own s' (set now i after) left
        at-reset s' e r = record {
          going = record {
            fit = fit-set now i after r.live.1 at.going.fit;
            so_far = λ m made.
                subst (λ v. a.Underway (beginning a m before (all_of olds) tag X) v (tree.list_of (nodes_of (all_of (set now i after)))) (kepts_of (all_of (set now i after)))) (sym e)
                (subst (λ ks. a.Underway (beginning a m before (all_of olds) tag X) (a.calls.asking (Reset i) s) (tree.list_of (nodes_of (all_of (set now i after)))) ks) (sym same-kept)
                (subst (λ ns. a.Underway (beginning a m before (all_of olds) tag X) (a.calls.asking (Reset i) s) ns (kepts_of (all_of now))) (sym (nodes-set now i after ∙ ap (λ n. set (tree.list_of (nodes_of (all_of now))) i n) r.node))
                ((middle-of m (subst (λ ks. AllMadeBefore m ks) same-kept made)).resets i g (node_of child) (nodes-get now i child there))));
          };
          outlines = outlines-set now i child after there k.outline ∙ at.outlines;
          maximum = asked-maximum (Reset i) s' e;
          met = same-met s' (asked-met (Reset i) s' e);
          counted = ap (λ n. n + left) (counts-same now i child after there k.count) ∙ at.counted;
          lowered = at.lowered;
        }

        -- there was no memory for that
        pub reset-halts : (mid : D) → mid ≡ a.calls.asking (Reset i) s → Halts a before olds tag X allowance own mid (set now i after) left
        reset-halts mid e = record {
          state = s;
          kids = now;
          at = at;
          kept = same-kept;
          outlines = outlines-set now i child after there k.outline;
          counts = counts-same now i child after there k.count;
          maximum = asked-maximum (Reset i) mid e;
        }

    -- it has made a move of its own
    module _ (answer : Ask) (move : IsMove answer) (g : a.calls.Gives s answer) (s' : D) (e : s' ≡ a.calls.asking answer s) where
      pub move-lessens : a.calls.waits s' < a.calls.waits s
      move-lessens = subst (λ v. a.calls.waits v < a.calls.waits s) (sym e) (some-middle.moves answer move g).1

      at-made : (next : OwnMeetings) → AreRecorded (a.calls.met s') next → At a before olds tag X allowance next s' now left
      at-made next recorded = record {
        going = record {
          fit = at.going.fit;
          so_far = λ m made.
              subst (λ v. a.Underway (beginning a m before (all_of olds) tag X) v (tree.list_of (nodes_of (all_of now))) (kepts_of (all_of now))) (sym e)
              ((middle-of m made).moves answer move g).0;
        };
        outlines = at.outlines;
        maximum = asked-maximum answer s' e;
        met = recorded;
        counted = at.counted;
        lowered = at.lowered;
      }

      -- which isn't a meeting
      pub at-moved : met_after answer (a.calls.met s) ≡ a.calls.met s → At a before olds tag X allowance own s' now left
      at-moved same = at-made own (same-met s' (asked-met answer s' e ∙ same))

      -- or is one, which is recorded
      pub at-met : (meeting : Meeting) → answer ≡ ask.Meet meeting → At a before olds tag X allowance (one_more (meeting_of meeting) own) s' now left
      at-met meeting is =
          at-made (one_more (meeting_of meeting) own)
          (subst (λ v. AreRecorded v (one_more (meeting_of meeting) own)) (sym (asked-met answer s' e ∙ ap (λ v. met_after v (a.calls.met s)) is))
          (more-recorded (a.calls.met s) own at.met (law.agree.tells_meetings.tells meeting s (subst (λ v. a.calls.Gives s v) is g)) (meeting_of meeting)))

    pub halts-here : (mid : D) → a.calls.maximum mid ≡ a.calls.maximum before → Halts a before olds tag X allowance own mid now left
    halts-here mid e = record { state = s; kids = now; at = at; kept = refl; outlines = refl; counts = refl; maximum = e }

    module _ (path : List ℕ) (labels : List (List ℕ)) where
      -- it is finished
      module _ (g : a.calls.Gives s Finished) (mid : D) (is : mid ≡ a.calls.asking Finished s) where
        pub may-finish : a.calls.MayFinish mid
        may-finish = subst (λ v. a.calls.MayFinish v) (sym is) (law.agree.finishes s g)

        done-here : (s' : D) (out : Streams Token) → s' ≡ a.calls.closed (a.calls.asking Finished s) → out ≡ a.calls.own_of (a.calls.asking Finished s) → CompositeTo a path labels own before (all_of olds) tag X (Done out) s' (all_of now)
        done-here s' out c o m made h e p =
            subst (λ v. FiresTo (outcome m (composite a h before (all_of olds)) tag X) (composite a (tree.fired_at tag h) v (all_of now)) out (kept_by e (kepts_of (all_of olds))) (kept_by (with_meetings own.now e) (kepts_of (all_of now)))) (sym c)
            (subst (λ v. FiresTo (outcome m (composite a h before (all_of olds)) tag X) (composite a (tree.fired_at tag h) (a.calls.closed (a.calls.asking Finished s)) (all_of now)) v (kept_by e (kepts_of (all_of olds))) (kept_by (with_meetings own.now e) (kepts_of (all_of now)))) (sym o)
            (subst (λ ks. let n : Tree = tree.Composite (tree.fired_at tag h) (a.calls.start_of (a.calls.closed (a.calls.asking Finished s))) (a.calls.core_of (a.calls.closed (a.calls.asking Finished s))) ks in FiresTo (outcome m (composite a h before (all_of olds)) tag X) n (a.calls.own_of (a.calls.asking Finished s)) (kept_by e (kepts_of (all_of olds))) (kept_by (with_meetings own.now e) (kepts_of (all_of now)))) (nodes-again (nodes_of (all_of now)))
            (subst (λ v. FiresTo (outcome m (composite a h before (all_of olds)) tag X) (laws.node a (tree.fired_at tag h) (a.calls.closed (a.calls.asking Finished s)) (tree.nodes_of (tree.list_of (nodes_of (all_of now))))) (a.calls.own_of (a.calls.asking Finished s)) (kept_by e (kepts_of (all_of olds))) (kept_by v (kepts_of (all_of now)))) (entry-own (a.calls.met s) own at.met m h e p)
            ((middle-of m made).ends g h e (met-own m h e p)))))

        pub finish-goes : (w : Within) (s' : D) → FinishTo a.calls mid w s' → CompositeTo a path labels own before (all_of olds) tag X w s' (all_of now)
        finish-goes (Done out) s' f = done-here s' out (f.0 ∙ ap (λ v. a.calls.closed v) is) (f.1 ∙ ap (λ v. a.calls.own_of v) is)
        finish-goes (Fault place) s' f = absurd f
        finish-goes Spent s' f = absurd f
        finish-goes (Full blocked) s' f = absurd f
        finish-goes Memory s' f = off-here

        pub finish-fits : (w : Within) (s' : D) → FinishTo a.calls mid w s' → KeepsFit a own w s' (all_of now)
        finish-fits (Done out) s' f =
            let none : a.calls.met s' ≡ none_met (a.calls.met s) = ap (λ v. a.calls.met v) f.0 ∙ law.agree.tells_meetings.closed mid ∙ ap (λ v. none_met v) (asked-met Finished mid is) in (
              subst (λ v. a.Fits v (tree.list_of (nodes_of (all_of now)))) (sym (f.0 ∙ ap (λ v. a.calls.closed v) is)) (some-middle.fits g),
              at.going.fit,
              subst (λ v. Serves v (suc own.number) own.now) (sym none) (ends-recorded (a.calls.met s) own at.met),
            )
        finish-fits (Fault place) s' f = tt
        finish-fits Spent s' f = tt
        finish-fits (Full blocked) s' f = tt
        finish-fits Memory s' f = tt

        pub finish-maximum : (w : Within) (s' : D) → FinishTo a.calls mid w s' → a.calls.maximum s' ≡ a.calls.maximum before
        finish-maximum (Done out) s' f = ap (λ v. a.calls.maximum v) f.0 ∙ law.agree.keeps_maximum.closed mid ∙ asked-maximum Finished mid is
        finish-maximum (Fault place) s' f = absurd f
        finish-maximum Spent s' f = absurd f
        finish-maximum (Full blocked) s' f = absurd f
        finish-maximum Memory s' f = ap (λ v. a.calls.maximum v) f ∙ asked-maximum Finished mid is

      -- its own network is in a jam
      module _ (g : a.calls.Gives s ask.Full) (mid : D) (is : mid ≡ a.calls.asking ask.Full s) where
        jammed-here : (s' : D) (blocked : Blocked) → blocked.path ≡ path → blocked.channels ≡ told_by labels (a.calls.blocked mid) → CompositeTo a path labels own before (all_of olds) tag X (Full blocked) s' (all_of now)
        jammed-here s' blocked path_is channels m made h e p hs = (
          off-here m made h e p,
          record {
            path = [];
            full = a.calls.blocked (a.calls.asking ask.Full s);
            told = record { path_is = ap (λ v. Option.Some v) (sym path_is); channels = channels ∙ ap (λ v. told_by labels (a.calls.blocked v)) is };
            jams = (middle-of m (finished-made m (kepts_of (all_of now)) made)).jams g h (listed m h e p) (maximum_at (names a path labels hs before (all_of olds))) (λ q. (kept_by (with_meetings own.now e) (kepts_of (all_of now)) q).count) refl (p.number ∙ sym p.count) (have-made (λ q. (kept_by (with_meetings own.now e) (kepts_of (all_of now)) q).count) now (λ j. refl));
          },
        )

        pub full-goes : (w : Within) (s' : D) → IsFullAt path labels (a.calls.blocked mid) w → CompositeTo a path labels own before (all_of olds) tag X w s' (all_of now)
        full-goes (Done out) s' f = absurd f
        full-goes (Fault place) s' f = absurd f
        full-goes Spent s' f = absurd f
        full-goes (Full blocked) s' f = jammed-here s' blocked f.0 f.1
        full-goes Memory s' f = off-here

        pub full-fits : (w : Within) (s' : D) → IsFullAt path labels (a.calls.blocked mid) w → KeepsFit a own w s' (all_of now)
        full-fits (Done out) s' f = absurd f
        full-fits (Fault place) s' f = tt
        full-fits Spent s' f = tt
        full-fits (Full blocked) s' f = tt
        full-fits Memory s' f = tt

        pub full-spends : (w : Within) (left' : ℕ) → IsFullAt path labels (a.calls.blocked mid) w → SpendsAll w left'
        full-spends (Done out) left' f = tt
        full-spends (Fault place) left' f = tt
        full-spends Spent left' f = absurd f
        full-spends (Full blocked) left' f = tt
        full-spends Memory left' f = tt

      -- it is stuck itself
      module _ (kind : RunFault) (g : a.calls.Gives s (Faulted kind None)) where
        stuck-here : (s' : D) (place : Place) → place.path ≡ path → place.firing ≡ own.number → place.kind ≡ kind → CompositeTo a path labels own before (all_of olds) tag X (Fault place) s' (all_of now)
        stuck-here s' place path_is n k m made h e p hs =
            let told : own_fault h kind ≡ fault_of [] place = ap₂ (λ v c. let f : machine.Fault = record { path = []; firing = v; code = c } in f) (p.number ∙ sym n) (ap (λ v. code_of v) (sym k)) in (
              [],
              ap (λ v. Option.Some v) (sym path_is),
              subst (λ f. IsStuckIn m (composite a h before (all_of olds)) tag X f (kept_by e (kepts_of (all_of olds))) (kept_by (with_meetings own.now e) (kepts_of (all_of now)))) told (stuck-in m h e p (own_fault h kind) (kepts_of (all_of now)) ((middle-of m (finished-made m (kepts_of (all_of now)) made)).faults kind g h e (met-own m h e p))),
            )

        pub faulted-goes : (w : Within) (s' : D) → IsFaultAt path own.number kind w → CompositeTo a path labels own before (all_of olds) tag X w s' (all_of now)
        faulted-goes (Done out) s' f = absurd f
        faulted-goes (Fault place) s' f = stuck-here s' place f.0 f.1 f.2
        faulted-goes Spent s' f = absurd f
        faulted-goes (Full blocked) s' f = absurd f
        faulted-goes Memory s' f = off-here

        pub faulted-fits : (w : Within) (s' : D) → IsFaultAt path own.number kind w → KeepsFit a own w s' (all_of now)
        faulted-fits (Done out) s' f = absurd f
        faulted-fits (Fault place) s' f = tt
        faulted-fits Spent s' f = absurd f
        faulted-fits (Full blocked) s' f = tt
        faulted-fits Memory s' f = tt

        pub faulted-spends : (w : Within) (left' : ℕ) → IsFaultAt path own.number kind w → SpendsAll w left'
        faulted-spends (Done out) left' f = tt
        faulted-spends (Fault place) left' f = tt
        faulted-spends Spent left' f = absurd f
        faulted-spends (Full blocked) left' f = tt
        faulted-spends Memory left' f = tt
