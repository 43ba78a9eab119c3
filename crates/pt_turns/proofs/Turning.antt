-- The turn of a child, from what its firing came to and what the director was told.
use Rattle.std.proofs.Common.{◌≡◌, ℕ, [], Bool, true, false, not, Option, Some, None, refl, sym, ap, subst, ◌∙◌, inl, inr}
use Rattle.pt_meaning.specs.Basics.{Tag, Streams}
use Rattle.pt_meaning.specs.Meetings.{Meets}
use Rattle.pt_meaning.specs.Machine.{Need, Over}
use Rattle.pt_meaning.specs.NodeFacts.{need_of, next_of}
use Rattle.pt_meaning.specs.Tree as tree
use Rattle.pt_meaning.specs.Step.{Step}
use Rattle.pt_value.specs.declared.token.Token.{Token}
use Rattle.pt_firing.specs.declared.answer.Blocked.{Blocked}
use Rattle.pt_firing.specs.declared.answer.Place.{Place}
use Rattle.pt_firing.specs.declared.fault.RunFault.{RunFault}
use Rattle.pt_records.specs.Made.{AreMade, AreMadeBefore, AreMadeWithin}
use Rattle.pt_records.specs.Fired.{FiresTo}
use Rattle.pt_core.specs.Acts.{Calls}
use Rattle.pt_core.specs.Lawful.{CallsAgree}
use Rattle.pt_library.specs.LibraryActor.{rows}
use Rattle.pt_node.specs.declared.body.Body.{Body}
use Rattle.pt_node.specs.declared.body.Body.TheVariants as body
use Rattle.pt_node.specs.Shown.{Shown, Branch}
use Rattle.pt_node.specs.Firing as firing
use Rattle.pt_node.specs.View.{Tree, Trees, node_of, nodes_of, node_with, kept_of, outline_of, text_at}
use Rattle.pt_node.specs.Live.{IsFit, HasFired}
use Rattle.pt_node.specs.Told.{IsTold}
use Rattle.pt_turns.specs.declared.within.Within.TheVariants.{Done, Fault, Full}
use Rattle.pt_turns.specs.declared.turn.Turn.{Turn}
use Rattle.pt_turns.specs.declared.turn.Turn.TheVariants as turn
use Rattle.pt_turns.specs.Within.{outcome, IsLeftOff, fired, IsStuck, IsFull, WithinTo, path_of, made_of}
use Rattle.pt_turns.specs.Turns.{TurnTo, TellTo, TurnSpends, RefusesTo}
use Rattle.pt_turns.proofs.Recording.{made-within, made-recorded, off-done, step-fires, fit-recorded, kept-bare, text-own, made-own}

pub turn-off : (old after : Shown) (tag : Tag) (X Y : Streams Token) → X ≡ Y → ((m : Meets) → AreMade m (kept_of after) → IsLeftOff m (node_of old) tag X (kept_of old) (kept_of after)) → (m : Meets) → AreMade m (kept_of after) → IsLeftOff m (node_of old) tag Y (kept_of old) (kept_of after)
turn-off old after tag X Y e w = subst (λ (Z : Streams Token). (m : Meets) → AreMade m (kept_of after) → IsLeftOff m (node_of old) tag Z (kept_of old) (kept_of after)) e w

pub turn-off-done : (old after : Shown) (tag : Tag) (X Y out : Streams Token) → X ≡ Y → WithinTo old tag X (Done out) after → (m : Meets) → AreMade m (kept_of after) → IsLeftOff m (node_of old) tag Y (kept_of old) (kept_of after)
turn-off-done old after tag X Y out e w = turn-off old after tag X Y e (λ m made. off-done m (node_of old) tag X (fired tag (node_of after)) out (kept_of old) (kept_of after) (w m (made-within m (kept_of after) made)))

module _ {D : Type 0} (c : Calls D) where
  -- its firing gave these outputs, of which the director was told
  pub turn-told : (s : D) (old mid : Shown) (i : ℕ) (tag : Tag) (out : Streams Token) (t : Turn) (s' : D) (after : Shown) → WithinTo old tag (c.lent_of s) (Done out) mid → HasFired mid → outline_of mid ≡ outline_of old → made_of mid ≡ made_of old →
      TellTo c s mid i tag out t s' after → TurnTo c s old i tag t s' after
  turn-told s old mid i tag out turn.Done s' after w f o p t =
      let same : after ≡ firing.recorded tag (firing.noted tag out mid) = t.2 in
      record {
        out = out;
        accepted = t.0;
        told = t.1;
        fires = λ m made. subst (λ v. FiresTo (λ k. Step k rows m (node_of old) tag (c.lent_of s)) (node_of v) out (kept_of old) (kept_of v)) (sym same) (step-fires m old mid tag (c.lent_of s) out (w m (made-recorded m tag out mid (subst (λ v. AreMadeBefore m (kept_of v)) same made))));
        fit = subst (λ v. IsFit v) (sym same) (fit-recorded tag out mid f);
      }
  turn-told s old mid i tag out (turn.Fault place) s' after w f o p t =
      inr (record {
        next = fired tag (node_of mid);
        out = out;
        refused = t.0;
        fires = λ m made. subst (λ k. FiresTo (outcome m (node_of old) tag (c.lent_of s)) (fired tag (node_of mid)) out (kept_of old) k) (sym (kept-bare after mid t.4)) (w m (subst (λ k. AreMadeWithin m k) (kept-bare after mid t.4) made));
        path = ap (λ v. text_at v []) (sym o) ∙ text-own mid ∙ ap (λ v. Option.Some v) (sym t.1);
        firing = t.2 ∙ p ∙ sym (made-own old);
        kind = t.3;
      })
  turn-told s old mid i tag out turn.Spent s' after w f o p t = absurd t
  turn-told s old mid i tag out (turn.Full blocked) s' after w f o p t = absurd t
  turn-told s old mid i tag out turn.Memory s' after w f o p t = λ m made.
      let before : AreMade m (kept_of mid) = subst (λ k. AreMade m k) (kept-bare after mid t) made in
      subst (λ k. IsLeftOff m (node_of old) tag (c.lent_of s) (kept_of old) k) (sym (kept-bare after mid t)) (off-done m (node_of old) tag (c.lent_of s) (fired tag (node_of mid)) out (kept_of old) (kept_of mid) (w m (made-within m (kept_of mid) before)))

  pub turn-after : (s : D) (old mid : Shown) (i : ℕ) (tag : Tag) (X out : Streams Token) (t : Turn) (s' : D) (after : Shown) → X ≡ c.lent_of s → WithinTo old tag X (Done out) mid → HasFired mid → outline_of mid ≡ outline_of old → made_of mid ≡ made_of old →
      TellTo c s mid i tag out t s' after → TurnTo c s old i tag t s' after
  turn-after s old mid i tag X out t s' after e w f o p told = turn-told s old mid i tag out t s' after (subst (λ Y. WithinTo old tag Y (Done out) mid) e w) f o p told

  -- or is stuck
  pub turn-stuck : (s : D) (old after : Shown) (i : ℕ) (tag : Tag) (X : Streams Token) (place : Place) (s' : D) → X ≡ c.lent_of s → WithinTo old tag X (Fault place) after → TurnTo c s old i tag (turn.Fault place) s' after
  turn-stuck s old after i tag X place s' e w = inl (subst (λ (Y : Streams Token). (m : Meets) → AreMade m (kept_of after) → IsStuck m (node_of old) tag Y (outline_of old) place (kept_of old) (kept_of after)) e w)

  -- or gets a network within into a jam
  pub turn-full : (s : D) (old after : Shown) (i : ℕ) (tag : Tag) (X : Streams Token) (blocked : Blocked) (s' : D) → X ≡ c.lent_of s → WithinTo old tag X (Full blocked) after → TurnTo c s old i tag (turn.Full blocked) s' after
  turn-full s old after i tag X blocked s' e w = subst (λ (Y : Streams Token). (m : Meets) → AreMade m (kept_of after) → IsFull m (node_of old) tag Y (outline_of old) blocked (kept_of old) (kept_of after)) e w

module _ {D : Type 0} (c : Calls D) (agree : CallsAgree c) where
  -- the inputs of a child that was asked for are handed over, which changes nothing else
  module _ (s t : D) (i : ℕ) (a : c.asked_of s ≡ Some i) (e : t ≡ c.handed s) where
    pub handed-once : c.MayLend t
    handed-once = subst (λ v. c.MayLend v) (sym e) (agree.hands s i a).0

    pub asked-once-handed : c.asked_of t ≡ Some i
    asked-once-handed = ap (λ v. c.asked_of v) e ∙ (agree.hands s i a).1

    pub maximum-once-handed : c.maximum t ≡ c.maximum s
    maximum-once-handed = ap (λ v. c.maximum v) e ∙ agree.keeps_maximum.handed s

    pub lent-once-handed : (X : Streams Token) → X ≡ c.lent_of t → X ≡ c.lent_of s
    lent-once-handed X l = l ∙ ap (λ v. c.lent_of v) e ∙ (agree.hands s i a).2

    pub told-once-handed : (mid : Shown) (tag : Tag) (out : Streams Token) (u : Turn) (s' : D) (after : Shown) → TellTo c t mid i tag out u s' after → TellTo c s mid i tag out u s' after
    told-once-handed mid tag out u s' after g = told_so u (subst (λ v. TellTo c v mid i tag out u s' after) e g)
      where
        told_so : (u : Turn) → TellTo c (c.handed s) mid i tag out u s' after → TellTo c s mid i tag out u s' after
        told_so turn.Done g = let o = agree.hands_on s i a out (next_of rows (node_of after)) (need_of rows (node_of after)) in (sym o.1 ∙ g.0, g.1 ∙ o.0, g.2)
        told_so (turn.Fault place) g = let o = agree.hands_on s i a out None Over in (sym o.1 ∙ g.0, g.1, g.2, g.3 ∙ o.2, g.4)
        told_so turn.Spent g = g
        told_so (turn.Full blocked) g = g
        told_so turn.Memory g = g

  -- the director tells whether it accepts what it was told
  module _ (s t : D) (i : ℕ) (out : Streams Token) (wake : Option Tag) (need : Need) (a : c.asked_of s ≡ Some i) (e : t ≡ c.told i out wake need s) where
    pub may-ask-once-told : c.MayAsk t
    may-ask-once-told = subst (λ v. c.MayAsk v) (sym e) (agree.asks_on s i out wake need a)

    pub maximum-once-told : c.maximum t ≡ c.maximum s
    maximum-once-told = ap (λ v. c.maximum v) e ∙ agree.keeps_maximum.told i out wake need s

    told-wrong : (b : Bool) → b ≡ c.is_wrong t → b ≡ not (c.accepts s i out)
    told-wrong b w = w ∙ ap (λ v. c.is_wrong v) e ∙ agree.tells s i out wake need a

    pub accepted-so : (b : Bool) → b ≡ c.is_wrong t → b ≡ false → c.accepts s i out ≡ true
    accepted-so b w h = if_not (c.accepts s i out) (sym h ∙ told-wrong b w)
      where
        if_not : (x : Bool) → false ≡ not x → x ≡ true
        if_not true q = refl
        if_not false q = absurd (cc)

    pub refused-so : (b : Bool) → b ≡ c.is_wrong t → b ≡ true → c.accepts s i out ≡ false
    refused-so b w h = if_not (c.accepts s i out) (sym h ∙ told-wrong b w)
      where
        if_not : (x : Bool) → true ≡ not x → x ≡ false
        if_not true q = absurd (cc)
        if_not false q = refl

  -- the same of one that was told with the wake and the need that the child has once its firing is recorded
  module _ (s t : D) (mid : Shown) (i : ℕ) (out : Streams Token) (a : c.asked_of s ≡ Some i) (e : IsTold c s mid i out t) where
    -- whatever the tag
    abbrev some-tag : Tag
    some-tag = record { time = 0; step = 0 }

    abbrev then-is : Tree
    then-is = node_of (firing.recorded some-tag mid)

    pub may-ask-if-told : c.MayAsk t
    may-ask-if-told = may-ask-once-told s t i out (next_of rows then-is) (need_of rows then-is) a (e some-tag)

    pub maximum-if-told : c.maximum t ≡ c.maximum s
    maximum-if-told = maximum-once-told s t i out (next_of rows then-is) (need_of rows then-is) a (e some-tag)

    pub accepted-if-told : (b : Bool) → b ≡ c.is_wrong t → b ≡ false → c.accepts s i out ≡ true
    accepted-if-told b w h = accepted-so s t i out (next_of rows then-is) (need_of rows then-is) a (e some-tag) b w h

    pub refused-if-told : (b : Bool) → b ≡ c.is_wrong t → b ≡ true → c.accepts s i out ≡ false
    refused-if-told b w h = refused-so s t i out (next_of rows then-is) (need_of rows then-is) a (e some-tag) b w h

-- the wake that a child has once its firing is recorded, whatever was noted of it
recorded-noted : (tag : Tag) (out : Streams Token) (s : Shown) → node_of (firing.recorded tag (firing.noted tag out s)) ≡ node_of (firing.recorded tag s)
recorded-noted tag out (Branch g ks) = refl

pub wake-recorded : (tag : Tag) (out : Streams Token) (s after : Shown) (wake : Option Tag) → wake ≡ next_of rows (node_of (firing.recorded tag s)) → after ≡ firing.recorded tag (firing.noted tag out s) → wake ≡ next_of rows (node_of after)
wake-recorded tag out s after wake w e = w ∙ ap (λ v. next_of rows v) (sym (recorded-noted tag out s) ∙ ap (λ v. node_of v) (sym e))

-- and the need, which is that before its firing is recorded
pub need-recorded : (tag : Tag) (s after : Shown) → after ≡ firing.recorded tag s → need_of rows (node_of s) ≡ need_of rows (node_of after)
need-recorded tag s after e = sym (ap (λ v. need_of rows (node_of v)) e ∙ same s)
  where
    of_body : (h h' : tree.Past) (b : Body) (ns : Trees) → need_of rows (node_with h b ns) ≡ need_of rows (node_with h' b ns)
    of_body h h' (body.Actor held) ns = refl
    of_body h h' (body.Composite d) ns = refl

    same : (v : Shown) → need_of rows (node_of (firing.recorded tag v)) ≡ need_of rows (node_of v)
    same (Branch g ks) = of_body (tree.fired_at tag g.past) g.past g.body (nodes_of ks)

-- what was noted of a child changes neither its path nor its number of firings
path-bare : (s t : Shown) → firing.bare s ≡ firing.bare t → path_of s ≡ path_of t
path-bare s t e = sym (of_bare s) ∙ ap (λ v. path_of v) e ∙ of_bare t
  where
    of_bare : (v : Shown) → path_of (firing.bare v) ≡ path_of v
    of_bare (Branch g ks) = refl

made-bare : (s t : Shown) → firing.bare s ≡ firing.bare t → made_of s ≡ made_of t
made-bare s t e = sym (of_bare s) ∙ ap (λ v. made_of v) e ∙ of_bare t
  where
    of_bare : (v : Shown) → made_of (firing.bare v) ≡ made_of v
    of_bare (Branch g ks) = refl

-- a child that isn't accepted is told as stuck
pub tell-refused : {D : Type 0} (c : Calls D) (s s' : D) (mid after : Shown) (i : ℕ) (tag : Tag) (out : Streams Token) (kind : RunFault) (t : Turn) → c.accepts s i out ≡ false → kind ≡ c.refusal s → firing.bare after ≡ firing.bare mid → RefusesTo after kind t → TellTo c s mid i tag out t s' after
tell-refused c s s' mid after i tag out kind turn.Done other k b r = absurd r
tell-refused c s s' mid after i tag out kind (turn.Fault place) other k b r = (other, r.0 ∙ path-bare after mid b, r.1 ∙ made-bare after mid b, r.2 ∙ k, b)
tell-refused c s s' mid after i tag out kind turn.Spent other k b r = absurd r
tell-refused c s s' mid after i tag out kind (turn.Full blocked) other k b r = absurd r
tell-refused c s s' mid after i tag out kind turn.Memory other k b r = b

pub refused-spends : (after : Shown) (kind : RunFault) (t : Turn) (left left' : ℕ) → RefusesTo after kind t → TurnSpends t left left'
refused-spends after kind turn.Done left left' r = absurd r
refused-spends after kind (turn.Fault place) left left' r = tt
refused-spends after kind turn.Spent left left' r = absurd r
refused-spends after kind (turn.Full blocked) left left' r = absurd r
refused-spends after kind turn.Memory left left' r = tt
