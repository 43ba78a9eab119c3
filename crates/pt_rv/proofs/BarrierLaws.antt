-- The tokens of a Barrier's channels that pass one after another.
use Rattle.std.proofs.Common.{◌≡◌, ◌⊎◌, inl, inr, ℕ, zero, suc, ◌+◌, ◌<◌, ◌≤◌, List, [], ◌∷◌, ◌++◌, true, false, nat_eq, length, map, take, get_or, Option, Some, None, refl, sym, ap, ap₂, subst, ◌∙◌, arith, add-one, length-append}
use Rattle.std.proofs.lemmas.List.{take_all}
use Rattle.pt_meaning.specs.Tag.{origin}
use Rattle.pt_meaning.specs.Streams.{at, get, change_at}
use Rattle.pt_meaning.specs.Log.{Barrier}
use Rattle.pt_meaning.specs.Meetings.{Target, Place, Outlet, Hop, all_there, hops_in, hops, hops_of_child}
use Rattle.pt_meaning.specs.Net.{Net}
use Rattle.pt_meaning.specs.Process.{gets_at}
use Rattle.pt_meaning.specs.Running.{total}
use Rattle.pt_laws.proofs.MeetingIndex.{targets-are}
use Rattle.pt_value.specs.declared.token.Token.{Token}
use Rattle.pt_pn_laws.specs.State.{offset_of}
use Rattle.pt_pn_laws.proofs.ListLaws.{either-nat, nat-apart, nat-other, at-change, at-change-other}
use Rattle.pt_rv_laws.specs.State.{Processes, RvState, Open, IsLegal}
use Rattle.pt_rv_work.specs.Core.{Standing, Moving, nobody, next_of, offer_in, offers_in, passed_to, all_passed, state_with}
use Rattle.pt_rv_work.proofs.SeenLaws.{barriers-are-seen}
use Rattle.pt_rv_parts.specs.Process.{MayTake, TakesAt}
use Rattle.pt_rv_parts.specs.Team.{NoneHanded}
use Rattle.pt_rv_parts.proofs.GatherLaws.{most-over}
use Rattle.pt_rv.specs.declared.parties.Parties.{Parties}
use Rattle.pt_rv.specs.Parties.{IsLevel, AllLevel, Joins, moving_in, is_there}
use Rattle.pt_rv.proofs.ShapeLaws.{SameShape, shape-self, shape-then, passed-shape, passed-here, passed-there, passed-out}
use Rattle.pt_rv.proofs.NextLaws.{Lacks, joins-lacks, gets-no-level}

-- what is offered on each of so many channels
pub offer-there : (net : Net) (w : Moving Token) (hs : List Hop) (q : ℕ) (h : Hop) → all_there (offers_in net w hs) ≡ true → get hs q ≡ Some h → (x : Token) × (offer_in net w h.channel ≡ Some x) × (get (offers_in net w hs) q ≡ Some (Some x))
offer-there net w [] q h a e = absurd (cc)
offer-there net w (k ∷ hs) zero h a e = here (offer_in net w k.channel) refl a
  where
    same : k ≡ h
    same = some-is k h e
      where
        some-is : (a b : Hop) → Option.Some a ≡ Option.Some b → a ≡ b
        some-is a b e = cc

    here : (o : Option Token) → offer_in net w k.channel ≡ o → all_there (o ∷ offers_in net w hs) ≡ true → (x : Token) × (offer_in net w h.channel ≡ Some x) × (get (offer_in net w k.channel ∷ offers_in net w hs) zero ≡ Some (Some x))
    here None f a = absurd (cc)
    here (Some x) f a = (x, ap (λ (v : Hop). offer_in net w v.channel) (sym same) ∙ f, ap (λ v. Option.Some v) f)
offer-there net w (k ∷ hs) (suc q) h a e = offer-there net w hs q h (rest (offer_in net w k.channel) a) e
  where
    rest : (o : Option Token) → all_there (o ∷ offers_in net w hs) ≡ true → all_there (offers_in net w hs) ≡ true
    rest None a = absurd (cc)
    rest (Some x) a = a

offers-long : (net : Net) (w : Moving Token) (hs : List Hop) → length (offers_in net w hs) ≡ length hs
offers-long net w [] = refl
offers-long net w (h ∷ hs) = ap (λ v. suc v) (offers-long net w hs)

-- what is known of a Barrier and of the others once the tokens of so many of its channels have passed
pub record SoFar (net : Net) (b : ℕ) (w v : Moving Token) (q : ℕ) : Type 0 where
  pub moved : v ≡ all_passed net (take q (hops_in net (Barrier b))) (take q (offers_in net w (hops_in net (Barrier b)))) w
  pub shape : SameShape w.processes v.processes
  pub before : (r : ℕ) → r < q → length (at (get_or v.processes b nobody).got r) ≡ length (at (get_or w.processes b nobody).got r) + 1
  pub behind : (r : ℕ) → q ≤ r → length (at (get_or v.processes b nobody).got r) ≡ length (at (get_or w.processes b nobody).got r)
  pub others : (i : ℕ) → nat_eq b i ≡ false → (get_or v.processes i nobody).got ≡ (get_or w.processes i nobody).got

pub none-so-far : (net : Net) (b : ℕ) (w : Moving Token) → SoFar net b w w 0
none-so-far net b w = record {
  moved = nothing (hops_in net (Barrier b));
  shape = shape-self w.processes;
  before = λ r l. absurd (omega (arith, l));
  behind = λ r l. refl;
  others = λ i z. refl;
}
  where
    nothing : (hs : List Hop) → w ≡ all_passed net (take 0 hs) (take 0 (offers_in net w hs)) w
    nothing [] = refl
    nothing (h ∷ hs) = refl

module _ (p : Processes) (w : Parties) (b : ℕ) (told : p.plan.barriers ≡ map (λ (x : Standing Token). x.barrier) w.team) (j : Joins p w b) (level : AllLevel w.team) where
  abbrev net : Net
  net = p.plan.net

  abbrev m : Moving Token
  m = moving_in w

  abbrev hs : List Hop
  hs = hops_in net (Barrier b)

  abbrev state : RvState Token
  state = state_with p m [] origin Open

  legal : IsLegal state (Barrier b)
  legal = barriers-are-seen.legal p m [] origin Open told b j.offered j.joins

  hop-is : (q : ℕ) → q < get_or net.places b 0 → get hs q ≡ Some (record { channel = offset_of net.places b + q; target = Place b q })
  hop-is q l = targets-are.hops net b q j.there l

  -- the channel is still offered what it was
  pub offered-still : (v : Moving Token) (q : ℕ) → SoFar net b m v q → q < get_or net.places b 0 → (x : Token) × (offer_in net v (offset_of net.places b + q) ≡ Some x) × (get (offers_in net m hs) q ≡ Some (Some x))
  offered-still v q s l =
      let h : Hop = record { channel = offset_of net.places b + q; target = Place b q } in
      let r = offer-there net m hs q h j.offered (hop-is q l) in
      (r.0, ap (λ y. offer_in net y (offset_of net.places b + q)) s.moved ∙ barriers-are-seen.stays p m [] origin Open told b q h j.there legal l (hop-is q l) ∙ r.1, r.2)

  lacks : Lacks (get_or w.team b nobody)
  lacks = joins-lacks (get_or w.team b nobody) j.joins

  -- and the Barrier takes it
  pub takes-still : (v : Moving Token) (q : ℕ) → SoFar net b m v q → NoneHanded v.processes → q < length (get_or w.team b nobody).got → MayTake (get_or v.processes b nobody) q
  takes-still v q s free l =
      let k = s.shape.like b in
      let same = level b lacks.barrier lacks.ns lacks.need q lacks.place l lacks.there in
      let few = lacks.fewer in
      let now = s.behind q (omega arith) in
      record {
        gathers = free b;
        there = let e = k.places in omega (arith, e, l);
        takes = subst (λ t. TakesAt t (get_or v.processes b nobody).need (get_or v.processes b nobody).got q) (sym (k.barrier ∙ lacks.barrier))
            (subst (λ n. TakesAt true n (get_or v.processes b nobody).got q) (sym (k.need ∙ lacks.need)) (let most = most-over lacks.ns lacks.place in omega (arith, same, few, now, most)));
      }

  -- one token more has passed
  pub one-more : (v u : Moving Token) (q : ℕ) (x : Token) → SoFar net b m v q → q < get_or net.places b 0 → b < length w.team → q < length (get_or w.team b nobody).got → get (offers_in net m hs) q ≡ Some (Some x) → u ≡ passed_to net (offset_of net.places b + q) (Place b q) x v → SoFar net b m u (q + 1)
  one-more v u q x s l t g o e =
      let h : Hop = record { channel = offset_of net.places b + q; target = Place b q } in
      let shape : SameShape v.processes u.processes = subst (λ y. SameShape v.processes y.processes) (sym e) (passed-shape net (offset_of net.places b + q) (Place b q) x v) in
      let long = s.shape.long in
      let here : (get_or u.processes b nobody).got ≡ change_at q (λ xs. xs ++ (x ∷ [])) (get_or v.processes b nobody).got = ap (λ (y : Moving Token). (get_or y.processes b nobody).got) e ∙ passed-here net (offset_of net.places b + q) b q x v (omega (arith, t, long)) in
      let there : q < length (get_or v.processes b nobody).got = (let k = (s.shape.like b).places in omega (arith, k, g)) in
      record {
        moved = e ∙ ap (λ y. passed_to net (offset_of net.places b + q) (Place b q) x y) s.moved ∙ sym (barriers-are-seen.goes_on p m hs (offers_in net m hs) q h x j.offered (hop-is q l) o) ∙ ap (λ k. all_passed net (take k hs) (take k (offers_in net m hs)) m) (sym (add-one q));
        shape = shape-then m.processes v.processes u.processes s.shape shape;
        before = λ r k. ahead r k here there (either-nat q r);
        behind = λ r k. ap (λ X. length (at X r)) here ∙ ap (λ y. length y) (at-change-other (get_or v.processes b nobody).got q r (λ xs. xs ++ (x ∷ [])) (nat-other q r (λ z. omega (arith, z, k)))) ∙ s.behind r (omega (arith, k));
        others = λ i z. ap (λ (y : Moving Token). (get_or y.processes i nobody).got) e ∙ passed-there net (offset_of net.places b + q) b q x v i z ∙ s.others i z;
      }
    where
      ahead : (r : ℕ) → r < q + 1 → (get_or u.processes b nobody).got ≡ change_at q (λ xs. xs ++ (x ∷ [])) (get_or v.processes b nobody).got → q < length (get_or v.processes b nobody).got → (q ≡ r) ⊎ (nat_eq q r ≡ false) →
          length (at (get_or u.processes b nobody).got r) ≡ length (at (get_or w.team b nobody).got r) + 1
      ahead r k here there (inl z) =
          let a = ap (λ X. length (at X q)) here ∙ ap (λ y. length y) (at-change (get_or v.processes b nobody).got q (λ xs. xs ++ (x ∷ [])) there) ∙ length-append (at (get_or v.processes b nobody).got q) (x ∷ []) in
          let d = s.behind q (omega arith) in
          subst (λ i. length (at (get_or u.processes b nobody).got i) ≡ length (at (get_or w.team b nobody).got i) + 1) z (omega (arith, a, d))
      ahead r k here there (inr z) =
          let a = ap (λ X. length (at X r)) here ∙ ap (λ y. length y) (at-change-other (get_or v.processes b nobody).got q r (λ xs. xs ++ (x ∷ [])) z) in
          let n = nat-apart q r z in
          let d = s.before r (grind arith) in
          omega (arith, a, d)

  -- once all have passed, each Barrier is level again
  pub level-again : (v : Moving Token) (q : ℕ) → SoFar net b m v q → length (get_or w.team b nobody).got ≤ q → AllLevel v.processes
  level-again v q s l i = by (either-nat b i)
    where
      by : (b ≡ i) ⊎ (nat_eq b i ≡ false) → IsLevel (get_or v.processes i nobody)
      by (inl z) = subst (λ k. IsLevel (get_or v.processes k nobody)) z (λ h ns n c d x y.
          let k = s.shape.like b in
          let e = k.places in
          let f = level b (sym k.barrier ∙ h) ns (sym k.need ∙ n) c d (omega (arith, x, e)) (omega (arith, y, e)) in
          let g = s.before c (omega (arith, x, e, l)) in
          let o = s.before d (omega (arith, y, e, l)) in
          omega (arith, f, g, o))
      by (inr z) = λ h ns n c d x y.
          let k = s.shape.like i in
          let e = s.others i z in
          let f = level i (sym k.barrier ∙ h) ns (sym k.need ∙ n) c d (subst (λ X. c < length X) e x) (subst (λ X. d < length X) e y) in
          ap (λ X. length (at X c)) e ∙ f ∙ ap (λ X. length (at X d)) (sym e)

  pub all-so-far : (v : Moving Token) (q : ℕ) → SoFar net b m v q → get_or net.places b 0 ≤ q → v ≡ all_passed net hs (offers_in net m hs) m
  all-so-far v q s l =
      let n = targets-are.how_many net b j.there in
      let o = offers-long net m hs in
      s.moved ∙ ap₂ (λ y z. all_passed net y z m) (take_all q hs (omega (arith, n, l))) (take_all q (offers_in net m hs) (omega (arith, n, o, l)))

-- a meeting on a channel leaves each Barrier level, since none that gathers by counts gets there
pub level-passed : (net : Net) (c : ℕ) (t : Target) (x : Token) (w v : Moving Token) → v ≡ passed_to net c t x w → AllLevel w.processes → ((i place : ℕ) → t ≡ Place i place → (i < length w.processes) × (gets_at place (next_of (get_or w.processes i nobody)) ≡ true)) → AllLevel v.processes
level-passed net c (Outlet o) x w v e level g i = λ h ns n a d y z.
    let k = (subst (λ q. SameShape w.processes q.processes) (sym e) (passed-shape net c (Outlet o) x w)).like i in
    let f = ap (λ (q : Moving Token). (get_or q.processes i nobody).got) e ∙ passed-out net c o x w i in
    ap (λ X. length (at X a)) f ∙ level i (sym k.barrier ∙ h) ns (sym k.need ∙ n) a d (subst (λ X. a < length X) f y) (subst (λ X. d < length X) f z) ∙ ap (λ X. length (at X d)) (sym f)
level-passed net c (Place b q) x w v e level g i = by (either-nat b i)
  where
    shape : SameShape w.processes v.processes
    shape = subst (λ q. SameShape w.processes q.processes) (sym e) (passed-shape net c (Place b q) x w)

    by : (b ≡ i) ⊎ (nat_eq b i ≡ false) → IsLevel (get_or v.processes i nobody)
    by (inl z) = subst (λ k. IsLevel (get_or v.processes k nobody)) z (λ h ns n a d y r.
        absurd (gets-no-level (get_or w.processes b nobody) q (g b q refl).1 (sym (shape.like b).barrier ∙ h) ns (sym (shape.like b).need ∙ n)))
    by (inr s) = λ h ns n a d y z.
        let k = shape.like i in
        let f = ap (λ (r : Moving Token). (get_or r.processes i nobody).got) e ∙ passed-there net c b q x w i s in
        ap (λ X. length (at X a)) f ∙ level i (sym k.barrier ∙ h) ns (sym k.need ∙ n) a d (subst (λ X. a < length X) f y) (subst (λ X. d < length X) f z) ∙ ap (λ X. length (at X d)) (sym f)

-- whether all channels of a Barrier are offered a token, one by one
all-by : (net : Net) (w : Moving Token) (b c p n : ℕ) → ((q : ℕ) → q < n → is_there (offer_in net w (c + q)) ≡ true) → all_there (offers_in net w (hops b c p n)) ≡ true
all-by net w b c p zero h = refl
all-by net w b c p (suc n) h = both (offer_in net w c) (ap (λ k. is_there (offer_in net w k)) (plus c) ∙ h 0 (omega arith)) (all-by net w b (suc c) (suc p) n (λ q l. ap (λ k. is_there (offer_in net w k)) (moved c q) ∙ h (suc q) (omega (arith, l))))
  where
    plus : (c : ℕ) → c ≡ c + 0
    plus c = omega arith

    moved : (c q : ℕ) → suc c + q ≡ c + suc q
    moved c q = omega arith

    both : (o : Option Token) → is_there o ≡ true → all_there (offers_in net w (hops b (suc c) (suc p) n)) ≡ true → all_there (o ∷ offers_in net w (hops b (suc c) (suc p) n)) ≡ true
    both None e a = absurd (cc)
    both (Some x) e a = a

not-all-by : (net : Net) (w : Moving Token) (b c p n q : ℕ) → q < n → is_there (offer_in net w (c + q)) ≡ false → all_there (offers_in net w (hops b c p n)) ≡ false
not-all-by net w b c p zero q l e = absurd (omega (arith, l))
not-all-by net w b c p (suc n) zero l e = none (offer_in net w c) (ap (λ k. is_there (offer_in net w k)) (plus c) ∙ e)
  where
    plus : (c : ℕ) → c ≡ c + 0
    plus c = omega arith

    none : (o : Option Token) → is_there o ≡ false → all_there (o ∷ offers_in net w (hops b (suc c) (suc p) n)) ≡ false
    none None e = refl
    none (Some x) e = absurd (cc)
not-all-by net w b c p (suc n) (suc q) l e = behind (offer_in net w c) (not-all-by net w b (suc c) (suc p) n q (omega (arith, l)) (ap (λ k. is_there (offer_in net w k)) (moved c q) ∙ e))
  where
    moved : (c q : ℕ) → suc c + q ≡ c + suc q
    moved c q = omega arith

    behind : (o : Option Token) → all_there (offers_in net w (hops b (suc c) (suc p) n)) ≡ false → all_there (o ∷ offers_in net w (hops b (suc c) (suc p) n)) ≡ false
    behind None a = refl
    behind (Some x) a = a

child-hops : (b c : ℕ) (ns : List ℕ) (i : ℕ) → i < length ns → hops_of_child b c ns i ≡ hops b (c + total (take i ns)) 0 (get_or ns i 0)
child-hops b c [] i l = absurd (omega (arith, l))
child-hops b c (n ∷ ns) zero l = ap (λ v. hops b v 0 n) (plus c)
  where
    plus : (c : ℕ) → c ≡ c + 0
    plus c = omega arith
child-hops b c (n ∷ ns) (suc i) l = child-hops b (c + n) ns i (omega (arith, l)) ∙ ap (λ v. hops b v 0 (get_or ns i 0)) (joined c n (total (take i ns)))
  where
    joined : (a b c : ℕ) → (a + b) + c ≡ a + (b + c)
    joined a b c = omega arith

barrier-hops : (net : Net) (b : ℕ) → b < length net.places → hops_in net (Barrier b) ≡ hops b (offset_of net.places b) 0 (get_or net.places b 0)
barrier-hops net b l = child-hops b 0 net.places b l ∙ ap (λ v. hops b v 0 (get_or net.places b 0)) (none (total (take b net.places)))
  where
    none : (t : ℕ) → 0 + t ≡ t
    none t = omega arith

pub all-offered : (net : Net) (w : Moving Token) (b : ℕ) → b < length net.places → ((q : ℕ) → q < get_or net.places b 0 → is_there (offer_in net w (offset_of net.places b + q)) ≡ true) → true ≡ all_there (offers_in net w (hops_in net (Barrier b)))
all-offered net w b l h = sym (ap (λ hs. all_there (offers_in net w hs)) (barrier-hops net b l) ∙ all-by net w b (offset_of net.places b) 0 (get_or net.places b 0) h)

pub not-offered : (net : Net) (w : Moving Token) (b q : ℕ) → b < length net.places → q < get_or net.places b 0 → is_there (offer_in net w (offset_of net.places b + q)) ≡ false → false ≡ all_there (offers_in net w (hops_in net (Barrier b)))
not-offered net w b q l m e = sym (ap (λ hs. all_there (offers_in net w hs)) (barrier-hops net b l) ∙ not-all-by net w b (offset_of net.places b) 0 (get_or net.places b 0) q m e)
