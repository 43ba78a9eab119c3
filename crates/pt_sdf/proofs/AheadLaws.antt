-- What the next firings of a child take, that was asked for: what stands in front of its only channel, whatever it gives in them.
use Rattle.std.proofs.Common.{◌≡◌, ℕ, zero, suc, ◌+◌, ◌*◌, ◌<◌, ◌≤◌, List, [], ◌∷◌, ◌++◌, Bool, true, false, length, get_or, take, drop, replicate, ap, sym, subst, ◌∙◌, arith, append_assoc}
use Rattle.std.proofs.Math.Nat.{mul-le-mul_right}
use Rattle.std.proofs.lemmas.List.{append-nil, drop-append-le, take-append-le, drop-drop, length-drop, length-replicate, get_or-replicate, get_or-set_same}
use Rattle.pt_meaning.specs.Streams.{Streams, at}
use Rattle.pt_meaning.specs.Rounds.{has_rates}
use Rattle.pt_meaning.specs.Kahn.{firsts}
use Rattle.pt_meaning.specs.Running.{puts}
use Rattle.pt_laws.proofs.Indexed.{plus-at}
use Rattle.pt_laws.proofs.RunLaws.{plus-length}
use Rattle.pt_value.specs.declared.token.Token.{Token}
use Rattle.pt_sdf_parts.specs.ByNeed.{place_of}
use Rattle.pt_sdf.specs.State.{Open, lent_in, lent_of, left_of, asked, if_told}
use Rattle.pt_sdf.specs.Clauses.{State}
use Rattle.pt_sdf.specs.InARow.{AsksAgain, AreAhead}
use Rattle.pt_sdf_parts.specs.InFront.{AreInFront}
use Rattle.pt_sdf_parts.specs.Lanes.{IsInlet}
use Rattle.pt_sdf_parts.proofs.Lists.{at-is, skip-long}
use Rattle.pt_sdf_parts.proofs.LaneLaws.{inlet-left, inlet-taken}

-- the child has one place in this state, with so many tokens needed there
pub record IsAlone (child c need : ℕ) (s : State) : Type 0 where
  pub inlet : IsInlet s.needs (place_of s.plan.net.places child) (get_or s.plan.net.places child 0) c need
  pub there : place_of s.plan.net.places child + get_or s.plan.net.places child 0 ≤ length s.held
  pub fits : place_of s.plan.net.places child + get_or s.plan.net.places child 0 ≤ length s.needs

module _ (child c need : ℕ) (s : State) (a : IsAlone child c need s) where
  channel-there : c < length s.held
  channel-there = omega (arith, a.inlet.place, a.inlet.alone, a.there)

  alone-lent : lent_of s child ≡ take need (get_or s.held c []) ∷ []
  alone-lent = sym (inlet-taken s.needs s.held (place_of s.plan.net.places child) (get_or s.plan.net.places child 0) c need a.inlet a.there a.fits)

  alone-left : get_or (left_of s child) c [] ≡ drop need (get_or s.held c [])
  alone-left =
      ap (λ X. get_or X c []) (sym (inlet-left s.needs s.held (place_of s.plan.net.places child) (get_or s.plan.net.places child 0) c need a.inlet a.there a.fits))
      ∙ get_or-set_same s.held c (drop need (get_or s.held c [])) [] channel-there

  asked-alone : IsAlone child c need (asked child s)
  asked-alone = record {
    inlet = a.inlet;
    there = omega (arith, a.there, skip-long (place_of s.plan.net.places child) (take (get_or s.plan.net.places child 0) (drop (place_of s.plan.net.places child) s.needs)) s.held);
    fits = a.fits;
  }

-- it was asked for again after k firings, of tokens that stood in front; behind them may stand more
pub record IsAhead (child c need : ℕ) (front : List Token) (k : ℕ) (t : State) : Type 0 where
  pub alone : IsAlone child c need t
  pub lent : lent_in t.stage ≡ take need (drop (k * need) front) ∷ []
  pub more : List Token
  pub left : get_or t.held c [] ≡ drop (suc k * need) front ++ more

module _ (child c need : ℕ) (front : List Token) where
  -- a state in which it may be asked for
  may-ask : (k : ℕ) (s : State) (more : List Token) → IsAlone child c need s → get_or s.held c [] ≡ drop (k * need) front ++ more → suc k * need ≤ length front → IsAhead child c need front k (asked child s)
  may-ask k s more a e enough =
      let room : need ≤ length (drop (k * need) front) = omega (arith, length-drop (k * need) front, enough) in
      record {
        alone = asked-alone child c need s a;
        lent = alone-lent child c need s a ∙ ap (λ (v : List Token). let r : Streams Token = v ∷ [] in r) (ap (λ v. take need v) e ∙ take-append-le need (drop (k * need) front) more room);
        more = more;
        left =
            alone-left child c need s a ∙ ap (λ v. drop need v) e ∙ drop-append-le need (drop (k * need) front) more room ∙ ap (λ v. v ++ more) (drop-drop need (k * need) front ∙ ap (λ n. drop n front) {x = k * need + need} {y = suc k * need} (omega arith));
      }

  told-again : (k : ℕ) (m t : State) (out : Streams Token) (b : Bool) → IsAhead child c need front k m → suc (suc k) * need ≤ length front → (if_told b child out m).stage ≡ Open → t ≡ asked child (if_told b child out m) → IsAhead child c need front (suc k) t
  told-again k m t out false h enough opened e = absurd (cc)
  told-again k m t out true h enough opened e =
      let told : State = if_told true child out m in
      let P : Streams Token = puts child out m.plan.net.sources in
      let long : length told.held ≡ length m.held = plus-length m.held P in
      let alone : IsAlone child c need told = record { inlet = h.alone.inlet; there = omega (arith, h.alone.there, long); fits = h.alone.fits } in
      let there : c < length m.held = channel-there child c need m h.alone in
      let held : get_or told.held c [] ≡ drop (suc k * need) front ++ (h.more ++ at P c) =
      sym (at-is told.held c) ∙ plus-at m.held P c there ∙ ap (λ v. v ++ at P c) (at-is m.held c ∙ h.left) ∙ append_assoc (drop (suc k * need) front) h.more (at P c) in
      subst (λ (v : State). IsAhead child c need front (suc k) v) (sym e) (may-ask (suc k) told (h.more ++ at P c) alone held enough)

  pub ahead : (s : State) (inputs outputs : ℕ → Streams Token) (k : ℕ) (t : State) → IsAhead child c need front 0 s → suc k * need ≤ length front → AsksAgain child inputs outputs k s t → IsAhead child c need front k t
  ahead s inputs outputs zero t h enough e = subst (λ (v : State). IsAhead child c need front 0 v) (sym e) h
  ahead s inputs outputs (suc k) t h enough (m, before, takes, now) =
      let fewer : suc k * need ≤ length front = omega (arith, enough) in
      told-again k m t (outputs k) (has_rates (get_or m.plan.rates child []) (outputs k)) (ahead s inputs outputs k m h fewer before) enough now.0 now.4

  -- so the tokens in front are what the next firings take
  pub front-ahead : (s : State) (rows : List (Streams Token)) → IsAlone child c need s → get_or s.held c [] ≡ front → AreInFront need front rows → AreAhead child rows (asked child s)
  front-ahead s rows a e f inputs outputs k t short asks =
      let some : suc k ≤ length rows = omega (arith, short) in
      let enough : suc k * need ≤ length front = omega (arith, f.enough, mul-le-mul_right need some) in
      let one : 1 * need ≤ length front = omega (arith, enough) in
      let first : IsAhead child c need front 0 (asked child s) = may-ask 0 s [] a (e ∙ sym (append-nil front) ∙ ap (λ n. drop n front ++ []) {x = 0} {y = 0 * need} (omega arith)) one in
      (ahead (asked child s) inputs outputs k t first enough asks).lent ∙ sym (f.each k short)

-- a child without places takes nothing
module _ (child : ℕ) where
  none-lent : (s : State) → get_or s.plan.net.places child 0 ≡ 0 → lent_of s child ≡ []
  none-lent s none =
      ap (λ n. firsts (take n (drop (place_of s.plan.net.places child) s.needs)) (take n (drop (place_of s.plan.net.places child) s.held))) none

  pub record IsNone (t : State) : Type 0 where
    pub none : get_or t.plan.net.places child 0 ≡ 0
    pub lent : lent_in t.stage ≡ []

  told-none : (m t : State) (out : Streams Token) (b : Bool) → IsNone m → (if_told b child out m).stage ≡ Open → t ≡ asked child (if_told b child out m) → IsNone t
  told-none m t out false h opened e = absurd (cc)
  told-none m t out true h opened e = subst (λ (v : State). IsNone v) (sym e) (record { none = h.none; lent = none-lent (if_told true child out m) h.none })

  none-after : (s : State) (inputs outputs : ℕ → Streams Token) (k : ℕ) (t : State) → IsNone s → AsksAgain child inputs outputs k s t → IsNone t
  none-after s inputs outputs zero t h e = subst (λ (v : State). IsNone v) (sym e) h
  none-after s inputs outputs (suc k) t h (m, before, takes, now) =
      told-none m t (outputs k) (has_rates (get_or m.plan.rates child []) (outputs k)) (none-after s inputs outputs k m h before) now.0 now.4

  pub nothing-ahead : (s : State) (firings : ℕ) → get_or s.plan.net.places child 0 ≡ 0 → AreAhead child (replicate firings []) (asked child s)
  nothing-ahead s firings none inputs outputs k t short asks =
      (none-after (asked child s) inputs outputs k t (record { none = none; lent = none-lent s none }) asks).lent ∙ sym (get_or-replicate firings k [] [] (omega (arith, short, length-replicate {A = Streams Token} firings [])))
