-- What the calls of a core come to.
use Rattle.std.proofs.Common.{◌≡◌, ℕ, zero, suc, ◌+◌, ◌-◌, ◌*◌, ◌/◌, ◌<◌, ◌≤◌, true, false, append-nil, List, [], ◌∷◌, ◌++◌, length, get_or, set, take, drop, map, Option, None, Vec, Global, refl, ap, ap₂, sym, subst, ◌∙◌, arith, zero-add}
use Rattle.pt_meaning.specs.Tag.{Tag, origin}
use Rattle.pt_meaning.specs.Streams.{Streams, at}
use Rattle.pt_meaning.specs.Net.{Source, Own, Output}
use Rattle.pt_meaning.specs.Rounds.{has_rates}
use Rattle.pt_meaning.specs.Kahn.{arrived, arrival, firsts}
use Rattle.pt_meaning.specs.Sdf.{SdfPlan, number_at, or_one, iterations, times, leaves}
use Rattle.pt_meaning.specs.Running.{total, plus, puts, zeros}
use Rattle.pt_laws.proofs.FiringLaws.{arrived-long}
use Rattle.pt_value.specs.declared.token.Token.{Token}
use Rattle.pt_sdf_parts.specs.declared.feeds.Feed.{Feed}
use Rattle.pt_sdf.specs.declared.sdf.Stage as declared
use Rattle.pt_sdf.specs.declared.sdf.Stage.TheVariants as code
use Rattle.pt_sdf_parts.specs.ByNeed.{place_of, skip_at}
use Rattle.pt_sdf.specs.State.{Handed, started, begun, asked, handed, after_told, if_told, closed}
use Rattle.pt_sdf_parts.specs.declared.plan.CorePlan.{CorePlan}
use Rattle.pt_sdf_parts.specs.Plan.{plan_of, IsSamePlan}
use Rattle.pt_core.specs.Source.{source_of}
use Rattle.pt_sdf.specs.Clauses.{State}
use Rattle.pt_sdf_parts.specs.Lawful.{occurs, IsNamed}
use Rattle.pt_sdf_parts.specs.Feeds.{Target, row_of, port_of, targets, target_of, rows_in, put_back, allowed_by, AreFeeds, AreThere, AreApart, MovesOnce}
use Rattle.pt_sdf_parts.specs.Rooms.{HasRoom, HaveRooms}
use Rattle.pt_sdf_parts.specs.Lanes.{begins}
use Rattle.pt_sdf.specs.Core.{fired_from, state_of, busy, taken_by, StageFits, IsPosition, IsLevel, AreLevel, HaveRoom, Sound}
use Rattle.pt_sdf_parts.specs.Stretches.{left_at_first}
use Rattle.pt_sdf_parts.proofs.Lists.{at-is, skip-before, skip-long}
use Rattle.pt_sdf_parts.proofs.NeedLaws.{part-fits}
use Rattle.pt_sdf_parts.proofs.FeedLaws.{IsWithin, put-back-is, row-puts, row-arrives, allow-is, feeds-there, feeds-apart}
use Rattle.pt_sdf.proofs.OrderLaws.{fired-none, fired-whole}
use Rattle.pt_sdf.proofs.LevelLaws.{level-begun, allow-bound}
use Rattle.pt_sdf.proofs.SoundLaws.{named-within, rates-long, map-times, zeros-at, arrived-at, fired-never}
use Rattle.pt_sdf_parts.proofs.UnfedLaws.{left-is}

-- a state by its parts
pub same-state : (s t : State) → s.plan ≡ t.plan → s.needs ≡ t.needs → s.first ≡ t.first → s.held ≡ t.held → s.fired ≡ t.fired → s.turns ≡ t.turns → s.tag ≡ t.tag → s.stage ≡ t.stage → s ≡ t
same-state s t a b c d e f g h = λ i. record { plan = a i; needs = b i; first = c i; held = d i; fired = e i; turns = f i; tag = g i; stage = h i }

pub new-state : (p : SdfPlan) (needs order : List ℕ) (first first' held' lent : Streams Token) → first' ≡ first → held' ≡ first → length p.repetitions ≡ length p.net.places → state_of p needs order first' held' lent 0 0 0 origin code.Idle ≡ started p needs first
new-state p needs order first first' held' lent a b e = same-state _ _ refl refl a b (fired-none 0 p.repetitions p.net.places e) refl refl refl

-- how often each child fired before the first firing of an order
pub begun-fired : (p : SdfPlan) (order : List ℕ) (turns : ℕ) → length p.repetitions ≡ length p.net.places → ((i : ℕ) → i < length p.net.places → occurs i order ≡ get_or p.repetitions i 0) → fired_from (turns - left_at_first order turns) [] 0 p.repetitions ≡ zeros p.net.places
begun-fired p [] turns e h = fired-never (turns - 0) 0 p.repetitions p.net.places e (λ i l. sym (h i (omega (arith, l, e))))
begun-fired p (x ∷ order) turns e h = ap (λ w. fired_from w [] 0 p.repetitions) (none turns) ∙ fired-none 0 p.repetitions p.net.places e
  where
    none : (n : ℕ) → n - n ≡ 0
    none n = omega arith

first-position : (order : List ℕ) (turns : ℕ) → IsPosition order turns (left_at_first order turns) 0 code.Open
first-position [] turns = record { whole = omega arith; within = λ h. absurd (omega arith); over = λ h. refl; fits = tt }
first-position (x ∷ order) turns = record { whole = omega arith; within = λ h. omega arith; over = λ h. refl; fits = tt }

module _ (p : SdfPlan) (needs order room offsets : List ℕ) (feeds : List (Vec Feed Global)) (first held : Streams Token) (rooms : List (Option (Vec Token Global))) (lent : Streams Token) (staged : List Token) (turns left place : ℕ) (stage : declared.Stage) (s : Sound p needs order room offsets feeds first held rooms lent staged turns left place stage) where
  within : (c : ℕ) (d : Source) → c < length p.net.sources → IsWithin (length p.net.places) (get_or p.net.sources c d)
  within c d h = named-within p (get_or p.net.sources c d) (s.lawful.named c d h)

  -- after the last turn each child fired as often as it is to
  pub whole-fired : left ≡ 0 → fired_from (turns - left) (take place order) 0 p.repetitions ≡ map (λ q. turns * q) p.repetitions
  whole-fired e = ap₂ (λ w b. fired_from (turns - w) (take b order) 0 p.repetitions) e (s.position.over e) ∙ fired-whole (turns - 0) 0 p.repetitions ∙ ap (λ w. map (λ q. w * q) p.repetitions) (none turns)
    where
      none : (n : ℕ) → n - 0 ≡ n
      none n = omega arith

  -- the row of a child, and that of the own inputs
  module _ (r : ℕ) (row : Vec Feed Global) (h : r < length p.net.places + 1) (e : row ≡ get_or feeds r row) where
    row-is : row.items ≡ get_or (rows_in feeds) r []
    row-is = row-of feeds r row (omega (arith, h, s.fed.targets.counted)) e
      where
        row-of : (feeds : List (Vec Feed Global)) (r : ℕ) (row : Vec Feed Global) → r < length feeds → row ≡ get_or feeds r row → row.items ≡ get_or (rows_in feeds) r []
        row-of [] r row h e = absurd (omega arith)
        row-of (f ∷ feeds) zero row h e = ap (λ (v : Vec Feed Global). v.items) e
        row-of (f ∷ feeds) (suc r) row h e = row-of feeds r row (omega arith) e

    pub row-targets : map target_of row.items ≡ targets (length p.net.places) r 0 p.net.sources
    row-targets = ap (λ v. map target_of v) row-is ∙ s.fed.targets.each r h

    pub row-apart : AreApart row.items
    row-apart = feeds-apart (length p.net.places) r row.items p.net.sources row-targets

    pub row-moves : MovesOnce row.items
    row-moves = subst (λ v. MovesOnce v) (sym row-is) (s.fed.moves r h)

    pub row-there : (ports : ℕ) → ((x : ℕ) (d : Source) → x < length p.net.sources → row_of (length p.net.places) (get_or p.net.sources x d) ≡ r → port_of (get_or p.net.sources x d) < ports) → AreThere (length held) ports row.items
    row-there ports q = feeds-there (length p.net.places) r row.items p.net.sources row-targets (length held) ports (omega (arith, s.counted)) q

  -- a child that was told what it gave
  pub child-ports : {T : Type 0} (child : ℕ) (out : Streams T) → child < length p.net.places → has_rates (get_or p.rates child []) out ≡ true → (x : ℕ) (d : Source) → x < length p.net.sources → row_of (length p.net.places) (get_or p.net.sources x d) ≡ child → port_of (get_or p.net.sources x d) < length out
  child-ports {T} child out c r x d h e = port-of (get_or p.net.sources x d) (s.lawful.named x d h) e
    where
      port-of : (t : Source) → IsNamed p t → row_of (length p.net.places) t ≡ child → port_of t < length out
      port-of (Own port) n z = absurd (omega (arith, c, z))
      port-of (Output j port) n z = omega (arith, subst (λ v. port < length (get_or p.rates v [])) z n.1, rates-long (get_or p.rates child []) out r)

  pub child-puts : (child : ℕ) (row : Vec Feed Global) (out held' : Streams Token) → child < length p.net.places → row ≡ get_or feeds child row → held' ≡ put_back (map target_of row.items) out held → held' ≡ plus held (puts child out p.net.sources)
  child-puts child row out held' c e d =
      d ∙ ap (λ v. put_back v out held) (row-targets child row (omega (arith, c)) e) ∙ put-back-is (length p.net.places) child out p.net.sources held (sym s.counted) ∙ ap (λ v. plus held v) (row-puts (length p.net.places) child out p.net.sources c)

  -- the same by the targets of its row
  pub child-puts-on : (child : ℕ) (ts : List Target) (out held' : Streams Token) → child < length p.net.places → map target_of (get_or (rows_in feeds) child []) ≡ ts → held' ≡ put_back ts out held → held' ≡ plus held (puts child out p.net.sources)
  child-puts-on child ts out held' c e d =
      d ∙ ap (λ v. put_back v out held) (sym e ∙ s.fed.targets.each child (omega (arith, c))) ∙ put-back-is (length p.net.places) child out p.net.sources held (sym s.counted) ∙ ap (λ v. plus held v) (row-puts (length p.net.places) child out p.net.sources c)

  pub child-feeds-there : (child : ℕ) (out : Streams Token) → child < length p.net.places → has_rates (get_or p.rates child []) out ≡ true → AreThere (length held) (length out) (get_or (rows_in feeds) child [])
  child-feeds-there child out c r =
      feeds-there (length p.net.places) child (get_or (rows_in feeds) child []) p.net.sources (s.fed.targets.each child (omega (arith, c))) (length held) (length out) (omega (arith, s.counted)) (child-ports child out c r)

  -- the own inputs
  pub own-ports : {T : Type 0} (inputs : Streams T) → length inputs ≡ length p.takes → (x : ℕ) (d : Source) → x < length p.net.sources → row_of (length p.net.places) (get_or p.net.sources x d) ≡ length p.net.places → port_of (get_or p.net.sources x d) < length inputs
  own-ports {T} inputs l x d h e = port-of (get_or p.net.sources x d) (s.lawful.named x d h) e
    where
      port-of : (t : Source) → IsNamed p t → row_of (length p.net.places) t ≡ length p.net.places → port_of t < length inputs
      port-of (Own port) n z = omega (arith, n, l)
      port-of (Output j port) n z = absurd (omega (arith, n.0, z))

  pub own-arrives : (row : Vec Feed Global) (inputs held' : Streams Token) → row ≡ get_or feeds (length p.net.places) row → held' ≡ put_back (map target_of row.items) inputs held → held' ≡ arrived p.net.sources inputs held
  own-arrives row inputs held' e d =
      d ∙ ap (λ v. put_back v inputs held) (row-targets (length p.net.places) row (omega arith) e) ∙ put-back-is (length p.net.places) (length p.net.places) inputs p.net.sources held (sym s.counted) ∙ row-arrives (length p.net.places) inputs held p.net.sources within (sym s.counted)

  pub own-turns : (row : Vec Feed Global) (turns' : ℕ) (held' : Streams Token) → row ≡ get_or feeds (length p.net.places) row → length held' ≡ length held → turns' ≡ or_one (allowed_by p.takes (map target_of row.items) held') → turns' ≡ iterations p held'
  own-turns row turns' held' e l t =
      t ∙ ap (λ v. or_one (allowed_by p.takes v held')) (row-targets (length p.net.places) row (omega arith) e) ∙ ap or_one (allow-is (length p.net.places) p.takes p.net.sources held' within (sym s.counted ∙ sym l))

  -- a firing of the composite begins
  module _ (g : stage ≡ code.Idle) (inputs held' : Streams Token) (turns' left' : ℕ) (d : held' ≡ arrived p.net.sources inputs held) (t : turns' ≡ iterations p held') (l : left' ≡ left_at_first order turns') where
    idle-over : left ≡ 0
    idle-over = subst (λ v. StageFits v left place order) g s.position.fits

    begun-zeros : fired_from (turns' - left') [] 0 p.repetitions ≡ zeros p.net.places
    begun-zeros = ap (λ v. fired_from (turns' - v) [] 0 p.repetitions) l ∙ begun-fired p order turns' s.lawful.repetitions s.lawful.often

    begun-level : (i k : ℕ) → i < length p.net.places → k < get_or p.net.places i 0 →
        IsLevel p turns' (length (at first (place_of p.net.places i + k))) (length (at held' (place_of p.net.places i + k))) (get_or needs (place_of p.net.places i + k) 0) i (fired_from (turns' - left') [] 0 p.repetitions) (fired_from (turns' - left') [] 0 p.repetitions) (get_or p.net.sources (place_of p.net.places i + k) (Own 0))
    begun-level i k h b =
        let c : ℕ = place_of p.net.places i + k in
        let src : Source = get_or p.net.sources c (Own 0) in
        let fit : c < length p.net.sources = omega (arith, b, part-fits p.net.places i h, s.lawful.channels) in
        let F : List ℕ = fired_from (turns - left) (take place order) 0 p.repetitions in
        let there : at held' c ≡ at held c ++ arrival src inputs = ap (λ v. at v c) d ∙ arrived-at p.net.sources inputs held c (Own 0) fit (omega (arith, fit, s.counted)) in
        level-begun p order turns (length (at first c)) (length (at held c)) (get_or needs c 0) i turns' (length (at held' c)) F (fired_from (turns' - left') [] 0 p.repetitions) src (s.lawful.supplied i k h b)
        (subst (λ v. IsLevel p turns (length (at first c)) (length (at held c)) (get_or needs c 0) i (taken_by (busy v) F) F src) g (s.level i k h b))
        (λ j. ap (λ v. get_or v j 0) (whole-fired idle-over) ∙ map-times turns p.repetitions j) (λ j. ap (λ v. get_or v j 0) begun-zeros ∙ zeros-at p.net.places j)
        (λ child port z. ap (λ v. length v) (there ∙ ap (λ v. at held c ++ arrival v inputs) z ∙ append-nil (at held c)))
        (λ port z. let q = allow-bound p.takes p.net.sources held' c port (Own 0) fit (omega (arith, fit, s.counted, ap (λ v. length v) d, arrived-long p.net.sources inputs held)) z in
        subst (λ v. v ≤ length (at held' c) / number_at p.takes port) (sym (t ∙ ap or_one q.1)) q.2)

    pub begin-sound : (staged' : List Token) → staged' ≡ [] → Sound p needs order room offsets feeds first held' rooms lent staged' turns' left' 0 code.Open
    begin-sound staged' m = record {
      lawful = s.lawful;
      places_begin = s.places_begin;
      fed = s.fed;
      counted = ap (λ v. length v) d ∙ arrived-long p.net.sources inputs held ∙ s.counted;
      position = subst (λ v. IsPosition order turns' v 0 code.Open) (sym l) (first-position order turns');
      level = begun-level;
      rooms_counted = s.rooms_counted;
      roomy = subst (λ v. HaveRoom p.net.places needs rooms (busy v)) g s.roomy;
      lists = s.lists;
      none_staged = m;
    }

    pub begin-state : (tag tag' : Tag) → state_of p needs order first held' lent turns' left' 0 tag' code.Open ≡ begun tag' inputs (state_of p needs order first held lent turns left place tag stage)
    begin-state tag tag' = same-state _ _ refl refl refl d begun-zeros (t ∙ ap (λ v. iterations p v) d) refl refl

  -- with no memory all stays
  pub idle-kept : (held' : Streams Token) (staged' : List Token) → held' ≡ held → staged' ≡ [] → Sound p needs order room offsets feeds first held' rooms lent staged' turns left place stage
  idle-kept held' staged' d m = record {
    lawful = s.lawful;
    places_begin = s.places_begin;
    fed = s.fed;
    counted = ap (λ v. length v) d ∙ s.counted;
    position = s.position;
    level = subst (λ v. AreLevel p needs first v turns (taken_by (busy stage) (fired_from (turns - left) (take place order) 0 p.repetitions)) (fired_from (turns - left) (take place order) 0 p.repetitions)) (sym d) s.level;
    rooms_counted = s.rooms_counted;
    roomy = s.roomy;
    lists = s.lists;
    none_staged = m;
  }

  pub kept-state : (held' : Streams Token) (tag : Tag) → held' ≡ held → state_of p needs order first held' lent turns left place tag stage ≡ state_of p needs order first held lent turns left place tag stage
  kept-state held' tag d = ap (λ v. state_of p needs order first v lent turns left place tag stage) d

  -- the end of a firing is found, and its outputs are handed out
  pub found-sound : stage ≡ code.Open → left ≡ 0 → Sound p needs order room offsets feeds first held rooms lent staged turns left place code.Closed
  found-sound g e = record {
    lawful = s.lawful;
    places_begin = s.places_begin;
    fed = s.fed;
    counted = s.counted;
    position = record { whole = s.position.whole; within = s.position.within; over = s.position.over; fits = e };
    level = subst (λ v. AreLevel p needs first held turns (taken_by (busy v) (fired_from (turns - left) (take place order) 0 p.repetitions)) (fired_from (turns - left) (take place order) 0 p.repetitions)) g s.level;
    rooms_counted = s.rooms_counted;
    roomy = subst (λ v. HaveRoom p.net.places needs rooms (busy v)) g s.roomy;
    lists = s.lists;
    none_staged = s.none_staged;
  }

  module _ (g : stage ≡ code.Closed) (held' : Streams Token) (d : held' ≡ skip_at (total p.net.places) (times turns (leaves p)) held) where
    handed-level : AreLevel p needs first held' turns (fired_from (turns - left) (take place order) 0 p.repetitions) (fired_from (turns - left) (take place order) 0 p.repetitions)
    handed-level i k h b =
        let c : ℕ = place_of p.net.places i + k in
        let F : List ℕ = fired_from (turns - left) (take place order) 0 p.repetitions in
        let fit : c < total p.net.places = omega (arith, b, part-fits p.net.places i h) in
        let same : at held' c ≡ at held c =
        ap (λ v. at v c) d ∙ at-is (skip_at (total p.net.places) (times turns (leaves p)) held) c ∙ skip-before (total p.net.places) (times turns (leaves p)) held c fit ∙ sym (at-is held c)
        in
        subst (λ v. IsLevel p turns (length (at first c)) (length v) (get_or needs c 0) i F F (get_or p.net.sources c (Own 0))) (sym same)
        (subst (λ v. IsLevel p turns (length (at first c)) (length (at held c)) (get_or needs c 0) i (taken_by (busy v) F) F (get_or p.net.sources c (Own 0))) g (s.level i k h b))

    pub finish-sound : Sound p needs order room offsets feeds first held' rooms lent staged turns left place code.Idle
    finish-sound = record {
      lawful = s.lawful;
      places_begin = s.places_begin;
      fed = s.fed;
      counted = ap (λ v. length v) d ∙ skip-long (total p.net.places) (times turns (leaves p)) held ∙ s.counted;
      position = record { whole = s.position.whole; within = s.position.within; over = s.position.over; fits = subst (λ v. StageFits v left place order) g s.position.fits };
      level = handed-level;
      rooms_counted = s.rooms_counted;
      roomy = subst (λ v. HaveRoom p.net.places needs rooms (busy v)) g s.roomy;
      lists = s.lists;
      none_staged = s.none_staged;
    }

    pub finish-state : (tag : Tag) → state_of p needs order first held' lent turns left place tag code.Idle ≡ closed (state_of p needs order first held lent turns left place tag stage)
    finish-state tag = same-state _ _ refl refl refl (d ∙ left-is p s.lawful.channels turns held s.counted) refl refl refl refl

-- the inputs of a child that was asked for are handed over
pub ask-state : (p : SdfPlan) (needs order : List ℕ) (first held held' lent lent' : Streams Token) (turns left place child o n : ℕ) (tag : Tag) (stage : declared.Stage) → o ≡ place_of p.net.places child → n ≡ get_or p.net.places child 0 → take n (drop o lent') ≡ firsts (take n (drop o needs)) (take n (drop o held)) →
    held' ≡ skip_at o (take n (drop o needs)) held → state_of p needs order first held' lent' turns left place tag (code.Handed child) ≡ handed (asked child (state_of p needs order first held lent turns left place tag stage))
ask-state p needs order first held held' lent lent' turns left place child o n tag stage a b l d =
    let given : take (get_or p.net.places child 0) (drop (place_of p.net.places child) lent') ≡ firsts (take (get_or p.net.places child 0) (drop (place_of p.net.places child) needs)) (take (get_or p.net.places child 0) (drop (place_of p.net.places child) held)) =
    sym (ap₂ (λ x y. take y (drop x lent')) a b) ∙ l ∙ ap₂ (λ x y. firsts (take y (drop x needs)) (take y (drop x held))) a b
    in
    same-state _ _ refl refl refl (d ∙ ap₂ (λ x y. skip_at x (take y (drop x needs)) held) a b) refl refl refl (ap (λ v. Handed child v) given)

-- a child was told
pub told-state : (p : SdfPlan) (needs order : List ℕ) (first held held' lent : Streams Token) (turns left place child : ℕ) (next : ℕ × ℕ) (tag : Tag) (stage : declared.Stage) (out : Streams Token) → has_rates (get_or p.rates child []) out ≡ true → held' ≡ plus held (puts child out p.net.sources) →
    fired_from (turns - next.0) (take next.1 order) 0 p.repetitions ≡ set (fired_from (turns - left) (take place order) 0 p.repetitions) child (get_or (fired_from (turns - left) (take place order) 0 p.repetitions) child 0 + 1) →
    state_of p needs order first held' lent turns next.0 next.1 tag code.Open ≡ after_told child out (state_of p needs order first held lent turns left place tag stage)
told-state p needs order first held held' lent turns left place child next tag stage out r d f =
    same-state _ (if_told true child out (state_of p needs order first held lent turns left place tag stage)) refl refl refl d f refl refl refl ∙ ap (λ b. if_told b child out (state_of p needs order first held lent turns left place tag stage)) (sym r)

pub wrong-state : (p : SdfPlan) (needs order : List ℕ) (first held lent : Streams Token) (turns left place child : ℕ) (tag : Tag) (stage : declared.Stage) (out : Streams Token) → has_rates (get_or p.rates child []) out ≡ false →
    state_of p needs order first held lent turns left place tag (code.Wrong child) ≡ after_told child out (state_of p needs order first held lent turns left place tag stage)
wrong-state p needs order first held lent turns left place child tag stage out r = ap (λ b. if_told b child out (state_of p needs order first held lent turns left place tag stage)) (sym r)

-- a core with the same plan, tokens and place in the order
pub plan-same : (p q : CorePlan) → IsSamePlan p q → plan_of q ≡ plan_of p
plan-same p q e = λ i. record { net = record { sources = map source_of (e.sources i); places = e.places i }; repetitions = e.repetitions i; takes = e.takes i; gives = e.gives i; rates = e.rates i }

pub rooms-made : (p : SdfPlan) (needs : List ℕ) (rooms : List (Option (Vec Token Global))) (child : Option ℕ) → length needs ≡ total p.net.places → HaveRooms needs rooms 0 (length needs) → HaveRoom p.net.places needs rooms child
rooms-made p needs rooms child e r i k h b z =
    let c : ℕ = place_of p.net.places i + k in
    subst (λ j. HasRoom (get_or needs j 0) (get_or rooms j None)) (zero-add c) (r c (omega (arith, part-fits p.net.places i h, b, e)))

pub copy-sound : (p p' : SdfPlan) (needs needs' order order' room room' offsets offsets' : List ℕ) (feeds feeds' : List (Vec Feed Global)) (first first' held held' : Streams Token) (rooms rooms' : List (Option (Vec Token Global))) (lent lent' : Streams Token) (staged staged' : List Token) (turns left place place' : ℕ) (stage : declared.Stage) →
    Sound p needs order room offsets feeds first held rooms lent staged turns left place stage → p' ≡ p → needs' ≡ needs → order' ≡ order → room' ≡ room → offsets' ≡ begins 0 p'.net.places → AreFeeds (length p'.net.places) p'.net.sources feeds' → first' ≡ first → held' ≡ held →
    length rooms' ≡ length needs' → HaveRooms needs' rooms' 0 (length needs') → lent' ≡ lent → staged' ≡ [] → place' ≡ place → Sound p' needs' order' room' offsets' feeds' first' held' rooms' lent' staged' turns left place' stage
copy-sound p p' needs needs' order order' room room' offsets offsets' feeds feeds' first first' held held' rooms rooms' lent lent' staged staged' turns left place place' stage s e n o r b f a d c h l g z =
    subst (λ v. Sound v needs' order' room' offsets' feeds' first' held' rooms' lent' staged' turns left place' stage) (sym e)
    (subst (λ v. Sound p v order' room' offsets' feeds' first' held' rooms' lent' staged' turns left place' stage) (sym n)
    (subst (λ v. Sound p needs v room' offsets' feeds' first' held' rooms' lent' staged' turns left place' stage) (sym o)
    (subst (λ v. Sound p needs order v offsets' feeds' first' held' rooms' lent' staged' turns left place' stage) (sym r)
    (subst (λ v. Sound p needs order room offsets' feeds' v held' rooms' lent' staged' turns left place' stage) (sym a)
    (subst (λ v. Sound p needs order room offsets' feeds' first v rooms' lent' staged' turns left place' stage) (sym d)
    (subst (λ v. Sound p needs order room offsets' feeds' first held rooms' v staged' turns left place' stage) (sym l)
    (subst (λ v. Sound p needs order room offsets' feeds' first held rooms' lent staged' turns left v stage) (sym z)
    (record {
      lawful = s.lawful;
      places_begin = b ∙ ap (λ (v : SdfPlan). begins 0 v.net.places) e;
      fed = subst (λ (v : SdfPlan). AreFeeds (length v.net.places) v.net.sources feeds') e f;
      counted = s.counted;
      position = s.position;
      level = s.level;
      rooms_counted = c ∙ ap (λ v. length v) n ∙ s.lawful.needed;
      roomy = rooms-made p needs rooms' (busy stage) s.lawful.needed (subst (λ v. HaveRooms v rooms' 0 (length v)) n h);
      lists = s.lists;
      none_staged = g;
    }))))))))

pub copy-state : (p p' : SdfPlan) (needs needs' order order' : List ℕ) (first first' held held' lent lent' : Streams Token) (turns left place : ℕ) (tag : Tag) (stage : declared.Stage) → p' ≡ p → needs' ≡ needs → order' ≡ order → first' ≡ first → held' ≡ held → lent' ≡ lent →
    state_of p' needs' order' first' held' lent' turns left place tag stage ≡ state_of p needs order first held lent turns left place tag stage
copy-state p p' needs needs' order order' first first' held held' lent lent' turns left place tag stage e n o a d l = λ i. state_of (e i) (n i) (o i) (a i) (d i) (l i) turns left place tag stage
