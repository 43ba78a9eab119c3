-- What a core keeps, call by call.
use Rattle.std.proofs.Common.{◌≡◌, ℕ, zero, suc, ◌+◌, ◌-◌, ◌*◌, ◌<◌, ◌≤◌, List, [], ◌∷◌, ◌++◌, Bool, true, false, ◌⊎◌, inl, inr, ⊎_elim, length, get_or, set, take, drop, map, nat_eq, Option, Some, None, Vec, Global, refl, ap, ap₂, sym, subst, ◌∙◌, arith, length-append, length-drop, zero-add}
use Rattle.std.proofs.lemmas.List.{get_or-set_same, get_or-set_other, take_all}
use Rattle.std.proofs.lemmas.Bool.{cases_eq, cases_lt}
use Rattle.std.proofs.lemmas.Bool.Decides.{nat_tests}
use Rattle.pt_meaning.specs.Tag.{Tag}
use Rattle.pt_meaning.specs.Streams.{Streams, at}
use Rattle.pt_meaning.specs.Net.{Source, Own, Output}
use Rattle.pt_meaning.specs.Rounds.{has_rates}
use Rattle.pt_meaning.specs.Kahn.{arrived, arrival}
use Rattle.pt_meaning.specs.Sdf.{SdfPlan}
use Rattle.pt_meaning.specs.Running.{total, plus, puts, puts_on, zeros}
use Rattle.pt_laws.proofs.Indexed.{plus-at}
use Rattle.pt_laws.proofs.KahnLaws.{and-left, and-right}
use Rattle.pt_laws.proofs.RunLaws.{plus-length}
use Rattle.pt_value.specs.declared.token.Token.{Token}
use Rattle.pt_sdf_parts.specs.declared.feeds.Feed.{Feed}
use Rattle.pt_sdf.specs.declared.sdf.Stage as declared
use Rattle.pt_sdf.specs.declared.sdf.Stage.TheVariants as code
use Rattle.pt_sdf_parts.specs.ByNeed.{place_of, skip_at}
use Rattle.pt_sdf.specs.State.{Idle, Open, Closed, Allows, asked_child}
use Rattle.pt_sdf.specs.Clauses.{State}
use Rattle.pt_sdf_parts.specs.Lawful.{occurs, IsNamed, IsLawful}
use Rattle.pt_sdf_parts.specs.Feeds.{AreFeeds}
use Rattle.pt_sdf_parts.specs.Rooms.{HasRoom, HaveRooms}
use Rattle.pt_sdf_parts.specs.Lanes.{begins}
use Rattle.pt_sdf.specs.Core.{stage_of, fired_from, state_of, with_asked, busy, taken_by, IsPosition, IsLevel, AreLevel, Sound}
use Rattle.pt_sdf_parts.specs.Stretches.{place_behind}
use Rattle.pt_sdf_parts.proofs.Lists.{read-at, at-is, skip-untouched, skip-before, skip-there, skip-long}
use Rattle.pt_sdf_parts.proofs.NeedLaws.{part-fits, length-part, get-part}
use Rattle.pt_sdf.proofs.AllowLaws.{allows}
use Rattle.pt_sdf_parts.proofs.FeedLaws.{IsWithin}
use Rattle.pt_sdf.proofs.OrderLaws.{occurs-next, fired-long, fired-at, fired-more, fired-turn, fired-none}
use Rattle.pt_sdf.proofs.LevelLaws.{enough-there, level-taken, level-same, level-told, level-start}
use Rattle.pt_sdf_parts.proofs.TableLaws.{begins-at, begins-long}

-- the places of one child lie before those of a later one
pub place-before : (ps : List ℕ) (i j : ℕ) → i < j → j < length ps → place_of ps i + get_or ps i 0 ≤ place_of ps j
place-before [] i j l h = absurd (omega arith)
place-before (p ∷ ps) i zero l h = absurd (omega arith)
place-before (p ∷ ps) zero (suc j) l h = omega arith
place-before (p ∷ ps) (suc i) (suc j) l h = let k = place-before ps i j (omega arith) (omega arith) in omega (arith, k)

pub named-within : (p : SdfPlan) (s : Source) → IsNamed p s → IsWithin (length p.net.places) s
named-within p (Own port) h = tt
named-within p (Output child port) h = h.0

-- the rates that were checked
pub rates-at : {T : Type 0} (rs : List ℕ) (out : Streams T) (k : ℕ) → has_rates rs out ≡ true → k < length rs → length (at out k) ≡ get_or rs k 0
rates-at [] out k e h = absurd (omega arith)
rates-at (r ∷ rs) [] k e h = absurd (cc)
rates-at (r ∷ rs) (x ∷ out) zero e h = let t = and-left (nat_eq r (length x)) (has_rates rs out) e in grind (arith, nat_tests, t)
rates-at (r ∷ rs) (x ∷ out) (suc k) e h = rates-at rs out k (and-right (nat_eq r (length x)) (has_rates rs out) e) (omega arith)

pub rates-long : {T : Type 0} (rs : List ℕ) (out : Streams T) → has_rates rs out ≡ true → length out ≡ length rs
rates-long [] [] e = refl
rates-long [] (x ∷ out) e = absurd (cc)
rates-long (r ∷ rs) [] e = absurd (cc)
rates-long (r ∷ rs) (x ∷ out) e = ap (λ k. suc k) (rates-long rs out (and-right (nat_eq r (length x)) (has_rates rs out) e))

pub map-times : (m : ℕ) (qs : List ℕ) (j : ℕ) → get_or (map (λ q. m * q) qs) j 0 ≡ m * get_or qs j 0
map-times m [] j = omega arith
map-times m (q ∷ qs) zero = refl
map-times m (q ∷ qs) (suc j) = map-times m qs j

pub zeros-at : (ps : List ℕ) (j : ℕ) → get_or (zeros ps) j 0 ≡ 0
zeros-at [] j = refl
zeros-at (p ∷ ps) zero = refl
zeros-at (p ∷ ps) (suc j) = zeros-at ps j

-- what a firing puts on a channel, and what arrives there
pub puts-at : {T : Type 0} (i : ℕ) (out : Streams T) (ss : List Source) (c : ℕ) (d : Source) → c < length ss → at (puts i out ss) c ≡ puts_on i out (get_or ss c d)
puts-at i out [] c d h = absurd (omega arith)
puts-at i out (s ∷ ss) zero d h = refl
puts-at i out (s ∷ ss) (suc c) d h = puts-at i out ss c d (omega arith)

pub arrived-at : {T : Type 0} (ss : List Source) (inputs X : Streams T) (c : ℕ) (d : Source) → c < length ss → c < length X → at (arrived ss inputs X) c ≡ at X c ++ arrival (get_or ss c d) inputs
arrived-at [] inputs X c d h l = absurd (omega arith)
arrived-at (s ∷ ss) inputs [] c d h l = absurd (omega arith)
arrived-at (s ∷ ss) inputs (x ∷ X) zero d h l = refl
arrived-at (s ∷ ss) inputs (x ∷ X) (suc c) d h l = arrived-at ss inputs X c d (omega arith) (omega arith)

-- where no child fires in an iteration, none has fired
pub fired-never : (w o : ℕ) (qs ps : List ℕ) → length qs ≡ length ps → ((i : ℕ) → i < length qs → get_or qs i 0 ≡ 0) → fired_from w [] o qs ≡ zeros ps
fired-never w o [] [] e h = refl
fired-never w o [] (p ∷ ps) e h = absurd (omega arith)
fired-never w o (q ∷ qs) [] e h = absurd (omega arith)
fired-never w o (q ∷ qs) (p ∷ ps) e h = ap₂ (λ k v. k ∷ v) (ap (λ v. w * v + 0) (h 0 (omega arith)) ∙ none w) (fired-never w (suc o) qs ps (omega arith) (λ i l. h (suc i) (omega arith)))
  where
    none : (w : ℕ) → w * 0 + 0 ≡ 0
    none w = omega arith

-- a core that begins
pub start-sound : (p : SdfPlan) (needs order room offsets : List ℕ) (feeds : List (Vec Feed Global)) (first : Streams Token) (rooms : List (Option (Vec Token Global))) (lent : Streams Token) (staged : List Token) → IsLawful p needs order room first → offsets ≡ begins 0 p.net.places → AreFeeds (length p.net.places) p.net.sources feeds →
    length rooms ≡ length needs → HaveRooms needs rooms 0 (length needs) → length lent ≡ total p.net.places → staged ≡ [] → Sound p needs order room offsets feeds first first rooms lent staged 0 0 0 code.Idle
start-sound p needs order room offsets feeds first rooms lent staged l o f n r w g = record {
  lawful = l;
  places_begin = o;
  fed = f;
  counted = l.started;
  position = record { whole = omega arith; within = λ h. absurd (omega arith); over = λ h. refl; fits = refl };
  level = λ i k h b.
      level-start p order 0 (length (at first (place_of p.net.places i + k))) (length (at first (place_of p.net.places i + k))) (get_or needs (place_of p.net.places i + k) 0) i (fired_from 0 [] 0 p.repetitions) (get_or p.net.sources (place_of p.net.places i + k) (Own 0)) refl refl
      (λ j. ap (λ v. get_or v j 0) (fired-none 0 p.repetitions p.net.places l.repetitions) ∙ zeros-at p.net.places j);
  rooms_counted = n ∙ l.needed;
  roomy = λ i k h b e. rooms-all p needs rooms l.needed r i k h b;
  lists = w;
  none_staged = g;
}
  where
    rooms-all : (p : SdfPlan) (needs : List ℕ) (rooms : List (Option (Vec Token Global))) → length needs ≡ total p.net.places → HaveRooms needs rooms 0 (length needs) → (i k : ℕ) → i < length p.net.places → k < get_or p.net.places i 0 →
        HasRoom (get_or needs (place_of p.net.places i + k) 0) (get_or rooms (place_of p.net.places i + k) None)
    rooms-all p needs rooms e r i k h b =
        let c : ℕ = place_of p.net.places i + k in
        subst (λ j. HasRoom (get_or needs j 0) (get_or rooms j None)) (zero-add c) (r c (omega (arith, part-fits p.net.places i h, e)))

-- the stage, by what contracts see
module _ (ps : List ℕ) (lent : Streams Token) where
  pub stage-open : (g : declared.Stage) (s : State) → s.stage ≡ stage_of ps lent g → (with_asked g s).stage ≡ Open → g ≡ code.Open
  stage-open code.Idle s e h = absurd (cc)
  stage-open code.Open s e h = refl
  stage-open (code.Asked i) s e h = absurd (cc)
  stage-open (code.Handed i) s e h = absurd (cc)
  stage-open (code.Wrong i) s e h = absurd (cc)
  stage-open code.Closed s e h = absurd (cc)

  pub stage-idle : (g : declared.Stage) (s : State) → s.stage ≡ stage_of ps lent g → (with_asked g s).stage ≡ Idle → g ≡ code.Idle
  stage-idle code.Idle s e h = refl
  stage-idle code.Open s e h = absurd (cc)
  stage-idle (code.Asked i) s e h = absurd (cc)
  stage-idle (code.Handed i) s e h = absurd (cc)
  stage-idle (code.Wrong i) s e h = absurd (cc)
  stage-idle code.Closed s e h = absurd (cc)

  pub stage-closed : (g : declared.Stage) (s : State) → s.stage ≡ stage_of ps lent g → (with_asked g s).stage ≡ Closed → g ≡ code.Closed
  stage-closed code.Idle s e h = absurd (cc)
  stage-closed code.Open s e h = absurd (cc)
  stage-closed (code.Asked i) s e h = absurd (cc)
  stage-closed (code.Handed i) s e h = absurd (cc)
  stage-closed (code.Wrong i) s e h = absurd (cc)
  stage-closed code.Closed s e h = refl

  pub stage-asked : (g : declared.Stage) (s : State) (child : ℕ) → s.stage ≡ stage_of ps lent g → asked_child (with_asked g s).stage ≡ Some child → (g ≡ code.Asked child) ⊎ (g ≡ code.Handed child)
  stage-asked code.Idle s child e h = absurd (cc)
  stage-asked code.Open s child e h = absurd (cc)
  stage-asked (code.Asked i) s child e h = inl (ap (λ v. code.Asked v) (cc))
  stage-asked (code.Handed i) s child e h = inr (ap (λ v. code.Handed v) (cc))
  stage-asked (code.Wrong i) s child e h = absurd (cc)
  stage-asked code.Closed s child e h = absurd (cc)

module _ (p : SdfPlan) (needs order room offsets : List ℕ) (feeds : List (Vec Feed Global)) (first held : Streams Token) (rooms : List (Option (Vec Token Global))) (lent : Streams Token) (staged : List Token) (turns left place : ℕ) (stage : declared.Stage) (s : Sound p needs order room offsets feeds first held rooms lent staged turns left place stage) where
  -- how often each child fired
  abbrev fired : List ℕ
  fired = fired_from (turns - left) (take place order) 0 p.repetitions

  pub fired-counted : length (fired_from (turns - left) (take place order) 0 p.repetitions) ≡ length p.net.places
  fired-counted = fired-long (turns - left) (take place order) 0 p.repetitions ∙ s.lawful.repetitions

  fired-is : (j : ℕ) → j < length p.net.places → get_or (fired_from (turns - left) (take place order) 0 p.repetitions) j 0 ≡ (turns - left) * get_or p.repetitions j 0 + occurs j (take place order)
  fired-is j h = fired-at (turns - left) (take place order) 0 p.repetitions j (omega (arith, s.lawful.repetitions)) ∙ ap (λ v. (turns - left) * get_or p.repetitions j 0 + occurs v (take place order)) (zero-add j)

  within-all : (c : ℕ) (d : Source) → c < length p.net.sources → IsWithin (length p.net.places) (get_or p.net.sources c d)
  within-all c d h = named-within p (get_or p.net.sources c d) (s.lawful.named c d h)

  -- the places of a child have channels, needs and rooms
  pub total-fits : (i : ℕ) → i < length p.net.places → (place_of p.net.places i + get_or p.net.places i 0 ≤ length held) × (place_of p.net.places i + get_or p.net.places i 0 ≤ length needs) × (place_of p.net.places i + get_or p.net.places i 0 ≤ length rooms) × (place_of p.net.places i + get_or p.net.places i 0 ≤ length p.net.sources)
  total-fits i h =
      let k = part-fits p.net.places i h in
      (omega (arith, k, s.counted, s.lawful.channels), omega (arith, k, s.lawful.needed), omega (arith, k, s.rooms_counted), omega (arith, k, s.lawful.channels))

  pub offset-is : (i r : ℕ) → i < length p.net.places → r ≡ get_or offsets i r → r ≡ place_of p.net.places i
  offset-is i r h e =
      read-at offsets i r 0 (omega (arith, h, ap (λ v. length v) s.places_begin, begins-long 0 p.net.places)) e ∙ ap (λ v. get_or v i 0) s.places_begin ∙ begins-at 0 p.net.places i h ∙ zero-add (place_of p.net.places i)

  pub offsets-long : length offsets ≡ length p.net.places
  offsets-long = ap (λ v. length v) s.places_begin ∙ begins-long 0 p.net.places

  module _ (child : ℕ) (l : 0 < left) (e : get_or order place 0 ≡ child) where
    pub child-there : child < length p.net.places
    child-there = subst (λ v. v < length p.net.places) e (s.lawful.children place 0 (s.position.within l))

    next-often : occurs child (take place order) + 1 ≤ get_or p.repetitions child 0
    next-often = omega (arith, occurs-next child place order (s.position.within l) e, s.lawful.often child child-there)

    -- the tokens that it needs are there
    pub enough : busy stage ≡ None → (k : ℕ) → k < get_or p.net.places child 0 → get_or needs (place_of p.net.places child + k) 0 ≤ length (at held (place_of p.net.places child + k))
    enough b k h =
        let c : ℕ = place_of p.net.places child + k in
        let F : List ℕ = fired_from (turns - left) (take place order) 0 p.repetitions in
        let f = total-fits child child-there in
        enough-there p order turns (length (at first c)) (length (at held c)) (get_or needs c 0) child (turns - left) place F F (get_or p.net.sources c (Own 0)) (s.lawful.supplied child k child-there h)
        (subst (λ v. IsLevel p turns (length (at first c)) (length (at held c)) (get_or needs c 0) child (taken_by v F) F (get_or p.net.sources c (Own 0))) b (s.level child k child-there h))
        (s.position.within l) e (omega (arith, l, s.position.whole)) child-there (within-all c (Own 0) (omega (arith, h, f.3))) fired-is refl next-often

    -- and the definition allows its firing
    pub may-fire : (tag : Tag) → busy stage ≡ None → Allows (state_of p needs order first held lent turns left place tag stage) child
    may-fire tag b =
        allows (state_of p needs order first held lent turns left place tag stage) child s.lawful.repetitions s.lawful.rates fired-counted s.lawful.needed (omega (arith, s.counted, s.lawful.channels)) child-there
        (fewer (turns - left) (get_or p.repetitions child 0) (occurs child (take place order)) turns _ (fired-is child child-there) next-often (omega (arith, l, s.position.whole))) (enough b)
      where
        fewer : (w q x t f : ℕ) → f ≡ w * q + x → x + 1 ≤ q → w < t → f < t * q
        fewer w q x t f e h o = let k : (w + 1) * q ≤ t * q = grind arith in omega (arith, e, k)

-- A child was asked for alone: all is as before.
pub open-again : (p : SdfPlan) (needs order room offsets : List ℕ) (feeds : List (Vec Feed Global)) (first held : Streams Token) (rooms : List (Option (Vec Token Global))) (lent : Streams Token) (staged : List Token) (turns left place child : ℕ) → Sound p needs order room offsets feeds first held rooms lent staged turns left place (code.Asked child) →
    Sound p needs order room offsets feeds first held rooms lent staged turns left place code.Open
open-again p needs order room offsets feeds first held rooms lent staged turns left place child s = record {
  lawful = s.lawful;
  places_begin = s.places_begin;
  fed = s.fed;
  counted = s.counted;
  position = record { whole = s.position.whole; within = s.position.within; over = s.position.over; fits = tt };
  level = s.level;
  rooms_counted = s.rooms_counted;
  roomy = s.roomy;
  lists = s.lists;
  none_staged = s.none_staged;
}

pub asked-alone : (p : SdfPlan) (needs order room offsets : List ℕ) (feeds : List (Vec Feed Global)) (first held : Streams Token) (rooms : List (Option (Vec Token Global))) (lent : Streams Token) (staged : List Token) (turns left place child : ℕ) → Sound p needs order room offsets feeds first held rooms lent staged turns left place code.Open → 0 < left → get_or order place 0 ≡ child →
    Sound p needs order room offsets feeds first held rooms lent staged turns left place (code.Asked child)
asked-alone p needs order room offsets feeds first held rooms lent staged turns left place child s l e = record {
  lawful = s.lawful;
  places_begin = s.places_begin;
  fed = s.fed;
  counted = s.counted;
  position = record { whole = s.position.whole; within = s.position.within; over = s.position.over; fits = (l, e) };
  level = s.level;
  rooms_counted = s.rooms_counted;
  roomy = s.roomy;
  lists = s.lists;
  none_staged = s.none_staged;
}

-- places of different children lie apart
pub places-apart : (ps : List ℕ) (child i k : ℕ) → child < length ps → i < length ps → k < get_or ps i 0 → (i ≡ child → ⊥) → (place_of ps i + k < place_of ps child) ⊎ (place_of ps child + get_or ps child 0 ≤ place_of ps i + k)
places-apart ps child i k l h b z = ⊎_elim (λ x. let q = place-before ps i child x l in inl (omega (arith, q, b))) (λ x. let q = place-before ps child i (later i child z x) h in inr (omega (arith, q))) (cases_lt i child)
  where
    later : (i c : ℕ) → (i ≡ c → ⊥) → c ≤ i → c < i
    later i c z h = omega arith

-- what one child takes changes nothing at the places of others, and there what it needs is gone
pub at-other : (ps needs : List ℕ) (held : Streams Token) (child c : ℕ) → (c < place_of ps child) ⊎ (place_of ps child + get_or ps child 0 ≤ c) → at (skip_at (place_of ps child) (take (get_or ps child 0) (drop (place_of ps child) needs)) held) c ≡ at held c
at-other ps needs held child c (inl h) = at-is (skip_at (place_of ps child) (take (get_or ps child 0) (drop (place_of ps child) needs)) held) c ∙ skip-before (place_of ps child) (take (get_or ps child 0) (drop (place_of ps child) needs)) held c h ∙ sym (at-is held c)
at-other ps needs held child c (inr h) =
    at-is (skip_at (place_of ps child) (take (get_or ps child 0) (drop (place_of ps child) needs)) held) c ∙
    skip-untouched (place_of ps child) (take (get_or ps child 0) (drop (place_of ps child) needs)) held c (omega (arith, h, short (get_or ps child 0) (drop (place_of ps child) needs))) ∙ sym (at-is held c)
  where
    short : (n : ℕ) (xs : List ℕ) → length (take n xs) ≤ n
    short zero xs = omega arith
    short (suc n) [] = omega arith
    short (suc n) (x ∷ xs) = let k = short n xs in omega (arith, k)

pub left-there : (ps needs : List ℕ) (held : Streams Token) (child k : ℕ) → k < get_or ps child 0 → place_of ps child + get_or ps child 0 ≤ length needs → get_or needs (place_of ps child + k) 0 ≤ length (at held (place_of ps child + k)) →
    length (at (skip_at (place_of ps child) (take (get_or ps child 0) (drop (place_of ps child) needs)) held) (place_of ps child + k)) ≡ length (at held (place_of ps child + k)) - get_or needs (place_of ps child + k) 0
left-there ps needs held child k h f g =
    let o : ℕ = place_of ps child in
    let n : ℕ = get_or ps child 0 in
    let ns : List ℕ = take n (drop o needs) in
    ap (λ v. length v) (at-is (skip_at o ns held) (o + k) ∙ skip-there o ns held k (omega (arith, h, length-part o n needs f)) ∙ ap₂ (λ x y. drop x y) (get-part o n k needs h) (sym (at-is held (o + k)))) ∙ length-drop (get_or needs (o + k) 0) (at held (o + k))

taken-same : (xs : List ℕ) (child : ℕ) → child < length xs → get_or (set xs child (get_or xs child 0 + 1)) child 0 ≡ get_or xs child 0 + 1
taken-same xs child h = get_or-set_same xs child (get_or xs child 0 + 1) 0 h

taken-other : (xs : List ℕ) (child i : ℕ) → (i ≡ child → ⊥) → get_or (set xs child (get_or xs child 0 + 1)) i 0 ≡ get_or xs i 0
taken-other xs child i h = get_or-set_other xs child i (get_or xs child 0 + 1) 0 h

-- a child is asked for, and takes what it needs
module _ (p : SdfPlan) (needs order room offsets : List ℕ) (feeds : List (Vec Feed Global)) (first held : Streams Token) (rooms : List (Option (Vec Token Global))) (lent : Streams Token) (staged : List Token) (turns left place child : ℕ) (s : Sound p needs order room offsets feeds first held rooms lent staged turns left place code.Open) (l : 0 < left) (e : get_or order place 0 ≡ child) where
  abbrev firings : List ℕ
  firings = fired_from (turns - left) (take place order) 0 p.repetitions

  abbrev firings' : List ℕ
  firings' = set firings child (get_or firings child 0 + 1)

  abbrev without : Streams Token
  without = skip_at (place_of p.net.places child) (take (get_or p.net.places child 0) (drop (place_of p.net.places child) needs)) held

  there : child < length p.net.places
  there = child-there p needs order room offsets feeds first held rooms lent staged turns left place code.Open s child l e

  long : child < length firings
  long = omega (arith, there, fired-counted p needs order room offsets feeds first held rooms lent staged turns left place code.Open s)

  need-there : (k : ℕ) → k < get_or p.net.places child 0 → get_or needs (place_of p.net.places child + k) 0 ≤ length (at held (place_of p.net.places child + k))
  need-there k b = enough p needs order room offsets feeds first held rooms lent staged turns left place code.Open s child l e refl k b

  level-own : (k : ℕ) → k < get_or p.net.places child 0 →
      IsLevel p turns (length (at first (place_of p.net.places child + k))) (length (at without (place_of p.net.places child + k))) (get_or needs (place_of p.net.places child + k) 0) child firings' firings (get_or p.net.sources (place_of p.net.places child + k) (Own 0))
  level-own k b =
      let c : ℕ = place_of p.net.places child + k in
      let f = total-fits p needs order room offsets feeds first held rooms lent staged turns left place code.Open s child there in
      subst (λ v. IsLevel p turns (length (at first c)) v (get_or needs c 0) child firings' firings (get_or p.net.sources c (Own 0))) (sym (left-there p.net.places needs held child k b f.1 (need-there k b)))
      (level-taken p order turns (length (at first c)) (length (at held c)) (get_or needs c 0) child firings firings' firings (get_or p.net.sources c (Own 0)) (s.level child k there b) (need-there k b) (taken-same firings child long))

  level-other : (i k : ℕ) → i < length p.net.places → k < get_or p.net.places i 0 → (i ≡ child → ⊥) →
      IsLevel p turns (length (at first (place_of p.net.places i + k))) (length (at without (place_of p.net.places i + k))) (get_or needs (place_of p.net.places i + k) 0) i firings' firings (get_or p.net.sources (place_of p.net.places i + k) (Own 0))
  level-other i k h b z =
      let c : ℕ = place_of p.net.places i + k in
      level-same p order turns (length (at first c)) (length (at held c)) (get_or needs c 0) i (length (at without c)) firings firings' firings firings (get_or p.net.sources c (Own 0)) (s.level i k h b)
      (ap (λ v. length v) (at-other p.net.places needs held child c (places-apart p.net.places child i k there h b z))) (taken-other firings child i z) (λ j. refl)

  level-asked : AreLevel p needs first without turns firings' firings
  level-asked i k h b =
      ⊎_elim
      (λ z.
      subst (λ j. IsLevel p turns (length (at first (place_of p.net.places j + k))) (length (at without (place_of p.net.places j + k))) (get_or needs (place_of p.net.places j + k) 0) j firings' firings (get_or p.net.sources (place_of p.net.places j + k) (Own 0))) (sym z)
      (level-own k (subst (λ j. k < get_or p.net.places j 0) z b))) (λ z. level-other i k h b z) (cases_eq i child)

  pub ask-sound : (held' : Streams Token) (rooms' : List (Option (Vec Token Global))) (lent' : Streams Token) → held' ≡ skip_at (place_of p.net.places child) (take (get_or p.net.places child 0) (drop (place_of p.net.places child) needs)) held →
      ((c : ℕ) → (c < place_of p.net.places child) ⊎ (place_of p.net.places child + get_or p.net.places child 0 ≤ c) ⊎ (get_or needs c 0 ≤ 1) → get_or rooms' c None ≡ get_or rooms c None) → length rooms' ≡ length rooms → length lent' ≡ length lent →
      Sound p needs order room offsets feeds first held' rooms' lent' staged turns left place (code.Handed child)
  ask-sound held' rooms' lent' d r n m = record {
    lawful = s.lawful;
    places_begin = s.places_begin;
    fed = s.fed;
    counted = ap (λ v. length v) d ∙ skip-long (place_of p.net.places child) (take (get_or p.net.places child 0) (drop (place_of p.net.places child) needs)) held ∙ s.counted;
    position = record { whole = s.position.whole; within = s.position.within; over = s.position.over; fits = (l, e) };
    level = subst (λ v. AreLevel p needs first v turns firings' firings) (sym d) level-asked;
    rooms_counted = n ∙ s.rooms_counted;
    roomy = λ i k h b z.
        subst (λ v. HasRoom (get_or needs (place_of p.net.places i + k) 0) v)
        (sym (r (place_of p.net.places i + k) (⊎_elim (λ q. inr (inr (z (ap (λ v. Some v) (sym q))))) (λ q. apart (places-apart p.net.places child i k there h b q)) (cases_eq i child))))
        (s.roomy i k h b (λ q. absurd (cc)));
    lists = m ∙ s.lists;
    none_staged = s.none_staged;
  }
    where
      apart : {A B C : Type 0} → A ⊎ B → A ⊎ B ⊎ C
      apart (inl a) = inl a
      apart (inr b) = inr (inl b)

-- child x was told what it gave
module _ (p : SdfPlan) (needs order room offsets : List ℕ) (feeds : List (Vec Feed Global)) (first held : Streams Token) (rooms : List (Option (Vec Token Global))) (lent : Streams Token) (staged : List Token) (turns left place child : ℕ) (s : Sound p needs order room offsets feeds first held rooms lent staged turns left place (code.Handed child)) where
  abbrev firings-told : List ℕ
  firings-told = fired_from (turns - left) (take place order) 0 p.repetitions

  pub told-there : child < length p.net.places
  told-there = child-there p needs order room offsets feeds first held rooms lent staged turns left place (code.Handed child) s child s.position.fits.0 s.position.fits.1

  -- the firings by the next place
  told-by : (b : Bool) → nat_eq (place + 1) (length order) ≡ b → fired_from (turns - (place_behind b left place).0) (take (place_behind b left place).1 order) 0 p.repetitions ≡ set firings-told child (get_or firings-told child 0 + 1)
  told-by true t =
      let last : length order ≤ place + 1 = grind (arith, nat_tests, t) in
      let more : turns - (left - 1) ≡ turns - left + 1 = omega (arith, s.position.fits.0, s.position.whole) in
      ap (λ w. fired_from w [] 0 p.repetitions) more ∙
      sym (fired-turn (turns - left) 0 order p.repetitions (λ i h. ap (λ v. occurs v order) (zero-add i) ∙ s.lawful.often i (omega (arith, h, s.lawful.repetitions)))) ∙
      ap (λ v. fired_from (turns - left) v 0 p.repetitions) (sym (take_all (place + 1) order last)) ∙
      sym (fired-more (turns - left) place child order p.repetitions (s.position.within s.position.fits.0) s.position.fits.1 (omega (arith, told-there, s.lawful.repetitions)))
  told-by false t = sym (fired-more (turns - left) place child order p.repetitions (s.position.within s.position.fits.0) s.position.fits.1 (omega (arith, told-there, s.lawful.repetitions)))

  pub told-firings : (next : ℕ × ℕ) → next ≡ place_behind (nat_eq (place + 1) (length order)) left place → fired_from (turns - next.0) (take next.1 order) 0 p.repetitions ≡ set firings-told child (get_or firings-told child 0 + 1)
  told-firings next e =
      subst (λ (v : ℕ × ℕ). fired_from (turns - v.0) (take v.1 order) 0 p.repetitions ≡ set firings-told child (get_or firings-told child 0 + 1)) (sym e) (told-by (nat_eq (place + 1) (length order)) refl)

  position-by : (b : Bool) → nat_eq (place + 1) (length order) ≡ b → IsPosition order turns (place_behind b left place).0 (place_behind b left place).1 code.Open
  position-by true t = record {
    whole = omega (arith, s.position.whole);
    within = λ h. omega (arith, s.position.within s.position.fits.0);
    over = λ h. refl;
    fits = tt;
  }
  position-by false t =
      let other : place + 1 ≡ length order → ⊥ = λ z. absurd (grind (arith, nat_tests, t, z)) in
      record {
        whole = s.position.whole;
        within = λ h. before place (length order) (s.position.within s.position.fits.0) other;
        over = λ h. absurd (omega (arith, h, s.position.fits.0));
        fits = tt;
      }
    where
      before : (n m : ℕ) → n < m → (n + 1 ≡ m → ⊥) → n + 1 < m
      before n m h z = omega arith

  -- what the firing puts on a channel
  level-of : (out : Streams Token) → has_rates (get_or p.rates child []) out ≡ true → (i k : ℕ) → i < length p.net.places → k < get_or p.net.places i 0 →
      IsLevel p turns (length (at first (place_of p.net.places i + k))) (length (at (plus held (puts child out p.net.sources)) (place_of p.net.places i + k))) (get_or needs (place_of p.net.places i + k) 0) i (set firings-told child (get_or firings-told child 0 + 1)) (set firings-told child (get_or firings-told child 0 + 1)) (get_or p.net.sources (place_of p.net.places i + k) (Own 0))
  level-of out r i k h b =
      let c : ℕ = place_of p.net.places i + k in
      let f = total-fits p needs order room offsets feeds first held rooms lent staged turns left place (code.Handed child) s i h in
      let src : Source = get_or p.net.sources c (Own 0) in
      let more : length (at (plus held (puts child out p.net.sources)) c) ≡ length (at held c) + length (puts_on child out src) =
      ap (λ v. length v) (plus-at held (puts child out p.net.sources) c (omega (arith, b, f.0)) ∙ ap (λ v. at held c ++ v) (puts-at child out p.net.sources c (Own 0) (omega (arith, b, f.3)))) ∙ length-append (at held c) (puts_on child out src)
      in
      let fl : child < length firings-told = omega (arith, told-there, fired-counted p needs order room offsets feeds first held rooms lent staged turns left place (code.Handed child) s) in
      subst (λ v. IsLevel p turns (length (at first c)) v (get_or needs c 0) i (set firings-told child (get_or firings-told child 0 + 1)) (set firings-told child (get_or firings-told child 0 + 1)) src) (sym more)
      (level-told p order turns (length (at first c)) (length (at held c)) (get_or needs c 0) i child out (set firings-told child (get_or firings-told child 0 + 1)) firings-told (set firings-told child (get_or firings-told child 0 + 1)) src (s.level i k h b)
      (λ port z. rates-at (get_or p.rates child []) out port r (named port (subst (λ v. IsNamed p v) z (s.lawful.named c (Own 0) (omega (arith, b, f.3)))))) refl (taken-same firings-told child fl) (λ j z. taken-other firings-told child j z))
    where
      named : (port : ℕ) → IsNamed p (Output child port) → port < length (get_or p.rates child [])
      named port n = n.1

  -- it takes what was given, and goes on
  pub told-sound : (out held' : Streams Token) (rooms' : List (Option (Vec Token Global))) (staged' : List Token) (next : ℕ × ℕ) → has_rates (get_or p.rates child []) out ≡ true → held' ≡ plus held (puts child out p.net.sources) → staged' ≡ [] →
      length rooms' ≡ length rooms → ((c : ℕ) → HasRoom (get_or needs c 0) (get_or rooms c None) → HasRoom (get_or needs c 0) (get_or rooms' c None)) → HaveRooms needs rooms' (place_of p.net.places child) (get_or p.net.places child 0) →
      next ≡ place_behind (nat_eq (place + 1) (length order)) left place → Sound p needs order room offsets feeds first held' rooms' lent staged' turns next.0 next.1 code.Open
  told-sound out held' rooms' staged' next r d g n kept made e = record {
    lawful = s.lawful;
    places_begin = s.places_begin;
    fed = s.fed;
    counted = ap (λ v. length v) d ∙ plus-length held (puts child out p.net.sources) ∙ s.counted;
    position = subst (λ (v : ℕ × ℕ). IsPosition order turns v.0 v.1 code.Open) (sym e) (position-by (nat_eq (place + 1) (length order)) refl);
    level = subst (λ v. AreLevel p needs first held' turns v v) (sym (told-firings next e)) (subst (λ v. AreLevel p needs first v turns (set firings-told child (get_or firings-told child 0 + 1)) (set firings-told child (get_or firings-told child 0 + 1))) (sym d) (level-of out r));
    rooms_counted = n ∙ s.rooms_counted;
    roomy = λ i k h b z. ⊎_elim (λ q. subst (λ j. HasRoom (get_or needs (place_of p.net.places j + k) 0) (get_or rooms' (place_of p.net.places j + k) None)) (sym q) (made k (subst (λ j. k < get_or p.net.places j 0) q b))) (λ q. kept (place_of p.net.places i + k) (s.roomy i k h b (λ w. absurd (q (some-same child i w))))) (cases_eq i child);
    lists = s.lists;
    none_staged = g;
  }
    where
      some-same : (a b : ℕ) → Some a ≡ Some b → b ≡ a
      some-same a b e = cc

  -- where there was no memory, or the rates are wrong, it keeps what it had
  pub told-kept : (rooms' : List (Option (Vec Token Global))) (staged' : List Token) (held' : Streams Token) → held' ≡ held → staged' ≡ [] → length rooms' ≡ length rooms → ((c : ℕ) → HasRoom (get_or needs c 0) (get_or rooms c None) → HasRoom (get_or needs c 0) (get_or rooms' c None)) →
      Sound p needs order room offsets feeds first held' rooms' lent staged' turns left place (code.Handed child)
  told-kept rooms' staged' held' d g n kept = record {
    lawful = s.lawful;
    places_begin = s.places_begin;
    fed = s.fed;
    counted = ap (λ v. length v) d ∙ s.counted;
    position = s.position;
    level = subst (λ v. AreLevel p needs first v turns (set firings-told child (get_or firings-told child 0 + 1)) firings-told) (sym d) s.level;
    rooms_counted = n ∙ s.rooms_counted;
    roomy = λ i k h b z. kept (place_of p.net.places i + k) (s.roomy i k h b z);
    lists = s.lists;
    none_staged = g;
  }

  pub wrong-sound : Sound p needs order room offsets feeds first held rooms lent staged turns left place (code.Wrong child)
  wrong-sound = record {
    lawful = s.lawful;
    places_begin = s.places_begin;
    fed = s.fed;
    counted = s.counted;
    position = record { whole = s.position.whole; within = s.position.within; over = s.position.over; fits = s.position.fits };
    level = s.level;
    rooms_counted = s.rooms_counted;
    roomy = s.roomy;
    lists = s.lists;
    none_staged = s.none_staged;
  }
