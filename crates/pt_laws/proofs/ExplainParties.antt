-- The processes and the scenes of a Rendezvous firing explained.
use Rattle.std.proofs.Common.{◌≡◌, ℕ, zero, suc, ◌+◌, ◌≤◌, List, [], ◌∷◌, ◌++◌, true, nat_eq, length, Option, Some, None, refl, sym, ap, subst, arith, ◌∙◌, append_assoc, append-nil, if◌then◌else◌}
use Rattle.std.proofs.lemmas.Bool.Decides.{nat_tests}
use Rattle.std.proofs.Math.Path.{fun_ext}
use Rattle.pt_meaning.specs.Basics.{Tag, Streams, at, Firing, Log, silent, log_then, own}
use Rattle.pt_meaning.specs.Machine.{Fault, Outcome, Done, Stuck, Stepping, Facts, recorded}
use Rattle.pt_meaning.specs.Rounds.{Output}
use Rattle.pt_meaning.specs.Modal.{get}
use Rattle.pt_meaning.specs.Process.{Put, Mood, Well, Broken, Party, by_mood, by_puts, by_need, all_got, all_puts, Next, Puts, Fires, Gets, GetsAny, Joins, Idle, Sticks, next_event, emptied, fired, if_fires, advance, advanced, all_advanced}
use Rattle.pt_meaning.specs.Rendezvous.{RvPlan}
use Rattle.pt_laws.specs.LogsOfRuns.{log_in}
use Rattle.pt_meaning.specs.Streams.{IsPrefix}
use Rattle.pt_meaning.specs.Closed.{Begun, inputs_at, outputs_at}
use Rattle.pt_meaning.specs.Places.{tokens_on, puts_from}
use Rattle.pt_laws.specs.SoundRuns.{got_by}
use Rattle.pt_laws.specs.Explained.{Turned, ChainOf, PartOf, of_turns}
use Rattle.pt_laws.proofs.Order.{IsPrefix-refl}
use Rattle.pt_laws.proofs.PlaceEnds.{puts-are}
use Rattle.pt_laws.proofs.JoinLaws.{log-assoc}
use Rattle.pt_laws.proofs.PartyLaws.{fires-well}
use Rattle.pt_laws.proofs.MeetingIndex.{some-same}

-- a chain goes on by one more firing
chain-more : {T S : Type 0} (facts : Facts T S) (step : Stepping T S) (ts : List (Turned T)) (s z : S) (l : Log T) (t : Turned T) (y : S) → ChainOf facts step s ts z l → t.record_of.number ≡ facts.made z → step t.record_of.tag z t.record_of.inputs ≡ Done y t.record_of.outputs t.inside →
    ChainOf facts step s (ts ++ (t ∷ [])) y (log_then l (log_then t.inside (own t.record_of)))
chain-more {T} {S} facts step [] s z l t y c n d = (y, silent, n ∙ ap (λ v. facts.made v) c.0, subst (λ v. step t.record_of.tag v t.record_of.inputs ≡ Done y t.record_of.outputs t.inside) c.0 d, (refl, refl), ap (λ (v : Log T). log_then v (log_then t.inside (own t.record_of))) c.1 ∙ fun_ext (λ p. sym (append-nil (log_then t.inside (own t.record_of) p))))
chain-more facts step (u ∷ ts) s z l t y c n d = (
  c.0,
  log_then c.1 (log_then t.inside (own t.record_of)),
  c.2,
  c.3,
  chain-more facts step ts c.0 z c.1 t y c.4 n d,
  ap (λ v. log_then v (log_then t.inside (own t.record_of))) c.5 ∙ sym (log-assoc (log_then u.inside (own u.record_of)) c.1 (log_then t.inside (own t.record_of))),
)

pub turns-append : {T : Type 0} (pick : Firing T → List T) (xs ys : List (Turned T)) → of_turns pick (xs ++ ys) ≡ of_turns pick xs ++ of_turns pick ys
turns-append pick [] ys = refl
turns-append pick (t ∷ xs) ys = ap (λ v. pick t.record_of ++ v) (turns-append pick xs ys) ∙ sym (append_assoc (pick t.record_of) (of_turns pick xs) (of_turns pick ys))

-- A process in the middle of a firing, explained: what it has made, and the firing that it doesn't finish, for which it was asked.
pub record PartyIs {T S : Type 0} (facts : Facts T S) (step : Stepping T S) (tag : Tag) (ks : List S) (Asks : ℕ → S → Streams T → Type 0) (ts : List (Turned T)) (i : ℕ) (p : Party T S) : Type 0 where
  pub start : S
  pub at_start : get ks i ≡ Some start
  pub way : Option (Begun T)
  pub whole : PartOf facts step start p.log ts way p.state
  pub well : p.mood ≡ Well → way ≡ None
  pub begins : (b : Begun T) → way ≡ Some b → (q : ℕ) → IsPrefix (at b.inputs q) (at p.got q)
  pub tagged : (b : Begun T) → way ≡ Some b → b.tag ≡ tag
  pub asks : (b : Begun T) → way ≡ Some b → Asks i p.state b.inputs

module _ {T S : Type 0} (facts : Facts T S) (step : Stepping T S) (tag : Tag) (plan : RvPlan) (ks : List S) (Asks : ℕ → S → Streams T → Type 0) where
  abbrev Is : List (Turned T) → ℕ → Party T S → Type 0
  Is ts i p = PartyIs facts step tag ks Asks ts i p

  -- the firing that a process makes
  turn_of : Party T S → Outcome T S → List (Turned T)
  turn_of p (Done s out l) = record { record_of = record { number = facts.made p.state; tag = tag; inputs = p.got; outputs = out }; inside = l } ∷ []
  turn_of p (Stuck fs l) = []

  next_turns : Next → Party T S → List (Turned T)
  next_turns Fires p = turn_of p (step tag p.state p.got)
  next_turns Puts p = []
  next_turns (Gets q) p = []
  next_turns GetsAny p = []
  next_turns Joins p = []
  next_turns Idle p = []
  next_turns Sticks p = []

  pub turns_in : ℕ → ℕ → Party T S → List (Turned T)
  turns_in zero i p = []
  turns_in (suc k) i p = next_turns (next_event facts p) p ++ turns_in k i (advance facts step tag plan.net.sources i p)

  -- a part of which nothing is under way is a chain
  module _ (s z : S) (l : Log T) (ts : List (Turned T)) where
    shut : (way : Option (Begun T)) → PartOf facts step s l ts way z → way ≡ None → ChainOf facts step s ts z l
    shut None p e = subst (λ v. ChainOf facts step s ts z v) (sym (p.whole ∙ ap (λ v. log_then p.first v) p.ends ∙ fun_ext (λ x. append-nil (p.first x)))) p.chain
    shut (Some b) p e = absurd (clash e)
      where
        clash : Some b ≡ None → ⊥
        clash e = cc

    as-part : ChainOf facts step s ts z l → PartOf facts step s l ts None z
    as-part c = record { first = l; rest = silent; chain = c; ends = refl; whole = fun_ext (λ x. sym (append-nil (l x))) }

  module _ (ts : List (Turned T)) (i : ℕ) (p : Party T S) (h : Is ts i p) where
    broken-well : (fs : List Fault) → Broken fs ≡ Well → ⊥
    broken-well fs e = cc

    stays : Is (ts ++ []) i p
    stays = subst (λ v. Is v i p) (sym (append-nil ts)) h

    fired-is : (r : Outcome T S) → step tag p.state p.got ≡ r → p.mood ≡ Well → Asks i p.state p.got → Is (ts ++ turn_of p r) i (fired facts step tag plan.net.sources i p (recorded (facts.made p.state) tag p.got r))
    unfolding turn_of
    fired-is (Stuck fs l) e w due = record {
      start = h.start;
      at_start = h.at_start;
      way = Some (record { tag = tag; inputs = p.got });
      whole = record { first = p.log; rest = l; chain = subst (λ v. ChainOf facts step h.start v p.state p.log) (sym (append-nil ts)) (shut h.start p.state p.log ts h.way h.whole (h.well w)); ends = sym (ap (λ v. log_in v) e); whole = refl };
      well = λ g. absurd (broken-well fs g);
      begins = λ b g q. subst (λ (v : Begun T). IsPrefix (at v.inputs q) (at p.got q)) (some-begun b g) (IsPrefix-refl (at p.got q));
      tagged = λ b g. sym (ap (λ (v : Begun T). v.tag) (some-begun b g));
      asks = λ b g. subst (λ (v : Begun T). Asks i p.state v.inputs) (some-begun b g) due;
    }
      where
        some-begun : (b : Begun T) → Some (record { tag = tag; inputs = p.got }) ≡ Some b → record { tag = tag; inputs = p.got } ≡ b
        some-begun b g = cc
    fired-is (Done s out l) e w due = record {
      start = h.start;
      at_start = h.at_start;
      way = None;
      whole = as-part h.start s (log_then p.log (log_then l (own turn.record_of))) (ts ++ (turn ∷ [])) (chain-more facts step ts h.start p.state p.log turn s (shut h.start p.state p.log ts h.way h.whole (h.well w)) refl e);
      well = λ g. refl;
      begins = λ b g. absurd (clash b g);
      tagged = λ b g. absurd (clash b g);
      asks = λ b g. absurd (clash b g);
    }
      where
        turn : Turned T
        turn = record { record_of = record { number = facts.made p.state; tag = tag; inputs = p.got; outputs = out }; inside = l }

        clash : (b : Begun T) → None ≡ Some b → ⊥
        clash b g = cc

    advance-is : (next_event facts p ≡ Fires → Asks i p.state p.got) → Is (ts ++ next_turns (next_event facts p) p) i (advance facts step tag plan.net.sources i p)
    unfolding next_turns
    advance-is due = go (next_event facts p) refl
      where
        go : (n : Next) → next_event facts p ≡ n → Is (ts ++ next_turns n p) i (if_fires facts step tag plan.net.sources n i p)
        go Fires e = fired-is (step tag p.state p.got) refl (fires-well facts p e) (due e)
        go Puts e = stays
        go (Gets q) e = stays
        go GetsAny e = stays
        go Joins e = stays
        go Idle e = stays
        go Sticks e = stays

  -- each firing that the process then makes is one for which it is asked
  abbrev pub AllAsked : ℕ → Party T S → Type 0
  AllAsked i p = (j : ℕ) → next_event facts (advanced facts step tag plan.net.sources j i p) ≡ Fires → Asks i (advanced facts step tag plan.net.sources j i p).state (advanced facts step tag plan.net.sources j i p).got

  pub advanced-is : (k : ℕ) (ts : List (Turned T)) (i : ℕ) (p : Party T S) → Is ts i p → AllAsked i p → Is (ts ++ turns_in k i p) i (advanced facts step tag plan.net.sources k i p)
  unfolding advanced turns_in
  advanced-is zero ts i p h due = stays ts i p h
  advanced-is (suc k) ts i p h due =
      let now = next_turns (next_event facts p) p in
      let p' = advance facts step tag plan.net.sources i p in
      subst (λ v. Is v i (advanced facts step tag plan.net.sources k i p')) (append_assoc ts now (turns_in k i p')) (advanced-is k (ts ++ now) i p' (advance-is ts i p h (due 0)) (λ j. due (suc j)))

  -- each process of a list
  pub all_turns : ℕ → ℕ → List (Party T S) → ℕ → List (Turned T)
  all_turns k b [] i = []
  all_turns k b (p ∷ ps) zero = turns_in k b p
  all_turns k b (p ∷ ps) (suc i) = all_turns k (suc b) ps i

  pub none-beyond : (k b : ℕ) (ps : List (Party T S)) (i : ℕ) → length ps ≤ i → all_turns k b ps i ≡ []
  unfolding all_turns
  none-beyond k b [] i h = refl
  none-beyond k b (p ∷ ps) zero h = absurd (omega arith)
  none-beyond k b (p ∷ ps) (suc i) h = none-beyond k (suc b) ps i (omega (arith, h))

  pub each-advanced : (k b : ℕ) (ps : List (Party T S)) (i : ℕ) (y : Party T S) → get (all_advanced facts step tag plan.net.sources k b ps) i ≡ Some y → (p : Party T S) × (get ps i ≡ Some p) × (y ≡ advanced facts step tag plan.net.sources k (b + i) p) × (all_turns k b ps i ≡ turns_in k (b + i) p)
  unfolding all_turns
  each-advanced k b [] i y e = absurd (cc)
  each-advanced k b (p ∷ ps) zero y e = let a : b ≡ b + 0 = omega arith in (p, refl, some-same y (advanced facts step tag plan.net.sources k b p) (sym e) ∙ ap (λ v. advanced facts step tag plan.net.sources k v p) a, ap (λ v. turns_in k v p) a)
  each-advanced k b (p ∷ ps) (suc i) y e =
      let r = each-advanced k (suc b) ps i y e in
      let a : suc b + i ≡ b + suc i = omega arith in
      (r.0, r.1, r.2 ∙ ap (λ v. advanced facts step tag plan.net.sources k v r.0) a, r.3 ∙ ap (λ v. turns_in k v r.0) a)

  pub advanced-long : (k b : ℕ) (ps : List (Party T S)) → length (all_advanced facts step tag plan.net.sources k b ps) ≡ length ps
  advanced-long k b [] = refl
  advanced-long k b (p ∷ ps) = ap (λ n. suc n) (advanced-long k (suc b) ps)

  -- what firings take and give, as often as they do
  nothing-at : (Y : Streams T) (q : ℕ) → at (emptied Y) q ≡ []
  nothing-at [] q = refl
  nothing-at (xs ∷ Y) zero = refl
  nothing-at (xs ∷ Y) (suc q) = nothing-at Y q

  emptied-long : (Y : Streams T) → length (emptied Y) ≡ length Y
  emptied-long [] = refl
  emptied-long (xs ∷ Y) = ap (λ n. suc n) (emptied-long Y)

  fires-with-none : (p : Party T S) → next_event facts p ≡ Fires → p.puts ≡ []
  fires-with-none p e = go p.mood p.puts e
    where
      go : (m : Mood) (us : List (Put T)) → by_mood m (by_puts us (by_need p.barrier (facts.need p.state) p.got)) ≡ Fires → us ≡ []
      go m [] e = refl
      go Well (u ∷ us) e = absurd (cc)
      go (Broken fs) (u ∷ us) e = absurd (cc)

  same-number : (i : ℕ) → nat_eq i i ≡ true
  same-number i = grind (arith, nat_tests)

  -- a process after a firing, place by place and channel by channel
  record Moved (i : ℕ) (p p' : Party T S) (ts : List (Turned T)) : Type 0 where
    moved_got : (q : ℕ) → of_turns (inputs_at q) ts ++ at p'.got q ≡ at p.got q
    moved_puts : (c port : ℕ) → get plan.net.sources c ≡ Some (Output i port) → tokens_on c p'.puts ≡ tokens_on c p.puts ++ of_turns (outputs_at port) ts
    moved_room : length p'.got ≡ length p.got

  moved-none : (i : ℕ) (p : Party T S) → Moved i p p []
  moved-none i p = record { moved_got = λ q. refl; moved_puts = λ c port e. sym (append-nil (tokens_on c p.puts)); moved_room = refl }

  moved-fired : (i : ℕ) (p : Party T S) → p.puts ≡ [] → (r : Outcome T S) → Moved i p (fired facts step tag plan.net.sources i p (recorded (facts.made p.state) tag p.got r)) (turn_of p r)
  unfolding turn_of
  moved-fired i p none (Stuck fs l) = record { moved_got = λ q. refl; moved_puts = λ c port e. sym (append-nil (tokens_on c p.puts)); moved_room = refl }
  moved-fired i p none (Done s out l) = record {
    moved_got = λ q. ap (λ v. (at p.got q ++ []) ++ v) (nothing-at p.got q) ∙ append-nil (at p.got q ++ []) ∙ append-nil (at p.got q);
    moved_puts = λ c port e.
        puts-are plan.net i out c ∙ ap (λ o. puts_from i out o) e ∙ ap (λ b. if b then at out port else []) (same-number i) ∙ sym (append-nil (at out port)) ∙
        ap (λ us. tokens_on c us ++ (at out port ++ [])) (sym none);
    moved_room = emptied-long p.got;
  }

  moved-next : (i : ℕ) (p : Party T S) → Moved i p (advance facts step tag plan.net.sources i p) (next_turns (next_event facts p) p)
  unfolding next_turns
  moved-next i p = go (next_event facts p) refl
    where
      go : (n : Next) → next_event facts p ≡ n → Moved i p (if_fires facts step tag plan.net.sources n i p) (next_turns n p)
      go Fires e = moved-fired i p (fires-with-none p e) (step tag p.state p.got)
      go Puts e = moved-none i p
      go (Gets q) e = moved-none i p
      go GetsAny e = moved-none i p
      go Joins e = moved-none i p
      go Idle e = moved-none i p
      go Sticks e = moved-none i p

  moved-on : (i : ℕ) (p p' p'' : Party T S) (ts us : List (Turned T)) → Moved i p p' ts → Moved i p' p'' us → Moved i p p'' (ts ++ us)
  moved-on i p p' p'' ts us a b = record {
    moved_got = λ q. ap (λ v. v ++ at p''.got q) (turns-append (inputs_at q) ts us) ∙ append_assoc (of_turns (inputs_at q) ts) (of_turns (inputs_at q) us) (at p''.got q) ∙ ap (λ v. of_turns (inputs_at q) ts ++ v) (b.moved_got q) ∙ a.moved_got q;
    moved_puts = λ c port e.
        b.moved_puts c port e ∙ ap (λ v. v ++ of_turns (outputs_at port) us) (a.moved_puts c port e) ∙ append_assoc (tokens_on c p.puts) (of_turns (outputs_at port) ts) (of_turns (outputs_at port) us) ∙
        ap (λ v. tokens_on c p.puts ++ v) (sym (turns-append (outputs_at port) ts us));
    moved_room = b.moved_room ∙ a.moved_room;
  }

  moved-in : (k i : ℕ) (p : Party T S) → Moved i p (advanced facts step tag plan.net.sources k i p) (turns_in k i p)
  unfolding advanced turns_in
  moved-in zero i p = moved-none i p
  moved-in (suc k) i p = moved-on i p (advance facts step tag plan.net.sources i p) (advanced facts step tag plan.net.sources k i (advance facts step tag plan.net.sources i p)) (next_turns (next_event facts p) p) (turns_in k i (advance facts step tag plan.net.sources i p)) (moved-next i p) (moved-in k i (advance facts step tag plan.net.sources i p))

  pub got-moved : (k b : ℕ) (ps : List (Party T S)) (i q : ℕ) → of_turns (inputs_at q) (all_turns k b ps i) ++ at (got_by (all_got (all_advanced facts step tag plan.net.sources k b ps)) i) q ≡ at (got_by (all_got ps) i) q
  unfolding all_turns
  got-moved k b [] i q = refl
  got-moved k b (p ∷ ps) zero q = (moved-in k b p).moved_got q
  got-moved k b (p ∷ ps) (suc i) q = got-moved k (suc b) ps i q

  pub room-moved : (k b : ℕ) (ps : List (Party T S)) (i : ℕ) → length (got_by (all_got (all_advanced facts step tag plan.net.sources k b ps)) i) ≡ length (got_by (all_got ps) i)
  room-moved k b [] i = refl
  room-moved k b (p ∷ ps) zero = (moved-in k b p).moved_room
  room-moved k b (p ∷ ps) (suc i) = room-moved k (suc b) ps i

  pub puts-moved : (k b : ℕ) (ps : List (Party T S)) (i c port : ℕ) → get plan.net.sources c ≡ Some (Output (b + i) port) → tokens_on c (at (all_puts (all_advanced facts step tag plan.net.sources k b ps)) i) ≡ tokens_on c (at (all_puts ps) i) ++ of_turns (outputs_at port) (all_turns k b ps i)
  unfolding all_turns
  puts-moved k b [] i c port e = refl
  puts-moved k b (p ∷ ps) zero c port e = let a : b + 0 ≡ b = omega arith in (moved-in k b p).moved_puts c port (e ∙ ap (λ v. Option.Some (Output v port)) a)
  puts-moved k b (p ∷ ps) (suc i) c port e = let a : b + suc i ≡ suc b + i = omega arith in puts-moved k (suc b) ps i c port (e ∙ ap (λ v. Option.Some (Output v port)) a)
