-- In each state something comes next.
use Rattle.std.proofs.Common.{◌≡◌, inl, inr, ℕ, suc, List, [], ◌∷◌, Bool, true, false, ◌&&◌, ◌||◌, Option, Some, None, refl}
use Rattle.pt_meaning.specs.Streams.{Streams, any_present}
use Rattle.pt_meaning.specs.Log.{Meeting, Channel, Barrier}
use Rattle.pt_meaning.specs.Machine.{Need, Over, Counts, Any}
use Rattle.pt_meaning.specs.Net.{Source, Net}
use Rattle.pt_meaning.specs.Process.{Put, Party, Next, Puts, Fires, Gets, GetsAny, Joins, Idle, Sticks, by_puts, by_need, if_lacking, if_any, lacking, next_at, at_rest, all_rest}
use Rattle.pt_meaning.specs.Meetings.{Scene, is_legal, any_legal_channel, any_legal_barrier, any_legal}
use Rattle.pt_meaning.specs.Rendezvous.{seated}
use Rattle.pt_rv_laws.specs.State.{need_facts, net_of, seats, scene_in}
use Rattle.pt_rv_laws.specs.Comes.{SomethingComes, AlwaysComes}

-- a meeting among those that are looked at is legal
legal-channel : {T : Type 0} (net : Net) (sc : Scene T Need) (c : ℕ) (ss : List Source) → any_legal_channel need_facts net sc c ss ≡ true → (m : Meeting) × (is_legal need_facts net sc m ≡ true)
legal-channel net sc c [] e = absurd (no e)
  where
    no : false ≡ true → ⊥
    no h = cc
legal-channel net sc c (s ∷ ss) e = go (λ g. legal-channel net sc (suc c) ss g) (is_legal need_facts net sc (Channel c)) refl e
  where
    go : (any_legal_channel need_facts net sc (suc c) ss ≡ true → (m : Meeting) × (is_legal need_facts net sc m ≡ true)) → (b : Bool) → is_legal need_facts net sc (Channel c) ≡ b → (b || any_legal_channel need_facts net sc (suc c) ss) ≡ true → (m : Meeting) × (is_legal need_facts net sc m ≡ true)
    go others true f g = (Channel c, f)
    go others false f g = others g

legal-barrier : {T : Type 0} (net : Net) (sc : Scene T Need) (b : ℕ) (ps : List (Party T Need)) → any_legal_barrier need_facts net sc b ps ≡ true → (m : Meeting) × (is_legal need_facts net sc m ≡ true)
legal-barrier net sc b [] e = absurd (no e)
  where
    no : false ≡ true → ⊥
    no h = cc
legal-barrier net sc b (p ∷ ps) e = go (λ g. legal-barrier net sc (suc b) ps g) (is_legal need_facts net sc (Barrier b)) refl e
  where
    go : (any_legal_barrier need_facts net sc (suc b) ps ≡ true → (m : Meeting) × (is_legal need_facts net sc m ≡ true)) → (x : Bool) → is_legal need_facts net sc (Barrier b) ≡ x → (x || any_legal_barrier need_facts net sc (suc b) ps) ≡ true → (m : Meeting) × (is_legal need_facts net sc m ≡ true)
    go others true f g = (Barrier b, f)
    go others false f g = others g

legal-some : {T : Type 0} (net : Net) (sc : Scene T Need) → any_legal need_facts net sc ≡ true → (m : Meeting) × (is_legal need_facts net sc m ≡ true)
legal-some net sc e = go (any_legal_channel need_facts net sc 0 net.sources) refl e
  where
    go : (b : Bool) → any_legal_channel need_facts net sc 0 net.sources ≡ b → (b || any_legal_barrier need_facts net sc 0 sc.parties) ≡ true → (m : Meeting) × (is_legal need_facts net sc m ≡ true)
    go true f g = legal-channel net sc 0 net.sources f
    go false f g = legal-barrier net sc 0 sc.parties g

-- what doesn't rest fires, where no process is stuck
stuck-not : {T : Type 0} (us : List (Put T)) (barrier : Bool) (need : Need) (X : Streams T) → (n : Next) → by_puts us (by_need barrier need X) ≡ n → at_rest n ≡ false → n ≡ Fires
stuck-not us barrier need X Puts e a = absurd (cc)
stuck-not us barrier need X Fires e a = refl
stuck-not us barrier need X (Gets q) e a = absurd (cc)
stuck-not us barrier need X GetsAny e a = absurd (cc)
stuck-not us barrier need X Joins e a = absurd (cc)
stuck-not us barrier need X Idle e a = absurd (cc)
stuck-not {T} us barrier need X Sticks e a = absurd (by us need e)
  where
    lacks : (o : Option ℕ) (b : Bool) → if_lacking b o ≡ Sticks → ⊥
    lacks None b h = cc
    lacks (Some q) true h = cc
    lacks (Some q) false h = cc

    any : (b : Bool) → if_any b ≡ Sticks → ⊥
    any true h = cc
    any false h = cc

    by : (us : List (Put T)) (need : Need) → by_puts us (by_need barrier need X) ≡ Sticks → ⊥
    by [] Over h = cc
    by [] (Counts ns) h = lacks (lacking 0 ns X) barrier h
    by [] Any h = any (any_present X) h
    by (u ∷ us) need h = cc

fires-some : {T : Type 0} (bs : List Bool) (gs : List (Streams T)) (us : List (List (Put T))) (ns : List Need) → all_rest need_facts (seated bs gs us ns) ≡ false → (i : ℕ) × (next_at need_facts (seated bs gs us ns) i ≡ Fires)
fires-some [] gs us ns e = absurd (cc)
fires-some (b ∷ bs) [] us ns e = absurd (cc)
fires-some (b ∷ bs) (g ∷ gs) [] ns e = absurd (cc)
fires-some (b ∷ bs) (g ∷ gs) (u ∷ us) [] e = absurd (cc)
fires-some (b ∷ bs) (g ∷ gs) (u ∷ us) (n ∷ ns) e = go (λ h. fires-some bs gs us ns h) (at_rest (by_puts u (by_need b n g))) refl e
  where
    go : (all_rest need_facts (seated bs gs us ns) ≡ false → (i : ℕ) × (next_at need_facts (seated bs gs us ns) i ≡ Fires)) → (x : Bool) → at_rest (by_puts u (by_need b n g)) ≡ x → (x && all_rest need_facts (seated bs gs us ns)) ≡ false → (i : ℕ) × (next_at need_facts (seated (b ∷ bs) (g ∷ gs) (u ∷ us) (n ∷ ns)) i ≡ Fires)
    go others true f h = let r = others h in (suc r.0, r.1)
    go others false f h = (0, stuck-not u b n g (by_puts u (by_need b n g)) refl f)

pub always-comes : {T : Type 0} → AlwaysComes T
always-comes {T} s = go (all_rest need_facts (seats s)) (any_legal need_facts (net_of s) (scene_in s)) refl refl
  where
    go : (rests legal : Bool) → all_rest need_facts (seats s) ≡ rests → any_legal need_facts (net_of s) (scene_in s) ≡ legal → SomethingComes s
    go false legal e f = inl (fires-some s.processes.plan.barriers s.places.got s.places.puts s.needs e)
    go true true e f = inr (inl (let r = legal-some (net_of s) (scene_in s) f in (e, r.0, r.1)))
    go true false e f = inr (inr (rw (e, f) refl))
