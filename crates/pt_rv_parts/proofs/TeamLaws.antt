-- Processes side by side, and which of them may fire.
use Rattle.std.proofs.Common.{◌≡◌, ◌≢◌, ◌⊎◌, inl, inr, ℕ, zero, suc, ◌+◌, ◌<◌, ◌≤◌, List, [], ◌∷◌, Bool, true, false, not, length, set, get_or, Option, Some, None, IfSome, refl, sym, ap, ap₂, subst, ◌∙◌, arith}
use Rattle.std.proofs.lemmas.Bool.{false≢true}
use Rattle.std.proofs.lemmas.List.{get_or-set_same, get_or-set_other}
use Rattle.pt_meaning.specs.Streams.{Streams, change_at, any_present}
use Rattle.pt_meaning.specs.Machine.{Need, Over, Counts, Any}
use Rattle.pt_meaning.specs.Process.{Put, Fires, at_rest, by_need, by_puts, if_lacking, if_any, lacking}
use Rattle.pt_value.specs.declared.token.Token.{Token}
use Rattle.pt_rv_work.specs.Core.{Standing, nobody, next_of, with_handed}
use Rattle.pt_rv_parts.specs.Team.{fires_in, AllAtRest}

twice : (b : Bool) → not (not b) ≡ b
twice true = refl
twice false = refl

-- one of the flags
fires-at : (ps : List (Standing Token)) (i : ℕ) → get_or (fires_in ps) i false ≡ not (at_rest (next_of (get_or ps i nobody)))
fires-at [] i = refl
fires-at (p ∷ ps) zero = refl
fires-at (p ∷ ps) (suc i) = fires-at ps i

pub fires-long : (ps : List (Standing Token)) → length (fires_in ps) ≡ length ps
fires-long [] = refl
fires-long (p ∷ ps) = ap (λ v. suc v) (fires-long ps)

fires-change : (ps : List (Standing Token)) (i : ℕ) (f : Standing Token → Standing Token) → i < length ps → fires_in (change_at i f ps) ≡ set (fires_in ps) i (not (at_rest (next_of (f (get_or ps i nobody)))))
fires-change [] i f h = absurd (omega (arith, h))
fires-change (p ∷ ps) zero f h = refl
fires-change (p ∷ ps) (suc i) f h = ap (λ v. not (at_rest (next_of p)) ∷ v) (fires-change ps i f (omega (arith, h)))

-- what a process hands over says nothing of what it does next
pub fires-handed : (ps : List (Standing Token)) (i : ℕ) → fires_in (change_at i with_handed ps) ≡ fires_in ps
fires-handed [] i = refl
fires-handed (p ∷ ps) zero = refl
fires-handed (p ∷ ps) (suc i) = ap (λ v. not (at_rest (next_of p)) ∷ v) (fires-handed ps i)

pub there-of : (ps now : List (Standing Token)) (process : ℕ) → ps ≡ now → process < length now → process < length ps
there-of ps now process e h = let z = ap (λ v. length v) e in omega (arith, h, z)

pub changed-there : (ps : List (Standing Token)) (process : ℕ) (f : Standing Token → Standing Token) (qs : List (Standing Token)) → qs ≡ change_at process f ps → process < length ps → process < length qs
changed-there ps process f qs e h = let z = ap (λ v. length v) e ∙ long ps process in omega (arith, z, h)
  where
    long : (xs : List (Standing Token)) (i : ℕ) → length (change_at i f xs) ≡ length xs
    long [] i = refl
    long (x ∷ xs) zero = refl
    long (x ∷ xs) (suc i) = ap (λ v. suc v) (long xs i)

pub changed-is : (ps : List (Standing Token)) (process : ℕ) (f : Standing Token → Standing Token) (qs : List (Standing Token)) → qs ≡ change_at process f ps → process < length ps → get_or qs process nobody ≡ f (get_or ps process nobody)
changed-is ps process f qs e h = ap (λ (v : List (Standing Token)). get_or v process nobody) e ∙ changed ps process h
  where
    changed : (xs : List (Standing Token)) (i : ℕ) → i < length xs → get_or (change_at i f xs) i nobody ≡ f (get_or xs i nobody)
    changed [] i h = absurd (omega (arith, h))
    changed (x ∷ xs) zero h = refl
    changed (x ∷ xs) (suc i) h = changed xs i (omega (arith, h))

-- the flags once one process is changed
pub flagged : (ps : List (Standing Token)) (i : ℕ) (f : Standing Token → Standing Token) (qs : List (Standing Token)) (fires : Bool) (before after : List Bool) → i < length ps → before ≡ fires_in ps → qs ≡ change_at i f ps → at_rest (next_of (get_or qs i nobody)) ≡ not fires → after ≡ set before i fires →
    after ≡ fires_in qs
flagged ps i f qs fires before after l b e r a =
    let there : get_or qs i nobody ≡ f (get_or ps i nobody) = changed-is ps i f qs e l in
    let flag : fires ≡ not (at_rest (next_of (f (get_or ps i nobody)))) = sym (ap (λ v. not v) (sym (ap (λ (p : Standing Token). at_rest (next_of p)) there) ∙ r) ∙ twice fires) in
    a ∙ ap₂ (λ v w. set v i w) b flag ∙ sym (fires-change ps i f l) ∙ ap fires_in (sym e)

pub flag-there : (ps : List (Standing Token)) (fs : List Bool) (i : ℕ) → fs ≡ fires_in ps → i < length fs → i < length ps
flag-there ps fs i e h = let a = ap (λ v. length v) e in let b = fires-long ps in omega (arith, a, b, h)

pub mark-there : (ps : List (Standing Token)) (fs : List Bool) (i : ℕ) → fs ≡ fires_in ps → i < length ps → i < length fs
mark-there ps fs i e h = let a = ap (λ v. length v) e in let b = fires-long ps in omega (arith, a, b, h)

-- one that isn't at rest fires, since none is stuck
fires-next : (us : List (Put Token)) (barrier : Bool) (need : Need) (got : Streams Token) → not (at_rest (by_puts us (by_need barrier need got))) ≡ true → by_puts us (by_need barrier need got) ≡ Fires
fires-next (u ∷ us) barrier need got h = absurd (false≢true h)
fires-next [] barrier Over got h = absurd (false≢true h)
fires-next [] barrier (Counts ns) got h = by barrier (lacking 0 ns got) h
  where
    by : (b : Bool) (o : Option ℕ) → not (at_rest (if_lacking b o)) ≡ true → if_lacking b o ≡ Fires
    by b None h = refl
    by true (Some q) h = absurd (false≢true h)
    by false (Some q) h = absurd (false≢true h)
fires-next [] barrier Any got h = by (any_present got) h
  where
    by : (b : Bool) → not (at_rest (if_any b)) ≡ true → if_any b ≡ Fires
    by true h = refl
    by false h = absurd (false≢true h)

pub flag-fires : (ps : List (Standing Token)) (fs : List Bool) (i : ℕ) → fs ≡ fires_in ps → get_or fs i false ≡ true → next_of (get_or ps i nobody) ≡ Fires
flag-fires ps fs i e h =
    let p : Standing Token = get_or ps i nobody in
    fires-next p.puts p.barrier p.need p.got (sym (fires-at ps i) ∙ sym (ap (λ v. get_or v i false) e) ∙ h)

pub flag-rests : (ps : List (Standing Token)) (fs : List Bool) → fs ≡ fires_in ps → ((i : ℕ) → get_or fs i false ≡ false) → AllAtRest ps
flag-rests ps fs e h i l = by (at_rest (next_of (get_or ps i nobody))) (sym (fires-at ps i) ∙ sym (ap (λ v. get_or v i false) e) ∙ h i)
  where
    by : (b : Bool) → not b ≡ false → b ≡ true
    by true z = refl
    by false z = absurd (false≢true (sym z))

-- one process more that is flagged
pub flags-more : (ps : List (Standing Token)) (k : ℕ) (fires : Bool) (before after : List Bool) → k < length before → after ≡ set before k fires → at_rest (next_of (get_or ps k nobody)) ≡ not fires → ((i : ℕ) → i < k → get_or before i false ≡ get_or (fires_in ps) i false) → (i : ℕ) → i < k + 1 →
    get_or after i false ≡ get_or (fires_in ps) i false
flags-more ps k fires before after l e r h i w = by (split i k w)
  where
    split : (i k : ℕ) → i < k + 1 → (i < k) ⊎ (k ≡ i)
    split i k w = grind arith

    by : (i < k) ⊎ (k ≡ i) → get_or after i false ≡ get_or (fires_in ps) i false
    by (inl s) = let apart : i ≢ k = omega (arith, s) in ap (λ v. get_or v i false) e ∙ get_or-set_other before k i fires false apart ∙ h i s
    by (inr z) = subst (λ j. get_or after j false ≡ get_or (fires_in ps) j false) z (ap (λ v. get_or v k false) e ∙ get_or-set_same before k fires false l ∙ sym (fires-at ps k ∙ ap (λ v. not v) r ∙ twice fires))

pub flags-all : (fs gs : List Bool) (k : ℕ) → length fs ≡ length gs → length gs ≤ k → ((i : ℕ) → i < k → get_or fs i false ≡ get_or gs i false) → fs ≡ gs
flags-all fs gs k n l h = same fs gs n (λ i w. h i (omega (arith, w, n, l)))
  where
    same : (fs gs : List Bool) → length fs ≡ length gs → ((i : ℕ) → i < length fs → get_or fs i false ≡ get_or gs i false) → fs ≡ gs
    same [] [] n h = refl
    same [] (g ∷ gs) n h = absurd (omega (arith, n))
    same (f ∷ fs) [] n h = absurd (omega (arith, n))
    same (f ∷ fs) (g ∷ gs) n h = ap₂ (λ v w. v ∷ w) (h 0 (omega arith)) (same fs gs (omega (arith, n)) (λ i w. h (suc i) (omega (arith, w))))

-- what follows of what is there
pub where-some : {A : Type 0} (r : Option A) (P Q : A → Type 0) → ((x : A) → P x → Q x) → IfSome r P → IfSome r Q
where-some None P Q f h = tt
where-some (Some x) P Q f h = f x h
