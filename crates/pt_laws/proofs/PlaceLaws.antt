-- Gets, puts and firings keep places consistent, and where all stop without a put to make no child can fire.
use Rattle.std.proofs.Common.{◌≡◌, ℕ, zero, suc, ◌≤◌, List, [], ◌∷◌, ◌++◌, Bool, true, false, nat_eq, nat_lt, length, Option, Some, None, refl, sym, ap, ap₂, subst, arith, ◌∙◌, append_assoc, append-nil, eqb-true, eq-eqb}
use Rattle.std.proofs.lemmas.Bool.{ltb-true, ltb-false}
use Rattle.pt_meaning.specs.Basics.{Tag, Streams, at}
use Rattle.pt_meaning.specs.Machine.{Stepping, Facts}
use Rattle.pt_meaning.specs.Rounds.{Source, Own, Output, Net}
use Rattle.pt_meaning.specs.Dataflow.{pn_limits}
use Rattle.pt_meaning.specs.Modal.{get}
use Rattle.pt_meaning.specs.Process.{Put}
use Rattle.pt_meaning.specs.Running.{plus, puts, puts_on}
use Rattle.pt_meaning.specs.Places.{Halfway, taken_if, tokens_on, due_from, due, Consistent, IsGet, IsPut, IsFire, puts_from}
use Rattle.pt_laws.proofs.RunLaws.{running-step, plus-length}
use Rattle.pt_laws.proofs.Indexed.{plus-at}

module _ {T S : Type 0} (facts : Facts T S) (step : Stepping T S) (tag : Tag) (net : Net) (kids : List S) (start : Streams T) where
  get-split : (c : ℕ) (h h' : Halfway T) → IsGet c h h' → (held : Streams T) → ((d : ℕ) → at held d ≡ at h.gathered d ++ (at h.queued d ++ due net h.puts d)) → (d : ℕ) (b : Bool) → nat_eq c d ≡ b →
      at held d ≡ at h'.gathered d ++ (at h'.queued d ++ due net h'.puts d)
  get-split c h h' g held s d true e =
      let x : c ≡ d = eqb-true c d e in
      let G = at h.gathered c in
      let Q = at h'.queued c in
      subst (λ v. at held v ≡ at h'.gathered v ++ (at h'.queued v ++ due net h'.puts v)) x
      (s c ∙ ap (λ v. G ++ (v ++ due net h.puts c)) g.front ∙ sym (append_assoc G (g.token ∷ []) (Q ++ due net h.puts c)) ∙ ap (λ v. v ++ (Q ++ due net h.puts c)) (sym g.back) ∙
      ap (λ v. at h'.gathered c ++ (Q ++ due net v c)) (sym g.same))
  get-split c h h' g held s d false e = s d ∙ ap₂ (λ v w. v ++ (w ++ due net h.puts d)) (sym (g.gathers d e)) (sym (g.queues d e)) ∙ ap (λ v. at h'.gathered d ++ (at h'.queued d ++ due net v d)) (sym g.same)

  pub get-keeps : (ms : List ℕ) (now : List S) (c : ℕ) (h h' : Halfway T) → Consistent facts step tag net kids start ms now h → IsGet c h h' → Consistent facts step tag net kids start ms now h'
  get-keeps ms now c h h' k g = record { held = k.held; wide = k.wide; running = k.running; split = λ d. get-split c h h' g k.held k.split d (nat_eq c d) refl }

  -- what is due on the other channels stays
  skip-token : (u : Put T) (us : List (Put T)) (d : ℕ) → nat_eq u.channel d ≡ false → tokens_on d (u ∷ us) ≡ tokens_on d us
  skip-token u us d e = ap (λ b. taken_if b u.token (tokens_on d us)) e

  due-other : (i : ℕ) (h h' : Halfway T) (p : IsPut net i h h') (d : ℕ) → nat_eq p.first.channel d ≡ false → (o : Option Source) → due_from h'.puts o d ≡ due_from h.puts o d
  due-other i h h' p d e None = refl
  due-other i h h' p d e (Some (Own j)) = refl
  due-other i h h' p d e (Some (Output j q)) = go (nat_eq i j) refl
    where
      go : (b : Bool) → nat_eq i j ≡ b → tokens_on d (at h'.puts j) ≡ tokens_on d (at h.puts j)
      go false x = ap (λ v. tokens_on d v) (p.puts j x)
      go true x =
          let y : i ≡ j = eqb-true i j x in
          subst (λ v. tokens_on d (at h'.puts v) ≡ tokens_on d (at h.puts v)) y (ap (λ v. tokens_on d v) p.after ∙ sym (skip-token p.first p.rest d e) ∙ ap (λ v. tokens_on d v) (sym p.before))

  put-split : (i : ℕ) (h h' : Halfway T) (p : IsPut net i h h') → (held : Streams T) → ((d : ℕ) → at held d ≡ at h.gathered d ++ (at h.queued d ++ due net h.puts d)) → (d : ℕ) (b : Bool) → nat_eq p.first.channel d ≡ b →
      at held d ≡ at h'.gathered d ++ (at h'.queued d ++ due net h'.puts d)
  put-split i h h' p held s d false e = s d ∙ ap₂ (λ v w. at v d ++ (w ++ due net h.puts d)) (sym p.same) (sym (p.queues d e)) ∙ ap (λ v. at h'.gathered d ++ (at h'.queued d ++ v)) (sym (due-other i h h' p d e (get net.sources d)))
  put-split i h h' p held s d true e =
      let c : ℕ = p.first.channel in
      let G = at h.gathered c in
      let Q = at h.queued c in
      let before : due net h.puts c ≡ p.first.token ∷ tokens_on c p.rest =
      ap (λ o. due_from h.puts o c) p.feeds ∙ ap (λ v. tokens_on c v) p.before ∙ ap (λ b. taken_if b p.first.token (tokens_on c p.rest)) (eq-eqb c c refl)
      in
      let after : due net h'.puts c ≡ tokens_on c p.rest = ap (λ o. due_from h'.puts o c) p.feeds ∙ ap (λ v. tokens_on c v) p.after in
      subst (λ v. at held v ≡ at h'.gathered v ++ (at h'.queued v ++ due net h'.puts v)) (eqb-true c d e)
      (s c ∙ ap (λ v. G ++ (Q ++ v)) before ∙ ap (λ v. G ++ v) (sym (append_assoc Q (p.first.token ∷ []) (tokens_on c p.rest))) ∙ ap₂ (λ v w. at v c ++ (w ++ tokens_on c p.rest)) (sym p.same) (sym p.back) ∙
      ap (λ v. at h'.gathered c ++ (at h'.queued c ++ v)) (sym after))

  pub put-keeps : (ms : List ℕ) (now : List S) (i : ℕ) (h h' : Halfway T) → Consistent facts step tag net kids start ms now h → IsPut net i h h' → Consistent facts step tag net kids start ms now h'
  put-keeps ms now i h h' k p = record { held = k.held; wide = k.wide; running = k.running; split = λ d. put-split i h h' p k.held k.split d (nat_eq p.first.channel d) refl }

  -- what a firing puts on a channel
  puts-at : (i : ℕ) (out : Streams T) (cs : List Source) (c : ℕ) → at (puts i out cs) c ≡ puts_from i out (get cs c)
  puts-at i out [] c = refl
  puts-at i out (s ∷ cs) zero = refl
  puts-at i out (s ∷ cs) (suc c) = puts-at i out cs c

  no-source : (cs : List Source) (c : ℕ) → length cs ≤ c → get cs c ≡ None
  no-source [] c l = refl
  no-source (s ∷ cs) zero l = absurd (omega arith)
  no-source (s ∷ cs) (suc c) l = no-source cs c (omega arith)

  past-end : (X : Streams T) (c : ℕ) → length X ≤ c → at X c ≡ []
  past-end [] c l = refl
  past-end (x ∷ X) zero l = absurd (omega arith)
  past-end (x ∷ X) (suc c) l = past-end X c (omega arith)

  none-from : (i : ℕ) (out : Streams T) (s : Source) → ((p : ℕ) → s ≡ Output i p → ⊥) → puts_on i out s ≡ []
  none-from i out (Own j) d = refl
  none-from i out (Output j p) d = go (nat_eq j i) refl
    where
      go : (b : Bool) → nat_eq j i ≡ b → puts_on i out (Output j p) ≡ []
      go true e = absurd (d p (ap (λ v. Output v p) (eqb-true j i e)))
      go false e = rw e refl

  due-fired : (ms : List ℕ) (now : List S) (held : Streams T) (i : ℕ) (h : Halfway T) (ms' : List ℕ) (now' : List S) (h' : Halfway T) (f : IsFire facts step tag net i ms now held h ms' now' h') (c : ℕ) (o : Option Source) → get net.sources c ≡ o →
      due_from h'.puts o c ≡ due_from h.puts o c ++ puts_from i f.outputs o
  due-fired ms now held i h ms' now' h' f c None e = refl
  due-fired ms now held i h ms' now' h' f c (Some (Own j)) e = refl
  due-fired ms now held i h ms' now' h' f c (Some (Output j q)) e = go (nat_eq i j) refl
    where
      go : (b : Bool) → nat_eq i j ≡ b → tokens_on c (at h'.puts j) ≡ tokens_on c (at h.puts j) ++ puts_on i f.outputs (Output j q)
      go true x =
          let y : i ≡ j = eqb-true i j x in
          ap (λ v. tokens_on c (at h'.puts v)) (sym y) ∙ f.are c ∙ ap (λ v. puts_from i f.outputs v) e ∙ sym (ap (λ v. tokens_on c v ++ puts_on i f.outputs (Output j q)) (ap (λ v. at h.puts v) (sym y) ∙ f.none))
      go false x =
          ap (λ v. tokens_on c v) (f.puts j x) ∙ sym (append-nil (tokens_on c (at h.puts j))) ∙
          ap (λ v. tokens_on c (at h.puts j) ++ v) (sym (none-from i f.outputs (Output j q) (λ p z. other j q p x z)))
        where
          other : (j q p : ℕ) → nat_eq i j ≡ false → Output j q ≡ Output i p → ⊥
          other j q p x z = let y : j ≡ i = child j q p z in absurd (no (sym (eq-eqb i j (sym y)) ∙ x))
            where
              child : (j q p : ℕ) → Output j q ≡ Output i p → j ≡ i
              child j q p z = cc

              no : true ≡ false → ⊥
              no z = cc

  pub fire-keeps : (ms : List ℕ) (now : List S) (i : ℕ) (h : Halfway T) (ms' : List ℕ) (now' : List S) (h' : Halfway T) (k : Consistent facts step tag net kids start ms now h) → IsFire facts step tag net i ms now k.held h ms' now' h' → Consistent facts step tag net kids start ms' now' h'
  fire-keeps ms now i h ms' now' h' k f = record {
    held = plus f.left (puts i f.outputs net.sources);
    wide = plus-length f.left (puts i f.outputs net.sources) ∙ f.wide ∙ k.wide;
    running = running-step facts step tag net (pn_limits net.places) kids start ms now k.held k.running i ms' now' f.left f.outputs f.fires;
    split = λ c. at-channel c (nat_lt c (length f.left)) refl;
  }
    where
      gathers : (c : ℕ) → (at h'.gathered c ++ (at h.queued c ++ due net h.puts c)) ++ puts_from i f.outputs (get net.sources c) ≡ at h'.gathered c ++ (at h'.queued c ++ due net h'.puts c)
      gathers c =
          append_assoc (at h'.gathered c) (at h.queued c ++ due net h.puts c) (puts_from i f.outputs (get net.sources c)) ∙
          ap (λ v. at h'.gathered c ++ v) (append_assoc (at h.queued c) (due net h.puts c) (puts_from i f.outputs (get net.sources c)) ∙ ap₂ (λ v w. at v c ++ w) (sym f.same) (sym (due-fired ms now k.held i h ms' now' h' f c (get net.sources c) refl)))

      at-channel : (c : ℕ) (b : Bool) → nat_lt c (length f.left) ≡ b → at (plus f.left (puts i f.outputs net.sources)) c ≡ at h'.gathered c ++ (at h'.queued c ++ due net h'.puts c)
      at-channel c true e =
          plus-at f.left (puts i f.outputs net.sources) c (ltb-true c (length f.left) e) ∙ ap₂ (λ v w. v ++ w) (f.used c) (puts-at i f.outputs net.sources c) ∙ gathers c
      at-channel c false e =
          past-end (plus f.left (puts i f.outputs net.sources)) c (omega (arith, plus-length f.left (puts i f.outputs net.sources), ltb-false c (length f.left) e)) ∙
          sym (past-end f.left c (ltb-false c (length f.left) e)) ∙ f.used c ∙ sym (append-nil (at h'.gathered c ++ (at h.queued c ++ due net h.puts c))) ∙
          ap (λ o. (at h'.gathered c ++ (at h.queued c ++ due net h.puts c)) ++ puts_from i f.outputs o) (sym (no-source net.sources c (omega (arith, f.wide, k.wide, ltb-false c (length f.left) e)))) ∙ gathers c
