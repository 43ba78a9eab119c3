-- Firings of the top one after another, which its job asks for at one tag, on no inputs.
use Rattle.std.proofs.Common.{◌≡◌, ℕ, zero, suc, ◌+◌, ◌<◌, ◌≤◌, [], Option, Some, sym, ap, subst, ◌∙◌, arith, append_assoc, append-nil}
use Rattle.std.proofs.Math.Path.{fun_ext}
use Rattle.pt_meaning.specs.Basics.{Tag, Log, silent, log_then, firings_in}
use Rattle.pt_meaning.specs.Machine.{Done}
use Rattle.pt_meaning.specs.Meetings.{Meets}
use Rattle.pt_meaning.specs.Step.{Step}
use Rattle.pt_meaning.specs.Job.{Fire, Schedule, Course, Goes, on_step, on_turn, after}
use Rattle.pt_laws.proofs.LevelLaws.{count-append}
use Rattle.pt_value.specs.declared.token.Token.{Token}
use Rattle.pt_library.specs.declared.library_actor.LibraryActor.{LibraryActor}
use Rattle.pt_library.specs.LibraryActor.{rows}
use Rattle.pt_node.specs.View.{Tree}
use Rattle.pt_blocks.specs.Made.{logged_by}
use Rattle.pt_going.proofs.Counting.{step-counted}
use Rattle.pt_going.proofs.Course.{after-more}

-- the tops between them, and what each logs
module _ (m : Meets) (tag : Tag) (tops : ℕ → Tree) (logs : ℕ → Log Token) (k : ℕ) where
  abbrev pub AreSteps : ℕ → Type 0
  AreSteps count = (t : ℕ) → t < count → Step k rows m (tops t) tag [] ≡ Done (tops (suc t)) [] (logs t)

  -- each logs an own firing at least
  pub firings-logged : (count : ℕ) → AreSteps count → count ≤ firings_in (logged_by count logs [])
  firings-logged zero steps = omega arith
  firings-logged (suc t) steps =
      let before : t ≤ firings_in (logged_by t logs []) = firings-logged t (λ i l. steps i (omega (arith, l))) in
      let one : 0 < firings_in (logs t []) = step-counted k m (tops t) (tops (suc t)) tag [] [] (logs t) (steps t (omega arith)) in
      omega (arith, before, one, count-append (logged_by t logs []) (logs t []))

  -- The run of a job that has so many firings behind it, the last of n at the tag that goes with n.
  module _ (plan : Schedule Token LibraryActor) (start : Course Token LibraryActor) (n : ℕ) (last : ℕ → Option Tag) (log : Log Token) where
    abbrev ComesTo : ℕ → Type 0
    ComesTo t = after k rows m plan (n + t) start ≡ Goes (record { fired = n + t; last = last (n + t); top = tops t; log = log_then log (logged_by t logs) })

    comes-first : after k rows m plan n start ≡ Goes (record { fired = n; last = last n; top = tops 0; log = log }) → ComesTo 0
    comes-first e =
        let z : n ≡ n + 0 = omega arith in
        let quiet : log ≡ log_then log silent = fun_ext (λ p. sym (append-nil (log p))) in
        subst (λ i. after k rows m plan i start ≡ Goes (record { fired = i; last = last i; top = tops 0; log = log_then log silent })) z
        (e ∙ ap (λ (l : Log Token). Goes (record { fired = n; last = last n; top = tops 0; log = l })) quiet)

    comes-next : (t : ℕ) → ComesTo t → plan (n + t) (last (n + t)) (tops t) ≡ Fire tag [] → last (suc (n + t)) ≡ Some tag → Step k rows m (tops t) tag [] ≡ Done (tops (suc t)) [] (logs t) → ComesTo (suc t)
    comes-next t e turn later done =
        let c : Course Token LibraryActor = record { fired = n + t; last = last (n + t); top = tops t; log = log_then log (logged_by t logs) } in
        let s : suc (n + t) ≡ n + suc t = omega arith in
        let joined : log_then (log_then log (logged_by t logs)) (logs t) ≡ log_then log (logged_by (suc t) logs) = fun_ext (λ p. append_assoc (log p) (logged_by t logs p) (logs t p)) in
        let next : after k rows m plan (suc (n + t)) start ≡ Goes (record { fired = suc (n + t); last = Some tag; top = tops (suc t); log = log_then (log_then log (logged_by t logs)) (logs t) }) =
        after-more k rows m plan (n + t) start c e ∙ ap (λ v. on_turn k rows m c v) turn ∙ ap (λ v. on_step c tag v) done
        in
        subst (λ i. after k rows m plan i start ≡ Goes (record { fired = i; last = last i; top = tops (suc t); log = log_then log (logged_by (suc t) logs) })) s
        (next ∙ ap (λ (l : Log Token). Goes (record { fired = suc (n + t); last = Some tag; top = tops (suc t); log = l })) joined ∙ ap (λ (o : Option Tag). Goes (record { fired = suc (n + t); last = o; top = tops (suc t); log = log_then log (logged_by (suc t) logs) })) (sym later))

    pub comes-to : (count : ℕ) → ((t : ℕ) → t < count → plan (n + t) (last (n + t)) (tops t) ≡ Fire tag []) → ((t : ℕ) → last (suc (n + t)) ≡ Some tag) → AreSteps count →
        after k rows m plan n start ≡ Goes (record { fired = n; last = last n; top = tops 0; log = log }) → (t : ℕ) → t ≤ count → ComesTo t
    comes-to count turns later steps e zero l = comes-first e
    comes-to count turns later steps e (suc t) l = comes-next t (comes-to count turns later steps e t (omega (arith, l))) (turns t (omega (arith, l))) (later t) (steps t (omega (arith, l)))
