-- The inside of a composite that is wired is well formed, and where a plan of it is lawful no directed loop is without a delay.
use Rattle.std.proofs.Common.{◌≡◌, ℕ, zero, suc, List, [], ◌∷◌, length, map, get_or, Bool, true, false, Option, Some, None, refl, sym, ap, ap₂, subst, ◌∙◌, arith}
use Rattle.std.specs.List.{All}
use Rattle.std.proofs.lemmas.List.{length-map}
use Rattle.pt_meaning.specs.NodeFacts.{facts_of, next_of, whole_of}
use Rattle.pt_meaning.specs.Running.{total}
use Rattle.pt_meaning.specs.Streams.{get}
use Rattle.pt_meaning.specs.Tree as tree
use Rattle.pt_meaning.specs.Valuation.{TickPlan}
use Rattle.pt_laws.specs.StartedRuns.{IsThere, AllThere}
use Rattle.pt_laws.specs.TickRuns.{places_at}
use Rattle.pt_core.specs.declared.source.Source.{Source}
use Rattle.pt_core.specs.Source.{source_of}
use Rattle.pt_de_laws.specs.Lawful.{IsLawful}
use Rattle.pt_de_plan.specs.declared.inside.DeInside.{DeInside}
use Rattle.pt_de_plan.specs.Feeds.{IsZeroDelayLoop}
use Rattle.pt_de_plan.specs.Inside.{IsInside, plan_of, roles_of}
use Rattle.pt_de_plan.proofs.PlanLaws.{loop-unlawful}
use Rattle.pt_library.specs.LibraryActor.{rows}
use Rattle.pt_node.specs.View.{Tree}
use Rattle.pt_trees.specs.Around.{Around}
use Rattle.pt_trees.specs.De.{answers_early, delayed_in, IsDeCore, IsDeWired, IsLoopIn}
use Rattle.pt_trees.specs.Sr.{tick_plan, IsWired}
use Rattle.pt_trees.proofs.NeedLaws.{needs-length, planned-length}
use Rattle.pt_de_inside.specs.Inside.{IsInsideOf}
use Rattle.pt_de_inside.specs.Laws.{InsidesAreFormed, PlansMakeCores}
use Rattle.pt_de_inside.proofs.FlagLaws.{delayed-length, flags-at, none-at, set-early, told-at, none-past}

-- there are as many children as numbers of places
pub entries : (around : Around) (kids : List Tree) → IsWired around kids → length kids ≡ length around.places
entries around kids wired = sym (needs-length (facts_of rows) kids) ∙ ap (λ v. length v) wired.needed ∙ planned-length around.places wired.needs

there-all : (inputs children : ℕ) (sources : List Source) → AllThere inputs children (map source_of sources) → All (λ (source : Source). IsThere inputs children (source_of source)) sources
there-all inputs children [] all k d h = absurd (omega (arith, h))
there-all inputs children (s ∷ sources) all zero d h = all.0
there-all inputs children (s ∷ sources) all (suc k) d h = there-all inputs children sources all.1 k d (omega (arith, h))

module _ (around : Around) (kids : List Tree) (x : DeInside) (wired : IsDeWired around kids) (is : IsInsideOf around kids x) where
  children : length kids ≡ length around.places
  children = entries around kids wired.wired

  places : x.places ≡ around.places
  places = ap (λ (p : TickPlan). p.net.places) is.plan

  counted : length kids ≡ length x.places
  counted = children ∙ ap (λ (v : List ℕ). length v) (sym places)

  long : length x.sources.items ≡ length around.sources
  long = sym (length-map x.sources.items source_of) ∙ ap (λ (p : TickPlan). length p.net.sources) is.plan

  delay-early : (i q : ℕ) → get_or (places_at around.places i (delayed_in around kids)) q false ≡ true → get_or (map answers_early kids) i false ≡ true
  delay-early i q e = by_child (get kids i) refl
    where
      by_child : (o : Option Tree) → get kids i ≡ o → get_or (map answers_early kids) i false ≡ true
      by_child None g =
          let none : places_at around.places i (delayed_in around kids) ≡ [] = none-at around.places i (delayed_in around kids) (omega (arith, none-past kids i g, children)) in
          let no : false ≡ true = ap (λ (v : List Bool). get_or v q false) (sym none) ∙ e in
          absurd (cc)
      by_child (Some kid) g =
          told-at answers_early kids i kid false g ∙ set-early kid (get_or around.places i 0) q (ap (λ (v : List Bool). get_or v q false) (sym (flags-at around kids children i kid g)) ∙ e)

  pub formed : IsInside x
  formed = record {
    early = ap (λ (v : List Bool). length v) is.early ∙ length-map kids answers_early ∙ counted;
    whole = ap (λ (v : List Bool). length v) is.whole ∙ length-map kids (λ kid. whole_of rows kid) ∙ counted;
    starts = ap (λ v. length v) is.starts ∙ length-map kids (λ kid. next_of rows kid) ∙ counted;
    delayed = omega (arith, ap (λ (v : List Bool). length v) is.delayed, delayed-length around kids children, wired.wired.channels, long);
    channels = omega (arith, ap (λ (v : List ℕ). total v) places, wired.wired.channels, long);
    few = omega (arith, ap (λ (v : List ℕ). length v) places, wired.wired.fewer);
    there = there-all x.inputs (length x.places) x.sources.items (subst (λ (p : TickPlan). AllThere p.inputs (length p.net.places) p.net.sources) (sym is.plan) wired.wired.there);
    delays = λ i q e. ap (λ (v : List Bool). get_or v i false) is.early ∙ delay-early i q (sym (ap₂ (λ (ns : List ℕ) (fs : List Bool). get_or (places_at ns i fs) q false) places is.delayed) ∙ e);
  }

  -- a loop of the plan is one of the composite
  pub same-loop : (children : List ℕ) → IsZeroDelayLoop (plan_of x) x.delayed.items children → IsLoopIn around kids children
  same-loop children l = subst (λ (fs : List Bool). IsZeroDelayLoop (tick_plan around) fs children) is.delayed (subst (λ (p : TickPlan). IsZeroDelayLoop p x.delayed.items children) is.plan l)

  loop-there : (children : List ℕ) → IsLoopIn around kids children → IsZeroDelayLoop (plan_of x) x.delayed.items children
  loop-there children l = subst (λ (p : TickPlan). IsZeroDelayLoop p x.delayed.items children) (sym is.plan) (subst (λ (fs : List Bool). IsZeroDelayLoop (tick_plan around) fs children) (sym is.delayed) l)

  pub core-is : (depths : List ℕ) → IsLawful (plan_of x) (roles_of x depths) → IsDeCore around kids (tree.De (tick_plan around))
  core-is depths lawful = record { wired = wired; delayed = λ children l. loop-unlawful (plan_of x) (roles_of x depths) children (loop-there children l) lawful; is = refl }

pub insides-formed : InsidesAreFormed
insides-formed around kids x wired is = formed around kids x wired is

pub plans-make : PlansMakeCores
plans-make around kids x depths wired is lawful = core-is around kids x wired is depths lawful
