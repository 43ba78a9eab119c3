-- A lawful plan of the inside of a composite suits its children, whatever they fire.
use Rattle.std.proofs.Common.{◌≡◌, ℕ, zero, suc, ◌<◌, List, [], ◌∷◌, length, get_or, Bool, true, false, Option, Some, None, sym, ap, subst, ◌∙◌, arith}
use Rattle.pt_meaning.specs.De.{if_whole}
use Rattle.pt_meaning.specs.Machine.{Counts, Partial, partial_at}
use Rattle.pt_meaning.specs.Net.{Source, Output}
use Rattle.pt_meaning.specs.NodeFacts.{facts_of, core_whole, need_of, next_of, whole_of}
use Rattle.pt_meaning.specs.Start.{IsAtStart}
use Rattle.pt_meaning.specs.Streams.{get}
use Rattle.pt_meaning.specs.Tree.{Core, Actor, Composite, Past, reset_of}
use Rattle.pt_meaning.specs.Valuation.{TickPlan, is_known}
use Rattle.pt_laws.specs.Heights.{IsFitting}
use Rattle.pt_laws.specs.TickRuns.{places_at}
use Rattle.pt_value.specs.declared.token.Token.{Token}
use Rattle.pt_core.specs.Reached.{Always, AllAlways}
use Rattle.pt_de_laws.specs.Chain.{Answers}
use Rattle.pt_de_laws.specs.DeActs.{AnswersIf, HasPlaces, Suits}
use Rattle.pt_de_laws.specs.Lawful.{IsLawful}
use Rattle.pt_de_laws.specs.State.{Roles}
use Rattle.pt_de_laws.proofs.PlaceLaws.{get-or-of, get-short}
use Rattle.pt_de_plan.specs.declared.inside.DeInside.{DeInside}
use Rattle.pt_de_plan.specs.Inside.{plan_of, roles_of}
use Rattle.pt_de_plan.proofs.AgainLaws.{comes-again, wakes-at-start, stays-whole}
use Rattle.pt_flow_base.specs.declared.params.Params.{Params}
use Rattle.pt_library.specs.declared.library_actor.LibraryActor.{LibraryActor}
use Rattle.pt_library.specs.LibraryActor as library
use Rattle.pt_library.specs.LibraryActor.{rows}
use Rattle.pt_library.proofs.DelayLaws.{tell-early, delays-stay}
use Rattle.pt_node.specs.Shown.{Shown}
use Rattle.pt_node.specs.View.{Tree, node_of}
use Rattle.pt_trees.specs.Around.{Around}
use Rattle.pt_trees.specs.Composite.{trees_of}
use Rattle.pt_trees.specs.De.{answers_early, delays_from, BeginsAtOutput, HasOutput, HasOutputIf, IsDeWired, IsOutputIf}
use Rattle.pt_trees.specs.Fresh.{AllFresh}
use Rattle.pt_trees.specs.Rates.{AllStarted, IsStarted}
use Rattle.pt_trees.specs.Sr.{tick_plan}
use Rattle.pt_trees.proofs.ChildLaws.{actor-always, placed-child}
use Rattle.pt_trees.proofs.FreshLaws.{start-at}
use Rattle.pt_trees.proofs.NeedLaws.{need-at}
use Rattle.pt_trees.proofs.NodeLaws.{get-at}
use Rattle.pt_de_inside.specs.Inside.{IsInsideOf}
use Rattle.pt_de_inside.specs.Laws.{PlansSuit}
use Rattle.pt_de_inside.proofs.FlagLaws.{flags-at, flag-of, from-length, told-at}
use Rattle.pt_de_inside.proofs.FormLaws.{entries}
use Rattle.pt_de_inside.proofs.StartedLaws.{one-output, within-places}

-- ---- a child, whatever it fires

pub fitting-at : (ss : List Shown) → AllFresh ss → (i : ℕ) (kid : Tree) → get (trees_of ss) i ≡ Some kid → IsFitting kid
fitting-at [] f i kid e = absurd (cc)
fitting-at (s ∷ ss) f zero kid e = let same : node_of s ≡ kid = cc in subst (λ (t : Tree). IsFitting t) same f.0.fitting
fitting-at (s ∷ ss) f (suc i) kid e = fitting-at ss f.1 i kid e

whole-child : (kid : Tree) → IsAtStart rows kid → Always rows (λ node. whole_of rows node ≡ whole_of rows kid) kid
whole-child (Actor h a b) start =
    actor-always h a b start.1 (λ node. whole_of rows node ≡ library.whole b) (λ fs past c g. let stay = delays-stay fs a c g in stay.wholes ∙ sym (ap library.whole start.1))
whole-child (Composite h c d kids) start = λ later t. stays-whole rows h c d kids (ap (λ (e : Core Token). core_whole e) (sym start.1)) later t

pub wake-child : (kid : Tree) → IsAtStart rows kid → IsFitting kid → Always rows (λ node. next_of rows (reset_of node) ≡ next_of rows kid) kid
wake-child kid start fits = λ later t. comes-again rows kid later t fits ∙ wakes-at-start rows kid start

-- ---- the early answer of a child

module _ (plan : TickPlan) (roles : Roles) (i places : ℕ) where
  -- the flags of its places are its own, and its channels begin at its outputs
  record Serves (kid : Tree) : Type 0 where
    flags : places_at plan.net.places i roles.delayed ≡ delays_from kid 0 places
    begin : (c port : ℕ) → get plan.net.sources c ≡ Some (Output i port) → HasOutput kid port
    counts : List ℕ
    need : need_of rows kid ≡ Counts counts
    counted : length counts ≡ places

  module _ (h : Past) (a b : LibraryActor) (same : b ≡ a) (params : Params) (started : library.start params ≡ Some b) (whole : library.whole b ≡ true) (serves : Serves (Actor h a b)) where
    -- what its places let be known
    places-known : (vs : List (Partial Token)) → ((q : ℕ) → q < length (places_at plan.net.places i roles.delayed) → get_or (places_at plan.net.places i roles.delayed) q false ≡ false → is_known (partial_at vs q) ≡ true) →
        (q : ℕ) → library.is_delay b q ≡ false → is_known (partial_at vs q) ≡ true
    places-known vs all q not =
        let within : q < length serves.counts = within-places params b serves.counts started whole serves.need q not in
        let there : q < places = omega (arith, within, serves.counted) in
        let long : length (places_at plan.net.places i roles.delayed) ≡ places = ap (λ (v : List Bool). length v) serves.flags ∙ from-length (Actor h a b) 0 places in
        all q (omega (arith, there, long)) (ap (λ (v : List Bool). get_or v q false) serves.flags ∙ flag-of (Actor h a b) places q there ∙ not)

    port-there : (c port : ℕ) → get plan.net.sources c ≡ Some (Output i port) → port < 1
    port-there c port e =
        let here : IsOutputIf true port (library.outputs b) = subst (λ (w : Bool). IsOutputIf w port (library.outputs b)) whole (serves.begin c port e) in
        omega (arith, here, one-output b whole)

    answers-actor : Always rows (λ node. Answers (facts_of rows) plan roles i node) (Actor h a b)
    answers-actor =
        actor-always h a b same (λ node. Answers (facts_of rows) plan roles i node)
        (λ fs past s g tag vs all c port e.
        let stay = delays-stay fs a s g in
        let its : library.whole s ≡ true = stay.wholes ∙ sym (ap library.whole same) ∙ whole in
        let told : is_known (partial_at (library.early tag s vs) port) ≡ true = tell-early tag s vs its (λ q not. places-known vs all q (ap (λ (v : LibraryActor). library.is_delay v q) same ∙ sym (stay.delays q) ∙ not)) port (omega (arith, port-there c port e, one-output s its)) in
        subst (λ (w : Bool). is_known (partial_at (if_whole w (library.early tag s vs)) port) ≡ true) (sym its) told)

  answers-child : (kid : Tree) → IsAtStart rows kid → IsStarted kid → true ≡ answers_early kid → Serves kid → Always rows (λ node. Answers (facts_of rows) plan roles i node) kid
  answers-child (Actor h a b) start started early serves = answers-actor h a b start.1 started.0 started.1 (sym early) serves
  answers-child (Composite h c d kids) start started early serves = absurd (cc)

  answers-if : (early : Bool) (kid : Tree) → IsAtStart rows kid → IsStarted kid → early ≡ answers_early kid → Serves kid → Always rows (λ node. AnswersIf rows plan roles i early node) kid
  answers-if true kid start started early serves = answers-child kid start started early serves
  answers-if false kid start started early serves = λ later t. tt

-- ---- the children of a composite

module _ (around : Around) (kids : List Shown) (x : DeInside) (depths : List ℕ) (wired : IsDeWired around (trees_of kids)) (fresh : AllFresh kids) (started : AllStarted (trees_of kids)) (is : IsInsideOf around (trees_of kids) x) (lawful : IsLawful (plan_of x) (roles_of x depths)) where
  abbrev its : List Tree
  its = trees_of kids

  abbrev roles : Roles
  roles = roles_of x depths

  children : length its ≡ length around.places
  children = entries around its wired.wired

  whole-each : AllAlways rows (λ i node. whole_of rows node ≡ get_or roles.whole i false) its
  whole-each i kid e = λ later t.
      whole-child kid (start-at kids fresh i kid e) later t ∙ sym (ap (λ (v : List Bool). get_or v i false) is.whole ∙ told-at (λ k. whole_of rows k) its i kid false e)

  starts-each : AllAlways rows (λ i node. next_of rows (reset_of node) ≡ get_or roles.starts i None) its
  starts-each i kid e = λ later t.
      wake-child kid (start-at kids fresh i kid e) (fitting-at kids fresh i kid e) later t ∙ sym (ap (λ v. get_or v i None) is.starts ∙ told-at (λ k. next_of rows k) its i kid None e)

  needs-at : (i : ℕ) (kid : Tree) → get its i ≡ Some kid → (ms : List ℕ) × (need_of rows kid ≡ Counts ms) × (length ms ≡ get_or around.places i 0)
  needs-at i kid e =
      let h = get-short its i kid e in
      need-at (facts_of rows) its around.places wired.wired.needs wired.wired.needed wired.wired.counted i kid (get_or around.places i 0) e (get-at around.places i 0 (omega (arith, h, children)))

  placed-each : AllAlways rows (λ i node. HasPlaces rows (get_or around.places i 0) node) its
  placed-each i kid e = let n = needs-at i kid e in placed-child (get_or around.places i 0) kid (start-at kids fresh i kid e) n.0 n.1 n.2

  begins : (i : ℕ) (kid : Tree) → get its i ≡ Some kid → (c port : ℕ) → get around.sources c ≡ Some (Output i port) → HasOutput kid port
  begins i kid e c port g =
      let there : c < length around.sources = get-short around.sources c (Output i port) g in
      let at : BeginsAtOutput its (get_or around.sources c (Output i port)) = wired.begin c (Output i port) there in
      let of : HasOutputIf (get its i) port = subst (λ (s : Source). BeginsAtOutput its s) (get-or-of around.sources c (Output i port) (Output i port) g) at in
      subst (λ (o : Option Tree). HasOutputIf o port) e of

  serves-each : (i : ℕ) (kid : Tree) → get its i ≡ Some kid → Serves (tick_plan around) roles i (get_or around.places i 0) kid
  serves-each i kid e =
      let n = needs-at i kid e in
      record {
        flags = ap (λ (v : List Bool). places_at around.places i v) is.delayed ∙ flags-at around its children i kid e;
        begin = begins i kid e;
        counts = n.0;
        need = n.1;
        counted = n.2;
      }

  answers-each : AllAlways rows (λ i node. AnswersIf rows (tick_plan around) roles i (get_or roles.early i false) node) its
  answers-each i kid e =
      answers-if (tick_plan around) roles i (get_or around.places i 0) (get_or roles.early i false) kid (start-at kids fresh i kid e) (started i kid e)
      (ap (λ (v : List Bool). get_or v i false) is.early ∙ told-at answers_early its i kid false e) (serves-each i kid e)

  suits : Suits rows (tick_plan around) roles its
  suits = record {
    lawful = subst (λ (p : TickPlan). IsLawful p roles) is.plan lawful;
    children = children;
    whole = whole-each;
    answers = answers-each;
    starts = starts-each;
    places = placed-each;
  }

pub plans-suit : PlansSuit
plans-suit around kids x depths wired fresh started is lawful = suits around kids x depths wired fresh started is lawful
