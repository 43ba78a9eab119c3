-- The entities of a generated job are as their classes want them.
use Rattle.std.proofs.Common.{◌≡◌, ℕ, ◌%◌, ◌==◌, ◌≤◌, List, [], ◌∷◌, Bool, true, false, cond, Option, Some, None, refl, codes}
use Rattle.std.specs.List.{AllByRecursion}
use Rattle.pt_document.specs.Document.{EntityTree, entity_name, to_entities}
use Rattle.pt_document.specs.Classes.{Kind, Composite, kind_of, class_row, classes, director_row, directors}
use Rattle.pt_document.specs.Names.{is_name, is_among, is_layout, is_reserved, top_path, below}
use Rattle.pt_moml.specs.Rules.{parts_fit, parameters_fit, parameter_fits, parameter_given, composite_property, property_director, director_at, port_fits, value_fits}
use Rattle.pt_write.specs.Written.{Slot, absent, given}
use Rattle.pt_write.specs.Form.{IsEntity, AreEntities, IsSlotAmong}
use Rattle.pt_gen.specs.Generated.{source, sink, scale, stage, stage_name, composite_stage}
use Rattle.pt_generated.proofs.Numbered.{lettered}

abbrev kind_or : Option Kind → Kind
kind_or None = Composite
kind_or (Some kind) = kind

-- whatever stands at a field, its key is one of these
pub slot_among : (ks : List (List ℕ)) (k : List ℕ) (slot : Slot) → is_among ks k ≡ true → IsSlotAmong ks k slot
slot_among ks k absent e = tt
slot_among ks k (given v) e = e

-- a scale, wherever it stands and whatever its factor is
scale_parts : (here : List ℕ) (name : List ℕ) (i : ℕ) → IsEntity here (scale name i)
unfolding kind_of class_row classes is_name is_layout parts_fit parameters_fit parameter_fits parameter_given
scale_parts here name i = (
  record {
    kind = kind_or (kind_of (codes "Scale"));
    class = refl;
    fields = (refl, (refl, (refl, (tt, (tt, (tt, (tt, (tt, (tt, (tt, tt))))))))));
    properties = ((refl, refl, tt), tt);
    properties_differ = refl;
    ports = tt;
    ports_differ = refl;
    relations = tt;
    relations_differ = refl;
    states = tt;
    states_differ = refl;
    machine = (refl, refl);
    fit = refl;
  },
  refl,
  tt,
)

pub source_parts : (here : List ℕ) → IsEntity here source
unfolding kind_of class_row classes is_name is_layout parts_fit parameters_fit parameter_fits parameter_given
source_parts here = (
  record {
    kind = kind_or (kind_of (codes "Ramp"));
    class = refl;
    fields = (refl, (refl, (refl, (tt, (tt, (tt, (tt, (tt, (tt, (tt, tt))))))))));
    properties = ((refl, refl, tt), tt);
    properties_differ = refl;
    ports = tt;
    ports_differ = refl;
    relations = tt;
    relations_differ = refl;
    states = tt;
    states_differ = refl;
    machine = (refl, refl);
    fit = refl;
  },
  refl,
  tt,
)

pub sink_parts : (here : List ℕ) → IsEntity here sink
unfolding kind_of class_row classes parts_fit parameters_fit parameter_fits parameter_given
sink_parts here = (
  record {
    kind = kind_or (kind_of (codes "Discard"));
    class = refl;
    fields = (refl, (refl, (tt, (tt, (tt, (tt, (tt, (tt, (tt, (tt, tt))))))))));
    properties = tt;
    properties_differ = refl;
    ports = tt;
    ports_differ = refl;
    relations = tt;
    relations_differ = refl;
    states = tt;
    states_differ = refl;
    machine = (refl, refl);
    fit = refl;
  },
  refl,
  tt,
)

-- a stage that is a composite, in the top
composite_parts : (i : ℕ) → IsEntity (stage_name i) (composite_stage i)
unfolding kind_of is_name is_layout is_reserved director_row directors parts_fit parameters_fit parameter_fits parameter_given composite_property property_director director_at port_fits value_fits
composite_parts i = (
  record {
    kind = Composite;
    class = refl;
    fields = (refl, (refl, (refl, (refl, (refl, (refl, (refl, (tt, (tt, (tt, tt))))))))));
    properties = ((refl, refl, tt), tt);
    properties_differ = refl;
    ports = (record { name = refl; declared = tt; properties = tt; differ = refl }, (record { name = refl; declared = tt; properties = tt; differ = refl }, tt));
    ports_differ = refl;
    relations = (refl, (refl, tt));
    relations_differ = refl;
    states = tt;
    states_differ = refl;
    machine = (refl, refl);
    fit = refl;
  },
  refl,
  (refl, scale_parts (below (stage_name i) (codes "k")) (codes "k") i, tt),
)

-- ---- all of them

-- an entity in one of this path has a name, and is as its class wants it
abbrev pub IsIn : List ℕ → EntityTree → Type 0
IsIn here e = (is_name (entity_name e) ≡ true) × IsEntity (below here (entity_name e)) e

pub all_in : (here : List ℕ) (es : List EntityTree) → AllByRecursion (IsIn here) es → AreEntities here (to_entities es)
all_in here [] h = tt
all_in here (e ∷ es) h = (h.0.0, h.0.1, all_in here es h.1)

pub stage_is_in : (i : ℕ) → i ≤ 9000 → IsIn top_path (stage i)
unfolding below
stage_is_in i few = chosen (i % 10 == 0)
  where
    named : is_name (stage_name i) ≡ true
    named = lettered 115 i refl few

    chosen : (b : Bool) → IsIn top_path (cond b (composite_stage i) (scale (stage_name i) i))
    chosen true = (named, composite_parts i)
    chosen false = (named, scale_parts (stage_name i) (stage_name i) i)

pub source_is_in : IsIn top_path source
unfolding is_name
source_is_in = (refl, source_parts (below top_path (codes "src")))

pub sink_is_in : IsIn top_path sink
unfolding is_name
sink_is_in = (refl, sink_parts (below top_path (codes "sink")))

-- ---- their names

pub stage_named : (i : ℕ) → entity_name (stage i) ≡ stage_name i
stage_named i = chosen (i % 10 == 0)
  where
    chosen : (b : Bool) → entity_name (cond b (composite_stage i) (scale (stage_name i) i)) ≡ stage_name i
    chosen true = refl
    chosen false = refl
