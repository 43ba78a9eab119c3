use Rattle.std.proofs.Common.{rules, ◌≡◌, ℕ, suc, ◌+◌, ◌*◌, ◌≤◌, [], ◌∷◌, true, length, get_or, map, Fits, w32, inl, ap, sym, subst, ◌∙◌, arith}
use Rattle.std.proofs.lemmas.Grind.{common_steps}
use Rattle.pt_meaning.specs.Streams.{Streams}
use Rattle.pt_value.specs.declared.token.Token.{Token}
use Rattle.pt_value.specs.declared.token.Token.TheVariants.{Int}
use Rattle.pt_sdf.specs.Core.{state_of, with_asked, Sound, order_in, at_in}
use Rattle.pt_sdf.specs.declared.sdf.Stage.TheVariants as code
use Rattle.pt_sdf.specs.Clauses.{State}
use Rattle.pt_sdf_parts.specs.Feeds.{target_of, put_back, AreThere, AreApart}
use Rattle.pt_sdf.specs.InARow.{TellsInTurn, given_by}
use Rattle.pt_sdf_parts.specs.Lanes.{HasRow, IsInletIn, row_left}
use Rattle.pt_sdf_parts.specs.Plan.{plan_of}
use Rattle.pt_sdf_parts.specs.Stretches.{no_stretch, place_at, IsWithin, IsAdvanced}
use Rattle.pt_sdf.proofs.CoreLaws.{rates-read}
use Rattle.pt_sdf.proofs.HandLaws.{asked-now, busy-there, busy-left}
use Rattle.pt_sdf_parts.proofs.LaneLaws.{if-so}
use Rattle.pt_sdf_parts.proofs.StretchLaws.{again-read}
use Rattle.pt_sdf.proofs.RowLists.{if-not, row-left-long}
use Rattle.pt_sdf.proofs.RowLaws.{row_held, row_inputs, row-told-sound, row-told, row-fed, row-fed-apart, row-inlet, row-put}
use Rattle.pt_sdf.proofs.sdf.Core.told_rows.Goals as goal

pub index-requires : goal.index-requires
index-requires c =
    let g = asked-now c.self.inside c.args.self.now c.args.child c.self.view_is c.requires.asked c.in-Asked.field-0 c.in-Asked.is in
    omega (arith, (c.self.invariant.stretch (busy-left c.self.inside c.self.invariant.sound c.args.child (inl g))).there, c.self.inside.plan.order.ok.0)

pub overflow_sub-index : goal.overflow_sub-index
overflow_sub-index c =
    let g = asked-now c.self.inside c.args.self.now c.args.child c.self.view_is c.requires.asked c.in-Asked.field-0 c.in-Asked.is in
    let h = c.self.invariant.stretch (busy-left c.self.inside c.self.invariant.sound c.args.child (inl g)) in
    omega (arith, h.begun, again-read c.self.inside.plan.order.items c.self.inside.at c.self.inside.done c.index.result.now h c.index.ensures)

pub index-requires-2 : goal.index-requires-2
index-requires-2 c =
    let g = asked-now c.self.inside c.args.self.now c.args.child c.self.view_is c.requires.asked c.in-Asked.field-0 c.in-Asked.is in
    omega (arith, busy-there c.self.inside c.self.invariant.sound c.args.child (inl g), c.self.invariant.sound.lawful.rates, c.self.inside.plan.rates.ok.0)

pub index-requires-3 : goal.index-requires-3
index-requires-3 c =
    let g = asked-now c.self.inside c.args.self.now c.args.child c.self.view_is c.requires.asked c.in-Asked.field-0 c.in-Asked.is in
    omega (arith, busy-there c.self.inside c.self.invariant.sound c.args.child (inl g), c.self.invariant.sound.fed.targets.counted, c.self.inside.tables.feeds.ok.0)

pub index-requires-4 : goal.index-requires-4
index-requires-4 c =
    let g = asked-now c.self.inside c.args.self.now c.args.child c.self.view_is c.requires.asked c.in-Asked.field-0 c.in-Asked.is in
    omega (arith, busy-there c.self.inside c.self.invariant.sound c.args.child (inl g), c.self.invariant.lanes.counted, c.self.inside.tables.lanes.ok.0)

pub index-requires-5 : goal.index-requires-5
index-requires-5 c =
    let g = asked-now c.self.inside c.args.self.now c.args.child c.self.view_is c.requires.asked c.in-Asked.field-0 c.in-Asked.is in
    omega (arith, busy-there c.self.inside c.self.invariant.sound c.args.child (inl g), c.self.invariant.sound.fed.targets.counted, c.self.inside.tables.feeds.ok.0)

pub make_room-requires : goal.make_room-requires
make_room-requires c =
    let g = asked-now c.self.inside c.args.self.now c.args.child c.self.view_is c.requires.asked c.in-Asked.field-0 c.in-Asked.is in
    let there = busy-there c.self.inside c.self.invariant.sound c.args.child (inl g) in
    let h = c.self.invariant.stretch (busy-left c.self.inside c.self.invariant.sound c.args.child (inl g)) in
    let within : c.self.inside.done + c.in-Some.again ≤ (get_or c.self.inside.plan.order.items c.self.inside.at no_stretch).again = omega (arith, c.if-again-index.false, h.begun, again-read c.self.inside.plan.order.items c.self.inside.at c.self.inside.done c.index.result.now h c.index.ensures) in
    let some : c.args.firings ≡ suc c.in-Some.again = grind (arith, common_steps) in
    let rates : get_or c.self.inside.plan.rates.items c.args.child [] ≡ c.args.rate ∷ [] = sym (c.as_slice.ensures ∙ rates-read c.self.inside c.self.invariant.sound c.args.child c.index-2.result.now there c.index-2.ensures) ∙ c.are_rows_of_one.ensures.rate c.if-not-are_rows_of_one.false in
    let long : length c.args.numbers.now ≡ suc c.in-Some.again * c.args.rate = c.are_rows_of_one.ensures.all c.if-not-are_rows_of_one.false ∙ ap (λ n. n * c.args.rate) some in
    record { there = subst (λ v. AreThere (length c.self.inside.channels.lists) 1 v) (sym c.deref.ensures.value) (row-fed c.self.inside c.self.invariant c.args.child g c.args.rate c.args.numbers.now c.in-Some.again within rates long c.index-3.result.now c.index-3.ensures) }

pub skip_rows-requires : goal.skip_rows-requires
skip_rows-requires c =
    let g = asked-now c.self.inside c.args.self.now c.args.child c.self.view_is c.requires.asked c.in-Asked.field-0 c.in-Asked.is in
    let there = busy-there c.self.inside c.self.invariant.sound c.args.child (inl g) in
    let h = c.self.invariant.stretch (busy-left c.self.inside c.self.invariant.sound c.args.child (inl g)) in
    let within : c.self.inside.done + c.in-Some.again ≤ (get_or c.self.inside.plan.order.items c.self.inside.at no_stretch).again = omega (arith, c.if-again-index.false, h.begun, again-read c.self.inside.plan.order.items c.self.inside.at c.self.inside.done c.index.result.now h c.index.ensures) in
    let some : c.args.firings ≡ suc c.in-Some.again = grind (arith, common_steps) in
    let rates : get_or c.self.inside.plan.rates.items c.args.child [] ≡ c.args.rate ∷ [] = sym (c.as_slice.ensures ∙ rates-read c.self.inside c.self.invariant.sound c.args.child c.index-2.result.now there c.index-2.ensures) ∙ c.are_rows_of_one.ensures.rate c.if-not-are_rows_of_one.false in
    let long : length c.args.numbers.now ≡ suc c.in-Some.again * c.args.rate = c.are_rows_of_one.ensures.all c.if-not-are_rows_of_one.false ∙ ap (λ n. n * c.args.rate) some in
    subst (λ n. IsInletIn n c.index-4.result.now.inlet) (sym (ap (λ v. length v) c.make_room.ensures.lists)) (row-inlet c.self.inside c.self.invariant c.args.child g c.args.rate c.args.numbers.now c.in-Some.again within rates long c.index-4.result.now c.index-4.ensures)

pub invariant_of-self-then-not-skip_rows : goal.invariant_of-self-then-not-skip_rows
invariant_of-self-then-not-skip_rows c =
    let e : c.skip_rows.new.channels.lists ≡ c.self.inside.channels.lists = if-not _ _ c.if-not-skip_rows.true c.skip_rows.ensures.lists ∙ c.make_room.ensures.lists in
    record {
      sound = subst (λ X. Sound (plan_of c.self.inside.plan) c.self.inside.plan.needs (order_in c.self.inside) c.self.inside.plan.room c.self.inside.tables.offsets.items c.self.inside.tables.feeds.items c.self.inside.first.lists X c.self.inside.rooms.items c.self.inside.lent.items c.self.inside.staged.list c.self.inside.turns c.self.inside.left (at_in c.self.inside) c.self.inside.stage) (sym e) c.self.invariant.sound;
      stretch = c.self.invariant.stretch;
      lanes = c.self.invariant.lanes;
    }

pub returns-then-not-skip_rows-clause-kept : goal.returns-then-not-skip_rows-clause-kept
returns-then-not-skip_rows-clause-kept c =
    let e : c.skip_rows.new.channels.lists ≡ c.self.inside.channels.lists = if-not _ _ c.if-not-skip_rows.true c.skip_rows.ensures.lists ∙ c.make_room.ensures.lists in
    ap (λ X. with_asked c.self.inside.stage (state_of (plan_of c.self.inside.plan) c.self.inside.plan.needs (order_in c.self.inside) c.self.inside.first.lists X c.self.inside.lent.items c.self.inside.turns c.self.inside.left (at_in c.self.inside) c.self.inside.tag c.self.inside.stage)) e ∙ c.self.view_is

pub put_on_each-requires-clause-there : goal.put_on_each-requires-clause-there
put_on_each-requires-clause-there c =
    let g = asked-now c.self.inside c.args.self.now c.args.child c.self.view_is c.requires.asked c.in-Asked.field-0 c.in-Asked.is in
    let there = busy-there c.self.inside c.self.invariant.sound c.args.child (inl g) in
    let h = c.self.invariant.stretch (busy-left c.self.inside c.self.invariant.sound c.args.child (inl g)) in
    let within : c.self.inside.done + c.in-Some.again ≤ (get_or c.self.inside.plan.order.items c.self.inside.at no_stretch).again = omega (arith, c.if-again-index.false, h.begun, again-read c.self.inside.plan.order.items c.self.inside.at c.self.inside.done c.index.result.now h c.index.ensures) in
    let some : c.args.firings ≡ suc c.in-Some.again = grind (arith, common_steps) in
    let rates : get_or c.self.inside.plan.rates.items c.args.child [] ≡ c.args.rate ∷ [] = sym (c.as_slice.ensures ∙ rates-read c.self.inside c.self.invariant.sound c.args.child c.index-2.result.now there c.index-2.ensures) ∙ c.are_rows_of_one.ensures.rate c.if-not-are_rows_of_one.false in
    let long : length c.args.numbers.now ≡ suc c.in-Some.again * c.args.rate = c.are_rows_of_one.ensures.all c.if-not-are_rows_of_one.false ∙ ap (λ n. n * c.args.rate) some in
    let lane = c.index-4.result.now in
    let same : length c.skip_rows.new.channels.lists ≡ length c.self.inside.channels.lists = ap (λ v. length v) (if-so _ _ c.if-not-skip_rows.false c.skip_rows.ensures.lists) ∙ row-left-long lane.inlet c.args.firings c.make_room.new.channels.lists ∙ ap (λ v. length v) c.make_room.ensures.lists in
    subst (λ n. AreThere n 1 c.deref-2.result.now) (sym same) (subst (λ v. AreThere (length c.self.inside.channels.lists) 1 v) (sym c.deref-2.ensures.value) (row-fed c.self.inside c.self.invariant c.args.child g c.args.rate c.args.numbers.now c.in-Some.again within rates long c.index-5.result.now c.index-5.ensures))

pub put_on_each-requires-clause-apart : goal.put_on_each-requires-clause-apart
put_on_each-requires-clause-apart c =
    let g = asked-now c.self.inside c.args.self.now c.args.child c.self.view_is c.requires.asked c.in-Asked.field-0 c.in-Asked.is in
    let there = busy-there c.self.inside c.self.invariant.sound c.args.child (inl g) in
    let h = c.self.invariant.stretch (busy-left c.self.inside c.self.invariant.sound c.args.child (inl g)) in
    let within : c.self.inside.done + c.in-Some.again ≤ (get_or c.self.inside.plan.order.items c.self.inside.at no_stretch).again = omega (arith, c.if-again-index.false, h.begun, again-read c.self.inside.plan.order.items c.self.inside.at c.self.inside.done c.index.result.now h c.index.ensures) in
    let some : c.args.firings ≡ suc c.in-Some.again = grind (arith, common_steps) in
    let rates : get_or c.self.inside.plan.rates.items c.args.child [] ≡ c.args.rate ∷ [] = sym (c.as_slice.ensures ∙ rates-read c.self.inside c.self.invariant.sound c.args.child c.index-2.result.now there c.index-2.ensures) ∙ c.are_rows_of_one.ensures.rate c.if-not-are_rows_of_one.false in
    let long : length c.args.numbers.now ≡ suc c.in-Some.again * c.args.rate = c.are_rows_of_one.ensures.all c.if-not-are_rows_of_one.false ∙ ap (λ n. n * c.args.rate) some in
    subst (λ v. AreApart v) (sym c.deref-2.ensures.value) (row-fed-apart c.self.inside c.self.invariant c.args.child g c.args.rate c.args.numbers.now c.in-Some.again within rates long c.index-5.result.now c.index-5.ensures)

pub overflow_add-self : goal.overflow_add-self
overflow_add-self c =
    let g = asked-now c.self.inside c.args.self.now c.args.child c.self.view_is c.requires.asked c.in-Asked.field-0 c.in-Asked.is in
    let h = c.self.invariant.stretch (busy-left c.self.inside c.self.invariant.sound c.args.child (inl g)) in
    let small : Fits w32 c.index.result.now.again = search rules in
    omega (arith, small, c.if-again-index.false, h.begun, again-read c.self.inside.plan.order.items c.self.inside.at c.self.inside.done c.index.result.now h c.index.ensures)

pub advance-requires-clause-within : goal.advance-requires-clause-within
advance-requires-clause-within c =
    let g = asked-now c.self.inside c.args.self.now c.args.child c.self.view_is c.requires.asked c.in-Asked.field-0 c.in-Asked.is in
    let there = busy-there c.self.inside c.self.invariant.sound c.args.child (inl g) in
    let h = c.self.invariant.stretch (busy-left c.self.inside c.self.invariant.sound c.args.child (inl g)) in
    let within : c.self.inside.done + c.in-Some.again ≤ (get_or c.self.inside.plan.order.items c.self.inside.at no_stretch).again = omega (arith, c.if-again-index.false, h.begun, again-read c.self.inside.plan.order.items c.self.inside.at c.self.inside.done c.index.result.now h c.index.ensures) in
    subst (λ v. IsWithin v c.self.inside.at (c.self.inside.done + c.in-Some.again)) (sym c.deref-3.ensures.value) (record { there = h.there; begun = within })

pub advance-requires-clause-some : goal.advance-requires-clause-some
advance-requires-clause-some c =
    let g = asked-now c.self.inside c.args.self.now c.args.child c.self.view_is c.requires.asked c.in-Asked.field-0 c.in-Asked.is in
    busy-left c.self.inside c.self.invariant.sound c.args.child (inl g)

pub invariant_of-self-2 : goal.invariant_of-self-2
invariant_of-self-2 c =
    let g = asked-now c.self.inside c.args.self.now c.args.child c.self.view_is c.requires.asked c.in-Asked.field-0 c.in-Asked.is in
    let there = busy-there c.self.inside c.self.invariant.sound c.args.child (inl g) in
    let h = c.self.invariant.stretch (busy-left c.self.inside c.self.invariant.sound c.args.child (inl g)) in
    let within : c.self.inside.done + c.in-Some.again ≤ (get_or c.self.inside.plan.order.items c.self.inside.at no_stretch).again = omega (arith, c.if-again-index.false, h.begun, again-read c.self.inside.plan.order.items c.self.inside.at c.self.inside.done c.index.result.now h c.index.ensures) in
    let some : c.args.firings ≡ suc c.in-Some.again = grind (arith, common_steps) in
    let rates : get_or c.self.inside.plan.rates.items c.args.child [] ≡ c.args.rate ∷ [] = sym (c.as_slice.ensures ∙ rates-read c.self.inside c.self.invariant.sound c.args.child c.index-2.result.now there c.index-2.ensures) ∙ c.are_rows_of_one.ensures.rate c.if-not-are_rows_of_one.false in
    let long : length c.args.numbers.now ≡ suc c.in-Some.again * c.args.rate = c.are_rows_of_one.ensures.all c.if-not-are_rows_of_one.false ∙ ap (λ n. n * c.args.rate) some in
    let lane = c.index-4.result.now in
    let left : c.skip_rows.new.channels.lists ≡ row_left lane.inlet (suc c.in-Some.again) c.self.inside.channels.lists = if-so _ _ c.if-not-skip_rows.false c.skip_rows.ensures.lists ∙ ap (λ X. row_left lane.inlet c.args.firings X) c.make_room.ensures.lists ∙ ap (λ n. row_left lane.inlet n c.self.inside.channels.lists) some in
    let has = subst (λ X. HasRow lane.inlet (suc c.in-Some.again) X) c.make_room.ensures.lists (subst (λ n. HasRow lane.inlet n c.make_room.new.channels.lists) some (c.skip_rows.ensures.enough c.if-not-skip_rows.false)) in
    let next = subst (λ v. IsAdvanced v c.self.inside.left c.self.inside.at (c.self.inside.done + c.in-Some.again) c.advance.new.left c.advance.new.at c.advance.new.done) c.deref-3.ensures.value c.advance.ensures in
    let all : c.put_on_each.new.channels.lists ≡ row_held c.self.inside c.self.invariant c.args.child g c.args.rate c.args.numbers.now (suc c.in-Some.again) =
    c.put_on_each.ensures ∙ ap (λ v. put_back (map target_of v) (map Int c.args.numbers.now ∷ []) c.skip_rows.new.channels.lists) c.deref-2.ensures.value ∙ ap (λ X. put_back (map target_of c.index-5.result.now.items) (map Int c.args.numbers.now ∷ []) X) left
    ∙ row-put c.self.inside c.self.invariant c.args.child g c.args.rate c.args.numbers.now c.in-Some.again within rates long lane c.index-4.ensures has c.index-5.result.now c.index-5.ensures in
    record {
      sound = subst (λ L. Sound (plan_of c.self.inside.plan) c.self.inside.plan.needs (order_in c.self.inside) c.self.inside.plan.room c.self.inside.tables.offsets.items c.self.inside.tables.feeds.items c.self.inside.first.lists L c.self.inside.rooms.items c.self.inside.lent.items c.self.inside.staged.list c.self.inside.turns c.advance.new.left (place_at c.advance.new.at c.advance.new.done c.self.inside.plan.order.items) code.Open) (sym all)
          (row-told-sound c.self.inside c.self.invariant c.args.child g c.args.rate c.args.numbers.now c.in-Some.again within rates long c.advance.new.left c.advance.new.at c.advance.new.done next);
      stretch = λ l. next.within;
      lanes = c.self.invariant.lanes;
    }

pub returns-clause-told : goal.returns-clause-told
returns-clause-told c =
    let g = asked-now c.self.inside c.args.self.now c.args.child c.self.view_is c.requires.asked c.in-Asked.field-0 c.in-Asked.is in
    let there = busy-there c.self.inside c.self.invariant.sound c.args.child (inl g) in
    let h = c.self.invariant.stretch (busy-left c.self.inside c.self.invariant.sound c.args.child (inl g)) in
    let within : c.self.inside.done + c.in-Some.again ≤ (get_or c.self.inside.plan.order.items c.self.inside.at no_stretch).again = omega (arith, c.if-again-index.false, h.begun, again-read c.self.inside.plan.order.items c.self.inside.at c.self.inside.done c.index.result.now h c.index.ensures) in
    let some : c.args.firings ≡ suc c.in-Some.again = grind (arith, common_steps) in
    let rates : get_or c.self.inside.plan.rates.items c.args.child [] ≡ c.args.rate ∷ [] = sym (c.as_slice.ensures ∙ rates-read c.self.inside c.self.invariant.sound c.args.child c.index-2.result.now there c.index-2.ensures) ∙ c.are_rows_of_one.ensures.rate c.if-not-are_rows_of_one.false in
    let long : length c.args.numbers.now ≡ suc c.in-Some.again * c.args.rate = c.are_rows_of_one.ensures.all c.if-not-are_rows_of_one.false ∙ ap (λ n. n * c.args.rate) some in
    let lane = c.index-4.result.now in
    let left : c.skip_rows.new.channels.lists ≡ row_left lane.inlet (suc c.in-Some.again) c.self.inside.channels.lists = if-so _ _ c.if-not-skip_rows.false c.skip_rows.ensures.lists ∙ ap (λ X. row_left lane.inlet c.args.firings X) c.make_room.ensures.lists ∙ ap (λ n. row_left lane.inlet n c.self.inside.channels.lists) some in
    let has = subst (λ X. HasRow lane.inlet (suc c.in-Some.again) X) c.make_room.ensures.lists (subst (λ n. HasRow lane.inlet n c.make_room.new.channels.lists) some (c.skip_rows.ensures.enough c.if-not-skip_rows.false)) in
    let next = subst (λ v. IsAdvanced v c.self.inside.left c.self.inside.at (c.self.inside.done + c.in-Some.again) c.advance.new.left c.advance.new.at c.advance.new.done) c.deref-3.ensures.value c.advance.ensures in
    let all : c.put_on_each.new.channels.lists ≡ row_held c.self.inside c.self.invariant c.args.child g c.args.rate c.args.numbers.now (suc c.in-Some.again) =
    c.put_on_each.ensures ∙ ap (λ v. put_back (map target_of v) (map Int c.args.numbers.now ∷ []) c.skip_rows.new.channels.lists) c.deref-2.ensures.value ∙ ap (λ X. put_back (map target_of c.index-5.result.now.items) (map Int c.args.numbers.now ∷ []) X) left
    ∙ row-put c.self.inside c.self.invariant c.args.child g c.args.rate c.args.numbers.now c.in-Some.again within rates long lane c.index-4.ensures has c.index-5.result.now c.index-5.ensures in
    let takes : ℕ → Streams Token = row_inputs c.self.inside c.self.invariant c.args.child g c.args.rate c.args.numbers.now in
    let told = row-told c.self.inside c.self.invariant c.args.child g c.args.rate c.args.numbers.now c.in-Some.again within rates long c.advance.new.left c.advance.new.at c.advance.new.done next c.args.self.now c.self.view_is in
    let state : Streams Token → State = λ L. state_of (plan_of c.self.inside.plan) c.self.inside.plan.needs (order_in c.self.inside) c.self.inside.first.lists L c.self.inside.lent.items c.self.inside.turns c.advance.new.left (place_at c.advance.new.at c.advance.new.done c.self.inside.plan.order.items) c.self.inside.tag code.Open in
    (takes, subst (λ n. TellsInTurn c.args.child takes (given_by c.args.rate c.args.numbers.now) n c.args.self.now (state c.put_on_each.new.channels.lists)) (sym some) (subst (λ L. TellsInTurn c.args.child takes (given_by c.args.rate c.args.numbers.now) (suc c.in-Some.again) c.args.self.now (state L)) (sym all) told))
