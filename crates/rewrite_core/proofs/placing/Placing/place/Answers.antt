use Rattle.std.proofs.Common.{◌+◌, refl, sym, arith}
use Rattle.rewrite_core.proofs.JudgedPlaces.{goes_short}
use Rattle.rewrite_core.proofs.PlacedParts.{none_read, some_read}
use Rattle.rewrite_core.proofs.PlacingSteps.{jumps_step, ends_step, on_step, linked_step, left_out_step, small_size, goes_within}
use Rattle.rewrite_core.proofs.placing.Placing.place.Goals as goal

pub add-requires : goal.add-requires
add-requires c =
    omega (arith, goes_short c.front_laws.ensures.equations c.args.page.now c.args.at c.in-GoesOn.len (sym c.in-GoesOn.ensures) c.requires.opened.within, small_size c.args.page.now c.args.self.now _ c.requires.page c.requires.opened.placed)

pub overflow_add-next : goal.overflow_add-next
overflow_add-next c = omega (arith, goes_short c.front_laws.ensures.equations c.args.page.now c.args.at c.in-GoesOn.len (sym c.in-GoesOn.ensures) c.requires.opened.within)

pub index-requires : goal.index-requires
index-requires c =
    let t = c.add.new.self in
    let h = goes_within c.front_laws.ensures.equations c.args.page.now c.args.self.now t c.args.at c.in-GoesOn.len c.requires.page c.requires.opened (sym c.in-GoesOn.ensures) c.in_ok-add-in-GoesOn.ensures.places in
    let ok = t.places.ok in
    omega (arith, h.2)

pub returns-then-is_none : goal.returns-then-is_none
returns-then-is_none c =
    let a = c.in_ok-add-in-GoesOn.ensures in
    let t = c.add.new.self in
    let e = sym c.in-GoesOn.ensures in
    let h = goes_within c.front_laws.ensures.equations c.args.page.now c.args.self.now t c.args.at c.in-GoesOn.len c.requires.page c.requires.opened e a.places in
    on_step c.front_laws.ensures.equations c.args.page.now c.args.self.now t c.args.at c.in-GoesOn.len c.requires.opened e (record { places = a.places; parts = a.parts; size = a.size })
    (none_read t.places.items (c.args.at + c.in-GoesOn.len) _ _ h.2 c.index.ensures c.is_none.ensures c.if-is_none.true)

pub add-requires-in-GoesOn : goal.add-requires-in-GoesOn
add-requires-in-GoesOn c =
    let a = c.in_ok-add-in-GoesOn.ensures.size in
    omega (arith, goes_short c.front_laws.ensures.equations c.args.page.now c.args.at c.in-GoesOn.len (sym c.in-GoesOn.ensures) c.requires.opened.within, small_size c.args.page.now c.args.self.now _ c.requires.page c.requires.opened.placed)

pub returns-in_ok-add-in-GoesOn-2 : goal.returns-in_ok-add-in-GoesOn-2
returns-in_ok-add-in-GoesOn-2 c =
    let a = c.in_ok-add-in-GoesOn.ensures in
    let t = c.add.new.self in
    let e = sym c.in-GoesOn.ensures in
    let h = goes_within c.front_laws.ensures.equations c.args.page.now c.args.self.now t c.args.at c.in-GoesOn.len c.requires.page c.requires.opened e a.places in
    linked_step c.front_laws.ensures.equations c.args.page.now c.args.self.now t c.args.at c.in-GoesOn.len c.requires.opened e (record { places = a.places; parts = a.parts; size = a.size }) c.add-in-GoesOn.new.self
    (some_read t.places.items (c.args.at + c.in-GoesOn.len) _ _ h.2 c.index.ensures c.is_none.ensures c.if-is_none.false) c.in_ok-add-in-GoesOn-2.ensures

pub returns-in_ok-add-in-Jumps : goal.returns-in_ok-add-in-Jumps
returns-in_ok-add-in-Jumps c =
    let a = c.in_ok-add-in-Jumps.ensures in
    jumps_step c.front_laws.ensures.equations c.args.page.now c.args.self.now c.add-in-Jumps.new.self c.args.at c.in-Jumps.to c.requires.page c.requires.opened (sym c.in-Jumps.ensures) (record { places = a.places; parts = a.parts; size = a.size })

pub returns-in_ok-add-in-Ends : goal.returns-in_ok-add-in-Ends
returns-in_ok-add-in-Ends c =
    let a = c.in_ok-add-in-Ends.ensures in
    ends_step c.args.page.now c.args.self.now c.add-in-Ends.new.self c.args.at c.requires.opened (sym c.in-Ends.ensures) (record { places = a.places; parts = a.parts; size = a.size })

pub returns-in-LeftOut : goal.returns-in-LeftOut
returns-in-LeftOut c = left_out_step c.args.page.now c.args.self.now _ c.args.at c.requires.opened (sym c.in-LeftOut.ensures) refl refl
