use Rattle.std.proofs.Common.{◌≡◌, ◌+◌, ◌<◌, ◌∷◌, [], ◌∙◌, arith, refl, ap, subst, length, take, length-append}
use Rattle.act_deeds.specs.Deeds.{deed_at}
use Rattle.module_frame.specs.Drafts.{Grown, SiteHeld}
use Rattle.module_frame.specs.Slots.{site_slots, site_slot}
use Rattle.module_frame.proofs.Growing.{grown_on, deed_read, sites_more, sites_room, sites_held}
use Rattle.module_frame.proofs.thread.add_sites.Goals as goal

pub add_site-requires : goal.add_site-requires
add_site-requires c = record {
  room = sites_room c.args.draft.now c.loop-deed.draft c.args.thread c.loop-deed.deed-index c.args.deeds.now c.loop-deed-test.true c.requires.room c.loop-deed.invariant.grown;
}

pub loop-deed-preserved : goal.loop-deed-preserved
loop-deed-preserved c =
    let index = c.loop-deed.deed-index in
    let deeds = c.args.deeds.now in
    let thread = c.args.thread in
    let inside : index < length deeds = c.loop-deed-test.true in
    let length_is = c.len-site.ensures in
    let side_count = c.loop-deed.invariant.side_count in
    let newest_count = c.loop-deed.invariant.newest_count in
    let at : c.len-site.result ≡ index = omega (arith, length_is, side_count) in
    let read = deed_read deeds index _ inside in
    let sides = c.in_ok-push.ensures.items in
    let newest = c.in_ok-push-2.ensures.items in
    let more_sides = ap length sides ∙ length-append c.loop-deed.sides.items (c.in_ok-side.field-0.side ∷ []) in
    let more_newest = ap length newest ∙ length-append c.loop-deed.newests.items (c.in_ok-side.field-0.newest ∷ []) in
    let grown : Grown c.loop-deed.draft c.add_site.new.self (site_slot thread index (deed_at deeds index)) =
    subst (λ n. Grown c.loop-deed.draft c.add_site.new.self (site_slot thread n (deed_at deeds index))) at
    (subst (λ act. Grown c.loop-deed.draft c.add_site.new.self (site_slot thread c.len-site.result act)) read c.in_ok-side.ensures.grown) in
    let held : SiteHeld c.add_site.new.self.frame thread index (deed_at deeds index) c.in_ok-side.field-0 =
    subst (λ n. SiteHeld c.add_site.new.self.frame thread n (deed_at deeds index) c.in_ok-side.field-0) at
    (subst (λ act. SiteHeld c.add_site.new.self.frame thread c.len-site.result act c.in_ok-side.field-0) read c.in_ok-side.ensures.held) in
    let room = sites_room c.args.draft.now c.loop-deed.draft thread index deeds inside c.requires.room c.loop-deed.invariant.grown in
    record {
      grown =
          grown_on c.args.draft.now c.loop-deed.draft c.add_site.new.self (site_slots thread 0 (take index deeds)) (site_slot thread index (deed_at deeds index)) _
          (sites_more thread index (index + 1) deeds refl inside) c.loop-deed.invariant.grown grown;
      side_count = omega (arith, more_sides, side_count);
      newest_count = omega (arith, more_newest, newest_count);
      held =
          sites_held c.loop-deed.draft c.add_site.new.self (site_slot thread index (deed_at deeds index)) 1 thread index deeds
          c.loop-deed.sides.items c.loop-deed.newests.items c.push.new.self.items c.push-in-loop-deed.new.self.items c.in_ok-side.field-0
          room grown side_count newest_count sides newest c.loop-deed.invariant.held held;
    }
