use Rattle.std.proofs.Common.{◌≡◌, ◌*◌, ◌<◌, true, arith, refl, sym, ◌∙◌, ap, subst, length, map}
use Rattle.std.specs.List.{list_all}
use Rattle.sv_tree.specs.Limits.{too_many}
use Rattle.machine_parts.specs.Frames.{port_of}
use Rattle.module_frame.specs.Drafts.{is_kept_port, is_kept_register}
use Rattle.module_frame.proofs.Assembled.{sized_parts, few_sources, room_for_all, start_room, regs_whole, keeps_whole, assembled}
use Rattle.module_frame.proofs.GrowingThreads.{states_same}
use Rattle.core_term.specs.ProcessView.{process_of}
use Rattle.module_frame.proofs.PlanBits.{bounded}
use Rattle.module_frame.proofs.SlotBits.{bits_are}
use Rattle.module_frame.proofs.frame.frame_of.Goals as goal

pub source_keeps-requires : goal.source_keeps-requires
source_keeps-requires c =
    let p = c.args.proc.now in
    let parts = sized_parts p.name p.ports.items p.regs.items p.threads.items p.sized in
    record { few = subst (λ z. length z < too_many) (sym c.deref-3.ensures.value) (few_sources p.ports.items p.regs.items p.threads.items parts) }

pub add_threads-requires-clause-room : goal.add_threads-requires-clause-room
add_threads-requires-clause-room c =
    let p = c.args.proc.now in
    let parts = sized_parts p.name p.ports.items p.regs.items p.threads.items p.sized in
    start_room _ p.regs.items c.deref-2.result.now c.deref-3.result.now (8704 * length c.args.plans.now)
    c.deref-2.ensures.value c.deref-3.ensures.value c.in_ok-sources_of.ensures.same c.in_ok-source_keeps.ensures refl
    (room_for_all p.ports.items p.regs.items p.threads.items c.args.plans.now parts c.requires.count)

pub returns-clause-frame : goal.returns-clause-frame
returns-clause-frame c =
    let p = c.args.proc.now in
    let plans = c.args.plans.now in
    let grown = c.in_ok-draft.ensures.grown in
    let room = c.in_ok-draft.ensures.room in
    let left = room.room in
    assembled _ p.ports.items p.regs.items p.threads.items plans
    (sized_parts p.name p.ports.items p.regs.items p.threads.items p.sized)
    (subst (λ z. list_all is_kept_port z ≡ true) c.deref.ensures.value c.in_ok-ports_of.ensures.kept)
    (subst (λ z. list_all is_kept_register z ≡ true) c.deref-2.ensures.value c.in_ok-sources_of.ensures.kept)
    (grown.ports ∙ c.in_ok-ports_of.ensures.same ∙ ap (map port_of) c.deref.ensures.value)
    (regs_whole _ c.add_threads.new.draft p.regs.items c.deref-2.result.now plans c.deref-2.ensures.value c.in_ok-sources_of.ensures.same refl grown)
    (keeps_whole _ c.add_threads.new.draft p.regs.items c.deref-3.result.now plans c.deref-3.ensures.value c.in_ok-source_keeps.ensures grown)
    grown.wide (omega (arith, left)) room.same c.in_ok-draft.ensures.count
    (λ thread plan states is_plan is_states.
    states_same c.add_threads.new.draft.frame _ thread plan states room.same refl refl (c.in_ok-draft.ensures.states thread plan states is_plan is_states))

pub returns-clause-bits : goal.returns-clause-bits
returns-clause-bits c =
    let p = c.args.proc.now in
    let plans = c.args.plans.now in
    bits_are p.regs.items plans c.add_threads.new.draft.frame.regs.items
    (regs_whole _ c.add_threads.new.draft p.regs.items c.deref-2.result.now plans c.deref-2.ensures.value c.in_ok-sources_of.ensures.same refl c.in_ok-draft.ensures.grown)

pub returns-clause-bound : goal.returns-clause-bound
returns-clause-bound c = λ are.
    let p = c.args.proc.now in
    let plans = c.args.plans.now in
    let bits =
    bits_are p.regs.items plans c.add_threads.new.draft.frame.regs.items
    (regs_whole _ c.add_threads.new.draft p.regs.items c.deref-2.result.now plans c.deref-2.ensures.value c.in_ok-sources_of.ensures.same refl c.in_ok-draft.ensures.grown) in
    let within = bounded (process_of p.name p.ports.items p.regs.items p.threads.items) plans are in
    omega (arith, bits, within)
