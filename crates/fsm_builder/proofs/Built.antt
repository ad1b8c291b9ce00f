-- The parts of `build` go together: what each call asks for is given by those before it, and the finished module is one of the process.
use Rattle.std.proofs.Common.{◌≡◌, ℕ, zero, suc, ◌<◌, ◌≤◌, true, false, IsTrue, nat_le, List, [], ◌∷◌, ◌++◌, length, map, refl, sym, ◌∙◌, ap, subst, arith}
use Rattle.std.specs.Prelude.{◌==◌, Some, slice_get, filter}
use Rattle.std.specs.List.{list_all}
use Rattle.std.proofs.lemmas.Bool.{and_from, and_parts, eqb-true, le-leb, leb-true}
use Rattle.std.proofs.lemmas.List.{length-map}
use Rattle.core_term.specs.declared.process.CorePort.{CorePort}
use Rattle.core_term.specs.declared.process.CoreReg.{CoreReg}
use Rattle.core_term.specs.declared.term.CoreTerm.{CoreTerm}
use Rattle.core_term.specs.Process.{Process, Thread, IsProcess, IsThread}
use Rattle.core_term.specs.ProcessView.{port_of, process_of, register_of, thread_of, widths_of}
use Rattle.core_term.specs.Sized.{is_sized, is_width, port_fits, process_fits, register_fits}
use Rattle.core_term.specs.View.{term_of}
use Rattle.core_term.specs.Widths.{Widths}
use Rattle.sv_tree.specs.declared.tree.SvReg.{SvReg}
use Rattle.sv_tree.specs.declared.tree.SvRegName.TheVariants.{Source, State}
use Rattle.sv_tree.specs.Module.{Module}
use Rattle.sv_tree.specs.Sources.{is_source}
use Rattle.sv_tree.specs.GoodName.{is_good_name}
use Rattle.sv_tree.specs.Limits.{longest_name}
use Rattle.sv_tree.specs.WellFormed.{IsWellFormed, is_name}
use Rattle.module_nets.specs.declared.signal.Signal.{Signal}
use Rattle.module_nets.specs.Netlist.{Extends, Stands}
use Rattle.module_nets.specs.Signals.{signal_at, widths_in}
use Rattle.machine_meaning.specs.Meaning.{MeansReread}
use Rattle.process_machine.proofs.PortEnds.{on_its_port}
use Rattle.turn_machine.specs.OneTurn.{IsTurnBody}
use Rattle.source_signals.specs.Sources.{AreWide}
use Rattle.act_deeds.proofs.Deeds.{deed_send}
use Rattle.machine_parts.specs.declared.frame.Frame.{Frame}
use Rattle.machine_parts.specs.declared.frame.ThreadStates.{ThreadStates}
use Rattle.machine_parts.specs.declared.plan.TurnPlan.{TurnPlan}
use Rattle.machine_parts.specs.declared.thread.ThreadDraft.{ThreadDraft}
use Rattle.machine_parts.specs.Frames as frames
use Rattle.machine_parts.specs.Frames.{IsFrameOf, no_register, register_at, source_of}
use Rattle.machine_parts.specs.Nodes.{AreBits}
use Rattle.machine_parts.specs.Plans.{IsTurnPlan}
use Rattle.machine_parts.specs.Modules.{DraftStands, ModuleDrawn}
use Rattle.machine_parts.specs.Threads.{ThreadDrawn}
use Rattle.module_frame.specs.BitLaws.{ArePlansOf}
use Rattle.module_frame.specs.Drafts.{AreFew}
use Rattle.process_nets.specs.Kept.{IsKept}
use Rattle.process_nets.proofs.Frames.{kept_of_frame}
use Rattle.thread_nets.proofs.Sized.{body_fits}
use Rattle.drawn_machine.specs.Drawn.{IsThreadDraft, plan_of}
use Rattle.drawn_machine.proofs.Joined.{drafts_stand, ended_means}
use Rattle.drawn_machine.proofs.Named.{body_fits as text_fits, names_there}
use Rattle.drawn_machine.proofs.Placed.{kept_newest_are_bits, kept_sides_are_bits, started_is_bit, states_are}
use Rattle.drawn_machine.proofs.PlannedNodes.{nodes_are}
use Rattle.drawn_machine.proofs.Sourced.{are_sources, register_is, places_stand, port_widths, register_widths, source_stands, sources, widths_same, wires, wires_are_bits, words}
use Rattle.fsm_builder.specs.declared.threads.Sources.{Sources}
use Rattle.fsm_builder.specs.Drafts.{AreReady, DraftDrawn, DraftsDrawn, IsReady, PlansAre, drawn_body}
use Rattle.fsm_builder.specs.ModuleOf.{IsModuleOf, module_port, source_register}

-- a thread that has a number has a body of it
body_at : (base : Widths) (bodies : List CoreTerm) (number : ℕ) (thread : Thread) → IsThread (map (thread_of base) bodies) number thread
    → (body : CoreTerm) × (slice_get bodies number ≡ Some body) × (thread_of base body ≡ thread)
body_at base [] number thread is = elim is [ ]
body_at base (body ∷ bodies) zero thread is = (body, refl, is)
body_at base (body ∷ bodies) (suc number) thread is = body_at base bodies number thread is

is_thread_of : (base : Widths) (bodies : List CoreTerm) (number : ℕ) (body : CoreTerm) → slice_get bodies number ≡ Some body → IsThread (map (thread_of base) bodies) number (thread_of base body)
is_thread_of base [] number body is = absurd cc
is_thread_of base (first ∷ bodies) zero body is = let same : first ≡ body = cc in ap (thread_of base) same
is_thread_of base (first ∷ bodies) (suc number) body is = is_thread_of base bodies number body is

lists_same : {A : Type 0} (these those : List A) → length these ≡ length those → ((place : ℕ) (item other : A) → slice_get these place ≡ Some item → slice_get those place ≡ Some other → item ≡ other) → these ≡ those
lists_same [] [] count same = refl
lists_same [] (other ∷ those) count same = absurd (omega (arith, count))
lists_same (item ∷ these) [] count same = absurd (omega (arith, count))
lists_same (item ∷ these) (other ∷ those) count same =
    let first : item ≡ other = same 0 item other refl refl in
    let rest : these ≡ those = lists_same these those (omega (arith, count)) (λ place a b left right. same (suc place) a b left right) in
    rw (first, rest) refl

mapped_at : {A B : Type 0} (f : A → B) (items : List A) (place : ℕ) (found : B) → slice_get (map f items) place ≡ Some found → (item : A) × (slice_get items place ≡ Some item) × (f item ≡ found)
mapped_at f [] place found is = absurd cc
mapped_at f (item ∷ items) zero found is = (item, refl, let same : f item ≡ found = cc in same)
mapped_at f (item ∷ items) (suc place) found is = mapped_at f items place found is

get_inside : {A : Type 0} (items : List A) (place : ℕ) (item : A) → slice_get items place ≡ Some item → place < length items
get_inside [] place item there = absurd cc
get_inside (first ∷ items) zero item there = omega arith
get_inside (first ∷ items) (suc place) item there = let rest = get_inside items place item there in omega (arith, rest)

get_at : {A : Type 0} (items : List A) (place : ℕ) → place < length items → (item : A) × (slice_get items place ≡ Some item)
get_at [] place inside = absurd (omega (arith, inside))
get_at (first ∷ items) zero inside = (first, refl)
get_at (first ∷ items) (suc place) inside = get_at items place (omega (arith, inside))

wide_ports : (ports : List CorePort) → list_all port_fits (map port_of ports) ≡ true → AreWide ports
wide_ports [] all place port there = absurd cc
wide_ports (first ∷ ports) all zero port there =
    let same : first ≡ port = cc in
    let width = and_parts (is_width first.width) _ (and_parts (port_fits (port_of first)) _ all).0 in
    let bounds = and_parts (nat_le 1 first.width) (nat_le first.width 64) width.0 in
    subst (λ port. (1 ≤ port.width) × (port.width ≤ 64)) same (leb-true 1 first.width bounds.0, leb-true first.width 64 bounds.1)
wide_ports (first ∷ ports) all (suc place) port there = wide_ports ports (and_parts (port_fits (port_of first)) _ all).1 place port there

-- the registers of the source are those with a name
sources_kept : (registers : List CoreReg) (states : List SvReg) → ((place : ℕ) → place < length states → (number : ℕ) × ((register_at states place).name ≡ State number))
    → filter (λ reg. is_source reg.name) (map source_of registers ++ states) ≡ map source_of registers
sources_kept [] [] names = refl
sources_kept [] (state ∷ states) names =
    let first = names 0 (omega arith) in
    let none : is_source state.name ≡ false = ap is_source first.1 in
    rw none (sources_kept [] states (λ place inside. names (suc place) (omega (arith, inside))))
sources_kept (register ∷ registers) states names = ap (λ rest. source_of register ∷ rest) (sources_kept registers states names)

registers_same : (registers : List CoreReg) → list_all register_fits registers ≡ true → map source_of registers ≡ map source_register (map register_of registers)
registers_same [] all = refl
registers_same (register ∷ registers) all =
    let fits = and_parts (register_fits register) (list_all register_fits registers) all in
    let reset : register.reset.width ≡ register.width = eqb-true register.reset.width register.width (and_parts (register.reset.width == register.width) _ (and_parts (is_width register.width) _ fits.0).1).0 in
    let first : source_of register ≡ source_register (register_of register) =
    ap (λ width. record { name = Source register.name; width = register.width; reset = record { width = width; value = register.reset.value } }) reset in
    rw (first, registers_same registers fits.1) refl

ports_same : (ports : List CorePort) → map frames.port_of ports ≡ map module_port (map port_of ports)
ports_same [] = refl
ports_same (port ∷ ports) = ap (λ rest. frames.port_of port ∷ rest) (ports_same ports)

-- the name of a sized process is a good one
pub good_name : (name : List ℕ) (ports : List CorePort) (registers : List CoreReg) (threads : List CoreTerm) → IsTrue (is_sized name ports registers threads) → length name ≤ longest_name → is_name name ≡ true
good_name name ports registers threads sized few =
    let good = (and_parts (is_good_name name) _ (and_parts (process_fits (process_of name ports registers threads)) _ sized).0).0 in
    and_from (is_good_name name) (nat_le (length name) longest_name) good (le-leb (length name) longest_name few)

module _ (name : List ℕ) (ports : List CorePort) (registers : List CoreReg) (threads : List CoreTerm)
    (process : IsProcess (process_of name ports registers threads)) (sized : IsTrue (is_sized name ports registers threads))
    (ports_fit : list_all port_fits (map port_of ports) ≡ true) (plans : List TurnPlan) (plan_count : length plans ≡ length threads) (plans_are : PlansAre threads plans) where
  abbrev pub p : Process
  p = process_of name ports registers threads

  abbrev base : Widths
  base = widths_of p.ports p.registers

  few_of : (plan : TurnPlan) (body : CoreTerm) → IsTurnPlan (term_of base body) plan → (length plan.nodes.items < 8192) × (length plan.deeds.items ≤ 512)
  few_of plan body is = (is.few, let count = is.deeds.count in let few = is.few_acts in omega (arith, count, few))

  pub are_few : AreFew plans
  are_few number plan there =
      let body = get_at threads number (let inside = get_inside plans number plan there in omega (arith, inside, plan_count)) in
      few_of plan body.0 (plans_are number body.0 plan body.1 there base)

  thread_plan : (number : ℕ) (thread : Thread) (plan : TurnPlan) → IsThread p.threads number thread → slice_get plans number ≡ Some plan → IsTurnPlan thread.body plan
  thread_plan number thread plan is there =
      let body = body_at base threads number thread is in
      subst (λ thread. IsTurnPlan thread.body plan) body.2 (plans_are number body.0 plan body.1 there base)

  pub are_plans : ArePlansOf p.threads plans
  are_plans = record {
    count = plan_count ∙ sym (length-map threads (thread_of base));
    each = λ number thread plan is there. record { numbered = process.numbered number thread is; turn = thread_plan number thread plan is there };
  }

  pub wide : AreWide ports
  wide = wide_ports ports ports_fit

  module _ (frame : Frame) (frame_is : IsFrameOf ports registers plans frame) (s : Sources)
      (registers_are : s.registers.now ≡ sources name ports registers threads) (words_are : s.words.now ≡ words name ports registers threads) (wires_are : s.wires.now ≡ wires name ports registers threads) where
    module _ (old : Module) (tree_ports : old.ports ≡ frame.ports.items) (tree_regs : old.regs ≡ frame.regs.items) where
      abbrev ReadyOver : (read words wires : List Signal) → Type 0
      ReadyOver read words wires =
          (number : ℕ) (body : CoreTerm) (plan : TurnPlan) (states : ThreadStates) → slice_get threads number ≡ Some body
          → slice_get plans number ≡ Some plan → slice_get frame.states.items number ≡ Some states
          → IsReady old read words wires plan states body (length ports)

      ready : ReadyOver (sources name ports registers threads) (words name ports registers threads) (wires name ports registers threads)
      ready number body plan states at there kept =
          let is_thread = is_thread_of base threads number body at in
          let thread = thread_of base body in
          let numbered = process.numbered number thread is_thread in
          let body_is : IsTurnBody (term_of base body) = record { numbered = numbered; tail = process.takes_time number thread is_thread; cycles = process.cycles number thread is_thread } in
          let plan_is = plans_are number body plan at there base in
          let are = frame_is.threads number plan states there kept in
          record {
            plan_is = plans_are number body plan at there (widths_in (sources name ports registers threads) (words name ports registers threads) []);
            nodes = nodes_are (term_of base body) body_is plan plan_is;
            states_stand = states_are frame frame_is.is_frame old tree_regs number plan states are;
            kept = kept_sides_are_bits frame frame_is.is_frame old tree_regs number plan states are;
            no_side = are.no_side;
            started = started_is_bit frame frame_is.is_frame old tree_regs number plan states are;
            wires_stand = wires_are_bits name ports registers threads plans frame frame_is wide old tree_ports tree_regs;
            places = places_stand name ports registers threads plans frame frame_is wide old tree_ports tree_regs;
            fits = body_fits p (sources name ports registers threads) (words name ports registers threads) body (register_widths name ports registers threads) (port_widths name ports registers threads)
                (are_sources name ports registers threads).register_count ports_fit (text_fits name ports registers threads sized number thread is_thread);
            newest = kept_newest_are_bits frame frame_is.is_frame old tree_regs number plan states are;
            sends = λ site port sends.
                let act = deed_send (term_of base body) plan.deeds.items plan_is.deeds numbered site port sends in
                let inside = (names_there name ports registers threads sized).acts number thread site port is_thread (act.0, act.1, act.2, act.3, on_its_port _ port act.4) in
                let count = length-map ports port_of in omega (arith, inside, count);
          }

      pub all_ready : AreReady old s threads plans frame.states.items (length ports)
      all_ready = rw (registers_are, words_are, wires_are) ready

      module _ (drafts : List ThreadDraft) (count : length drafts ≡ length threads) (drawn : DraftsDrawn old s threads plans frame.states.items drafts) where
        body_of_draft : (number : ℕ) (draft : ThreadDraft) → slice_get drafts number ≡ Some draft → (body : CoreTerm) × (slice_get threads number ≡ Some body)
        body_of_draft number draft here = get_at threads number (let inside = get_inside drafts number draft here in omega (arith, inside, count))

        pub drafts_plans : map plan_of drafts ≡ plans
        drafts_plans =
            lists_same (map plan_of drafts) plans (length-map drafts plan_of ∙ (count ∙ sym plan_count))
            (λ number plan other left right.
            let draft = mapped_at plan_of drafts number plan left in
            let body = body_of_draft number draft.0 draft.1 in
            let is = drawn number body.0 draft.0 body.1 draft.1 in
            let both : Some draft.0.plan.now ≡ Some other = sym is.plan ∙ right in
            let same : draft.0.plan.now ≡ other = cc in
            sym draft.2 ∙ same)

        abbrev states_of : ThreadDraft → ThreadStates
        states_of draft = draft.states.now

        pub drafts_states : frame.states.items ≡ map states_of drafts
        drafts_states =
            sym (lists_same (map states_of drafts) frame.states.items (length-map drafts states_of ∙ (count ∙ sym (frame_is.thread_count ∙ plan_count)))
            (λ number states other left right.
            let draft = mapped_at states_of drafts number states left in
            let body = body_of_draft number draft.0 draft.1 in
            let is = drawn number body.0 draft.0 body.1 draft.1 in
            let both : Some draft.0.states.now ≡ Some other = sym is.states_are ∙ right in
            let same : draft.0.states.now ≡ other = cc in
            sym draft.2 ∙ same))

        frame_of_drafts : IsFrameOf ports registers (map plan_of drafts) frame
        frame_of_drafts = subst (λ plans. IsFrameOf ports registers plans frame) (sym drafts_plans) frame_is

        source_wide : (place : ℕ) (is : CoreReg) → slice_get registers place ≡ Some is
            → Stands old (signal_at (sources name ports registers threads) place) × ((signal_at (sources name ports registers threads) place).width ≡ is.width)
        source_wide place is there = (
          source_stands name ports registers threads plans frame frame_is wide old tree_ports tree_regs place (get_inside registers place is there),
          register_widths name ports registers threads place ∙ ap (λ register. register.width) (register_is registers place is there),
        )

        pub kept : IsKept old frame.keeps.items s.registers.now drafts
        kept = rw registers_are (kept_of_frame old frame ports registers (sources name ports registers threads) drafts frame_of_drafts tree_regs drafts_states source_wide)

        pub wires_bits : AreBits old s.wires.now
        wires_bits = rw wires_are (wires_are_bits name ports registers threads plans frame frame_is wide old tree_ports tree_regs)

        is_draft : (number : ℕ) (thread : Thread) (draft : ThreadDraft) → IsThread p.threads number thread → slice_get drafts number ≡ Some draft
            → IsThreadDraft old frame (sources name ports registers threads) (words name ports registers threads) (wires name ports registers threads) number thread draft
        is_draft number thread draft is_thread here =
            let body = body_at base threads number thread is_thread in
            let is = drawn number body.0 draft body.1 here in
            let same_body : drawn_body (sources name ports registers threads) (words name ports registers threads) body.0 ≡ thread.body =
            ap (λ widths. term_of widths body.0) (widths_same name ports registers threads) ∙ ap (λ thread. thread.body) body.2 in
            let over : DraftDrawn old (sources name ports registers threads) (words name ports registers threads) (wires name ports registers threads) body.0 draft =
            rw (registers_are, words_are, wires_are) at is.is in
            record {
              plan = thread_plan number thread draft.plan.now is_thread is.plan;
              states = frame_is.threads number draft.plan.now draft.states.now is.plan is.states_are;
              drawn = subst (λ body. ThreadDrawn old (sources name ports registers threads) (words name ports registers threads) (wires name ports registers threads) body draft.plan.now draft.states.now draft.nets) same_body over.drawn;
              newest = over.newest;
            }

        pub stand : (number : ℕ) (draft : ThreadDraft) → slice_get drafts number ≡ Some draft → DraftStands old s.registers.now ports s.wires.now draft
        stand = rw (registers_are, wires_are) (drafts_stand name ports registers threads process sized frame drafts frame_of_drafts wide old tree_ports tree_regs count is_draft)

        pub means : (tree : Module) → Extends old tree → IsWellFormed tree → ModuleDrawn tree frame.keeps.items ports s.registers.now s.wires.now drafts → MeansReread p tree
        means tree e well gives =
            ended_means name ports registers threads process sized frame drafts frame_of_drafts wide old tree_ports tree_regs count is_draft tree e well (rw (registers_are, wires_are) at gives)

    pub parts : (old tree : Module) → old.ports ≡ frame.ports.items → old.regs ≡ frame.regs.items → Extends old tree → tree.proc ≡ name → list_all register_fits registers ≡ true → IsModuleOf p tree
    parts old tree tree_ports tree_regs e named fit = record {
      named = named;
      ports = e.ports ∙ (tree_ports ∙ (frame_is.ports_are ∙ ports_same ports));
      registers =
          ap (λ regs. filter (λ reg. is_source reg.name) regs) (e.regs ∙ (tree_regs ∙ frame_is.registers_are))
          ∙ (sources_kept registers frame_is.states frame_is.state_names ∙ registers_same registers fit);
    }
