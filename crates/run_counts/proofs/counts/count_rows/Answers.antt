-- One cycle more, and all of them.
use Rattle.std.proofs.Common.{◌≡◌, ◌∙◌, ◌+◌, length, sym, ap, arith}
use Rattle.std.specs.List.{sum_by}
use Rattle.core_term.specs.ProcessView.{process_of}
use Rattle.run_counts.specs.Counts.{exchanges_in, registers_last, shown_value}
use Rattle.run_counts.proofs.Few.{few_registers}
use Rattle.run_counts.proofs.More.{exchanges_more, last_more}
use Rattle.run_counts.proofs.counts.count_rows.Goals as goal

pub loop-index-preserved : goal.loop-index-preserved
loop-index-preserved c =
    let p = process_of c.args.proc.now.name c.args.proc.now.ports.items c.args.proc.now.regs.items c.args.proc.now.threads.items in
    let proc = c.args.proc.now in
    let n = c.loop-index.index in
    let (ready, places, few, small, so_far) = c.loop-index.invariant in
    let few_now = c.count_cycle-exchanges.ensures.few in (
      c.count_cycle-exchanges.ensures.ready,
      c.count_cycle-exchanges.ensures.places,
      omega (arith, few, few_now),
      omega (arith, c.sum_of-registers.ensures.few, ap length c.as_slice.ensures.value, c.count_cycle-exchanges.ensures.places.1, few_registers proc.name proc.ports.items proc.regs.items proc.threads.items proc.sized),
      λ seen starts.
          let (stands, counted, last) = so_far seen starts in
          let here = c.count_cycle-exchanges.ensures.exchanges c.args.rows.now seen n (omega arith) c.index-rows-index.is stands in
          let registers = c.count_cycle-exchanges.ensures.registers c.args.rows.now seen n (omega arith) c.index-rows-index.is stands in (
            c.count_cycle-exchanges.ensures.stands c.args.rows.now seen n (omega arith) c.index-rows-index.is stands,
            (λ i. counted i + here i) ∙ sym (exchanges_more p seen n),
            c.sum_of-registers.ensures.sum ∙ (ap (sum_by shown_value) (c.as_slice.ensures.value ∙ registers) ∙ sym (last_more p seen n)),
          ),
    )

pub returns-clause-few : goal.returns-clause-few
returns-clause-few c =
    let (ready, places, few, small, so_far) = c.loop-index.invariant in (omega (arith, few, c.requires.few), small)

pub returns-clause-counts : goal.returns-clause-counts
returns-clause-counts c = λ seen starts.
    let p = process_of c.args.proc.now.name c.args.proc.now.ports.items c.args.proc.now.regs.items c.args.proc.now.threads.items in
    let (ready, places, few, small, so_far) = c.loop-index.invariant in
    let (stands, counted, last) = so_far seen starts in
    let all : c.loop-index.index ≡ length c.args.rows.now = omega arith in
    let exchanges = counted ∙ ap (exchanges_in p seen) all in
    let registers = last ∙ ap (registers_last p seen) all in
    λ i. record { exchanges = exchanges i; registers = registers i }
