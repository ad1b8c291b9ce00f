-- The reader's answers, and that they exclude each other.
use Rattle.std.proofs.Common.{map, inl}
use Rattle.core_term.specs.ProcessView.{port_of}
use Rattle.stim_text.proofs.PortsFit.{ports_fit}
use Rattle.tool_stages.specs.Logs.{too_many}
use Rattle.tool_stages.proofs.Stimuli.{rows_fit, rows_or_refused, stimulus_refused_once, told_line}
use Rattle.tool_commands.proofs.stimulus.rows_of_text.Goals as goal

pub returns-in-Ok-clause-fit : goal.returns-in-Ok-clause-fit
returns-in-Ok-clause-fit c = rows_fit (map port_of c.args.proc.now.ports.items) c.args.text.now c.in-Ok.rows.items c.in-Ok.ensures.rows

pub returns-in-Ok-clause-every_refusal : goal.returns-in-Ok-clause-every_refusal
returns-in-Ok-clause-every_refusal c = λ refusal refused.
    rows_or_refused (map port_of c.args.proc.now.ports.items) c.args.text.now (ports_fit c.args.proc.now.name c.args.proc.now.ports.items c.args.proc.now.regs.items c.args.proc.now.threads.items c.args.proc.now.sized) c.in-Ok.rows.items refusal c.in-Ok.ensures.rows refused

pub returns-in-Err-BadStim-clause-refused : goal.returns-in-Err-BadStim-clause-refused
returns-in-Err-BadStim-clause-refused c = λ not_memory.
    told_line (map port_of c.args.proc.now.ports.items) c.args.text.now c.in-Err-BadStim.line (rw c.in-Err-BadStim.field-0-is at c.in-Err-BadStim.ensures.refused)

pub returns-in-Err-BadStim-clause-every_refusal : goal.returns-in-Err-BadStim-clause-every_refusal
returns-in-Err-BadStim-clause-every_refusal c = λ refusal refused.
    inl (stimulus_refused_once (map port_of c.args.proc.now.ports.items) c.args.text.now (ports_fit c.args.proc.now.name c.args.proc.now.ports.items c.args.proc.now.regs.items c.args.proc.now.threads.items c.args.proc.now.sized) _ refusal
    (told_line (map port_of c.args.proc.now.ports.items) c.args.text.now c.in-Err-BadStim.line (rw c.in-Err-BadStim.field-0-is at c.in-Err-BadStim.ensures.refused)) refused)

pub returns-in-Err-BadStim-clause-every_rows : goal.returns-in-Err-BadStim-clause-every_rows
returns-in-Err-BadStim-clause-every_rows c = λ rows are.
    absurd (rows_or_refused (map port_of c.args.proc.now.ports.items) c.args.text.now (ports_fit c.args.proc.now.name c.args.proc.now.ports.items c.args.proc.now.regs.items c.args.proc.now.threads.items c.args.proc.now.sized) rows _ are
    (told_line (map port_of c.args.proc.now.ports.items) c.args.text.now c.in-Err-BadStim.line (rw c.in-Err-BadStim.field-0-is at c.in-Err-BadStim.ensures.refused)))

pub returns-in-Err-TooManyRows-clause-refused : goal.returns-in-Err-TooManyRows-clause-refused
returns-in-Err-TooManyRows-clause-refused c = λ not_memory. too_many (rw c.in-Err-TooManyRows.field-0-is at c.in-Err-TooManyRows.ensures.refused)

pub returns-in-Err-TooManyRows-clause-every_refusal : goal.returns-in-Err-TooManyRows-clause-every_refusal
returns-in-Err-TooManyRows-clause-every_refusal c = λ refusal refused.
    inl (stimulus_refused_once (map port_of c.args.proc.now.ports.items) c.args.text.now (ports_fit c.args.proc.now.name c.args.proc.now.ports.items c.args.proc.now.regs.items c.args.proc.now.threads.items c.args.proc.now.sized) _ refusal
    (too_many (rw c.in-Err-TooManyRows.field-0-is at c.in-Err-TooManyRows.ensures.refused)) refused)

pub returns-in-Err-TooManyRows-clause-every_rows : goal.returns-in-Err-TooManyRows-clause-every_rows
returns-in-Err-TooManyRows-clause-every_rows c = λ rows are.
    absurd (rows_or_refused (map port_of c.args.proc.now.ports.items) c.args.text.now (ports_fit c.args.proc.now.name c.args.proc.now.ports.items c.args.proc.now.regs.items c.args.proc.now.threads.items c.args.proc.now.sized) rows _ are
    (too_many (rw c.in-Err-TooManyRows.field-0-is at c.in-Err-TooManyRows.ensures.refused)))
