-- The body of a thread with the widths of the registers and ports that it is drawn from.
use Rattle.std.specs.Prelude.{[]}
use Rattle.core_term.specs.Term.{Term}
use Rattle.core_term.specs.Widths.{Widths}
use Rattle.core_term.specs.View.{term_of}
use Rattle.core_term.specs.declared.term.CoreTerm.{CoreTerm}
use Rattle.module_nets.specs.Signals.{widths_in}
use Rattle.thread_nets.specs.declared.setting.ThreadSetting.{ThreadSetting}

abbrev pub source_widths : ThreadSetting → Widths
source_widths setting = widths_in setting.registers.now setting.ports.now []

abbrev pub body_of : ThreadSetting → CoreTerm → Term
body_of setting body = term_of (source_widths setting) body
