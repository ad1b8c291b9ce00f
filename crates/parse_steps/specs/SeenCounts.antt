-- How counts are seen as the tally of the grammar.
use Rattle.parse_steps.specs.declared.counts.Counts.{Counts}
use Rattle.anvil_grammar.specs.Limited.{Tally}

abbrev pub tally_of : Counts → Tally
tally_of counts = record {
  open_brackets = counts.open_brackets;
  classes = counts.classes;
  messages = counts.messages;
  processes = counts.processes;
  endpoints = counts.endpoints;
  registers = counts.registers;
  threads = counts.threads;
  acts = counts.acts;
  nodes = counts.nodes;
}
