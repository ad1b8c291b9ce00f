-- How a module that is being read is seen.
use Rattle.sv_tree.specs.Module.{Module}
use Rattle.sv_draft.specs.declared.draft.Draft.{Draft}

abbrev pub draft_of : Draft → Module
draft_of draft =
    record {
      proc = draft.proc;
      ports = draft.ports;
      regs = draft.regs;
      nets = draft.nets;
      outs = draft.outs.items;
      nexts = draft.nexts.items;
    }
