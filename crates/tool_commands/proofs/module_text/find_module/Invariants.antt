-- What is found among the modules that are left is what is found among all.
use Rattle.std.proofs.Common.{◌≡◌, drop}
use Rattle.tool_stages.specs.RunModule.{module_named}
use Rattle.tool_commands.proofs.module_text.find_module.Given as goal

abbrev pub invariant-loop-index : goal.invariant-loop-index
invariant-loop-index l = module_named l.fn.name (drop l.index l.fn.modules) ≡ module_named l.fn.name l.fn.modules
