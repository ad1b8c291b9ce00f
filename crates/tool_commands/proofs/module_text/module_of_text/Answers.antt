-- The text is of no modules, none has the name, or its ports differ.
use Rattle.std.proofs.Common.{◌≡◌, ◌∙◌, get_or, None, Some, refl, ap, sym}
use Rattle.sv_tree.specs.Module.{Module}
use Rattle.tool_stages.specs.RunModule.{module_named, not_emitted, no_module, other_ports}
use Rattle.tool_commands.proofs.module_text.module_of_text.Goals as goal

pub returns-in-Err-NotEmitted-clause-refused : goal.returns-in-Err-NotEmitted-clause-refused
returns-in-Err-NotEmitted-clause-refused c = λ not_memory. not_emitted c.in-Err-NotEmitted.at (rw c.in-Err-NotEmitted.field-0-is at c.in-Err-NotEmitted.ensures.refused (λ is. cc))

pub returns-in_default-clause-refused : goal.returns-in_default-clause-refused
returns-in_default-clause-refused c = λ not_memory.
    let none : module_named c.args.name.now c.in-Ok.modules.items ≡ None = rw c.deref.ensures.value at c.in_default.ensures in
    no_module c.in-Ok.modules.items c.in-Ok.ensures.modules none

pub returns-else-matches-clause-refused : goal.returns-else-matches-clause-refused
returns-else-matches-clause-refused c = λ not_memory.
    let tree = c.index.result.now in
    let (inside, each) = c.in-Some.ensures in
    let found : tree ≡ get_or c.in-Ok.modules.items c.in-Some.index tree = c.index.ensures in
    let named : module_named c.args.name.now c.in-Ok.modules.items ≡ Some tree = (rw c.deref.ensures.value at (each tree)) ∙ ap (λ (one : Module). Some one) (sym found) in
    other_ports c.in-Ok.modules.items tree c.in-Ok.ensures.modules named (c.if-matches.ensures.other refl)
