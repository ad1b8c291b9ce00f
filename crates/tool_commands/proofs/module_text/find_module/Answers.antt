-- The module at hand, or one of those that are left.
use Rattle.std.proofs.Common.{◌≡◌, ◌∙◌, get_or, true, false, Some, ap, sym, subst, arith}
use Rattle.std.specs.Prelude.{bytes_eq}
use Rattle.sv_tree.specs.Module.{Module}
use Rattle.tool_stages.proofs.NamedModule.{found_here, not_here, same_item}
use Rattle.tool_commands.proofs.module_text.find_module.Goals as goal

pub returns-then-eq : goal.returns-then-eq
returns-then-eq c =
    let modules = c.args.modules.now in
    let tree = c.index-modules-index.result in
    let is : tree ≡ get_or modules c.loop-index.index tree = c.index-modules-index.is in
    let name_is = c.bytes.ensures.bytes ∙ c.proc.ensures.proc in
    let test : bytes_eq tree.proc c.args.name.now ≡ true = subst (λ n. bytes_eq n c.args.name.now ≡ true) name_is (sym c.if-eq.ensures) in (
      omega arith,
      λ default. found_here c.args.name.now modules c.loop-index.index tree (omega arith) is c.loop-index.invariant test
          ∙ ap (λ (one : Module). Some one) (sym (same_item modules c.loop-index.index tree default (omega arith) is)),
    )

pub loop-index-preserved : goal.loop-index-preserved
loop-index-preserved c =
    let modules = c.args.modules.now in
    let tree = c.index-modules-index.result in
    let is : tree ≡ get_or modules c.loop-index.index tree = c.index-modules-index.is in
    let name_is = c.bytes.ensures.bytes ∙ c.proc.ensures.proc in
    let test : bytes_eq tree.proc c.args.name.now ≡ false = subst (λ n. bytes_eq n c.args.name.now ≡ false) name_is (sym c.if-eq.ensures) in
    not_here c.args.name.now modules c.loop-index.index tree (omega arith) is c.loop-index.invariant test
