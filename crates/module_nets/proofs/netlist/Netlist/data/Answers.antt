use Rattle.std.proofs.Common.{◌≡◌, get_or, sym, ap, subst, ◌∙◌}
use Rattle.sv_tree.specs.declared.tree.SvRef.TheVariants.{Data}
use Rattle.sv_tree.specs.declared.tree.SvOperand.TheVariants.{Ref}
use Rattle.module_nets.specs.Netlist.{Stands, IsNetlist}
use Rattle.module_nets.proofs.Finished.{data_stands, data_width}
use Rattle.module_nets.proofs.netlist.Netlist.data.Goals as goal

pub returns-clause-stands : goal.returns-clause-stands
returns-clause-stands c =
    let is : IsNetlist c.args.self.now = subst (λ old. IsNetlist old) c.self.view_is c.self.invariant in
    let read : c.index.result.now ≡ get_or c.args.self.now.ports c.args.port c.index.result.now =
    subst (λ old. c.index.result.now ≡ get_or old.ports c.args.port c.index.result.now) c.self.view_is c.index.ensures in
    subst (λ port. Stands c.args.self.now record { operand = Ref (Data c.args.port); width = port.width }) (sym read)
    (data_stands c.args.self.now c.args.port c.index.result.now is c.requires)

pub returns-clause-width : goal.returns-clause-width
returns-clause-width c =
    let is : IsNetlist c.args.self.now = subst (λ old. IsNetlist old) c.self.view_is c.self.invariant in
    let read : c.index.result.now ≡ get_or c.args.self.now.ports c.args.port c.index.result.now =
    subst (λ old. c.index.result.now ≡ get_or old.ports c.args.port c.index.result.now) c.self.view_is c.index.ensures in
    ap (λ port. port.width) read ∙ sym (data_width c.args.self.now c.args.port c.index.result.now is c.requires)
