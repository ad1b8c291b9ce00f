-- The form is that of the command.
use Rattle.anvil_tool.proofs.tool.obey.Goals as goal

pub returns-in-Run : goal.returns-in-Run
returns-in-Run g c = rw c.in-Run.is c.run_file.ensures

pub returns-in-RunModule : goal.returns-in-RunModule
returns-in-RunModule g c = rw c.in-RunModule.is c.run_module_file.ensures

pub returns-in-Generate : goal.returns-in-Generate
returns-in-Generate g c = rw c.in-Generate.is (c.summarise.ensures (g.S.Shelf.told c.args.shelf.now) (g.S.Shelf.faults c.args.shelf.now) (g.S.Shelf.taken c.args.shelf.now))
