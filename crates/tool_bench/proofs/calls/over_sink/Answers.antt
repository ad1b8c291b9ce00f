-- A shelf over memory may be asked for any name, so for each that the words load.
use Rattle.std.specs.Prelude.{List, [], ◌∷◌, Option, Some, None, IfSome}
use Rattle.std.specs.List.{AllByRecursion}
use Rattle.command_words.specs.Form.{Form, Load, MayLoad, form_of, loads_of, words_of}
use Rattle.tool_bench.proofs.calls.over_sink.Goals as goal

all_asked : (loads : List Load) → AllByRecursion (λ load. Unit {0}) loads
all_asked [] = tt
all_asked (load ∷ loads) = (tt, all_asked loads)

asked : (form : Option Form) → IfSome form (MayLoad (λ name. Unit {0}))
asked None = tt
asked (Some form) = all_asked (loads_of form)

pub run_tool-status-requires : goal.run_tool-status-requires
run_tool-status-requires c = asked (form_of (words_of c.args.list.now))
