-- What the reading comes to tells of the whole text.
use Rattle.std.proofs.Common.{List, Err}
use Rattle.std.specs.Global.{Vec}
use Rattle.sv_tree.specs.Module.{Module}
use Rattle.sv_reader.specs.SeenState.{state_of}
use Rattle.sv_reader.proofs.Answered.{Answers, end_answers, stopped_answers, its_modules, its_text, its_refusal, its_place}
use Rattle.sv_reader.proofs.reader.read_modules.Goals as goal

abbrev items : Vec Module → List Module
items modules = modules.items

ended : (c : goal.After-ended) → Answers items c.args.text.now c.ended.result
ended c = end_answers items c.args.text.now (state_of c.in-Ok.reading) c.in-Ok.left.now c.ended.result c.in-Ok.ensures.left c.in-Ok.ensures.lines c.ended.ensures

refused : (c : goal.In-Err) → Answers items c.args.text.now (Err c.in-Err.fault)
refused c = stopped_answers c.args.text.now c.in-Err.fault c.in-Err.ensures.lines

pub returns-in-Ok-clause-modules : goal.returns-in-Ok-clause-modules
returns-in-Ok-clause-modules c = its_modules items c.args.text.now c.ended.result (ended c)

pub returns-in-Ok-clause-every_text : goal.returns-in-Ok-clause-every_text
returns-in-Ok-clause-every_text c = its_text items c.args.text.now c.ended.result (ended c)

pub returns-in-Ok-clause-refused : goal.returns-in-Ok-clause-refused
returns-in-Ok-clause-refused c = its_refusal items c.args.text.now c.ended.result (ended c)

pub returns-in-Ok-clause-every_place : goal.returns-in-Ok-clause-every_place
returns-in-Ok-clause-every_place c = its_place items c.args.text.now c.ended.result (ended c)

pub returns-in-Err-clause-every_text : goal.returns-in-Err-clause-every_text
returns-in-Err-clause-every_text c = its_text items c.args.text.now (Err c.in-Err.fault) (refused c)

pub returns-in-Err-clause-refused : goal.returns-in-Err-clause-refused
returns-in-Err-clause-refused c = its_refusal items c.args.text.now (Err c.in-Err.fault) (refused c)

pub returns-in-Err-clause-every_place : goal.returns-in-Err-clause-every_place
returns-in-Err-clause-every_place c = its_place items c.args.text.now (Err c.in-Err.fault) (refused c)
