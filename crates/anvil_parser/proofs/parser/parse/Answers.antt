-- What the verdict on the tokens tells of them.
use Rattle.anvil_parser.specs.SeenFile.{items_of, reading_of}
use Rattle.anvil_grammar.proofs.Refused.Parsed.{accepted_acts, accepted_at, accepted_few, accepted_in_order, accepted_once, accepted_unrefused, never_ends, refused_first, refused_no_file, refused_same}
use Rattle.anvil_parser.proofs.parser.parse.Goals as goal

pub unreachable-requires : goal.unreachable-requires
unreachable-requires c = never_ends c.args.tokens.now (reading_of c.in-Ok.reading) c.requires.closed c.in-Ok.ensures c.in-None.ensures

pub returns-in-Some-clause-tree : goal.returns-in-Some-clause-tree
returns-in-Some-clause-tree c = accepted_at c.args.tokens.now (reading_of c.in-Ok.reading) (items_of c.in-Some.items) c.in-Ok.ensures c.in-Some.ensures

pub returns-in-Some-clause-every_file : goal.returns-in-Some-clause-every_file
returns-in-Some-clause-every_file c = λ file also.
    accepted_once c.args.tokens.now (items_of c.in-Some.items) file
    (accepted_at c.args.tokens.now (reading_of c.in-Ok.reading) (items_of c.in-Some.items) c.in-Ok.ensures c.in-Some.ensures) also

pub returns-in-Some-clause-in_order : goal.returns-in-Some-clause-in_order
returns-in-Some-clause-in_order c =
    accepted_in_order c.args.tokens.now (items_of c.in-Some.items) c.requires.rising
    (accepted_at c.args.tokens.now (reading_of c.in-Ok.reading) (items_of c.in-Some.items) c.in-Ok.ensures c.in-Some.ensures)

pub returns-in-Some-clause-few : goal.returns-in-Some-clause-few
returns-in-Some-clause-few c =
    accepted_few c.args.tokens.now (items_of c.in-Some.items)
    (accepted_at c.args.tokens.now (reading_of c.in-Ok.reading) (items_of c.in-Some.items) c.in-Ok.ensures c.in-Some.ensures)

pub returns-in-Some-clause-acts_in_order : goal.returns-in-Some-clause-acts_in_order
returns-in-Some-clause-acts_in_order c =
    accepted_acts c.args.tokens.now (items_of c.in-Some.items) c.requires.rising
    (accepted_at c.args.tokens.now (reading_of c.in-Ok.reading) (items_of c.in-Some.items) c.in-Ok.ensures c.in-Some.ensures)

pub returns-in-Some-clause-every_refusal : goal.returns-in-Some-clause-every_refusal
returns-in-Some-clause-every_refusal c = λ refusal first.
    accepted_unrefused c.args.tokens.now (items_of c.in-Some.items) refusal
    (accepted_at c.args.tokens.now (reading_of c.in-Ok.reading) (items_of c.in-Some.items) c.in-Ok.ensures c.in-Some.ensures) first

pub returns-in-Err-clause-every_file : goal.returns-in-Err-clause-every_file
returns-in-Err-clause-every_file c = λ file accepted. refused_no_file c.args.tokens.now c.in-Err.refusal c.requires.rising c.in-Err.ensures file accepted

pub returns-in-Err-clause-refused : goal.returns-in-Err-clause-refused
returns-in-Err-clause-refused c = λ other. refused_first c.args.tokens.now c.in-Err.refusal c.requires.rising c.in-Err.ensures other

pub returns-in-Err-clause-every_refusal : goal.returns-in-Err-clause-every_refusal
returns-in-Err-clause-every_refusal c = λ other first. refused_same c.args.tokens.now c.in-Err.refusal c.requires.rising c.in-Err.ensures other first
