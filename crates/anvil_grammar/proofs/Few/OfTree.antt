-- A file within the limits, as its things begin in the text, is within the limits by its tree. The things of one owner begin one after
-- the other, and what begins between them does not change their number; so they are no more than the most.
use Rattle.std.proofs.Common.{◌≡◌, ◌+◌, ◌-◌, ◌≤◌, ◌<◌, ℕ, List, [], ◌++◌, refl, arith, length}
use Rattle.std.specs.List.{AllByRecursion}
use Rattle.anvil_lexer.specs.declared.token.Token.{Token}
use Rattle.anvil_tree.specs.declared.file.Endpoint.{Endpoint}
use Rattle.anvil_tree.specs.declared.file.Message.{Message}
use Rattle.anvil_tree.specs.declared.file.Register.{Register}
use Rattle.anvil_tree.specs.Tree as tree
use Rattle.anvil_tree.specs.Tree.{Term, Class, Process, File}
use Rattle.anvil_tree.specs.Few.{most_threads, most_parts, ThreadIsFew, ItemIsFew, class_count, process_count, IsFew}
use Rattle.anvil_grammar.specs.declared.error.Counted.{Counted}
use Rattle.anvil_grammar.specs.declared.error.Counted.TheVariants as counted
use Rattle.anvil_grammar.specs.Grammar.{travelling, AreMessages, last, last_with_comma, more, IsClass, of_messages, held, AreEndpoints, ArePorts, without, some, kept, AreRegisters, ended, AreThreads, IsProcess, of_parts, IsFile, class_next, process_next}
use Rattle.anvil_grammar.specs.Begun.{count_after, count}
use Rattle.anvil_grammar.specs.Limits.{begun_in_term, begun_in_messages, begun_in_class, begun_in_endpoints, begun_in_ports, begun_in_registers, begun_in_threads, begun_in_process, begun_in, AreFew}
use Rattle.anvil_grammar.proofs.Limited.Counts.{Numbers, after_one, after_all, AllFit}
use Rattle.anvil_grammar.proofs.Refused.Later.{none}
use Rattle.anvil_grammar.proofs.Few.Numbers.{all_fit, fit_front, fit_behind, Leaves, AllLeave, both_leave, first_leaves}
use Rattle.anvil_grammar.proofs.Few.Acts.{IsOutside, none_leave, term_leaves, term_few}

-- Classes.

messages_leave : (kind : Counted) → Leaves counted.Message kind → {from rest : List Token} {messages : List Message} (are : AreMessages from messages rest)
    → AllLeave (begun_in_messages are) kind
messages_leave kind leaves {from = from} (last a) = first_leaves kind counted.Message from [] leaves (none_leave kind)
messages_leave kind leaves {from = from} (last_with_comma a b) = first_leaves kind counted.Message from [] leaves (none_leave kind)
messages_leave kind leaves {from = from} (more a b others) =
    first_leaves kind counted.Message from (begun_in_messages others) leaves (messages_leave kind leaves others)

messages_few : {from rest : List Token} {messages : List Message} (are : AreMessages from messages rest) (many : Numbers) → AllFit many (begun_in_messages are)
    → length messages ≤ most_parts - many counted.Message
messages_few (last (travelling a b c d e f g h)) many fit = let less = fit.0 in omega arith
messages_few (last_with_comma (travelling a b c d e f g h) i) many fit = let less = fit.0 in omega arith
messages_few (more (travelling {way = way} a b c d e f g h) i others) many fit =
    let less = fit.0 in
    let few = messages_few others (after_one many (record { kind = counted.Message; at = way.at })) fit.1 in
    omega arith

class_few : {from rest : List Token} {class : Class} (is : IsClass from class rest) (many : Numbers) → AllFit many (begun_in_class is) → length class.messages ≤ most_parts
class_few (of_messages {chan = chan} a b c messages d) many fit =
    let few = messages_few messages (after_one many (record { kind = counted.Class; at = chan.at })) fit.1 in
    omega arith

-- Processes.

-- a kind that the parts of a process leave
record IsAbove (kind : Counted) : Type 0 where
  endpoint : Leaves counted.Endpoint kind
  register : Leaves counted.Register kind
  thread : Leaves counted.Thread kind
  inside : IsOutside kind

endpoints_leave : (kind : Counted) → IsAbove kind → {from rest : List Token} {endpoints : List Endpoint} (are : AreEndpoints from endpoints rest)
    → AllLeave (begun_in_endpoints are) kind
endpoints_leave kind above {from = from} (last a) = first_leaves kind counted.Endpoint from [] above.endpoint (none_leave kind)
endpoints_leave kind above {from = from} (more a b others) =
    first_leaves kind counted.Endpoint from (begun_in_endpoints others) above.endpoint (endpoints_leave kind above others)

ports_leave : (kind : Counted) → IsAbove kind → {from rest : List Token} {endpoints : List Endpoint} (are : ArePorts from endpoints rest)
    → AllLeave (begun_in_ports are) kind
ports_leave kind above without = none_leave kind
ports_leave kind above (some are) = endpoints_leave kind above are

registers_leave : (kind : Counted) → IsAbove kind → {from rest : List Token} {registers : List Register} (are : AreRegisters from registers rest)
    → AllLeave (begun_in_registers are) kind
registers_leave kind above ended = none_leave kind
registers_leave kind above {from = from} (more a others) =
    first_leaves kind counted.Register from (begun_in_registers others) above.register (registers_leave kind above others)

threads_leave : (kind : Counted) → IsAbove kind → {from rest : List Token} {threads : List Term} (are : AreThreads from threads rest)
    → AllLeave (begun_in_threads are) kind
threads_leave kind above ended = none_leave kind
threads_leave kind above {from = from} (more a b term c others) =
    first_leaves kind counted.Thread from (begun_in_term term ++ begun_in_threads others) above.thread
    (both_leave kind (begun_in_term term) (begun_in_threads others) (term_leaves kind above.inside term) (threads_leave kind above others))

endpoints_few : {from rest : List Token} {endpoints : List Endpoint} (are : AreEndpoints from endpoints rest) (many : Numbers) → AllFit many (begun_in_endpoints are)
    → length endpoints ≤ most_parts - many counted.Endpoint
endpoints_few (last (held a b c d)) many fit = let less = fit.0 in omega arith
endpoints_few (more (held {word = word} a b c d) e others) many fit =
    let less = fit.0 in
    let few = endpoints_few others (after_one many (record { kind = counted.Endpoint; at = word.at })) fit.1 in
    omega arith

ports_few : {from rest : List Token} {endpoints : List Endpoint} (are : ArePorts from endpoints rest) (many : Numbers) → AllFit many (begun_in_ports are)
    → length endpoints ≤ most_parts
ports_few without many fit = omega arith
ports_few (some are) many fit = let few = endpoints_few are many fit in omega arith

registers_few : {from rest : List Token} {registers : List Register} (are : AreRegisters from registers rest) (many : Numbers) → AllFit many (begun_in_registers are)
    → length registers ≤ most_parts - many counted.Register
registers_few ended many fit = omega arith
registers_few (more (kept {reg = reg} a b c d e f) others) many fit =
    let less = fit.0 in
    let few = registers_few others (after_one many (record { kind = counted.Register; at = reg.at })) fit.1 in
    omega arith

threads_outside : IsOutside counted.Thread
threads_outside = record { act = λ many. refl; node = λ many. refl }

record FewThreads (many : ℕ) (threads : List Term) : Type 0 where
  counted : length threads ≤ most_threads - many
  each : AllByRecursion ThreadIsFew threads

threads_few : {from rest : List Token} {threads : List Term} (are : AreThreads from threads rest) (many : Numbers) → AllFit many (begun_in_threads are)
    → FewThreads (many counted.Thread) threads
threads_few ended many fit = record { counted = omega arith; each = tt }
threads_few (more {loop = loop} a b term c others) many fit =
    let less = fit.0 in
    let after = after_one many (record { kind = counted.Thread; at = loop.at }) in
    let inner = term_few term after (fit_front (begun_in_term term) (begun_in_threads others) after fit.1) in
    let further = threads_few others (after_all after (begun_in_term term)) (fit_behind (begun_in_term term) (begun_in_threads others) after fit.1) in
    let kept = term_leaves counted.Thread threads_outside term (many counted.Thread + 1) in
    let few = further.counted in
    let acts = inner.counted in
    record { counted = omega arith; each = ((omega arith, inner.each), further.each) }

process_few : {from rest : List Token} {process : Process} (is : IsProcess from process rest) (many : Numbers) → AllFit many (begun_in_process is)
    → ItemIsFew (tree.process process)
process_few (of_parts {proc = proc} a b c ports d e registers threads f) many fit =
    let after = after_one many (record { kind = counted.Process; at = proc.at }) in
    let inside = begun_in_registers registers ++ begun_in_threads threads in
    let behind = after_all after (begun_in_ports ports) in
    let both = fit_behind (begun_in_ports ports) inside after fit.1 in
    let kept_registers = registers_few registers behind (fit_front (begun_in_registers registers) (begun_in_threads threads) behind both) in
    let run = threads_few threads (after_all behind (begun_in_registers registers)) (fit_behind (begun_in_registers registers) (begun_in_threads threads) behind both) in
    let counted_threads = run.counted in
    (ports_few ports after (fit_front (begun_in_ports ports) inside after fit.1), omega arith, omega arith, run.each)

-- Files.

parts_leave : (kind : Counted) → IsAbove kind → {from rest : List Token} {process : Process} (is : IsProcess from process rest) (many : ℕ)
    → count kind many (begun_in_process is) ≡ count_after kind counted.Process many
parts_leave kind above (of_parts a b c ports d e registers threads f) many =
    both_leave kind (begun_in_ports ports) (begun_in_registers registers ++ begun_in_threads threads) (ports_leave kind above ports)
    (both_leave kind (begun_in_registers registers) (begun_in_threads threads) (registers_leave kind above registers) (threads_leave kind above threads))
    (count_after kind counted.Process many)

members_leave : (kind : Counted) → Leaves counted.Message kind → {from rest : List Token} {class : Class} (is : IsClass from class rest) (many : ℕ)
    → count kind many (begun_in_class is) ≡ count_after kind counted.Class many
members_leave kind leaves (of_messages a b c messages d) many = messages_leave kind leaves messages (count_after kind counted.Class many)

class_above : IsAbove counted.Class
class_above = record {
  endpoint = λ many. refl;
  register = λ many. refl;
  thread = λ many. refl;
  inside = record { act = λ many. refl; node = λ many. refl };
}

process_above : IsAbove counted.Process
process_above = record {
  endpoint = λ many. refl;
  register = λ many. refl;
  thread = λ many. refl;
  inside = record { act = λ many. refl; node = λ many. refl };
}

class_room : {from rest : List Token} {class : Class} (is : IsClass from class rest) (many : Numbers) → AllFit many (begun_in_class is)
    → many counted.Class < most_parts
class_room (of_messages a b c messages d) many fit = fit.0

process_room : {from rest : List Token} {process : Process} (is : IsProcess from process rest) (many : Numbers) → AllFit many (begun_in_process is)
    → many counted.Process < most_parts
process_room (of_parts a b c ports d e registers threads f) many fit = fit.0

record FewItems (many : Numbers) (file : File) : Type 0 where
  classes : class_count file ≤ most_parts - many counted.Class
  processes : process_count file ≤ most_parts - many counted.Process
  each : AllByRecursion ItemIsFew file

file_few : {tokens : List Token} {file : File} (is : IsFile tokens file) (many : Numbers) → AllFit many (begun_in is) → FewItems many file
file_few (ended a) many fit = record { classes = omega arith; processes = omega arith; each = tt }
file_few (class_next class others) many fit =
    let front = fit_front (begun_in_class class) (begun_in others) many fit in
    let less = class_room class many front in
    let further = file_few others (after_all many (begun_in_class class)) (fit_behind (begun_in_class class) (begun_in others) many fit) in
    let one_more = members_leave counted.Class (λ many. refl) class (many counted.Class) in
    let none_more = members_leave counted.Process (λ many. refl) class (many counted.Process) in
    let few_classes = further.classes in
    let few_processes = further.processes in
    record { classes = omega arith; processes = omega arith; each = (class_few class many front, further.each) }
file_few (process_next process others) many fit =
    let front = fit_front (begun_in_process process) (begun_in others) many fit in
    let less = process_room process many front in
    let further = file_few others (after_all many (begun_in_process process)) (fit_behind (begun_in_process process) (begun_in others) many fit) in
    let one_more = parts_leave counted.Process process_above process (many counted.Process) in
    let none_more = parts_leave counted.Class class_above process (many counted.Class) in
    let few_classes = further.classes in
    let few_processes = further.processes in
    record { classes = omega arith; processes = omega arith; each = (process_few process many front, further.each) }

pub few_of_tree : {tokens : List Token} {file : File} (is : IsFile tokens file) → AreFew is → IsFew file
few_of_tree is few =
    let fit = all_fit (begun_in is) none (λ kind. omega arith)
    (λ before after begin joined full. few begin.kind begin.at (record { before = before; after = after; joined = joined; full = full })) in
    let all = file_few is none fit in
    let classes = all.classes in
    let processes = all.processes in
    record { classes = omega arith; processes = omega arith; each = all.each }
