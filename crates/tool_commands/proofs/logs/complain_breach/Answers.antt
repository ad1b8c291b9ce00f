-- The port of the number.
use Rattle.std.proofs.Common.{◌≡◌, map}
use Rattle.core_term.specs.Process.{nth_port}
use Rattle.core_term.specs.ProcessView.{port_of}
use Rattle.checked_files.proofs.Processes.{nth_is}
use Rattle.tool_commands.proofs.logs.complain_breach.Goals as goal

pub returns : goal.returns
returns g c =
    let inside = c.requires in
    let port : nth_port (map port_of c.args.proc.now.ports.items) c.args.broken.port ≡ port_of c.index-ports-broken.result =
    nth_is c.args.proc.now.ports.items c.args.broken.port c.index-ports-broken.result inside (rw c.as_slice-ports.ensures.value at c.index-ports-broken.is) in
    rw (port, ← c.bytes.ensures.bytes, ← c.bytes-2.ensures.bytes) c.complain_promise.ensures
