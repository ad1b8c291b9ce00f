use Rattle.std.proofs.Common.{◌≡◌, length, arith}
use Rattle.sv_meaning.specs.Cycle.{in_cells, values, net_in}
use Rattle.sv_meaning.proofs.Nets.{net_pushed}
use Rattle.sv_meaning.proofs.Places.{net_width_at, net_fits_at}
use Rattle.sv_meaning.proofs.cycle.Cycle.value_nets.Goals as goal

pub net-number-requires-clause-width : goal.net-number-requires-clause-width
net-number-requires-clause-width c =
    net_width_at c.args.self.now.module.now c.nets-net-items.ensures.well_formed _ c.nets-net-items.ensures.nets c.loop-net.net-index c.net-item.result
    c.loop-net-test.true c.net-item.is

pub net-number-requires-clause-fits : goal.net-number-requires-clause-fits
net-number-requires-clause-fits c =
    let known : length c.as_slice.result.now ≡ c.loop-net.net-index = omega (arith, c.as_slice.ensures.len, c.loop-net.invariant.count) in
    net_fits_at c.args.self.now.module.now c.nets-net-items.ensures.well_formed _ c.nets-net-items.ensures.nets _ c.loop-net.net-index c.net-item.result
    known c.loop-net-test.true c.net-item.is

pub loop-net-preserved : goal.loop-net-preserved
loop-net-preserved c =
    let number : c.net-number.result ≡ net_in c.args.self.now c.loop-net.nets.items c.net-item.result =
    rw c.as_slice.ensures.value at c.net-number.ensures in
    let pushed =
    net_pushed c.args.self.now.module.now (in_cells c.args.self.now.cells.now) 0 (values c.args.self.now.registers.now) c.nets-net-items.result.now
    c.loop-net.net-index c.net-item.result c.loop-net.nets.items c.push_reserved.new.self.items c.net-number.result c.loop-net-test.true c.net-item.is
    c.push_reserved.ensures.items c.loop-net.invariant.valued c.loop-net.invariant.wide number in
    record {
      valued = pushed.0;
      wide = pushed.1;
      count = omega (arith, c.push_reserved.ensures.len, c.loop-net.invariant.count);
      room = omega (arith, c.push_reserved.ensures.capacity, c.loop-net.invariant.room);
    }
