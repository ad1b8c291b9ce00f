-- The lives of all ports, each a list of ends.
use Rattle.std.specs.Prelude.{List, map}
use Rattle.std.specs.Global.{Vec}
use Rattle.core_term.specs.declared.process.CoreLife.{CoreLife}
use Rattle.core_term.specs.Process.{LifeEnd, Port}
use Rattle.core_term.specs.ProcessView.{end_of_life}

-- as the code keeps the ends
abbrev pub life_kept : Vec CoreLife → List LifeEnd
life_kept ends = map end_of_life ends.items

abbrev pub lives_of : List Port → List (List LifeEnd)
lives_of ports = map (λ (port : Port). port.life) ports
