use Rattle.std.proofs.Common.{◌≡◌, length}
use Rattle.graph_order.specs.Nodes.{EachLed}
use Rattle.graph_order.proofs.nodes.all_led.Given as goal

abbrev pub invariant-loop-number : goal.invariant-loop-number
invariant-loop-number l = record { len : length l.led ≡ l.number; each : EachLed l.graph l.led }
