use Rattle.replays.proofs.Giving.{OrdersLeft}
use Rattle.replays.proofs.log.Replay.give_orders.Given as goal

abbrev pub invariant-loop-disk : goal.invariant-loop-disk
invariant-loop-disk g l = OrdersLeft l.initial.self l.initial.run l.map l.disk l.self l.run
