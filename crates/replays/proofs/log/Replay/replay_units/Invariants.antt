use Rattle.std.proofs.Common.{◌-◌, length}
use Rattle.replays.proofs.Turning.{UnitsLeft}
use Rattle.replays.proofs.log.Replay.replay_units.Given as goal

abbrev pub invariant-loop-self : goal.invariant-loop-self
invariant-loop-self g l = UnitsLeft l.initial.self l.initial.run l.self l.run

abbrev pub decreases-loop-self : goal.decreases-loop-self
decreases-loop-self g l = length l.initial.self.bytes.now - l.self.place
