use Rattle.std.proofs.Common.{sym}
use Rattle.replays.proofs.Turning.{units_left, units_over}
use Rattle.replays.proofs.log.Replay.replay_units.Goals as goal

pub returns-then-self-clause-follows : goal.returns-then-self-clause-follows
returns-then-self-clause-follows g c =
    let l = c.loop-self in
    units_left _ _ l.self l.run l.invariant (sym c.loop-self-test.ensures.value) c.if-self.true

pub returns-clause-follows : goal.returns-clause-follows
returns-clause-follows g c =
    let l = c.loop-self in
    units_over _ _ l.self l.run l.invariant (sym c.loop-self-test.ensures.value) c.if-self.false
