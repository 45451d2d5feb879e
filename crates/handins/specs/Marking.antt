-- The report on a hand-in. Assumes nothing.
use Rattle.std.specs.Prelude.{◌≡◌, ℕ, List, [], None, vec_items}
use Rattle.arrays.specs.Disks.{Disks, alone}
use Rattle.arrays.specs.Layouts.{one_disk}
use Rattle.instances.specs.Instances.{Instance, instance}
use Rattle.tallies.specs.Laws.{Lawful}
use Rattle.tallies.specs.Tally.{State, beginning, tally}
use Rattle.schedules.specs.declared.record.UnitRecord.{UnitRecord}
use Rattle.schedules.specs.Replay.{Done, Way, goes, stops, replayed}
use Rattle.schedules.specs.Spelling.{Faithful}
use Rattle.handins.specs.declared.report.Counts.{Counts}
use Rattle.handins.specs.declared.report.Report.{Report}
use Rattle.faults.specs.Faults.{in_schedule}
use Rattle.handins.specs.Tests.{Tried, passes, fails, tried}
use Rattle.handins.specs.Fields.{setting_in, time_in, schedule_start, schedule_in, try_parts, try_rest}

-- the units that ran, the run's counts, and how the marking ended
pub record Marked : Type 0 where
  pub units : List UnitRecord
  pub counts : Counts
  pub ending : Tried

abbrev pub reported : Report → Marked
reported r = record { units = vec_items r.units; counts = r.counts; ending = tried r.ending }

abbrev pub no_counts : Counts
no_counts = record { cursor = 0; elapsed = 0; stall = 0; orders = 0 }

abbrev pub counts_of : State → Counts
counts_of s = record { cursor = s.cursor; elapsed = s.elapsed; stall = s.stall; orders = s.orders }

-- the instance of a hand-in, on one idle drive, and what its schedule makes of a run
abbrev pub instance_in : List ℕ → Instance
instance_in bytes = instance (setting_in bytes) one_disk (time_in bytes)

abbrev pub idle : Disks
idle = alone None

abbrev pub replay_in : List ℕ → Way (Unit {0})
replay_in bytes = replayed (instance_in bytes) (beginning (instance_in bytes) idle) (schedule_in bytes)

-- the report, once the replay of the schedule that starts here is over; the rest of the bytes is tried last
abbrev pub after_replay : ℕ → Tried → Way (Unit {0}) → Marked
after_replay start rest (goes x d) = record { units = d.units; counts = counts_of d.state; ending = rest }
after_replay start rest (stops f d) = record { units = d.units; counts = counts_of d.state; ending = fails (in_schedule start f) }

-- without a replay, no unit ran
abbrev pub unless_failed : Tried → Marked → Marked
unless_failed passes m = m
unless_failed (fails x) m = record { units = []; counts = no_counts; ending = fails x }

abbrev pub marked : List ℕ → Marked
marked bytes = unless_failed (try_parts bytes) (after_replay (schedule_start bytes) (try_rest bytes) (replay_in bytes))

-- what a replay has done
abbrev pub done_by : {X : Type 0} → Way X → Done
done_by (goes x d) = d
done_by (stops f d) = d

-- where a replay was made, the run is the tally of the calls that the schedule spells, and that is lawful
pub record Truly (bytes : List ℕ) : Type 0 where
  pub tallied : (done_by (replay_in bytes)).state ≡ tally (instance_in bytes) idle (done_by (replay_in bytes)).calls
  pub lawful : Lawful (instance_in bytes) idle (done_by (replay_in bytes)).calls
  pub faithful : Faithful (instance_in bytes) (beginning (instance_in bytes) idle) (schedule_in bytes) (replay_in bytes)
