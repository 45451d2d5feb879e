-- What the code holds while it replays, as the replay's definitions name it. Assumes nothing.
use Rattle.std.specs.Prelude.{◌≡◌, ℕ, ◌+◌, ◌<◌, ◌≤◌, List, length, Some, Ok, Err, vec_items, Result, slice_set}
use Rattle.instances.specs.Instances.{Instance}
use Rattle.tallies.specs.declared.call.Call.TheVariants.{Order as order_call}
use Rattle.tallies.specs.declared.call.Order.{Order}
use Rattle.tallies.specs.Tally.{order_outcome}
use Rattle.faults.specs.declared.replay.Refused.{Refused}
use Rattle.faults.specs.declared.replay.ReplayFault.{ReplayFault}
use Rattle.faults.specs.declared.replay.ReplayFault.TheVariants as fault
use Rattle.runs.specs.Standing.{Standing}
use Rattle.replays.specs.declared.log.Replay.{Replay}
use Rattle.faults.specs.Faults.{replay_fault}
use Rattle.schedules.specs.Replay.{Done, Read, stops, unless_refused, called, give_order}

abbrev pub done : {X : Type 0} → Standing X → Replay → Done
done v r = record { state = v.state; calls = vec_items r.calls; units = vec_items r.units }

abbrev pub read : Replay → Read
read r = record { place = r.place; orders = r.orders }

-- the same unit of the same schedule is read, perhaps further
pub record SameUnit (r s : Replay) : Type 0 where
  pub bytes : s.bytes.now ≡ r.bytes.now
  pub start : s.start ≡ r.start
  pub onward : r.place ≤ s.place

-- a disk's order is read and may be given, or the replay stops before it is
abbrev pub Orders : Instance → List ℕ → ℕ → ℕ → Read → Result Order ReplayFault → Type 0
Orders w bytes p disk t (Ok o) =
    (t.place + 2 ≤ length bytes) × (disk < w.disks)
    × ((d : Done) → give_order w bytes p disk t d ≡ unless_refused p (order_outcome w d.state o)
    (record { place = t.place + 2; orders = slice_set t.orders disk (Some o) }) (called w (order_call o) d))
Orders w bytes p disk t (Err e) = (d : Done) → give_order w bytes p disk t d ≡ stops (replay_fault e) d

-- what the run said, as the replay says it
abbrev pub by_run : {X : Type 0} → Result X Refused → Result X ReplayFault
by_run (Ok x) = Ok x
by_run (Err e) = Err (fault.Run e)
