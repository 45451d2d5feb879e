-- What is seen of a run. Assumes nothing.
use Rattle.std.specs.Prelude.{◌≡◌, ◌+◌, ◌*◌, ◌≤◌, true, count_ones}
use Rattle.settings.specs.declared.setting.Setting.{Setting}
use Rattle.arrays.specs.declared.array.Array.{Ghosts as ArrayOf}
use Rattle.arrays.specs.declared.array.Placement.{Ghosts as PlacementOf}
use Rattle.instances.specs.Instances.{Instance, instance_of, last}
use Rattle.tallies.specs.Tally.{State, finished}

-- what every run keeps: no more requests are served than there are; each unit served one or stalled; and each order takes
-- a block out of the cache, where at most 64 come in with each unit
pub record Counted (w : Instance) (s : State) : Type 0 where
  pub within : s.cursor ≤ last w
  pub spent : s.elapsed ≡ s.cursor + s.stall
  pub bounded : s.orders + count_ones s.cache ≤ 64 * (s.elapsed + 1)

-- its setting and its array, the instance that they make, which does not change, and where it stands, counted as in every run
pub record Standing (X : Type 0) : Type 0 where
  pub setting : Setting
  pub array : X
  pub instance : Instance
  pub state : State
  pub counted : Counted instance state

-- what is seen of a run belongs together: the instance is that of its setting and its array, and the disks are those of its array
pub record Joined {X : Type 0} (P : PlacementOf X) (A : ArrayOf X) (v : Standing X) : Type 0 where
  pub instance : v.instance ≡ instance_of P A v.setting v.array
  pub disks : v.state.disks ≡ A.held v.array

-- time adds up: each unit served a request or stalled, and a finished run took as many as there are requests, and its stall
pub record Spent (w : Instance) (s : State) : Type 0 where
  pub adds_up : s.elapsed ≡ s.cursor + s.stall
  pub at_finish : finished w s ≡ true → s.elapsed ≡ last w + s.stall
