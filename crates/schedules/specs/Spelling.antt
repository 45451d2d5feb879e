-- The bytes of a unit, and what every replay keeps: it gives the calls that the bytes spell, unit by unit. Assumes nothing.
use Rattle.std.specs.Prelude.{◌≡◌, ℕ, suc, ◌+◌, ◌*◌, ◌^◌, ◌<◌, ◌≤◌, true, List, [], ◌∷◌, ◌++◌, map, length, Some, None, Option, slice_index}
use Rattle.std.specs.List.{range_with_len, flat_map}
use Rattle.instances.specs.Instances.{Instance}
use Rattle.tallies.specs.declared.call.Call.{Call}
use Rattle.tallies.specs.declared.call.Order.{Order}
use Rattle.tallies.specs.declared.call.Call.TheVariants as call
use Rattle.tallies.specs.Tally.{State, Answer, told, served, stalled, finished, after, answers}
use Rattle.tallies.specs.Replies.{progress_answer}
use Rattle.schedules.specs.declared.record.UnitRecord.{UnitRecord}
use Rattle.schedules.specs.Replay.{Done, Way, goes, stops, replayed}

-- the map byte of a unit: a bit for each disk that has an order
abbrev pub marks : List (Option Order) → ℕ
marks [] = 0
marks (None ∷ os) = 2 * marks os
marks (Some o ∷ os) = 1 + 2 * marks os

-- the bytes of its orders, and the calls that they are, lowest disk first
abbrev pub pairs : List (Option Order) → List ℕ
pairs [] = []
pairs (None ∷ os) = pairs os
pairs (Some o ∷ os) = o.fetch ∷ o.evict ∷ pairs os

abbrev pub order_calls : List (Option Order) → List Call
order_calls [] = []
order_calls (None ∷ os) = order_calls os
order_calls (Some o ∷ os) = call.Order o ∷ order_calls os

-- a unit's bytes: map byte and orders; its calls: orders and unit
abbrev pub spelled : UnitRecord → List ℕ
spelled u = marks u.orders ∷ pairs u.orders

abbrev pub unit_calls : UnitRecord → List Call
unit_calls u = order_calls u.orders ++ call.Unit ∷ []

-- the answers that let a unit go by
abbrev pub passing : Answer → List Answer
passing (told o) = []
passing (served b) = served b ∷ []
passing (stalled b) = stalled b ∷ []

-- what a replay on a run in state s has done
pub record Doing (w : Instance) (s : State) (d : Done) : Type 0 where
  -- the run stands where the calls lead
  pub tallied : d.state ≡ after w s d.calls
  -- the units recorded are those that went by, as the tally answers them
  pub answered : flat_map passing (answers w s d.calls) ≡ map (λ (u : UnitRecord). progress_answer u.progress) d.units
  -- they are numbered one by one
  pub numbered : map (λ (u : UnitRecord). u.number) d.units ≡ range_with_len (suc s.elapsed) (length d.units)

-- and how far it has come: the bytes begin with those of the units that went by, and the calls with theirs
pub record Begun (bytes : List ℕ) (d : Done) : Type 0 where
  pub bytes_left : List ℕ
  pub calls_left : List Call
  pub spelled_first : bytes ≡ flat_map spelled d.units ++ bytes_left
  pub given_first : d.calls ≡ flat_map unit_calls d.units ++ calls_left

-- a replay that ends well has finished the run, and its units are all that the bytes spell
pub record Ended (w : Instance) (bytes : List ℕ) (d : Done) : Type 0 where
  pub at_finish : finished w d.state ≡ true
  pub spelled_all : bytes ≡ flat_map spelled d.units
  pub given_all : d.calls ≡ flat_map unit_calls d.units

abbrev pub Faithful : Instance → State → List ℕ → Way (Unit {0}) → Type 0
Faithful w s bytes (goes x d) = Doing w s d × Ended w bytes d
Faithful w s bytes (stops f d) = Doing w s d × Begun bytes d

-- whatever the schedule, and whatever the run's state
abbrev pub ReplaysFaithful : Type 0
ReplaysFaithful =
    (w : Instance) (s : State) (bytes : List ℕ) → w.disks ≤ 4 → ((i : ℕ) → slice_index bytes i < 2 ^ 8) → Faithful w s bytes (replayed w s bytes)
