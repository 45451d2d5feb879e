-- What a schedule makes of a run. Assumes nothing.
use Rattle.std.specs.Prelude.{ℕ, zero, suc, ◌+◌, Bool, cond, not, ◌&&◌, ◌||◌, List, [], ◌∷◌, ◌++◌, length, Some, None, Ok, Err, Option, Result, ◌==◌, nat_le, nat_lt, slice_index, slice_index_or, slice_set}
use Rattle.maps.specs.Maps.{has}
use Rattle.faults.specs.Outcomes.{Outcome, accepted, refused}
use Rattle.instances.specs.Instances.{Instance, home}
use Rattle.tallies.specs.declared.call.Call.{Call}
use Rattle.tallies.specs.declared.call.Order.{Order}
use Rattle.tallies.specs.declared.call.Call.TheVariants as call
use Rattle.tallies.specs.Tally.{State, Answer, told, served, stalled, finished, order_outcome, answer, next}
use Rattle.tallies.specs.declared.reply.Progress.TheVariants as progress
use Rattle.schedules.specs.declared.record.UnitRecord.{UnitRecord}
use Rattle.faults.specs.declared.replay.ReplayFault.{ReplayFault}
use Rattle.faults.specs.Faults.{Fault, fault_at, replay_fault}

-- what a replay has done: where the run stands, the calls given to it, refused ones included, and the units that went by
pub record Done : Type 0 where
  pub state : State
  pub calls : List Call
  pub units : List UnitRecord

-- a replay goes on from what it has read, or stops at a fault
pub data Way (X : Type 0) : Type 0 where
  goes : X → Done → Way X
  stops : Fault → Done → Way X

abbrev pub and_then : {X Y : Type 0} → Way X → (X → Done → Way Y) → Way Y
and_then (goes x d) next_part = next_part x d
and_then (stops f d) next_part = stops f d

-- it stops at place p if the run refuses
abbrev pub unless_refused : {X : Type 0} → ℕ → Outcome → X → Done → Way X
unless_refused p accepted x d = goes x d
unless_refused p (refused n values) x d = stops (record { place = p; said = refused n values }) d

-- one call more
abbrev pub called : Instance → Call → Done → Done
called w c d = record { state = next w d.state c; calls = d.calls ++ c ∷ []; units = d.units }

-- what is read of a unit: the place of the next byte, and the orders so far, each in the place of its disk
pub record Read : Type 0 where
  pub place : ℕ
  pub orders : List (Option Order)

abbrev pub no_orders : List (Option Order)
no_orders = None ∷ None ∷ None ∷ None ∷ []

-- a bit that is not allowed: of a disk that there is not, or that is not the home of a block to fetch
abbrev pub barred : Instance → ℕ → ℕ → Bool
barred w disk fetch = nat_le w.disks disk || (nat_lt fetch w.blocks && not (home w fetch == disk))

-- the unit itself, by its answer: one that goes by leaves its record
abbrev pub closed : ℕ → Read → Answer → Done → Way ℕ
closed p t (told o) d = unless_refused p o t.place d
closed p t (served b) d =
    goes t.place (record { state = d.state; calls = d.calls; units = d.units ++ record { number = d.state.elapsed; progress = progress.Served b; orders = t.orders } ∷ [] })
closed p t (stalled b) d =
    goes t.place (record { state = d.state; calls = d.calls; units = d.units ++ record { number = d.state.elapsed; progress = progress.Stalled b; orders = t.orders } ∷ [] })

module _ (w : Instance) (bytes : List ℕ) where
  -- the order of a disk: its two bytes are read, its bit is tried, and the order is given
  abbrev pub give_order : ℕ → ℕ → Read → Done → Way Read
  give_order p disk t d =
      let x : Order = record { fetch = slice_index_or bytes t.place 0; evict = slice_index_or bytes (t.place + 1) 0 } in
      cond (nat_lt (length bytes) (t.place + 2)) (stops (fault_at 11 (length bytes)) d)
      (cond (barred w disk x.fetch) (stops (fault_at 12 p) d)
      (unless_refused p (order_outcome w d.state x)
      (record { place = t.place + 2; orders = slice_set t.orders disk (Some x) }) (called w (call.Order x) d)))

  -- the order of a disk, if its bit stands in the map byte at place p
  abbrev pub give_standing : ℕ → ℕ → ℕ → Read → Done → Way Read
  give_standing map p disk t d = cond (has map disk) (give_order p disk t d) (goes t d)

  -- the orders of the disks from `disk` on, lowest first, when so many bits are left
  unfoldable pub give_orders : ℕ → ℕ → ℕ → ℕ → Read → Done → Way Read
  give_orders zero map p disk t d = goes t d
  give_orders (suc left) map p disk t d = and_then (give_standing map p disk t d) (give_orders left map p (suc disk))

  -- a unit whose map byte stands at place p
  abbrev pub replay_unit : ℕ → Done → Way ℕ
  replay_unit p d =
      cond (nat_lt p (length bytes))
      (and_then (give_orders 8 (slice_index bytes p) p 0 (record { place = p + 1; orders = no_orders }) d)
      (λ t e. closed p t (answer w e.state call.Unit) (called w call.Unit e)))
      (stops (fault_at 11 p) d)

  -- units until the run is finished; then no byte may be left. Each takes a byte, so a few turns more than there are bytes will do
  unfoldable pub replay_units : ℕ → ℕ → Done → Way (Unit {0})
  replay_units zero p d = goes tt d
  replay_units (suc turns) p d =
      cond (finished w d.state) (cond (nat_lt p (length bytes)) (stops (fault_at 14 p) d) (goes tt d)) (and_then (replay_unit p d) (replay_units turns))

-- the replay of a whole schedule, on a run in state s
abbrev pub replayed : Instance → State → List ℕ → Way (Unit {0})
replayed w s bytes = replay_units w bytes (suc (length bytes)) 0 (record { state = s; calls = []; units = [] })

-- the way that an answer tells: it went on to x, or stopped at its fault
abbrev pub ends : {X Y : Type 0} → X → Result Y ReplayFault → Done → Way X
ends x (Ok y) d = goes x d
ends x (Err e) d = stops (replay_fault e) d

abbrev pub way_of : {X : Type 0} → Result X ReplayFault → Done → Way X
way_of (Ok x) d = goes x d
way_of (Err e) d = stops (replay_fault e) d
