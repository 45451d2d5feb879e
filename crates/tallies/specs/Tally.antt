-- The tally of a list of calls, worked out from an instance and the disks at the start alone. Assumes nothing.
use Rattle.std.specs.Prelude.{ℕ, ◌+◌, Bool, false, cond, ◌||◌, List, [], ◌∷◌, is_some, ◌==◌, bit_or, nat_le}
use Rattle.maps.specs.Maps.{has, without}
use Rattle.faults.specs.Outcomes.{Outcome, accepted, refused, and_then}
use Rattle.arrays.specs.Disks.{Disks, begin_outcome, begin_disks, step_disks, arrivals}
use Rattle.arrays.specs.Layouts.{Layout}
use Rattle.instances.specs.Instances.{Instance, asked, last}
use Rattle.tallies.specs.declared.call.Call.{Call}
use Rattle.tallies.specs.declared.call.Order.{Order}
use Rattle.tallies.specs.declared.call.Call.TheVariants as call

-- where a run stands: void or not, the requests served, the units gone by and those of them that stalled, the orders
-- accepted, the cache as a map, and what each disk has under way
pub record State : Type 0 where
  pub void : Bool
  pub cursor : ℕ
  pub elapsed : ℕ
  pub stall : ℕ
  pub orders : ℕ
  pub cache : ℕ
  pub disks : Disks

-- the answer to a call: an order's outcome or any refusal, or the block that a unit served or stalled for
pub data Answer : Type 0 where
  told : Outcome → Answer
  served : ℕ → Answer
  stalled : ℕ → Answer

-- some disk has a fetch under way
abbrev pub any_busy : Disks → Bool
any_busy [] = false
any_busy (o ∷ os) = is_some o || any_busy os

-- a run begins with the initial cache and all counts 0; above an array with a fetch under way it is void
abbrev pub beginning : Instance → Disks → State
beginning w disks = record { void = any_busy disks; cursor = 0; elapsed = 0; stall = 0; orders = 0; cache = w.initial; disks = disks }

-- every request is served
abbrev pub finished : Instance → State → Bool
finished w s = s.cursor == last w

abbrev pub layout : Instance → Layout
layout w = record { disks = w.disks; homes = w.homes }

-- an order's own tests: void, finished, blocks that there are not, a block that is cached already, one that is not cached
abbrev pub admit : Instance → State → Order → Outcome
admit w s x =
    cond s.void (refused 4 [])
    (cond (finished w s) (refused 5 (s.elapsed ∷ []))
    (cond (nat_le w.blocks x.fetch) (refused 7 (x.fetch ∷ []))
    (cond (nat_le w.blocks x.evict) (refused 7 (x.evict ∷ []))
    (cond (has s.cache x.fetch) (refused 8 (x.fetch ∷ []))
    (cond (has s.cache x.evict) accepted (refused 9 (x.evict ∷ [])))))))

-- then the array begins the fetch or refuses
abbrev pub order_outcome : Instance → State → Order → Outcome
order_outcome w s x = and_then (admit w s x) (begin_outcome (layout w) s.disks x.fetch)

-- an accepted order takes its block out of the cache; a refused one changes nothing
abbrev pub ordered : Outcome → Instance → State → Order → State
ordered accepted w s x =
    record { void = s.void; cursor = s.cursor; elapsed = s.elapsed; stall = s.stall; orders = s.orders + 1; cache = without s.cache x.evict; disks = begin_disks (layout w) w.time s.disks x.fetch }
ordered (refused n values) w s x = s

-- a unit's own tests: void, finished, no unit left to count
abbrev pub ready : Instance → State → Outcome
ready w s =
    cond s.void (refused 4 []) (cond (finished w s) (refused 5 (s.elapsed ∷ [])) (cond (s.elapsed == 65535) (refused 6 (s.stall ∷ [])) accepted))

-- a unit serves the block asked for if it is cached as the unit begins, and stalls if not
abbrev pub unit_answer : Outcome → Instance → State → Answer
unit_answer accepted w s = cond (has s.cache (asked w s.cursor)) (served (asked w s.cursor)) (stalled (asked w s.cursor))
unit_answer (refused n values) w s = told (refused n values)

-- then the disks work for a unit, and what arrives joins the cache
abbrev pub passed : State → ℕ → ℕ → State
passed s cursor stall =
    record { void = s.void; cursor = cursor; elapsed = s.elapsed + 1; stall = stall; orders = s.orders; cache = bit_or s.cache (arrivals s.disks); disks = step_disks s.disks }

abbrev pub unit_state : Answer → State → State
unit_state (told o) s = s
unit_state (served b) s = passed s (s.cursor + 1) s.stall
unit_state (stalled b) s = passed s s.cursor (s.stall + 1)

-- the answer to a call, and the state after it
abbrev pub answer : Instance → State → Call → Answer
answer w s (call.Order x) = told (order_outcome w s x)
answer w s call.Unit = unit_answer (ready w s) w s

abbrev pub next : Instance → State → Call → State
next w s (call.Order x) = ordered (order_outcome w s x) w s x
next w s call.Unit = unit_state (unit_answer (ready w s) w s) s

-- the state after a list of calls, and their answers
abbrev pub after : Instance → State → List Call → State
after w s [] = s
after w s (c ∷ cs) = after w (next w s c) cs

abbrev pub answers : Instance → State → List Call → List Answer
answers w s [] = []
answers w s (c ∷ cs) = answer w s c ∷ answers w (next w s c) cs

-- the tally of a list of calls, given to a run that was made above these disks
abbrev pub tally : Instance → Disks → List Call → State
tally w disks calls = after w (beginning w disks) calls
