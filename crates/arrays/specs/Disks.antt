-- What the disks of an array have under way, and what begin and step make of it. Assumes nothing.
use Rattle.std.specs.Prelude.{◌≡◌, ℕ, ◌-◌, ◌^◌, ◌<◌, ◌≤◌, cond, ◌||◌, List, [], ◌∷◌, map, length, Some, None, Option, ◌==◌, bit_or, nat_lt, slice_index_or, slice_set}
use Rattle.faults.specs.Outcomes.{Outcome, accepted, refused}
use Rattle.arrays.specs.declared.fetch.Fetch.{Fetch}
use Rattle.arrays.specs.Layouts.{Layout, home}

-- for each of four disks in turn the fetch under way, or none
abbrev pub Disks : Type 0
Disks = List (Option Fetch)

-- what disk d has under way
abbrev pub holds : Disks → ℕ → Option Fetch
holds disks d = slice_index_or disks d None

-- a disk with fetch time F is idle, or fetches a block below 64 with 1 to F units left
abbrev pub Fetching : ℕ → Option Fetch → Type 0
Fetching time None = Unit {0}
Fetching time (Some f) = (f.block < 64) × (1 ≤ f.left) × (f.left ≤ time)

-- what every array has: a fetch time of 1 to 64, and four disks, of which those that there are not stay idle
pub record Working (count time : ℕ) (disks : Disks) : Type 0 where
  pub lasting : 1 ≤ time
  pub brief : time ≤ 64
  pub four : length disks ≡ 4
  pub fetching : (d : ℕ) → Fetching time (holds disks d)
  pub beyond : (d : ℕ) → count ≤ d → holds disks d ≡ None

-- a fetch begins on disk d unless that has one under way
abbrev pub idle_outcome : ℕ → Option Fetch → Outcome
idle_outcome d None = accepted
idle_outcome d (Some f) = refused 10 (d ∷ f.block ∷ [])

-- begin of block b on disk d, which has a fetch under way or none: a block above 63 is refused, then a busy disk
abbrev pub disk_outcome : ℕ → ℕ → Option Fetch → Outcome
disk_outcome d b o = cond (nat_lt 63 b) (refused 7 (b ∷ [])) (idle_outcome d o)

-- begin: the disk is the block's home
abbrev pub begin_outcome : Layout → Disks → ℕ → Outcome
begin_outcome l disks b = disk_outcome (home l b) b (holds disks (home l b))

-- an accepted begin of block b on disk d changes that disk alone, and a refused one none
abbrev pub begun : Outcome → ℕ → ℕ → ℕ → Disks → Disks
begun accepted time d b disks = slice_set disks d (Some (record { block = b; left = time }))
begun (refused n values) time d b disks = disks

abbrev pub begin_disks : Layout → ℕ → Disks → ℕ → Disks
begin_disks l time disks b = begun (begin_outcome l disks b) time (home l b) b disks

-- a disk after one unit: a fetch in its last unit ends
abbrev pub step_disk : Option Fetch → Option Fetch
step_disk None = None
step_disk (Some f) = cond (f.left == 1) None (Some (record { block = f.block; left = f.left - 1 }))

-- the map of the block that a disk delivers in that unit
abbrev pub delivered : Option Fetch → ℕ
delivered None = 0
delivered (Some f) = cond (f.left == 1) (2 ^ f.block) 0

-- step: all disks after one unit, and the map of the blocks that they deliver
abbrev pub step_disks : Disks → Disks
step_disks disks = map step_disk disks

abbrev pub arrivals : Disks → ℕ
arrivals [] = 0
arrivals (o ∷ os) = bit_or (delivered o) (arrivals os)

-- filling: the fetch time is 1 to 64
abbrev pub try_time : ℕ → Outcome
try_time time = cond (nat_lt time 1 || nat_lt 64 time) (refused 1 (4 ∷ [])) accepted

-- the disks of an array that has but one
abbrev pub alone : Option Fetch → Disks
alone o = o ∷ None ∷ None ∷ None ∷ []

-- no disk has anything under way
abbrev pub idle : Disks
idle = alone None
