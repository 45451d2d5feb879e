-- Where blocks live. Assumes nothing.
use Rattle.std.specs.Prelude.{◌≡◌, ℕ, ◌<◌, ◌≤◌, List, length, replicate, slice_index}

-- the number of disks, and the home of each block number in turn
pub record Layout : Type 0 where
  pub disks : ℕ
  pub homes : List ℕ

-- the home of a block
abbrev pub home : Layout → ℕ → ℕ
home l b = slice_index l.homes b

-- what every placement has: 1 to 4 disks, and a home among them for each of 64 blocks
pub record Housed (l : Layout) : Type 0 where
  pub some_disk : 1 ≤ l.disks
  pub few_disks : l.disks ≤ 4
  pub all : length l.homes ≡ 64
  pub within : (b : ℕ) → home l b < l.disks

-- every block lives on disk 0
unfoldable pub all_first : List ℕ
all_first = replicate 64 0

-- one disk, where every block lives
abbrev pub one_disk : Layout
one_disk = record { disks = 1; homes = all_first }
