-- The record that an array keeps of one disk. Assumes nothing.
use Rattle.std.specs.Prelude.{ℕ, Some, None, Option}
use Rattle.arrays.specs.declared.fetch.Fetch.{Fetch}

-- the block that a disk fetches, 0 where it is idle, and the units left, 1 where it is idle
abbrev pub block_of : Option Fetch → ℕ
block_of None = 0
block_of (Some f) = f.block

abbrev pub left_of : Option Fetch → ℕ
left_of None = 1
left_of (Some f) = f.left
