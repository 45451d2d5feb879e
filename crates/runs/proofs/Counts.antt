-- The blocks of a cache that others join. Assumes nothing.
use Rattle.std.proofs.Common.{ℕ, ◌^◌, ◌<◌, ◌≤◌}
use lib.Bits.{bit_or, or_lt}
use lib.Count.{ones, ones-le}

pub ones_joined : (a b : ℕ) → a < 2 ^ 64 → b < 2 ^ 64 → ones (bit_or a b) ≤ 64
ones_joined a b h k = ones-le 64 _ (or_lt 64 a b h k)
