-- A map is a set of blocks or of disks, written as a number: bit b, bit 0 lowest, says whether b is in it. Assumes nothing.
use Rattle.std.specs.Prelude.{ℕ, ◌/◌, ◌%◌, ◌^◌, Bool, cond, ◌==◌, bit_or, bit_xor}
use Rattle.maps.specs.Sums.{below}

-- whether b is in the map
unfoldable pub has : ℕ → ℕ → Bool
has map b = map / 2 ^ b % 2 == 1

-- the map with b put in
unfoldable pub with : ℕ → ℕ → ℕ
with map b = bit_or map (2 ^ b)

-- the map with b taken out
unfoldable pub without : ℕ → ℕ → ℕ
without map b = cond (has map b) (bit_xor map (2 ^ b)) map

-- the sum of f b over each b below m that is in the map
unfoldable pub total : ℕ → ℕ → (ℕ → ℕ) → ℕ
total m map f = below m (λ b. cond (has map b) (f b) 0)
