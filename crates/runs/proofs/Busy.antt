-- Whether one of the four disks has a fetch under way. Assumes nothing.
use Rattle.std.proofs.Common.{◌≡◌, [], ◌∷◌, length, is_some, refl, arith}
use Rattle.std.specs.List.{list_any, range_with_len}
use Rattle.arrays.specs.Disks.{Disks, holds}
use Rattle.tallies.specs.Tally.{any_busy}

pub busy_of_four : (os : Disks) → length os ≡ 4 → list_any (λ d. is_some (holds os d)) (range_with_len 0 4) ≡ any_busy os
busy_of_four (a ∷ b ∷ c ∷ d ∷ []) four = refl
busy_of_four [] four = absurd (omega (arith, four))
busy_of_four (a ∷ []) four = absurd (omega (arith, four))
busy_of_four (a ∷ b ∷ []) four = absurd (omega (arith, four))
busy_of_four (a ∷ b ∷ c ∷ []) four = absurd (omega (arith, four))
busy_of_four (a ∷ b ∷ c ∷ d ∷ e ∷ os) four = absurd (omega (arith, four))
