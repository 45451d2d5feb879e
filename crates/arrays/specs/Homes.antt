-- The layout of one disk. Assumes nothing.
use Rattle.std.specs.Prelude.{◌≡◌, ℕ, zero, suc, replicate, slice_index, refl}
use Rattle.std.proofs.Common.{arith}
use Rattle.std.proofs.lemmas.List.{length-replicate}
use Rattle.arrays.specs.Layouts.{Housed, home, all_first, one_disk}

get_or_zeros : (n b : ℕ) → ◌≡◌ {A = ℕ} (slice_index (replicate n 0) b) 0
get_or_zeros zero b = refl
get_or_zeros (suc n) zero = refl
get_or_zeros (suc n) (suc b) = get_or_zeros n b

pub first_home : (b : ℕ) → home one_disk b ≡ 0
unfolding all_first
first_home b = get_or_zeros 64 b

pub one_housed : Housed one_disk
unfolding all_first
one_housed = record {
  some_disk = omega arith;
  few_disks = omega arith;
  all = length-replicate {A = ℕ} 64 0;
  within = λ b. omega (arith, first_home b);
}
