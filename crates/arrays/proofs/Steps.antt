-- What one unit makes of the disks. Assumes nothing.
use Rattle.std.proofs.Common.{◌≡◌, ℕ, None}
use Rattle.std.proofs.Math.ListN.{get_or-map}
use Rattle.arrays.specs.Disks.{Disks, holds, step_disk, step_disks}

-- what a unit makes of disk d
pub stepped_at : (disks : Disks) (d : ℕ) → holds (step_disks disks) d ≡ step_disk (holds disks d)
stepped_at disks d = get_or-map step_disk disks d None
