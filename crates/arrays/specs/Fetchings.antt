-- What the disks of a table fetch: the lemma that a law of the bank names. Assumes nothing.
use Rattle.std.specs.Prelude.{ℕ, zero, suc, ◌<◌, ◌≤◌, List, [], ◌∷◌, Some, None, Option}
use Rattle.arrays.specs.declared.disk.Disk.{Disk}
use Rattle.arrays.specs.declared.fetch.Fetch.{Fetch}
use Rattle.arrays.specs.Disks.{Fetching, holds}
use Rattle.arrays.specs.Records.{block_of, left_of}
use Rattle.arrays.specs.Tables.{contents}

fetching : (time : ℕ) (o : Option Fetch) → block_of o < 64 → 1 ≤ left_of o → left_of o ≤ time → Fetching time o
fetching time None known under within = tt
fetching time (Some f) known under within = (known, under, within)

-- each disk of a table is idle, or fetches a block that there is with a unit left at least
pub fetching_each : (time : ℕ) (ds : List Disk) → ((d : ℕ) → left_of (holds (contents ds) d) ≤ time) → (d : ℕ) → Fetching time (holds (contents ds) d)
fetching_each time [] within d = tt
fetching_each time (x ∷ ds) within zero = fetching time x.fetch x.known x.under (within 0)
fetching_each time (x ∷ ds) within (suc d) = fetching_each time ds (λ k. within (suc k)) d
