-- A hand-in whose parts pass is marked truly. Assumes nothing.
use Rattle.std.proofs.Common.{◌≡◌, ℕ, ◌+◌, ◌^◌, ◌<◌, ◌≤◌, List, get_or, take, drop, refl, arith}
use Rattle.std.proofs.lemmas.List.{get_or-take, get_or-drop, get_or_past, length-take}
use Rattle.std.proofs.lemmas.Bool.Decides.{nat_tests}
use Rattle.faults.specs.Outcomes.{Outcome, accepted, refused}
use Rattle.settings.proofs.Limits.{within}
use Rattle.arrays.specs.Disks.{try_time}
use Rattle.arrays.specs.Layouts.{one_disk}
use Rattle.arrays.specs.Homes.{one_housed}
use Rattle.instances.specs.Instances.{Sound}
use Rattle.instances.proofs.Soundness.{sound_within}
use Rattle.tallies.specs.Tally.{beginning, after}
use Rattle.tallies.proofs.Lawfulness.{tallies_lawful}
use Rattle.schedules.specs.Replay.{Way, goes, stops}
use Rattle.schedules.specs.Spelling.{Faithful}
use Rattle.schedules.proofs.Spellings.{faithful}
use Rattle.handins.specs.Tests.{Tried, passes, fails, and_then, filled}
use Rattle.handins.specs.Fields.{setting_in, time_in, schedule_in, schedule_length, schedule_start, try_size, try_map_byte, try_whole, try_fields, try_parts}
use Rattle.handins.specs.Marking.{Truly, done_by, idle, instance_in, replay_in}

both : (a b : Tried) → and_then a b ≡ passes → (a ≡ passes) × (b ≡ passes)
both passes b e = (refl, e)
both (fails x) b e = cc

filled_accepted : (o : Outcome) → filled o ≡ passes → o ≡ accepted
filled_accepted accepted e = refl
filled_accepted (refused n values) e = cc

time_within : (time : ℕ) → try_time time ≡ accepted → (1 ≤ time) × (time ≤ 64)
time_within time e = grind (arith, nat_tests)

sound_in : (bytes : List ℕ) → try_parts bytes ≡ passes → Sound (instance_in bytes)
sound_in bytes e =
    let (size, past-size) = both (try_size bytes) _ e in
    let (front, past-front) = both (try_map_byte bytes) _ past-size in
    let (whole, past-whole) = both (try_whole bytes) _ past-front in
    let (fields, past-fields) = both (try_fields bytes) _ past-whole in
    let (figures, past-figures) = both _ _ fields in
    let (time, content) = both (filled (try_time (time_in bytes))) _ past-figures in
    let (lasting, brief) = time_within (time_in bytes) (filled_accepted _ time) in
    sound_within (setting_in bytes) one_disk (time_in bytes) (within (setting_in bytes) (filled_accepted _ content)) one_housed lasting brief

-- what was done is the tally of the calls
done_tallied : (bytes : List ℕ) (way : Way (Unit {0})) → Faithful (instance_in bytes) (beginning (instance_in bytes) idle) (schedule_in bytes) way
    → (done_by way).state ≡ after (instance_in bytes) (beginning (instance_in bytes) idle) (done_by way).calls
done_tallied bytes (goes x d) h = h.0.tallied
done_tallied bytes (stops f d) h = h.0.tallied

-- a part of bytes has bytes
part_bytes : (bytes : List ℕ) (n k : ℕ) → ((i : ℕ) → get_or bytes i 0 < 2 ^ 8) → (i : ℕ) → get_or (take n (drop k bytes)) i 0 < 2 ^ 8
part_bytes bytes n k byte i = let e = get_or-drop k bytes i 0 in let b = byte (k + i) in grind (arith, nat_tests, get_or-take, get_or_past, length-take)

pub truly : (bytes : List ℕ) → ((i : ℕ) → get_or bytes i 0 < 2 ^ 8) → try_parts bytes ≡ passes → Truly bytes
truly bytes byte e =
    let sound = sound_in bytes e in
    let spelt = faithful (instance_in bytes) (beginning (instance_in bytes) idle) (schedule_in bytes) sound.few_disks (part_bytes bytes (schedule_length bytes) (schedule_start bytes) byte) in
    record { tallied = done_tallied bytes (replay_in bytes) spelt; lawful = tallies_lawful (instance_in bytes) idle _ sound refl; faithful = spelt }
