-- Where the fields of a hand-in stand, and the tests that they pass. Assumes nothing.
use Rattle.std.specs.Prelude.{ℕ, ◌+◌, cond, List, length, take, drop, ◌==◌, nat_lt, slice_index}
use Rattle.std.specs.Int.Digits.{number_from_digits}
use Rattle.settings.specs.Contents.{Content}
use Rattle.settings.specs.Filling.{try_figures, try_content}
use Rattle.arrays.specs.Disks.{try_time}
use Rattle.faults.specs.Faults.{said_at}
use Rattle.handins.specs.Tests.{Tried, passes, fails, and_then, filled}

module _ (bytes : List ℕ) where
  -- blocks at 1, cache size at 2, fetch time at 3, the number of requests at 4, the initial map at 5 to 12, then the requests
  abbrev pub setting_in : Content
  setting_in = record {
    blocks = slice_index bytes 1;
    size = slice_index bytes 2;
    initial = number_from_digits 256 (take 8 (drop 5 bytes));
    requests = take (slice_index bytes 4) (drop 13 bytes);
  }

  abbrev pub time_in : ℕ
  time_in = slice_index bytes 3

  -- the schedule stands behind its 2-byte length, which comes behind the last request
  abbrev pub requests_end : ℕ
  requests_end = 13 + slice_index bytes 4

  abbrev pub schedule_start : ℕ
  schedule_start = requests_end + 2

  abbrev pub schedule_length : ℕ
  schedule_length = number_from_digits 256 (take 2 (drop requests_end bytes))

  abbrev pub schedule_end : ℕ
  schedule_end = schedule_start + schedule_length

  abbrev pub schedule_in : List ℕ
  schedule_in = take schedule_length (drop schedule_start bytes)

  -- at most 65,000 bytes; then a map byte, with no bit in it
  abbrev pub try_size : Tried
  try_size = cond (nat_lt 65000 (length bytes)) (fails (said_at 14 1 65000)) passes

  abbrev pub try_map_byte : Tried
  try_map_byte = cond (length bytes == 0) (fails (said_at 11 1 0)) (cond (slice_index bytes 0 == 0) passes (fails (said_at 12 1 0)))

  -- part 1 up to its last request
  abbrev pub try_whole : Tried
  try_whole = cond (nat_lt (length bytes) requests_end) (fails (said_at 11 1 (length bytes))) passes

  -- its figures, blocks, cache size, requests, fetch time; then the initial map and the requests
  abbrev pub try_fields : Tried
  try_fields =
      and_then (filled (try_figures (slice_index bytes 1) (slice_index bytes 2) (slice_index bytes 4))) (and_then (filled (try_time time_in)) (filled (try_content setting_in)))

  -- part 2 up to its last byte, and nothing behind it
  abbrev pub try_schedule : Tried
  try_schedule = cond (nat_lt (length bytes) schedule_end) (fails (said_at 11 2 (length bytes))) passes

  abbrev pub try_rest : Tried
  try_rest = cond (nat_lt schedule_end (length bytes)) (fails (said_at 14 3 schedule_end)) passes

  -- all that comes before the replay
  abbrev pub try_parts : Tried
  try_parts = and_then try_size (and_then try_map_byte (and_then try_whole (and_then try_fields try_schedule)))
