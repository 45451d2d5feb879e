-- What the code reads of a hand-in, as the definitions name it. Assumes nothing.
use Rattle.std.specs.Prelude.{◌≡◌, ℕ, ◌+◌, cond, List, length, drop, None, Ok, Err, Result, nat_lt, slice_index}
use Rattle.settings.specs.declared.setting.Setting.{Setting}
use Rattle.settings.specs.Contents.{content, wanted}
use Rattle.arrays.specs.declared.drive.Drive.{Drive}
use Rattle.faults.specs.declared.replay.ReplayFault.{ReplayFault}
use Rattle.faults.specs.Faults.{part_number, replay_fault, said_at, in_schedule}
use Rattle.faults.specs.declared.handin.Part.{Part}
use Rattle.handins.specs.declared.cut.PartOne.{PartOne}
use Rattle.handins.specs.declared.cut.Schedule.{Schedule}
use Rattle.handins.specs.Tests.{Tried, passes, fails}
use Rattle.handins.specs.Fields.{setting_in, time_in, schedule_start, schedule_length, schedule_end, schedule_in}

-- whether the bytes of a part reach to this place, in a hand-in of so many bytes
abbrev pub reaches : ℕ → ℕ → Part → Tried
reaches total end part = cond (nat_lt total end) (fails (said_at 11 (part_number part) total)) passes

-- part 1 as it stands in the bytes
pub record Fields (bytes : List ℕ) (p : PartOne) : Type 0 where
  pub fields : wanted p.contents ≡ setting_in bytes
  pub time : p.time ≡ time_in bytes
  pub count : length p.contents.requests.now ≡ slice_index bytes 4

-- part 2 as it stands there, and what stands behind it
pub record Cut (bytes : List ℕ) (s : Schedule) : Type 0 where
  pub start : s.start ≡ schedule_start bytes
  pub inside : s.bytes.now ≡ schedule_in bytes
  pub all : length s.bytes.now ≡ schedule_length bytes
  pub behind : s.rest.now ≡ drop (schedule_end bytes) bytes

-- what stands ready for the replay: the schedule, a filled setting and an idle drive
pub record Prepared (bytes : List ℕ) (setting : Setting) (drive : Drive) (s : Schedule) : Type 0 where
  pub cut : Cut bytes s
  pub filled : content setting ≡ setting_in bytes
  pub time : drive.time.units ≡ time_in bytes
  pub rests : drive.disk.fetch ≡ None

-- how the marking ends, by how the replay ended and where the schedule stands
abbrev pub ending_by : Result (Unit {0}) ReplayFault → Schedule → Tried
ending_by (Ok x) s = cond (nat_lt 0 (length s.rest.now)) (fails (said_at 14 3 (s.start + length s.bytes.now))) passes
ending_by (Err e) s = fails (in_schedule s.start (replay_fault e))
