-- The table of refusals: what each fault says by number and values, and where. Assumes nothing.
use Rattle.std.specs.Prelude.{ℕ, ◌+◌, cond, [], ◌∷◌, map, ◌==◌, nat_lt, slice_index}
use Rattle.faults.specs.Outcomes.{Outcome, accepted, refused}
use Rattle.faults.specs.declared.setting.Figure.{Figure}
use Rattle.faults.specs.declared.setting.Figure.TheVariants.{Blocks, Size, Requests}
use Rattle.faults.specs.declared.setting.SettingFault.{SettingFault}
use Rattle.faults.specs.declared.setting.SettingFault.TheVariants as setting
use Rattle.faults.specs.declared.array.ArrayFault.{ArrayFault}
use Rattle.faults.specs.declared.array.ArrayFault.TheVariants as array
use Rattle.faults.specs.declared.array.FillFault.{FillFault}
use Rattle.faults.specs.declared.array.FillFault.TheVariants.{Time}
use Rattle.faults.specs.declared.array.BankFault.{BankFault}
use Rattle.faults.specs.declared.array.BankFault.TheVariants as bank
use Rattle.faults.specs.declared.run.RunFault.{RunFault}
use Rattle.faults.specs.declared.run.RunFault.TheVariants as run
use Rattle.faults.specs.declared.replay.ReplayFault.{ReplayFault}
use Rattle.faults.specs.declared.replay.ReplayFault.TheVariants as replay
use Rattle.faults.specs.declared.handin.HandInFault.{HandInFault}
use Rattle.faults.specs.declared.handin.HandInFault.TheVariants as handin
use Rattle.faults.specs.declared.handin.Part.{Part}
use Rattle.faults.specs.declared.handin.Part.TheVariants as part

-- each figure's number; the fetch time's is 4
abbrev pub figure : Figure → ℕ
figure Blocks = 1
figure Size = 2
figure Requests = 3

-- filling a setting, and an array
abbrev pub setting_fault : SettingFault → Outcome
setting_fault (setting.Figure f) = refused 1 (figure f ∷ [])
setting_fault (setting.Initial n) = refused 2 (n ∷ [])
setting_fault (setting.Request c) = refused 3 (c ∷ [])

abbrev pub fill_fault : FillFault → Outcome
fill_fault Time = refused 1 (4 ∷ [])

-- filling a bank: a home's figure has the number 5
abbrev pub bank_fault : BankFault → Outcome
bank_fault bank.Time = refused 1 (4 ∷ [])
bank_fault (bank.Home b) = refused 1 (5 ∷ [])

-- beginning a fetch
abbrev pub array_fault : ArrayFault → Outcome
array_fault (array.NoSuchBlock b) = refused 7 (b ∷ [])
array_fault (array.DiskBusy d b) = refused 10 (d ∷ b ∷ [])

-- orders and units of a run
abbrev pub run_fault : RunFault → Outcome
run_fault run.Void = refused 4 []
run_fault (run.Finished elapsed) = refused 5 (elapsed ∷ [])
run_fault (run.TooLong stall) = refused 6 (stall ∷ [])
run_fault (run.NoSuchBlock b) = refused 7 (b ∷ [])
run_fault (run.Cached b) = refused 8 (b ∷ [])
run_fault (run.NotCached b) = refused 9 (b ∷ [])
run_fault (run.Array e) = array_fault e

-- a fault of a schedule: its place there, and what it says
pub record Fault : Type 0 where
  pub place : ℕ
  pub said : Outcome

-- one that tells its own place
abbrev pub fault_at : ℕ → ℕ → Fault
fault_at number place = record { place = place; said = refused number (place ∷ []) }

-- replaying a schedule
abbrev pub replay_fault : ReplayFault → Fault
replay_fault (replay.Short place) = fault_at 11 place
replay_fault (replay.Bit place) = fault_at 12 place
replay_fault (replay.LeftOver place) = fault_at 14 place
replay_fault (replay.Run r) = record { place = r.place; said = run_fault r.fault }

-- a fault of a hand-in: what it says, in which part, and at which place of the hand-in
pub record Said : Type 0 where
  pub said : Outcome
  pub part : ℕ
  pub place : ℕ

-- each part's number
abbrev pub part_number : Part → ℕ
part_number part.Setting = 1
part_number part.Schedule = 2
part_number part.Page = 3

-- a fault that tells its own place
abbrev pub said_at : ℕ → ℕ → ℕ → Said
said_at number part place = record { said = refused number (place ∷ []); part = part; place = place }

-- where the figures 1 to 4 stand: blocks, cache size, requests, fetch time
abbrev pub figure_place : ℕ → ℕ
figure_place figure = slice_index (0 ∷ 1 ∷ 2 ∷ 4 ∷ 3 ∷ []) figure

-- the place of a fault of part 1: of a figure, the initial map at 5, or request c at 12 + c
abbrev pub field_place : ℕ → ℕ → ℕ
field_place number value = cond (number == 1) (figure_place value) (cond (number == 2) 5 (12 + value))

-- what filling a setting or an array said
abbrev pub in_part_one : Outcome → Said
in_part_one accepted = record { said = accepted; part = 1; place = 0 }
in_part_one (refused n values) = record { said = refused n values; part = 1; place = field_place n (slice_index values 0) }

-- what the replay said of the schedule that starts here: its places count from the schedule's first byte, and 11 to 14 return one
abbrev pub moved : ℕ → Outcome → Outcome
moved start accepted = accepted
moved start (refused n values) = refused n (cond (nat_lt 10 n) (map (λ p. start + p) values) values)

abbrev pub in_schedule : ℕ → Fault → Said
in_schedule start f = record { said = moved start f.said; part = 2; place = start + f.place }

-- marking a hand-in
abbrev pub hand_in_fault : HandInFault → Said
hand_in_fault handin.TooLong = said_at 14 1 65000
hand_in_fault (handin.Short p place) = said_at 11 (part_number p) place
hand_in_fault handin.MapByte = said_at 12 1 0
hand_in_fault (handin.Setting e) = in_part_one (setting_fault e)
hand_in_fault (handin.Array e) = in_part_one (fill_fault e)
hand_in_fault (handin.Schedule e) = in_schedule e.start (replay_fault e.fault)
hand_in_fault (handin.LeftOver place) = said_at 14 3 place
