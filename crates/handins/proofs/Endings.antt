-- The end of a hand-in whose parts are read. Assumes nothing.
use Rattle.std.proofs.Common.{◌≡◌, ℕ, ◌+◌, ◌-◌, Bool, true, false, cond, ltb, List, length, Ok, sym, refl, ap, ◌∙◌, arith}
use Rattle.std.proofs.lemmas.List.{length-drop}
use Rattle.std.proofs.lemmas.Bool.{lt-ltb, le-ltb, ltb-true, ltb-false}
use Rattle.settings.specs.declared.setting.Setting.{Setting}
use Rattle.settings.specs.Contents.{content}
use Rattle.arrays.specs.declared.drive.Drive.{Drive}
use Rattle.arrays.specs.Disks.{alone}
use Rattle.arrays.specs.Layouts.{one_disk}
use Rattle.instances.specs.Instances.{instance}
use Rattle.tallies.specs.Tally.{beginning}
use Rattle.schedules.specs.Replay.{replayed}
use Rattle.faults.specs.Faults.{said_at}
use Rattle.handins.specs.declared.cut.Schedule.{Schedule}
use Rattle.handins.specs.Tests.{passes, fails}
use Rattle.handins.specs.Fields.{schedule_start, schedule_end, try_rest, try_parts}
use Rattle.handins.specs.Marking.{after_replay, replay_in, marked, unless_failed}
use Rattle.handins.specs.Reading.{Prepared, ending_by}

-- some bytes are left behind place e of n exactly where e is below n
some_left : (e n : ℕ) → ltb 0 (n - e) ≡ ltb e n
some_left e n = go (ltb e n) refl
  where
    go : (b : Bool) → ltb e n ≡ b → ltb 0 (n - e) ≡ b
    go true is = lt-ltb 0 (n - e) (let h = ltb-true e n is in omega arith)
    go false is = le-ltb 0 (n - e) (let h = ltb-false e n is in omega arith)

module _ (bytes : List ℕ) (setting : Setting) (drive : Drive) (s : Schedule) (ready : Prepared bytes setting drive s) where
  rest_way : ending_by (Ok tt) s ≡ try_rest bytes
  rest_way =
      let left = ap length ready.cut.behind ∙ length-drop (schedule_end bytes) bytes in
      let end : s.start + length s.bytes.now ≡ schedule_end bytes = omega (arith, ready.cut.start, ready.cut.all) in
      ap (λ n. cond (ltb 0 n) (fails (said_at 14 3 (s.start + length s.bytes.now))) passes) left
      ∙ (λ k. cond (some_left (schedule_end bytes) (length bytes) k) (fails (said_at 14 3 (end k))) passes)

  -- what is made of them is what is made of the bytes
  pub ready_way : try_parts bytes ≡ passes
      → after_replay s.start (ending_by (Ok tt) s) (replayed (instance (content setting) one_disk drive.time.units) (beginning (instance (content setting) one_disk drive.time.units) (alone drive.disk.fetch)) s.bytes.now)
      ≡ marked bytes
  ready_way passed =
      (λ k. after_replay (ready.cut.start k) (rest_way k) (replayed (instance (ready.filled k) one_disk (ready.time k)) (beginning (instance (ready.filled k) one_disk (ready.time k)) (alone (ready.rests k))) (ready.cut.inside k)))
      ∙ ap (λ t. unless_failed t (after_replay (schedule_start bytes) (try_rest bytes) (replay_in bytes))) (sym passed)
