-- How a replay goes on from what the run said. Assumes nothing.
use Rattle.std.proofs.Common.{◌≡◌, ℕ, Err, Result, sym, refl, ap, ◌∙◌}
use Rattle.faults.specs.Outcomes.{Outcome, accepted}
use Rattle.faults.specs.declared.array.ArrayFault.TheVariants.{NoSuchBlock as no_block, DiskBusy}
use Rattle.faults.specs.declared.run.RunFault.{RunFault}
use Rattle.faults.specs.declared.run.RunFault.TheVariants as said
use Rattle.faults.specs.Faults.{run_fault}
use Rattle.faults.specs.declared.replay.Refused.{Refused}
use Rattle.faults.specs.declared.replay.ReplayFault.{ReplayFault}
use Rattle.faults.specs.declared.replay.ReplayFault.TheVariants as fault
use Rattle.faults.specs.Faults.{replay_fault}
use Rattle.tallies.specs.Tally.{Answer, told, served, stalled}
use Rattle.schedules.specs.Replay.{Done, goes, stops, ends, unless_refused}

-- what a run's fault says is no acceptance
refuses : {X : Type 0} (p : ℕ) (f : RunFault) (x : X) (d : Done) → unless_refused p (run_fault f) x d ≡ stops (record { place = p; said = run_fault f }) d
refuses p said.Void x d = refl
refuses p (said.Finished n) x d = refl
refuses p (said.TooLong n) x d = refl
refuses p (said.NoSuchBlock n) x d = refl
refuses p (said.Cached n) x d = refl
refuses p (said.NotCached n) x d = refl
refuses p (said.Array (no_block n)) x d = refl
refuses p (said.Array (DiskBusy n m)) x d = refl

-- a call that the run accepted goes on
pub accepted_way : {X : Type 0} (p : ℕ) (o : Outcome) (x : X) (d e : Done) → o ≡ accepted → e ≡ d → unless_refused p o x d ≡ goes x e
accepted_way p o x d e is same = ap (λ t. unless_refused p t x d) is ∙ ap (goes x) (sym same)

-- a call that the run refused stops the replay at its place
pub refused_way : {X : Type 0} (p : ℕ) (o : Outcome) (x : X) (d : Done) (z : Refused) → z.place ≡ p → o ≡ run_fault z.fault
    → unless_refused p o x d ≡ stops (replay_fault (fault.Run z)) d
refused_way p o x d z at_place is =
    ap (λ t. unless_refused p t x d) is ∙ refuses p z.fault x d ∙ ap (λ n. stops (record { place = n; said = run_fault z.fault }) d) (sym at_place)

-- a way ends as its result says
module _ {X Y : Type 0} (x : X) (r : Result Y ReplayFault) (d e : Done) where
  pub ends_in_fault : (f : ReplayFault) → r ≡ Err f → e ≡ d → stops (replay_fault f) d ≡ ends x r e
  ends_in_fault f is same = λ k. ends x (sym is k) (sym same k)

-- what an answer told
abbrev pub said_of : Answer → Outcome
said_of (told o) = o
said_of (served b) = accepted
said_of (stalled b) = accepted
