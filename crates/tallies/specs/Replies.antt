-- What the replies of a run say, as the tally has it. Assumes nothing.
use Rattle.std.specs.Prelude.{Ok, Err, Result}
use Rattle.faults.specs.declared.run.RunFault.{RunFault}
use Rattle.faults.specs.Faults.{run_fault}
use Rattle.faults.specs.Outcomes.{accepted}
use Rattle.tallies.specs.declared.reply.Progress.{Progress}
use Rattle.tallies.specs.declared.reply.Progress.TheVariants as progress
use Rattle.tallies.specs.declared.reply.Reply.{Reply}
use Rattle.tallies.specs.declared.reply.Reply.TheVariants as reply
use Rattle.tallies.specs.Tally.{Answer, told, served, stalled}

abbrev pub progress_answer : Progress → Answer
progress_answer (progress.Served b) = served b
progress_answer (progress.Stalled b) = stalled b

abbrev pub unit_told : Result Progress RunFault → Answer
unit_told (Ok p) = progress_answer p
unit_told (Err e) = told (run_fault e)

abbrev pub reply_answer : Result Reply RunFault → Answer
reply_answer (Ok reply.Accepted) = told accepted
reply_answer (Ok (reply.Passed p)) = progress_answer p
reply_answer (Err e) = told (run_fault e)
