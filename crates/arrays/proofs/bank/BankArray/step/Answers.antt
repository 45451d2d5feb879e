use Rattle.arrays.specs.Disks.{holds}
use Rattle.arrays.specs.Tables.{contents}
use Rattle.arrays.proofs.Steps.{stepped_at}
use Rattle.arrays.proofs.Tables.{step_within, step_idle}
use Rattle.arrays.proofs.bank.BankArray.step.Goals as goal

pub invariant_of-self-clause-within : goal.invariant_of-self-clause-within
invariant_of-self-clause-within c =
    let x = c.args.self.now in
    let os = contents x.table.disks in
    λ d. rw (c.step.ensures.disks, stepped_at os d) (step_within (holds os d) x.time.units x.time.lasting (x.within d))

pub invariant_of-self-clause-beyond : goal.invariant_of-self-clause-beyond
invariant_of-self-clause-beyond c =
    let x = c.args.self.now in
    let os = contents x.table.disks in
    λ d h. rw (c.step.ensures.disks, stepped_at os d) (step_idle (holds os d) (x.beyond d h))
