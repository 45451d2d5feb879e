use Rattle.std.proofs.Common.{sym, ◌∙◌}
use lib.Bits.{or_zero_r}
use Rattle.arrays.proofs.drive.DriveArray.step.Goals as goal

pub returns-clause-answers : goal.returns-clause-answers
returns-clause-answers c = c.tick.ensures.answers ∙ sym (or_zero_r _)
