use lib.Count.{ones-ones}
use Rattle.settings.proofs.setting.Setting.new.Goals as goal

pub invariant_of-result-clause-full : goal.invariant_of-result-clause-full
invariant_of-result-clause-full c = ones-ones 1
