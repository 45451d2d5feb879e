use Rattle.std.proofs.Common.{◌≡◌, rules}
use Rattle.faults.specs.Faults.{setting_fault}
use Rattle.faults.specs.Outcomes.{answered}
use Rattle.settings.specs.Contents.{wanted}
use Rattle.settings.specs.Filling.{try_content}
use Rattle.settings.proofs.Limits.{each_place, fills_within}
use Rattle.settings.proofs.setting.Setting.fill.Goals as goal

pub returns-in_err-try_content-clause-limits : goal.returns-in_err-try_content-clause-limits
returns-in_err-try_content-clause-limits c =
    let is : answered setting_fault c.from_residual.result ≡ try_content (wanted c.args.new.now) = search rules in
    rw is (fills_within (wanted c.args.new.now))

pub invariant_of-self-clause-named : goal.invariant_of-self-clause-named
invariant_of-self-clause-named c =
    let w = c.in_ok-try_content.ensures.within in
    rw c.replace_requests.ensures.items (each_place _ _ w.some_block w.named)
