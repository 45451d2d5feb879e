use Rattle.std.proofs.Common.{◌+◌, arith}
use Rattle.std.proofs.lemmas.List.{at_drop_more, at_drop_all}
use Rattle.std.proofs.lemmas.Bool.Decides.{nat_tests}
use Rattle.settings.specs.Filling.{try_requests}
use Rattle.settings.proofs.filling.try_requests.Goals as goal

pub returns-then-block-blocks : goal.returns-then-block-blocks
returns-then-block-blocks c =
    let here = at_drop_more (try_requests c.args.blocks (c.loop-i.i + 1)) c.args.requests.now c.loop-i.i 0 (omega arith) in
    grind (arith, nat_tests)

pub loop-i-preserved : goal.loop-i-preserved
loop-i-preserved c =
    let here = at_drop_more (try_requests c.args.blocks (c.loop-i.i + 1)) c.args.requests.now c.loop-i.i 0 (omega arith) in
    grind (arith, nat_tests)

pub returns : goal.returns
returns c =
    let here = at_drop_all (try_requests c.args.blocks (c.loop-i.i + 1)) c.args.requests.now c.loop-i.i (omega arith) in
    cc
