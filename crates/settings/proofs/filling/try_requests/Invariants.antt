use Rattle.std.proofs.Common.{◌≡◌, ◌+◌, drop}
use Rattle.settings.specs.Filling.{try_requests}
use Rattle.settings.proofs.filling.try_requests.Given as goal

abbrev pub invariant-loop-i : goal.invariant-loop-i
invariant-loop-i l = try_requests l.blocks (l.i + 1) (drop l.i l.requests) ≡ try_requests l.blocks 1 l.requests
