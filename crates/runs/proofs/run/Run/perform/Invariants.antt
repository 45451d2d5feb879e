use Rattle.std.proofs.Common.{◌≡◌, ◌≤◌, map, length, take, vec_items, vec_len, vec_capacity}
use Rattle.tallies.specs.Tally.{after, answers}
use Rattle.tallies.specs.Replies.{reply_answer}
use Rattle.runs.proofs.run.Run.perform.Given as goal

abbrev pub invariant-loop-call : goal.invariant-loop-call
invariant-loop-call g l =
    let w = l.initial.self.instance in
    let s = l.initial.self.state in
    (vec_len l.replies ≡ l.call-index)
    × (length l.calls ≤ vec_capacity l.replies)
    × (map reply_answer (vec_items l.replies) ≡ answers w s (take l.call-index l.calls))
    × (l.self.state ≡ after w s (take l.call-index l.calls))
    × (l.self.instance ≡ w)
