use Rattle.std.proofs.Common.{◌≡◌, Ok, Err, sym, refl, ap, ◌∙◌, rules}
use Rattle.std.proofs.lemmas.Result.{err_from_is_err_and}
use Rattle.faults.specs.Faults.{run_fault}
use Rattle.faults.specs.Outcomes.{answered}
use Rattle.faults.specs.declared.replay.ReplayFault.TheVariants.{Run}
use Rattle.replays.specs.Turns.{done}
use Rattle.replays.proofs.Following.{ends_in_fault, accepted_way, refused_way, said_of}
use Rattle.replays.proofs.log.Replay.give_order.Goals as goal

pub returns-in_err-order-clause-follows : goal.returns-in_err-order-clause-follows
returns-in_err-order-clause-follows g c =
    let p = err_from_is_err_and c.from_residual.result c.from_residual.ensures.1 in
    let d = done c.args.run.now c.args.self.now in
    c.in_err-order.ensures.read d ∙ ends_in_fault _ _ d d c.in_err-order.field-0.0 (p.1 ∙ ap Err p.2) refl

pub returns-in_err-map_err-clause-follows : goal.returns-in_err-map_err-clause-follows
returns-in_err-map_err-clause-follows g c =
    let p = err_from_is_err_and c.from_residual-in_err-map_err.result c.from_residual-in_err-map_err.ensures.1 in
    let d = done c.args.run.now c.args.self.now in
    let z = c.in_err-map_err.field-0.0 in
    let said : c.order.result ≡ Err z.fault = search rules in
    let place : z.place ≡ c.args.self.now.start = search rules in
    let answers = sym (ap said_of c.order.ensures.answers) ∙ ap (answered run_fault) said in
    c.in_ok-order.ensures.read.2 d ∙ refused_way _ _ _ _ z place answers ∙ ends_in_fault _ _ _ _ (Run z) (p.1 ∙ ap Err p.2) (search rules)

pub returns-clause-follows : goal.returns-clause-follows
returns-clause-follows g c =
    let d = done c.args.run.now c.args.self.now in
    let said : c.order.result ≡ Ok tt = search rules in
    let answers = sym (ap said_of c.order.ensures.answers) ∙ ap (answered run_fault) said in
    c.in_ok-order.ensures.read.2 d ∙ accepted_way _ _ _ _ _ answers (search rules)
