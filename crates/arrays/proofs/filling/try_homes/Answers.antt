use Rattle.std.proofs.Common.{◌≡◌, ltb, sym, ap, ◌∙◌, zero-add, rules, tests}
use Rattle.std.specs.List.{position}
use Rattle.std.proofs.lemmas.Iterator.{YieldsList-from_slice}
use Rattle.std.proofs.lemmas.Iterator.Search.{position_from_yields_List}
use Rattle.arrays.proofs.Spreads.{by_place, homes_by_place}
use Rattle.arrays.proofs.filling.try_homes.Goals as goal

pub returns-in-Some : goal.returns-in-Some
returns-in-Some c =
    let hs = c.args.homes.now in
    let first : c.position.result ≡ position (ltb 3) hs = position_from_yields_List (ltb 3) _ _ _ c.position.ensures.ran (YieldsList-from_slice hs (cc)) (λ x b q k. search (rules, tests)) in
    simp zero-add at (ap (by_place 0) (sym c.in-Some.is ∙ first) ∙ sym (homes_by_place 0 hs))

pub returns-in-None : goal.returns-in-None
returns-in-None c =
    let hs = c.args.homes.now in
    let first : c.position.result ≡ position (ltb 3) hs = position_from_yields_List (ltb 3) _ _ _ c.position.ensures.ran (YieldsList-from_slice hs (cc)) (λ x b q k. search (rules, tests)) in
    ap (by_place 0) (sym c.in-None.is ∙ first) ∙ sym (homes_by_place 0 hs)
