-- A schedule, unit by unit. Assumes nothing.
use Rattle.std.proofs.Common.{◌≡◌, ℕ, zero, suc, ◌-◌, ◌<◌, ◌≤◌, true, false, cond, ltb, List, length, sym, refl, ap, ◌∙◌, arith}
use Rattle.std.proofs.lemmas.Bool.{cond-true, cond-false, lt-ltb, le-ltb}
use Rattle.instances.specs.Instances.{Instance}
use Rattle.tallies.specs.Tally.{finished}
use Rattle.faults.specs.Faults.{Fault, fault_at}
use Rattle.runs.specs.Standing.{Standing}
use Rattle.schedules.specs.Replay.{Done, Way, goes, stops, and_then, replay_unit, replay_units}
use Rattle.replays.specs.declared.log.Replay.{Replay}
use Rattle.replays.specs.Turns.{done}

-- one turn of the replay: the finish, or a unit and then the rest
pub one_turn : (w : Instance) (bytes : List ℕ) (turns p : ℕ) (d : Done) → 0 < turns
    → replay_units w bytes turns p d
    ≡ cond (finished w d.state) (cond (ltb p (length bytes)) (stops (fault_at 14 p) d) (goes tt d)) (and_then (replay_unit w bytes p d) (replay_units w bytes (turns - 1)))
unfolding replay_units
one_turn w bytes zero p d some = absurd (omega arith)
one_turn w bytes (suc turns) p d some =
    let one_less : turns ≡ suc turns - 1 = omega arith in
    ap
    (λ n. cond (finished w d.state) (cond (ltb p (length bytes)) (stops (fault_at 14 p) d) (goes tt d)) (and_then (replay_unit w bytes p d) (replay_units w bytes n)))
    one_less

module _ {X : Type 0} (first : Replay) (begun : Standing X) where
  -- so many turns more, from the next byte on, lead where the whole replay leads, and there are more turns than bytes left
  pub record UnitsLeft (r : Replay) (v : Standing X) : Type 0 where
    pub turns : ℕ
    pub enough : length first.bytes.now - r.place < turns
    pub same_way : replay_units begun.instance first.bytes.now turns r.place (done v r) ≡ replay_units begun.instance first.bytes.now (suc (length first.bytes.now)) 0 (done begun first)
    pub instance : v.instance ≡ begun.instance
    pub bytes : r.bytes.now ≡ first.bytes.now

  pub units_begin : first.place ≡ 0 → UnitsLeft first begun
  units_begin at_start =
      record {
        turns = suc (length first.bytes.now);
        enough = omega arith;
        same_way = ap (λ p. replay_units begun.instance first.bytes.now (suc (length first.bytes.now)) p (done begun first)) at_start;
        instance = refl;
        bytes = refl;
      }

  module _ (r : Replay) (v : Standing X) (left : UnitsLeft r v) where
    -- one turn of the code is one turn of the definition
    turn_here : replay_units begun.instance first.bytes.now left.turns r.place (done v r)
        ≡ cond (finished v.instance v.state) (cond (ltb r.place (length first.bytes.now)) (stops (fault_at 14 r.place) (done v r)) (goes tt (done v r)))
        (and_then (replay_unit v.instance r.bytes.now r.place (done v r)) (replay_units begun.instance first.bytes.now (left.turns - 1)))
    turn_here =
        let one = one_turn begun.instance first.bytes.now left.turns r.place (done v r) (omega (arith, left.enough)) in
        one ∙ (λ k. cond (finished (sym left.instance k) v.state) (cond (ltb r.place (length first.bytes.now)) (stops (fault_at 14 r.place) (done v r)) (goes tt (done v r)))
        (and_then (replay_unit (sym left.instance k) (sym left.bytes k) r.place (done v r)) (replay_units begun.instance first.bytes.now (left.turns - 1))))

    whole : (way : Way (Unit {0})) → replay_units begun.instance first.bytes.now left.turns r.place (done v r) ≡ way
        → replay_units begun.instance first.bytes.now (suc (length first.bytes.now)) 0 (done begun first) ≡ way
    whole way here = sym left.same_way ∙ here

    pub units_gave : (s : Replay) (u : Standing X) → finished v.instance v.state ≡ false → replay_unit v.instance r.bytes.now r.place (done v r) ≡ goes s.place (done u s)
        → u.instance ≡ v.instance → s.bytes.now ≡ r.bytes.now → r.place < s.place → UnitsLeft s u
    units_gave s u going unit same kept onward =
        let rest = replay_units begun.instance first.bytes.now (left.turns - 1) in
        let step = turn_here ∙ cond-false _ _ _ going ∙ ap (λ way. and_then way rest) unit in
        let inside : s.place ≤ length first.bytes.now = rw (← left.bytes, ← kept) s.within in
        record {
          turns = left.turns - 1;
          enough = omega (arith, left.enough, onward, inside);
          same_way = sym step ∙ left.same_way;
          instance = same ∙ left.instance;
          bytes = kept ∙ left.bytes;
        }

    pub units_stopped : (f : Fault) (e : Done) → finished v.instance v.state ≡ false → replay_unit v.instance r.bytes.now r.place (done v r) ≡ stops f e
        → replay_units begun.instance first.bytes.now (suc (length first.bytes.now)) 0 (done begun first) ≡ stops f e
    units_stopped f e going unit =
        whole _ (turn_here ∙ cond-false _ _ _ going ∙ ap (λ way. and_then way (replay_units begun.instance first.bytes.now (left.turns - 1))) unit)

    -- at the finish a byte may be left or not
    pub units_left : finished v.instance v.state ≡ true → r.place < length r.bytes.now
        → replay_units begun.instance first.bytes.now (suc (length first.bytes.now)) 0 (done begun first) ≡ stops (fault_at 14 r.place) (done v r)
    units_left all more =
        let here : r.place < length first.bytes.now = rw (← left.bytes) more in
        whole _ (turn_here ∙ cond-true _ _ _ all ∙ cond-true _ _ _ (lt-ltb r.place (length first.bytes.now) here))

    pub units_over : finished v.instance v.state ≡ true → length r.bytes.now ≤ r.place
        → replay_units begun.instance first.bytes.now (suc (length first.bytes.now)) 0 (done begun first) ≡ goes tt (done v r)
    units_over all none =
        let here : length first.bytes.now ≤ r.place = rw (← left.bytes) none in
        whole _ (turn_here ∙ cond-true _ _ _ all ∙ cond-false _ _ _ (le-ltb r.place (length first.bytes.now) here))
