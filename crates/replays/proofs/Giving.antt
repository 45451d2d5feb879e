-- The orders of a map byte, disk by disk. Assumes nothing.
use Rattle.std.proofs.Common.{◌≡◌, ℕ, suc, ◌+◌, ◌-◌, ◌<◌, ◌≤◌, true, false, List, sym, refl, ap, ◌∙◌, add-one, arith}
use Rattle.std.proofs.lemmas.Bool.{cond-true, cond-false}
use Rattle.maps.specs.Maps.{has}
use Rattle.instances.specs.Instances.{Instance}
use Rattle.faults.specs.Faults.{Fault}
use Rattle.runs.specs.Standing.{Standing}
use Rattle.schedules.specs.Replay.{Done, Read, goes, stops, and_then, give_order, give_standing, give_orders}
use Rattle.replays.specs.declared.log.Replay.{Replay}
use Rattle.replays.specs.Turns.{SameUnit, done, read}

module _ (w : Instance) (bytes : List ℕ) (map p : ℕ) where
  pub orders_none : (disk : ℕ) (t : Read) (d : Done) → give_orders w bytes 0 map p disk t d ≡ goes t d
  unfolding give_orders
  orders_none disk t d = refl

  pub orders_one : (left disk : ℕ) (t : Read) (d : Done)
      → give_orders w bytes (suc left) map p disk t d ≡ and_then (give_standing w bytes map p disk t d) (give_orders w bytes left map p (suc disk))
  unfolding give_orders
  orders_one left disk t d = refl

  -- the disk at hand, and then the others of eight
  at_disk : (disk : ℕ) (t : Read) (d : Done) → disk < 8
      → give_orders w bytes (8 - disk) map p disk t d ≡ and_then (give_standing w bytes map p disk t d) (give_orders w bytes (8 - (disk + 1)) map p (disk + 1))
  at_disk disk t d low =
      let left : 8 - disk ≡ suc (8 - (disk + 1)) = omega arith in
      let on = add-one disk in
      ap (λ n. give_orders w bytes n map p disk t d) left ∙ orders_one (8 - (disk + 1)) disk t d
      ∙ ap (λ n. and_then (give_standing w bytes map p disk t d) (give_orders w bytes (8 - (disk + 1)) map p n)) (sym on)

  pub orders_go : (disk : ℕ) (t u : Read) (d e : Done) → disk < 8 → give_standing w bytes map p disk t d ≡ goes u e
      → give_orders w bytes (8 - (disk + 1)) map p (disk + 1) u e ≡ give_orders w bytes (8 - disk) map p disk t d
  orders_go disk t u d e low goes_on = sym (at_disk disk t d low ∙ ap (λ v. and_then v (give_orders w bytes (8 - (disk + 1)) map p (disk + 1))) goes_on)

  pub orders_stop : (disk : ℕ) (t : Read) (d e : Done) (f : Fault) → disk < 8 → give_standing w bytes map p disk t d ≡ stops f e
      → give_orders w bytes (8 - disk) map p disk t d ≡ stops f e
  orders_stop disk t d e f low stopped = at_disk disk t d low ∙ ap (λ v. and_then v (give_orders w bytes (8 - (disk + 1)) map p (disk + 1))) stopped

same_onward : (r s t : Replay) → SameUnit r s → SameUnit s t → SameUnit r t
same_onward r s t one two = record { bytes = two.bytes ∙ one.bytes; start = two.start ∙ one.start; onward = omega (arith, one.onward, two.onward) }

module _ {X : Type 0} (first : Replay) (begun : Standing X) (map : ℕ) where
  -- the orders of the disks from `disk` on, given now, lead where all eight lead from the first byte of the first order
  pub record OrdersLeft (disk : ℕ) (r : Replay) (v : Standing X) : Type 0 where
    pub same_way : give_orders begun.instance first.bytes.now (8 - disk) map first.start disk (read r) (done v r) ≡ give_orders begun.instance first.bytes.now 8 map first.start 0 (read first) (done begun first)
    pub instance : v.instance ≡ begun.instance
    pub unit : SameUnit first r

  module _ (disk : ℕ) (r : Replay) (v : Standing X) (left : OrdersLeft disk r v) where
    -- the order of the disk at hand, named as the schedule's definition names it
    standing_way : {Y : Type 0} (f : Instance → List ℕ → ℕ → Y) → f begun.instance first.bytes.now first.start ≡ f v.instance r.bytes.now r.start
    standing_way f k = f (sym left.instance k) (sym left.unit.bytes k) (sym left.unit.start k)

    pub orders_gave : (s : Replay) (u : Standing X) → disk < 8 → has map disk ≡ true
        → give_order v.instance r.bytes.now r.start disk (read r) (done v r) ≡ goes (read s) (done u s) → u.instance ≡ v.instance → SameUnit r s → OrdersLeft (disk + 1) s u
    orders_gave s u low stands gave same unit =
        let here = cond-true _ _ _ stands ∙ standing_way (λ w bytes p. give_order w bytes p disk (read r) (done v r)) ∙ gave in
        record {
          same_way = orders_go begun.instance first.bytes.now map first.start disk (read r) (read s) (done v r) (done u s) low here ∙ left.same_way;
          instance = same ∙ left.instance;
          unit = same_onward first r s left.unit unit;
        }

    pub orders_skipped : disk < 8 → has map disk ≡ false → OrdersLeft (disk + 1) r v
    orders_skipped low stands =
        record {
          same_way = orders_go begun.instance first.bytes.now map first.start disk (read r) (read r) (done v r) (done v r) low (cond-false _ _ _ stands) ∙ left.same_way;
          instance = left.instance;
          unit = left.unit;
        }

    pub orders_stopped : (f : Fault) (e : Done) → disk < 8 → has map disk ≡ true → give_order v.instance r.bytes.now r.start disk (read r) (done v r) ≡ stops f e
        → give_orders begun.instance first.bytes.now 8 map first.start 0 (read first) (done begun first) ≡ stops f e
    orders_stopped f e low stands stopped =
        let here = cond-true _ _ _ stands ∙ standing_way (λ w bytes p. give_order w bytes p disk (read r) (done v r)) ∙ stopped in
        sym left.same_way ∙ orders_stop begun.instance first.bytes.now map first.start disk (read r) (done v r) e f low here

    pub orders_over : 8 ≤ disk → give_orders begun.instance first.bytes.now 8 map first.start 0 (read first) (done begun first) ≡ goes (read r) (done v r)
    orders_over over =
        let none : 8 - disk ≡ 0 = omega arith in
        sym left.same_way ∙ ap (λ n. give_orders begun.instance first.bytes.now n map first.start disk (read r) (done v r)) none
        ∙ orders_none begun.instance first.bytes.now map first.start disk (read r) (done v r)
