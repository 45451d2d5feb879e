-- A replay gives the calls that its bytes spell. Assumes nothing.
use Rattle.std.proofs.Common.{◌≡◌, ℕ, zero, suc, ◌+◌, ◌-◌, ◌^◌, ◌<◌, ◌≤◌, true, false, ltb, List, [], ◌∷◌, ◌++◌, length, get_or, take, drop, set, is_some, Some, None, sym, refl, ap, ◌∙◌, subst, ⊎_elim, arith, length-set, get_or-set_other, get_or-set_same}
use Rattle.std.specs.List.{flat_map}
use Rattle.std.proofs.lemmas.List.FromFn.{map-range_with_len_more}
use Rattle.std.proofs.lemmas.List.{append-nil, append_assoc, flat_map_more, length_push, map_push, take_all, take-append-drop, take_more, map-id}
use Rattle.std.proofs.lemmas.Bool.Decides.{nat_tests}
use Rattle.std.proofs.lemmas.Bool.{cases_eq, cond_both, ltb-false, ltb-true}
use Rattle.maps.specs.Maps.{has}
use Rattle.faults.specs.Outcomes.{Outcome, accepted, refused}
use Rattle.instances.specs.Instances.{Instance}
use Rattle.tallies.specs.declared.call.Call.{Call}
use Rattle.tallies.specs.declared.call.Order.{Order}
use Rattle.tallies.specs.declared.call.Call.TheVariants as call
use Rattle.tallies.specs.Tally.{State, Answer, told, finished, order_outcome, answer, next, after, answers}
use Rattle.tallies.specs.Logs.{serves, stalls}
use Rattle.tallies.proofs.Appending.{after_append, answers_append}
use Rattle.tallies.proofs.Counting.{next_elapsed}
use Rattle.tallies.proofs.Moves.{unit_by}
use Rattle.tallies.specs.declared.reply.Progress.{Progress}
use Rattle.tallies.specs.declared.reply.Progress.TheVariants as progress
use Rattle.tallies.specs.Replies.{progress_answer}
use Rattle.schedules.specs.declared.record.UnitRecord.{UnitRecord}
use Rattle.schedules.specs.Replay.{Done, Read, Way, goes, stops, and_then, unless_refused, called, no_orders, barred, closed, give_order, give_standing, give_orders, replay_unit, replay_units, replayed}
use Rattle.schedules.specs.Spelling.{pairs, order_calls, spelled, unit_calls, passing, Doing, Begun, Faithful}
use Rattle.schedules.proofs.Marks.{Clear, order_set, marks_are}

abbrev answer_of : UnitRecord → Answer
answer_of u = progress_answer u.progress

abbrev number_of : UnitRecord → ℕ
number_of u = u.number

joined_push : {X A : Type 0} (f : X → List A) (xs : List X) (x : X) → flat_map f (xs ++ x ∷ []) ≡ flat_map f xs ++ f x
joined_push f xs x = sym (flat_map_more f [] xs x)

-- a unit that goes by is answered by its record, and counted once
passes : (p : Progress) → (passing (progress_answer p) ≡ progress_answer p ∷ []) × (serves (progress_answer p) + stalls (progress_answer p) ≡ 1)
passes (progress.Served b) = (refl, refl)
passes (progress.Stalled b) = (refl, refl)

module _ (w : Instance) (s : State) where
  -- what is done, and that the clock shows the units that went by
  record Going (d : Done) : Type 0 where
    doing : Doing w s d
    clock : d.state.elapsed ≡ s.elapsed + length d.units

  push_answers : (calls : List Call) (c : Call) → flat_map passing (answers w s (calls ++ c ∷ [])) ≡ flat_map passing (answers w s calls) ++ passing (answer w (after w s calls) c)
  push_answers calls c = simp (answers_append, joined_push)

  push_state : (d : Done) (c : Call) → d.state ≡ after w s d.calls → next w d.state c ≡ after w s (d.calls ++ c ∷ [])
  push_state d c is = simp (after_append, is)

  -- an order, or a unit that is refused, leaves no record
  silent_going : (d : Done) (c : Call) (r : Outcome) → answer w d.state c ≡ told r → Going d → Going (called w c d)
  silent_going d c r is g = record {
    doing = record {
      tallied = push_state d c g.doing.tallied;
      answered = push_answers d.calls c ∙ rw (← g.doing.tallied, is, append-nil) g.doing.answered;
      numbered = g.doing.numbered;
    };
    clock = omega (arith, next_elapsed w d.state c, ap serves is, ap stalls is, g.clock);
  }

  -- a unit that goes by leaves its record
  unit_going : (d : Done) (u : UnitRecord) → answer w d.state call.Unit ≡ answer_of u → u.number ≡ (next w d.state call.Unit).elapsed → Going d
      → Going (record { state = next w d.state call.Unit; calls = d.calls ++ call.Unit ∷ []; units = d.units ++ u ∷ [] })
  unit_going d u is number g =
      let (loud, one) = passes u.progress in
      let later : (next w d.state call.Unit).elapsed ≡ d.state.elapsed + 1 = omega (arith, next_elapsed w d.state call.Unit, ap serves is, ap stalls is, one) in
      record {
        doing = record {
          tallied = push_state d call.Unit g.doing.tallied;
          answered = push_answers d.calls call.Unit ∙ rw (← g.doing.tallied, is, loud, g.doing.answered) (sym (map_push answer_of d.units u));
          numbered =
              let last : suc s.elapsed + length d.units ≡ u.number = omega (arith, number, later, g.clock) in
              let count = simp map-id at (map-range_with_len_more (λ (k : ℕ). k) (suc s.elapsed) (length d.units) u.number last) in
              rw (map_push, length_push, g.doing.numbered) (sym count);
        };
        clock = omega (arith, later, g.clock, length_push d.units u);
      }

module _ (w : Instance) (s : State) (bytes : List ℕ) (few : w.disks ≤ 4) (byte : (i : ℕ) → get_or bytes i 0 < 2 ^ 8) where
  -- between two units, with p the place of the next byte
  record At (p : ℕ) (d : Done) : Type 0 where
    low : p ≤ length bytes
    read : take p bytes ≡ flat_map spelled d.units
    given : d.calls ≡ flat_map unit_calls d.units
    going : Going w s d

  -- stopped within the unit that began at d
  record Cut (d e : Done) : Type 0 where
    rest : List Call
    units : e.units ≡ d.units
    calls : e.calls ≡ d.calls ++ rest
    going : Going w s e

  -- within the unit that began at d with map byte m at place p, when the disks below k have been looked at
  record Inside (p m : ℕ) (d : Done) (k : ℕ) (t : Read) (e : Done) : Type 0 where
    units : e.units ≡ d.units
    calls : e.calls ≡ d.calls ++ order_calls t.orders
    going : Going w s e
    onward : p < t.place
    low : t.place ≤ length bytes
    read : take t.place bytes ≡ (take p bytes ++ m ∷ []) ++ pairs t.orders
    four : length t.orders ≡ 4
    clear : Clear k t.orders
    bits : (j : ℕ) → j < k → is_some (get_or t.orders j None) ≡ has m j

  -- what a way within a unit has to keep
  abbrev Kept : ℕ → ℕ → Done → ℕ → Way Read → Type 0
  Kept p m d k (goes t e) = Inside p m d k t e
  Kept p m d k (stops f e) = Cut d e

  module _ (p m : ℕ) (d : Done) where
    cut : (k : ℕ) (t : Read) (e : Done) → Inside p m d k t e → Cut d e
    cut k t e x = record { rest = order_calls t.orders; units = x.units; calls = x.calls; going = x.going }

    -- and by a call that leaves no record
    cut_called : (k : ℕ) (t : Read) (e : Done) (c : Call) (r : Outcome) → answer w e.state c ≡ told r → Inside p m d k t e → Cut d (called w c e)
    cut_called k t e c r is x = record { rest = order_calls t.orders ++ c ∷ []; units = x.units; calls = simp (x.calls, append_assoc); going = silent_going w s e c r is x.going }

    -- a disk whose bit does not stand
    skip : (k : ℕ) (t : Read) (e : Done) → has m k ≡ false → Inside p m d k t e → Inside p m d (suc k) t e
    skip k t e off x = record {
      units = x.units;
      calls = x.calls;
      going = x.going;
      onward = x.onward;
      low = x.low;
      read = x.read;
      four = x.four;
      clear = λ j l. x.clear j (omega arith);
      bits = λ j l. ⊎_elim
          (λ (is : j ≡ k). let none = ap is_some (x.clear k (omega arith)) in cc)
          (λ (ne : j ≡ k → ⊥). x.bits j (omega (arith, ne)))
          (cases_eq j k);
    }

    -- an order that is accepted
    took : (k : ℕ) (t : Read) (e : Done) → (o : Order) → get_or bytes t.place 0 ≡ o.fetch → get_or bytes (t.place + 1) 0 ≡ o.evict
        → t.place + 2 ≤ length bytes → k < 4 → has m k ≡ true → Inside p m d k t e
        → Inside p m d (suc k) (record { place = t.place + 2; orders = set t.orders k (Some o) }) (called w (call.Order o) e)
    took k t e o is-in is-out room low on x =
        let inside : k < length t.orders = omega (arith, x.four) in
        let two : t.place + 2 ≡ t.place + 1 + 1 = omega arith in
        let (bytes_more, call_more) = order_set t.orders k o inside x.clear in
        record {
          units = x.units;
          calls = simp (x.calls, call_more, append_assoc);
          going = silent_going w s e (call.Order o) (order_outcome w e.state o) refl x.going;
          onward = omega (arith, x.onward);
          low = room;
          read =
              let first = take_more bytes t.place 0 (omega arith) in
              let second = take_more bytes (t.place + 1) 0 (omega arith) in
              rw (two, second, first, x.read, is-in, is-out, bytes_more) (simp append_assoc);
          four = length-set t.orders k (Some o) ∙ x.four;
          clear = λ j l. get_or-set_other t.orders k j (Some o) None (λ is. omega arith) ∙ x.clear j (omega arith);
          bits = λ j l. ⊎_elim
              (λ (is : j ≡ k). let some = ap is_some (get_or-set_same t.orders k (Some o) None inside) in cc)
              (λ (ne : j ≡ k → ⊥). ap is_some (get_or-set_other t.orders k j (Some o) None ne) ∙ x.bits j (omega (arith, ne)))
              (cases_eq j k);
        }

    -- the order of a disk, however it ends
    ordered : (k : ℕ) (t : Read) (e : Done) → has m k ≡ true → Inside p m d k t e → Kept p m d (suc k) (give_order w bytes p k t e)
    ordered k t e on x =
        let o : Order = record { fetch = get_or bytes t.place 0; evict = get_or bytes (t.place + 1) 0 } in
        let keeps : Way Read → Type 0 = Kept p m d (suc k) in
        cond_both (ltb (length bytes) (t.place + 2)) _ _ keeps (λ short. cut k t e x)
        (λ long. cond_both (barred w k o.fetch) _ _ keeps (λ bar. cut k t e x)
        (λ free.
        let low : k < 4 = grind (arith, nat_tests) in
        let after-order : Inside p m d (suc k) (record { place = t.place + 2; orders = set t.orders k (Some o) }) (called w (call.Order o) e) =
        took k t e o refl refl (ltb-false (length bytes) (t.place + 2) long) low on x in
        by (order_outcome w e.state o) (record { place = t.place + 2; orders = set t.orders k (Some o) }) (called w (call.Order o) e) after-order
        (cut_called k t e (call.Order o) (order_outcome w e.state o) refl x)))
      where
        by : (r : Outcome) (u : Read) (f : Done) → Inside p m d (suc k) u f → Cut d f → Kept p m d (suc k) (unless_refused p r u f)
        by accepted u f x c = x
        by (refused n values) u f x c = c

    standing : (k : ℕ) (t : Read) (e : Done) → Inside p m d k t e → Kept p m d (suc k) (give_standing w bytes m p k t e)
    standing k t e x =
        cond_both (has m k) _ _ (Kept p m d (suc k)) (λ on. ordered k t e on x) (λ off. skip k t e off x)

    all_orders : (left k : ℕ) (t : Read) (e : Done) → left + k ≡ 8 → Inside p m d k t e → Kept p m d 8 (give_orders w bytes left m p k t e)
    unfolding give_orders
    all_orders zero k t e end x = let is : k ≡ 8 = omega arith in let F : ℕ → Type 0 = λ n. Inside p m d n t e in subst F is x
    all_orders (suc left) k t e end x = then_on (give_standing w bytes m p k t e) (standing k t e x) (λ u f y. all_orders left (suc k) u f (omega arith) y)
      where
        then_on : (way : Way Read) → Kept p m d (suc k) way → ((u : Read) (f : Done) → Inside p m d (suc k) u f → Kept p m d 8 (give_orders w bytes left m p (suc k) u f))
            → Kept p m d 8 (and_then way (give_orders w bytes left m p (suc k)))
        then_on (goes u f) y on = on u f y
        then_on (stops f e) y on = y

  -- what a way over whole units has to keep
  abbrev KeptAt : ℕ → Done → Way ℕ → Type 0
  KeptAt p d (goes q e) = (p < q) × At q e
  KeptAt p d (stops f e) = Cut d e

  no_order : (j : ℕ) → get_or no_orders j None ≡ None
  no_order zero = refl
  no_order (suc zero) = refl
  no_order (suc (suc zero)) = refl
  no_order (suc (suc (suc zero))) = refl
  no_order (suc (suc (suc (suc j)))) = refl

  -- the map byte is read
  opened : (p : ℕ) (d : Done) → p < length bytes → At p d → Inside p (get_or bytes p 0) d 0 (record { place = p + 1; orders = no_orders }) d
  opened p d more x = record {
    units = refl;
    calls = sym (append-nil d.calls);
    going = x.going;
    onward = omega arith;
    low = omega arith;
    read = take_more bytes p 0 more ∙ sym (append-nil (take p bytes ++ get_or bytes p 0 ∷ []));
    four = refl;
    clear = λ j l. no_order j;
    bits = λ j l. absurd (omega arith);
  }

  module _ (p m : ℕ) (d : Done) (before : At p d) (t : Read) (e : Done) (is_byte_lem : m < 2 ^ 8) (x : Inside p m d 8 t e) where
    -- a unit that goes by
    went : (u : UnitRecord) → u.orders ≡ t.orders → answer w e.state call.Unit ≡ answer_of u → u.number ≡ (next w e.state call.Unit).elapsed
        → At t.place (record { state = next w e.state call.Unit; calls = e.calls ++ call.Unit ∷ []; units = e.units ++ u ∷ [] })
    went u same is number = record {
      low = x.low;
      read =
          let bits = marks_are t.orders m is_byte_lem x.clear x.bits in
          simp (x.read, before.read, bits, joined_push, x.units, same, append_assoc);
      given = simp (x.calls, before.given, joined_push, x.units, same, append_assoc);
      going = unit_going w s e u is number x.going;
    }

    closes : KeptAt p d (closed p t (answer w e.state call.Unit) (called w call.Unit e))
    closes =
        unit_by w e.state (λ a _. answer w e.state call.Unit ≡ a → KeptAt p d (closed p t a (called w call.Unit e)))
        (λ n values is. cut_called p m d 8 t e call.Unit (refused n values) is x)
        (λ b g is. (x.onward, went (record { number = (next w e.state call.Unit).elapsed; progress = progress.Served b; orders = t.orders }) refl is refl))
        (λ b g is. (x.onward, went (record { number = (next w e.state call.Unit).elapsed; progress = progress.Stalled b; orders = t.orders }) refl is refl))
        refl

  unit_keeps : (p : ℕ) (d : Done) → At p d → KeptAt p d (replay_unit w bytes p d)
  unit_keeps p d x =
      cond_both (ltb p (length bytes)) _ _ (KeptAt p d)
      (λ more. then_close (give_orders w bytes 8 (get_or bytes p 0) p 0 (record { place = p + 1; orders = no_orders }) d)
      (all_orders p (get_or bytes p 0) d 8 0 (record { place = p + 1; orders = no_orders }) d (omega arith) (opened p d (ltb-true p (length bytes) more) x)))
      (λ none. record { rest = []; units = refl; calls = sym (append-nil d.calls); going = x.going })
    where
      then_close : (way : Way Read) → Kept p (get_or bytes p 0) d 8 way
          → KeptAt p d (and_then way (λ t e. closed p t (answer w e.state call.Unit) (called w call.Unit e)))
      then_close (goes t e) y = closes p (get_or bytes p 0) d x t e (byte p) y
      then_close (stops f e) y = y

  stopped : (p : ℕ) (d e : Done) → At p d → Cut d e → Doing w s e × Begun bytes e
  stopped p d e x c = (
    c.going.doing,
    record {
      bytes_left = drop p bytes;
      calls_left = c.rest;
      spelled_first = rw (c.units, ← x.read) (sym (take-append-drop p bytes));
      given_first = rw (c.units, ← x.given) c.calls;
    },
  )

  units_keep : (turns p : ℕ) (d : Done) → length bytes - p < turns → At p d → Faithful w s bytes (replay_units w bytes turns p d)
  unfolding replay_units
  units_keep zero p d enough x = absurd (omega arith)
  units_keep (suc turns) p d enough x =
      cond_both (finished w d.state) _ _ (Faithful w s bytes)
      (λ all. cond_both (ltb p (length bytes)) _ _ (Faithful w s bytes)
      (λ more. stopped p d d x (record { rest = []; units = refl; calls = sym (append-nil d.calls); going = x.going }))
      (λ none. (
        x.going.doing,
        record {
          at_finish = all;
          spelled_all = sym (take_all p bytes (ltb-false p (length bytes) none)) ∙ x.read;
          given_all = x.given;
        },
      )))
      (λ going. then_on (replay_unit w bytes p d) (unit_keeps p d x) (λ q e onward y. units_keep turns q e (omega arith) y))
    where
      then_on : (way : Way ℕ) → KeptAt p d way → ((q : ℕ) (e : Done) → p < q → At q e → Faithful w s bytes (replay_units w bytes turns q e))
          → Faithful w s bytes (and_then way (replay_units w bytes turns))
      then_on (goes q e) y on = on q e y.0 y.1
      then_on (stops f e) y on = stopped p d e x y

  pub faithful : Faithful w s bytes (replayed w s bytes)
  faithful = units_keep (suc (length bytes)) 0 (record { state = s; calls = []; units = [] }) (omega arith) (record {
    low = omega arith;
    read = refl;
    given = refl;
    going = record { doing = record { tallied = refl; answered = refl; numbered = refl }; clock = omega arith };
  })
