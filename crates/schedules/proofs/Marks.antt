-- The orders of a unit, one disk more. Assumes nothing.
use Rattle.std.proofs.Common.{◌≡◌, ℕ, zero, suc, ◌+◌, ◌*◌, ◌/◌, ◌^◌, ◌<◌, ◌≤◌, true, false, List, [], ◌∷◌, ◌++◌, length, get_or, set, is_some, Some, None, Option, sym, refl, ap, ◌∙◌, ⊎_elim, arith, pow_mono}
use Rattle.std.proofs.lemmas.Bool.{cases_lt}
use Rattle.tallies.specs.declared.call.Call.TheVariants as call
use Rattle.maps.specs.Maps.{has}
use Rattle.maps.proofs.Maps.{has_none, has_above, has_low, has_next, same_map}
use Rattle.tallies.specs.declared.call.Order.{Order}
use Rattle.schedules.specs.Spelling.{marks, pairs, order_calls}

-- no order stands from disk k on
abbrev pub Clear : ℕ → List (Option Order) → Type 0
Clear k os = (j : ℕ) → k ≤ j → get_or os j None ≡ None

none_left : (os : List (Option Order)) → Clear 0 os → (pairs os ≡ []) × (order_calls os ≡ [])
none_left [] h = (refl, refl)
none_left (None ∷ os) h = none_left os (λ j l. h (suc j) (omega arith))
none_left (Some o ∷ os) h = cc (h 0 (omega arith))

-- an order put in behind all others adds its two bytes and its call
pub order_set : (os : List (Option Order)) (k : ℕ) (o : Order) → k < length os → Clear k os
    → (pairs (set os k (Some o)) ≡ pairs os ++ o.fetch ∷ o.evict ∷ []) × (order_calls (set os k (Some o)) ≡ order_calls os ++ call.Order o ∷ [])
order_set [] k o low h = absurd (omega arith)
order_set (None ∷ os) zero o low h = let none = none_left os (λ j l. h (suc j) (omega arith)) in (simp none.0, simp none.1)
order_set (Some x ∷ os) zero o low h = cc (h 0 (omega arith))
order_set (None ∷ os) (suc k) o low h = order_set os k o (omega arith) (λ j l. h (suc j) (omega arith))
order_set (Some x ∷ os) (suc k) o low h = let rest = order_set os k o (omega arith) (λ j l. h (suc j) (omega arith)) in (simp rest.0, simp rest.1)

-- the bits of the map byte
has_marks : (os : List (Option Order)) (j : ℕ) → has (marks os) j ≡ is_some (get_or os j None)
has_marks [] j = has_none j
has_marks (None ∷ os) zero = has_low (2 * marks os) false (omega arith)
has_marks (None ∷ os) (suc j) = let half : 2 * marks os / 2 ≡ marks os = omega arith in sym (has_next (2 * marks os) j) ∙ rw half (has_marks os j)
has_marks (Some o ∷ os) zero = has_low (1 + 2 * marks os) true (omega arith)
has_marks (Some o ∷ os) (suc j) = let half : (1 + 2 * marks os) / 2 ≡ marks os = omega arith in sym (has_next (1 + 2 * marks os) j) ∙ rw half (has_marks os j)

-- a byte whose bits are the orders is their map byte
pub marks_are : (os : List (Option Order)) (m : ℕ) → m < 2 ^ 8 → Clear 8 os → ((j : ℕ) → j < 8 → is_some (get_or os j None) ≡ has m j) → m ≡ marks os
marks_are os m byte clear bits =
    same_map m (marks os) (λ j. ⊎_elim
    (λ (l : j < 8). sym (bits j l) ∙ sym (has_marks os j))
    (λ (l : 8 ≤ j). has_above m j (omega (arith, pow_mono l)) ∙ sym (has_marks os j ∙ ap is_some (clear j l)))
    (cases_lt j 8))
