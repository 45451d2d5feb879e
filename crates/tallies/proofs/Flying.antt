-- Disks of which one begins, or all work for a unit. Assumes nothing.
use Rattle.std.proofs.Common.{◌≡◌, ◌≢◌, ℕ, zero, suc, ◌+◌, ◌-◌, ◌^◌, ◌<◌, Bool, true, false, cond, eqb, List, [], ◌∷◌, length, get_or, set, Some, None, Option, sym, refl, ap, ◌∙◌, ⊎_elim, ◌⊎◌, inl, inr, arith, get_or-set_other, get_or-set_same}
use lib.Bits.{bit_or, or_zero_r, or_zero_l}
use lib.Count.{ones}
use Rattle.std.proofs.lemmas.Bool.Decides.{nat_tests}
use Rattle.std.proofs.lemmas.Bool.{cases_eq, eqb-true, eqb-false, or_cases, or_right}
use Rattle.maps.specs.Maps.{has, with}
use Rattle.maps.proofs.Maps.{has_or, has_none, has_one, has_bit, has_other, ones_with, or_assoc}
use Rattle.arrays.specs.declared.fetch.Fetch.{Fetch}
use Rattle.arrays.specs.Disks.{Disks, holds, step_disk, delivered, step_disks, arrivals}
use Rattle.arrays.proofs.Steps.{stepped_at}
use Rattle.tallies.specs.Tally.{any_busy}
use Rattle.tallies.specs.Laws.{flights}

pub idle_all : (os : Disks) → any_busy os ≡ false → (d : ℕ) → holds os d ≡ None
idle_all [] h d = refl
idle_all (None ∷ os) h zero = refl
idle_all (None ∷ os) h (suc d) = idle_all os h d
idle_all (Some f ∷ os) h d = cc

pub idle_flights : (os : Disks) → any_busy os ≡ false → flights os ≡ 0
idle_flights [] h = refl
idle_flights (None ∷ os) h = idle_flights os h
idle_flights (Some f ∷ os) h = cc

pub flights_set : (os : Disks) (d : ℕ) (f : Fetch) → d < length os → holds os d ≡ None → flights (set os d (Some f)) ≡ suc (flights os)
flights_set [] d f lt h = absurd (omega arith)
flights_set (None ∷ os) zero f lt h = refl
flights_set (Some g ∷ os) zero f lt h = cc
flights_set (None ∷ os) (suc d) f lt h = flights_set os d f (omega arith) h
flights_set (Some g ∷ os) (suc d) f lt h = ap suc (flights_set os d f (omega arith) h)

-- what disk e has after a fetch has begun on disk d: the new one there, or what it had
pub begun_holds : (os : Disks) (d e : ℕ) (new f : Fetch) → d < length os → holds (set os d (Some new)) e ≡ Some f → ((e ≡ d) × (f ≡ new)) ⊎ (holds os e ≡ Some f)
begun_holds os d e new f low h =
    ⊎_elim (λ is. inl (is, (let here = get_or-set_same os d (Some new) None low in cc))) (λ ne. inr (sym (get_or-set_other os d e (Some new) None ne) ∙ h)) (cases_eq e d)

-- a block that arrives, and the disk that delivers it
pub record Arriving (os : Disks) (b : ℕ) : Type 0 where
  pub place : ℕ
  pub fetch : Fetch
  pub there : holds os place ≡ Some fetch
  pub final : fetch.left ≡ 1
  pub is : fetch.block ≡ b

one_delivers : (t : Bool) (n b : ℕ) → has (cond t (2 ^ n) 0) b ≡ true → (t ≡ true) × (n ≡ b)
one_delivers true n b h = grind (arith, nat_tests, has_bit)
one_delivers false n b h = let none = has_none b in cc

pub arriving : (os : Disks) (b : ℕ) → has (arrivals os) b ≡ true → Arriving os b
arriving [] b h = let none = has_none b in cc
arriving (None ∷ os) b h =
    let a = arriving os b (rw (or_zero_l (arrivals os)) at h) in
    record { place = suc a.place; fetch = a.fetch; there = a.there; final = a.final; is = a.is }
arriving (Some f ∷ os) b h =
    ⊎_elim
    (λ e. let one = one_delivers (eqb f.left 1) f.block b e in record { place = 0; fetch = f; there = refl; final = eqb-true f.left 1 one.0; is = one.1 })
    (λ e. let a = arriving os b e in record { place = suc a.place; fetch = a.fetch; there = a.there; final = a.final; is = a.is })
    (or_cases (has (delivered (Some f)) b) (has (arrivals os) b) (sym (has_or (delivered (Some f)) (arrivals os) b) ∙ h))

pub arrives : (os : Disks) (d : ℕ) (f : Fetch) → holds os d ≡ Some f → f.left ≡ 1 → has (arrivals os) f.block ≡ true
arrives [] d f h l = cc
arrives (o ∷ os) zero f h l = rw (has_or, h, l, has_one) refl
arrives (o ∷ os) (suc d) f h l = has_or (delivered o) (arrivals os) f.block ∙ or_right _ _ (arrives os d f h l)

-- a fetch that is under way after a unit, and what it was before
pub record Before (o : Option Fetch) (g : Fetch) : Type 0 where
  pub fetch : Fetch
  pub there : o ≡ Some fetch
  pub same : fetch.block ≡ g.block
  pub more : fetch.left ≡ 1 → ⊥
  pub left : g.left ≡ fetch.left - 1

before_by : (f g : Fetch) (t : Bool) → eqb f.left 1 ≡ t → cond t None (Some (record { block = f.block; left = f.left - 1 })) ≡ Some g → Before (Some f) g
before_by f g true e h = cc
before_by f g false e h = record { fetch = f; there = refl; same = (cc); more = eqb-false f.left 1 e; left = (cc) }

before_of : (o : Option Fetch) (g : Fetch) → step_disk o ≡ Some g → Before o g
before_of None g h = cc
before_of (Some f) g h = before_by f g (eqb f.left 1) refl h

pub before : (os : Disks) (d : ℕ) (g : Fetch) → holds (step_disks os) d ≡ Some g → Before (holds os d) g
before os d g h = before_of (holds os d) g (sym (stepped_at os d) ∙ h)

ones_or : (m b : ℕ) → has m b ≡ false → ones (bit_or m (2 ^ b)) ≡ ones m + 1
unfolding with
ones_or m b h = ones_with m b h

-- a unit takes as many blocks off the disks as it puts into the map
module _ (homes : List ℕ) where
  pub step_full : (os : Disks) (j m : ℕ) → ((d : ℕ) (f : Fetch) → holds os d ≡ Some f → get_or homes f.block 0 ≡ j + d)
      → ((d : ℕ) (f : Fetch) → holds os d ≡ Some f → has m f.block ≡ false)
      → ones (bit_or m (arrivals os)) + flights (step_disks os) ≡ ones m + flights os
  step_full [] j m home out = rw or_zero_r refl
  step_full (None ∷ os) j m home out = rw (or_zero_l (arrivals os))
      (step_full os (suc j) m (λ d f h. let e = home (suc d) f h in omega arith) (λ d f h. out (suc d) f h))
  step_full (Some f ∷ os) j m home out = by (eqb f.left 1) (λ n out. step_full os (suc j) n (λ d g h. let e = home (suc d) g h in omega arith) out)
    where
      clear : (d : ℕ) (g : Fetch) → holds os d ≡ Some g → has (bit_or m (2 ^ f.block)) g.block ≡ false
      clear d g h =
          let other : g.block ≢ f.block = λ e. let a = home 0 f refl in let b = home (suc d) g h in let c = ap (λ n. get_or homes n 0) e in omega arith in
          rw (has_or, out (suc d) g h) (has_other f.block g.block other)

      by : (t : Bool)
          → ((n : ℕ) → ((d : ℕ) (g : Fetch) → holds os d ≡ Some g → has n g.block ≡ false) → ones (bit_or n (arrivals os)) + flights (step_disks os) ≡ ones n + flights os)
          → ones (bit_or m (bit_or (cond t (2 ^ f.block) 0) (arrivals os))) + flights (cond t None (Some (record { block = f.block; left = f.left - 1 })) ∷ step_disks os) ≡ ones m + suc (flights os)
      by true next =
          let rest = next (bit_or m (2 ^ f.block)) clear in
          let one = ones_or m f.block (out 0 f refl) in
          let turn = ap ones (or_assoc m (2 ^ f.block) (arrivals os)) in
          omega arith
      by false next =
          let rest = next m (λ d g h. out (suc d) g h) in
          let turn = ap (λ n. ones (bit_or m n)) (or_zero_l (arrivals os)) in
          omega arith
