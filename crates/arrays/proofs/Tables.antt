-- Tables of disk records, and a walk over them that steps one disk after another. Assumes nothing.
use Rattle.std.proofs.Common.{◌≡◌, ℕ, zero, suc, ◌+◌, ◌-◌, ◌<◌, ◌≤◌, false, eqb, [], ◌∷◌, ◌++◌, map, length, get_or, take, drop, is_some, Some, None, Option, sym, refl, ap, ◌∙◌, arith}
use lib.Bits.{bit_or, or_zero_l, or_zero_r}
use Rattle.std.proofs.lemmas.List.{take_more}
use Rattle.std.proofs.lemmas.Bool.{cond_both, true≢false}
use Rattle.maps.proofs.Maps.{or_assoc}
use Rattle.arrays.specs.declared.fetch.Fetch.{Fetch}
use Rattle.arrays.specs.Disks.{Disks, step_disk, delivered, arrivals}
use Rattle.arrays.specs.Records.{left_of}

arrivals_push : (os : Disks) (o : Option Fetch) → arrivals (os ++ o ∷ []) ≡ bit_or (arrivals os) (delivered o)
arrivals_push [] o = or_zero_r (delivered o) ∙ sym (or_zero_l (delivered o))
arrivals_push (x ∷ os) o = ap (bit_or (delivered x)) (arrivals_push os o) ∙ sym (or_assoc (delivered x) (arrivals os) (delivered o))

pub arrivals_more : (os : Disks) (i : ℕ) (o : Option Fetch) → i < length os → arrivals (take (i + 1) os) ≡ bit_or (arrivals (take i os)) (delivered (get_or os i o))
arrivals_more os i o h = ap arrivals (take_more os i o h) ∙ arrivals_push (take i os) (get_or os i o)

-- a walk that has stepped the disks before place i, and left the others as they were in os
walk_at : (os : Disks) (i : ℕ) (o : Option Fetch) → get_or (map step_disk (take i os) ++ drop i os) i o ≡ get_or os i o
walk_at [] zero o = refl
walk_at [] (suc i) o = refl
walk_at (x ∷ os) zero o = refl
walk_at (x ∷ os) (suc i) o = walk_at os i o

pub walk_here : (os xs : Disks) (i : ℕ) (o : Option Fetch) → xs ≡ map step_disk (take i os) ++ drop i os → get_or xs i o ≡ get_or os i o
walk_here os xs i o e = ap (λ ys. get_or ys i o) e ∙ walk_at os i o

-- what a unit keeps of one disk
pub step_within : (o : Option Fetch) (time : ℕ) → 1 ≤ time → left_of o ≤ time → left_of (step_disk o) ≤ time
step_within None time t h = h
step_within (Some f) time t h =
    cond_both (eqb f.left 1) None (Some (record { block = f.block; left = f.left - 1 })) (λ x. left_of x ≤ time) (λ e. t) (λ e. omega arith)

pub step_idle : (o : Option Fetch) → is_some o ≡ false → is_some (step_disk o) ≡ false
step_idle None h = refl
step_idle (Some f) h = absurd (true≢false h)
