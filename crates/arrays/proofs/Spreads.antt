-- Homes spread over several disks. Assumes nothing.
use Rattle.std.proofs.Common.{◌≡◌, ℕ, zero, suc, ◌+◌, ◌≤◌, Bool, true, false, cond, ltb, List, [], ◌∷◌, get_or, Some, None, Ok, Err, Option, Result, not, length, ap, ◌∙◌, refl, add-zero, arith}
use Prim.Native.Nat.compare.{suc-suc}
use Rattle.std.proofs.lemmas.Bool.{ltb-false, lt-ltb}
use Rattle.std.specs.List.{position, position_or_len}
use Rattle.faults.specs.declared.array.BankFault.{BankFault}
use Rattle.faults.specs.declared.array.BankFault.TheVariants.{Home}
use Rattle.arrays.specs.Filling.{try_homes, greatest}

pub below_greatest : (hs : List ℕ) (b : ℕ) → get_or hs b 0 ≤ greatest hs
below_greatest [] b = omega arith
below_greatest (h ∷ hs) zero = omega arith
below_greatest (h ∷ hs) (suc b) = omega (arith, below_greatest hs b)

-- where block b + i has the first home above 3, it is refused
abbrev pub by_place : ℕ → Option ℕ → Result (Unit {0}) BankFault
by_place b None = Ok tt
by_place b (Some i) = Err (Home (b + i))

shifted : (b : ℕ) (t : Bool) (n : ℕ) → by_place (suc b) (cond t (Some n) None) ≡ by_place b (cond t (Some (suc n)) None)
shifted b true n = ap (λ k. Err (Home k)) (omega arith)
shifted b false n = refl

pub homes_by_place : (b : ℕ) (hs : List ℕ) → try_homes b hs ≡ by_place b (position (ltb 3) hs)
homes_by_place b [] = refl
homes_by_place b (h ∷ hs) =
    let n = position_or_len (ltb 3) hs in
    let one : 1 + n ≡ suc n = omega arith in
    let some : ltb 0 (suc (length hs)) ≡ true = lt-ltb _ _ (omega arith) in
    elim (ltb 3 h) as (λ t. cond t (Err (Home b)) (try_homes (suc b) hs) ≡ by_place b (cond (ltb (cond (not t) (1 + n) 0) (length (h ∷ hs))) (Some (cond (not t) (1 + n) 0)) None))
    [ true ↦ rw (some, add-zero) | false ↦ rw (one, suc-suc) (homes_by_place (suc b) hs ∙ shifted b (ltb n (length hs)) n) ]

-- a test that was passed
passed : (t : Bool) (e : BankFault) (r : Result (Unit {0}) BankFault) → Ok tt ≡ cond t (Err e) r → (t ≡ false) × (Ok tt ≡ r)
passed true e r h = cc
passed false e r h = (refl, h)

-- homes that are accepted are at most 3
pub few_homes : (b : ℕ) (hs : List ℕ) → Ok tt ≡ try_homes b hs → greatest hs ≤ 3
few_homes b [] e = omega arith
few_homes b (h ∷ hs) e =
    let here = passed (ltb 3 h) _ (try_homes (suc b) hs) e in
    omega (arith, ltb-false 3 h here.0, few_homes (suc b) hs here.1)
