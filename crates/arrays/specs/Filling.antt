-- What an array is filled with, and what refuses it. Assumes nothing.
use Rattle.std.specs.Prelude.{ℕ, suc, ◌+◌, max, cond, ◌||◌, List, [], ◌∷◌, Ok, Err, Result, nat_lt}
use Rattle.faults.specs.declared.array.BankFault.{BankFault}
use Rattle.faults.specs.declared.array.BankFault.TheVariants.{Time, Home}
use Rattle.arrays.specs.Layouts.{Layout}

-- each home is at most 3; the first of the list is that of block b
abbrev pub try_homes : ℕ → List ℕ → Result (Unit {0}) BankFault
try_homes b [] = Ok tt
try_homes b (h ∷ hs) = cond (nat_lt 3 h) (Err (Home b)) (try_homes (suc b) hs)

-- filling a bank: the fetch time, which is 1 to 64, then the homes
abbrev pub try_bank : ℕ → List ℕ → Result (Unit {0}) BankFault
try_bank time homes = cond (nat_lt time 1 || nat_lt 64 time) (Err Time) (try_homes 0 homes)

-- the greatest of the homes
abbrev pub greatest : List ℕ → ℕ
greatest [] = 0
greatest (h ∷ hs) = max h (greatest hs)

-- where the blocks of a bank live: there are as many disks as the homes need
abbrev pub spread : List ℕ → Layout
spread homes = record { disks = greatest homes + 1; homes = homes }
