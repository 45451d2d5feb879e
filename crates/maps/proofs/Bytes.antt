-- Numbers in bytes. Assumes nothing.
use Rattle.std.proofs.Common.{ℕ, ◌^◌, ◌<◌, ◌≤◌, pow-suc, arith, lit<}
use native.Mathlib.Nat.{pow-le-pow_right}
use Rattle.std.proofs.lemmas.List.{take_all}
use Rattle.std.proofs.lemmas.Int.Digits.{number_more}

-- a number of fewer than eight bytes has room for one more
pub room : (value i : ℕ) → value < 256 ^ i → i < 8 → value < 2 ^ 56
room value i h l =
    let seven : i ≤ 7 = omega arith in
    let p : 256 ^ i ≤ 256 ^ 7 = pow-le-pow_right (lit< tt) seven in
    omega arith

pub ruleset number_steps = (room, number_more, take_all, pow-suc)
