-- Laws of maps. Assumes nothing.
use Rattle.std.proofs.Common.{◌≡◌, ℕ, zero, suc, ◌+◌, ◌*◌, ◌/◌, ◌%◌, ◌^◌, ◌<◌, ◌≤◌, Bool, true, false, cond, not, ◌&&◌, ◌||◌, eqb, leb, ltb, ◌≢◌, sym, refl, ap, ◌∙◌, arith, pow_mono}
use native.Mathlib.Nat.{div-eq_of_lt}
use lib.Count.{ones, ones_step}
use Rattle.std.specs.Int.{bit_not, w64}
use lib.Bits.{bit_and, bit_or, bit_xor}
use Rattle.std.proofs.lemmas.Nat.{and_le_l, one_shl, or_lt, xor_lt, pow_below, or_disjoint, shr_split, mod_below, pow_pos, le-div, ones_cat}
use Rattle.std.proofs.lemmas.Nat.Bits.{bit_at-lt, bit_at-zero, bit_at_lowest, bit_at-suc, bit_at_or, bit_at_xor, bit_at_above, bit_at-pow_same, bit_at-pow_other, bit_at_clear_same, bit_at_clear_other, and_pow, same_from_bits}
use Rattle.std.proofs.lemmas.Bool.{cond_both}
use Rattle.std.proofs.lemmas.Bool.Decides.{nat_tests}
use Rattle.maps.specs.Sums.{below}
use Rattle.maps.specs.Maps.{has, with, without, total}
use Rattle.maps.proofs.Sums.{below_same, below_front}

-- two maps joined
pub has_or : (a b i : ℕ) → has (bit_or a b) i ≡ (has a i || has b i)
unfolding has
has_or a b i =
    let e = bit_at_or a b i in
    let x = bit_at-lt a i in
    let y = bit_at-lt b i in
    grind (arith, nat_tests)

has_xor : (a b i : ℕ) → has (bit_xor a b) i ≡ cond (has b i) (not (has a i)) (has a i)
unfolding has
has_xor a b i =
    let e = bit_at_xor a b i in
    let x = bit_at-lt a i in
    let y = bit_at-lt b i in
    grind (arith, nat_tests)

pub has_none : (i : ℕ) → has 0 i ≡ false
unfolding has
has_none i = rw bit_at-zero

-- what is above every bit of a map is not in it
pub has_above : (a b : ℕ) → a < 2 ^ b → has a b ≡ false
unfolding has
has_above a b h = let e = bit_at_above a b b h (omega arith) in rw e

pub has_one : (b : ℕ) → has (2 ^ b) b ≡ true
unfolding has
has_one b = rw bit_at-pow_same

pub has_other : (b i : ℕ) → i ≢ b → has (2 ^ b) i ≡ false
unfolding has
has_other b i h = rw bit_at-pow_other

pub has_bit : (b i : ℕ) → has (2 ^ b) i ≡ eqb i b
has_bit b i = grind (arith, nat_tests, has_one, has_other)

-- what is put in is in, and all else is as before
pub has_with : (map b i : ℕ) → has (with map b) i ≡ (has map i || eqb i b)
unfolding with
has_with map b i = rw (has_or, has_bit)

-- what is taken out is out, and all else is as before
pub has_without : (map b i : ℕ) → has (without map b) i ≡ (has map i && not (eqb i b))
unfolding without
has_without map b i =
    let changed = has_xor map (2 ^ b) i in
    let bit = has_bit b i in
    grind (arith, nat_tests)

pub with_same : (map b : ℕ) → has (with map b) b ≡ true
with_same map b = let e = has_with map b b in grind (arith, nat_tests)

pub without_same : (map b : ℕ) → has (without map b) b ≡ false
without_same map b = let e = has_without map b b in grind (arith, nat_tests)

pub without_other : (map b i : ℕ) → i ≢ b → has (without map b) i ≡ has map i
without_other map b i ne = let e = has_without map b i in grind (arith, nat_tests)

-- nothing is left of a map above its width
pub none_above : (map k : ℕ) → eqb (map / 2 ^ k) 0 ≡ ltb map (2 ^ k)
none_above map k = let some = pow_pos k in grind (arith, nat_tests, div-eq_of_lt, le-div 1 map (2 ^ k))

-- a map stays within its width
pub with_below : (k map b : ℕ) → map < 2 ^ k → b < k → with map b < 2 ^ k
unfolding with
with_below k map b h l = or_lt k map (2 ^ b) h (pow_below b k l)

pub has_within : (k map b : ℕ) → map < 2 ^ k → has map b ≡ true → b < k
has_within k map b h up = grind (arith, nat_tests, has_above, pow_mono)

pub without_below : (k map b : ℕ) → map < 2 ^ k → without map b < 2 ^ k
unfolding without
without_below k map b h = cond_both (has map b) (bit_xor map (2 ^ b)) map (λ n. n < 2 ^ k)
    (λ up. xor_lt k map (2 ^ b) h (pow_below b k (has_within k map b h up))) (λ down. h)

-- the lowest bit, and the others
has_first : (a : ℕ) → cond (has a 0) 1 0 ≡ a % 2
unfolding has
has_first a = rw bit_at_lowest (grind (arith, nat_tests))

pub has_low : (a : ℕ) (t : Bool) → a % 2 ≡ cond t 1 0 → has a 0 ≡ t
unfolding has
has_low a t h = rw bit_at_lowest (grind (arith, nat_tests))

pub has_next : (a b : ℕ) → has (a / 2) b ≡ has a (suc b)
unfolding has
has_next a b = rw bit_at-suc

-- the ones of a map are as many as it has members
pub ones_total : (m a : ℕ) → a < 2 ^ m → ones a ≡ total m a (λ b. 1)
unfolding total below ones
ones_total zero a h = let none : a ≡ 0 = omega arith in rw none refl
ones_total (suc m) a h =
    let next = below_same m (λ b. cond (has (a / 2) b) 1 0) (λ b. cond (has a (suc b)) 1 0) (λ b l. rw has_next) in
    omega (arith, ones_step a, ones_total m (a / 2) (omega arith), has_first a, below_front m (λ b. cond (has a b) 1 0))

-- a map is what is in it
pub same_map : (a b : ℕ) → ((i : ℕ) → has a i ≡ has b i) → a ≡ b
unfolding has
same_map a b same = same_from_bits a b (λ i. let s = same i in let x = bit_at-lt a i in let y = bit_at-lt b i in grind (arith, nat_tests))

-- a map with one more, where the place was free
ones_raised : (q r b : ℕ) → r < 2 ^ b → q % 2 ≡ 0 → ones ((q + 1) * 2 ^ b + r) ≡ ones (q * 2 ^ b + r) + 1
ones_raised q r b low even =
    let half : (q + 1) / 2 ≡ q / 2 = omega arith in
    omega (arith, ones_cat b (q + 1) r low, ones_cat b q r low, ones_step q, ones_step (q + 1), ap ones half)

pub ones_with : (map b : ℕ) → has map b ≡ false → ones (with map b) ≡ ones map + 1
unfolding has with
ones_with map b down =
    let bit : map / 2 ^ b % 2 ≡ 0 = grind (arith, nat_tests) in
    let apart : bit_and map (2 ^ b) ≡ 0 = rw (and_pow, bit) (omega arith) in
    let sum = or_disjoint map (2 ^ b) apart in
    let split = shr_split map b in
    let more : bit_or map (2 ^ b) ≡ (map / 2 ^ b + 1) * 2 ^ b + map % 2 ^ b = omega arith in
    ap ones more ∙ ones_raised (map / 2 ^ b) (map % 2 ^ b) b (mod_below map (2 ^ b) (pow_pos b)) bit ∙ ap (λ n. ones n + 1) split

pub ones_without : (map b : ℕ) → has map b ≡ true → ones (without map b) + 1 ≡ ones map
ones_without map b up =
    let back : with (without map b) b ≡ map = same_map _ _ (λ i. let e = has_with (without map b) b i in let f = has_without map b i in grind (arith, nat_tests)) in
    sym (ones_with (without map b) b (without_same map b)) ∙ ap ones back

pub or_assoc : (a b c : ℕ) → bit_or (bit_or a b) c ≡ bit_or a (bit_or b c)
or_assoc a b c = same_map _ _ (λ i. simp has_or (grind (arith, nat_tests)))

-- a number of 64 bits
pub none_past : (map b : ℕ) → map < 2 ^ 64 → 64 ≤ b → has map b ≡ false
none_past map b h l = has_above map b (omega (arith, pow_mono l))

pub within_past : (map limit : ℕ) → map < 2 ^ 64 → 64 ≤ limit → map < 2 ^ limit
within_past map limit h l = omega (arith, pow_mono l)

pub within_wide : (map limit : ℕ) → map < 2 ^ 64 → 64 ≤ limit → leb 64 limit ≡ ltb map (2 ^ limit)
within_wide map limit h l = let low = within_past map limit h l in grind (arith, nat_tests)

-- what the code makes of it: `1 << b` put in, and taken out
pub put_in : (map b : ℕ) → b < 64 → bit_or map (1 * 2 ^ b % 2 ^ 64) ≡ with map b
unfolding with
put_in map b l = let shifted = one_shl b 64 l in rw shifted

pub has_put_in : (map b i : ℕ) → b < 64 → has (bit_or map (1 * 2 ^ b % 2 ^ 64)) i ≡ (has map i || eqb i b)
has_put_in map b i l = let e = put_in map b l in rw e (has_with map b i)

pub has_taken_out : (map b i : ℕ) → map < 2 ^ 64 → b < 64 → has (bit_and map (bit_not w64 (1 * 2 ^ b % 2 ^ 64))) i ≡ (has map i && not (eqb i b))
unfolding has
has_taken_out map b i h l =
    let same = bit_at_clear_same w64 map b l in
    let other = bit_at_clear_other w64 map b l i in
    let low = and_le_l map (bit_not w64 (1 * 2 ^ b % 2 ^ 64)) in
    let past = none_past map i h in
    let past' = none_past (bit_and map (bit_not w64 (1 * 2 ^ b % 2 ^ 64))) i (omega arith) in
    grind (arith, nat_tests)

pub taken_out : (map b : ℕ) → map < 2 ^ 64 → b < 64 → bit_and map (bit_not w64 (1 * 2 ^ b % 2 ^ 64)) ≡ without map b
taken_out map b h l = same_map _ _ (λ i. has_taken_out map b i h l ∙ sym (has_without map b i))

pub without_past : (map b : ℕ) → map < 2 ^ 64 → 64 ≤ b → map ≡ without map b
unfolding without
without_past map b h l = let none = none_past map b h l in rw none

pub has_kept : (map b i : ℕ) → map < 2 ^ 64 → 64 ≤ b → has map i ≡ (has map i && not (eqb i b))
has_kept map b i h l = let e = without_past map b h l in ap (λ n. has n i) e ∙ has_without map b i

pub ruleset map_steps = (none_past, none_above, within_past, within_wide, has_within, put_in, has_put_in, taken_out, has_taken_out, without_past, has_kept, ones_total)
