-- A flag is in a set exactly where the bits that they share are the flag. Assumes nothing.
use Rattle.std.proofs.Common.{◌≡◌, ℕ, zero, suc, ◌*◌, ◌/◌, ◌%◌, ◌<◌, true, false, eqb, ap, ◌∙◌, le_of_suc-le-suc, not-suc-le-zero, mod-lt, lit<}
use lib.Bits.{bit_and}

-- a binary digit times a value is the value where the digit is 1
digit : (v x : ℕ) → x < 2 → eqb (0 * v) v ≡ false → eqb (1 * v) v ≡ true → eqb (x * v) v ≡ eqb x 1
digit v zero h off on = off
digit v (suc zero) h off on = on
digit v (suc (suc x)) h off on = absurd (not-suc-le-zero (le_of_suc-le-suc (le_of_suc-le-suc h)))

low : (n : ℕ) → n % 2 < 2
low n = mod-lt n (lit< tt)

-- the flag of this value, where that is a power of two
pub flag : (v n : ℕ) → bit_and n v ≡ n / v % 2 * v → eqb (0 * v) v ≡ false → eqb (1 * v) v ≡ true → eqb (bit_and n v) v ≡ eqb (n / v % 2) 1
flag v n shared off on = ap (λ m. eqb m v) shared ∙ digit v (n / v % 2) (low (n / v)) off on
