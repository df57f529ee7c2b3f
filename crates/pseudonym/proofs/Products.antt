-- The low 64 bits of a product, from the products of 32-bit halves. Assumes nothing.
use Rattle.std.proofs.Common.{◌≡◌, ℕ, ◌+◌, ◌*◌, ◌/◌, ◌%◌, ◌^◌, ◌<◌, sym, ap, ◌∙◌, le_of_lt, mul-le-mul_right, arith}
use native.Mathlib.Nat.{mul-add-mod_self_right}

-- a product of two halves fits a word
pub halves_fit : (x y : ℕ) → x < 2 ^ 32 → y < 2 ^ 32 → x * y < 2 ^ 64
halves_fit x y hx hy = omega (arith, mul-le-mul_right y (le_of_lt hx))

-- k words and m half words are what the middle products come to
multiplied : (a₁ a₀ b₁ b₀ k m : ℕ) → a₁ * b₀ + a₀ * b₁ ≡ k * 2 ^ 32 + m
    → (a₁ * 2 ^ 32 + a₀) * (b₁ * 2 ^ 32 + b₀) ≡ (a₁ * b₁ + k) * 2 ^ 64 + (a₀ * b₀ + m * 2 ^ 32)
multiplied a₁ a₀ b₁ b₀ k m h = omega arith

pub low_product : (a b : ℕ) → (a % 2 ^ 32 * (b % 2 ^ 32) + (a / 2 ^ 32 * (b % 2 ^ 32) + a % 2 ^ 32 * (b / 2 ^ 32)) % 2 ^ 64 % 2 ^ 32 * 2 ^ 32) % 2 ^ 64 ≡ (a * b) % 2 ^ 64
low_product a b =
    let x = a / 2 ^ 32 * (b % 2 ^ 32) + a % 2 ^ 32 * (b / 2 ^ 32) in
    let k = x / 2 ^ 64 * 2 ^ 32 + x % 2 ^ 64 / 2 ^ 32 in
    let e = multiplied (a / 2 ^ 32) (a % 2 ^ 32) (b / 2 ^ 32) (b % 2 ^ 32) k (x % 2 ^ 64 % 2 ^ 32) (omega arith) in
    let a' : a / 2 ^ 32 * 2 ^ 32 + a % 2 ^ 32 ≡ a = omega arith in
    let b' : b / 2 ^ 32 * 2 ^ 32 + b % 2 ^ 32 ≡ b = omega arith in
    sym (mul-add-mod_self_right (a / 2 ^ 32 * (b / 2 ^ 32) + k) (2 ^ 64) _) ∙ ap (λ (n : ℕ). n % 2 ^ 64) (sym e ∙ rw (a', b'))
