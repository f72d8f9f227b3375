-- A number that fits fewer digits has zeros before them: each digit more that is not needed is one. Assumes nothing.
use mathlib.Core.Path.{◌≡◌, refl, sym, ap, ap₂, ◌∙◌}
use mathlib.Core.List.{List, [], ◌∷◌, ◌++◌, append_assoc, append-nil}
use Prim.Native.Nat.{ℕ, zero, suc, ◌+◌, ◌/◌, ◌%◌, ◌^◌, ◌<◌}
use native.Mathlib.Nat.{add-suc, add-zero, div-add-mod, pow-suc}
use native.Mathlib.Omega.{arith}
use lib.ListN.{replicate}
use Rattle.digits.specs.hexadecimal.Hex.{glyph, hex}

-- the digit for 0
abbrev pub ZERO : ℕ
ZERO = 48

zeros_last : (n : ℕ) → replicate n ZERO ++ ZERO ∷ [] ≡ replicate (suc n) ZERO
zeros_last zero = refl
zeros_last (suc n) = ap (λ (l : List ℕ). ZERO ∷ l) (zeros_last n)

zeros : (n : ℕ) → hex n 0 ≡ replicate n ZERO
unfolding hex glyph
zeros zero = refl
zeros (suc n) = ap (λ (l : List ℕ). l ++ ZERO ∷ []) (zeros n) ∙ zeros_last n

pub hex_padded : (n k x : ℕ) → x < 16 ^ k → hex (n + k) x ≡ replicate n ZERO ++ hex k x
unfolding hex
hex_padded n zero x h =
    let e : x ≡ 0 = omega arith in
    ap₂ hex (add-zero n) e ∙ zeros n ∙ sym (append-nil (replicate n ZERO))
hex_padded n (suc k) x h =
    let small : x / 16 < 16 ^ k = omega (arith, pow-suc 16 k, div-add-mod x 16) in
    ap (λ (d : ℕ). hex d x) (add-suc n k)
    ∙ ap (λ (l : List ℕ). l ++ glyph (x % 16) ∷ []) (hex_padded n k (x / 16) small)
    ∙ append_assoc (replicate n ZERO) (hex k (x / 16)) (glyph (x % 16) ∷ [])
