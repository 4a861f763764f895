-- The binary digits of a mask, lowest first.
--
--   bit k m              the digit of m that counts 2 ^ k
--   spelled d c cs       cs, with c before it where the digit d is set
--   codes n v a b        the codes of the n variables from v on: the lowest digit
--                        of a says whether the literal of v stands, that of b
--                        whether its opposite does, the next digits the same of
--                        v + 1, and so on
--   variables n v m      the variables from v on whose digits are set in m
use Rattle.std.specs.Prelude.{ℕ, zero, suc, ◌+◌, ◌*◌, ◌/◌, ◌%◌, List, [], ◌∷◌}
use Rattle.std.specs.Int.{bit_at}

abbrev pub bit : ℕ → ℕ → ℕ
bit k m = bit_at m k

abbrev pub spelled : ℕ → ℕ → List ℕ → List ℕ
spelled zero c cs = cs
spelled (suc d) c cs = c ∷ cs

unfoldable pub codes : ℕ → ℕ → ℕ → ℕ → List ℕ
codes zero v a b = []
codes (suc n) v a b = spelled (a % 2) (2 * v) (spelled (b % 2) (2 * v + 1) (codes n (v + 1) (a / 2) (b / 2)))

unfoldable pub variables : ℕ → ℕ → ℕ → List ℕ
variables zero v m = []
variables (suc n) v m = spelled (m % 2) v (variables n (v + 1) (m / 2))
