-- The certificates after the first are those of what is left of each list: reading by place as a recursion over the lists. P, D and Q are the key places, the
-- digests and the paths. Assumes nothing.
use Prim.Native.Nat.{ℕ, ◌+◌, ◌*◌}
use mathlib.Core.Path.{◌≡◌}
use mathlib.Core.List.{List}
use native.Mathlib.Omega.{arith}
use lib.ListN.{take, drop}
use lib.Seq.{drop-drop}
use Rattle.numbers.specs.Pieces.{numbered}
use Rattle.numbers.proofs.Numbers.{number_shift}
use Rattle.numbers.proofs.Cut.{numbered_shift}
use Rattle.certificates.specs.Facts.{certificate_at}

digest_shift : (D : List ℕ) (k from n : ℕ) → take n (drop ((k + 1) * 192 + from) D) ≡ take n (drop (k * 192 + from) (drop 192 D))
digest_shift D k from n = let e : (k + 1) * 192 + from ≡ 192 + (k * 192 + from) = omega arith in rw (drop-drop (k * 192 + from) 192 D, e)

certificate_shift : (P D Q : List ℕ) (k : ℕ) (x : List ℕ) → certificate_at P D Q (k + 1) x ≡ certificate_at (drop 8 P) (drop 192 D) (drop 4 Q) k x
unfolding certificate_at
certificate_shift P D Q k x =
    cc (
      number_shift 2 P (k * 2) ((k + 1) * 2) (omega arith),
      number_shift 2 P (k * 2 + 1) ((k + 1) * 2 + 1) (omega arith),
      number_shift 1 Q k (k + 1) (omega arith),
      digest_shift D k 0 32,
      digest_shift D k 32 64,
      digest_shift D k 96 32,
      digest_shift D k 128 64,
    )

pub certificates_rest : (P D Q : List ℕ) (k : ℕ) (xs : List (List ℕ)) → numbered (certificate_at P D Q) (k + 1) xs ≡ numbered (certificate_at (drop 8 P) (drop 192 D) (drop 4 Q)) k xs
certificates_rest P D Q k xs = numbered_shift (certificate_at P D Q) (certificate_at (drop 8 P) (drop 192 D) (drop 4 Q)) (certificate_shift P D Q) k xs
