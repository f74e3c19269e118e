-- The turn of `joined_length` and that of `join`. Assumes nothing.
use Prim.Native.Nat.{ℕ, ◌+◌, ◌-◌, ◌≤◌}
use mathlib.Core.Path.{◌≡◌, refl, ap, ◌∙◌}
use mathlib.Core.List.{List, [], ◌∷◌, ◌++◌, flatten}
use native.Mathlib.Omega.{arith}
use lib.ListN.{length, take, drop, length-drop}
use lib.Seq.{take-length}
use Rattle.lists.specs.Write.{wrote_front}
use Rattle.lists.proofs.Write.{piece_within, piece_drop, put_is, put_length}
use Rattle.txt.proofs.Strings.{flatten_next, flatten_none}

-- n bytes of the text t stand in the output, which was d, and xs are the strings that are left
module _ (t : List ℕ) (n : ℕ) (xs : List (List ℕ)) (left : drop n t ≡ flatten xs) (w : n ≤ length t) where
  pub join_end : (d out : List ℕ) → xs ≡ [] → out ≡ take n t ++ drop n d → out ≡ t ++ drop (length t) d
  join_end d out e front =
      let z : n ≡ length t = omega (arith, length-drop n t, ap length (left ∙ flatten_none xs e)) in
      front ∙ rw (z, take-length t) refl

  -- the next of them is x
  module _ (x : List ℕ) (ys : List (List ℕ)) (e : xs ≡ x ∷ ys) where
    string : drop n t ≡ x ++ flatten ys
    string = left ∙ flatten_next xs x ys e

    pub join_within : n + length x ≤ length t
    join_within = piece_within t x (flatten ys) n (length x) refl w string

    pub join_left : drop (n + length x) t ≡ flatten ys
    join_left = piece_drop t x (flatten ys) n (length x) refl w string

    -- y is what `write_front` left in the part of the output from n on
    module _ (d out y : List ℕ) (front : out ≡ take n t ++ drop n d) (room : length t ≤ length d) (wrote : y ≡ wrote_front x (take (length out - n) (drop n out))) where
      pub join_put : take n out ++ (y ++ drop (length out - n) (drop n out)) ≡ take (n + length x) t ++ drop (n + length x) d
      join_put = put_is t x (flatten ys) n (length x) refl w string d out y front room wrote

      pub join_same : length (take n out ++ (y ++ drop (length out - n) (drop n out))) ≡ length d
      join_same = rw join_put (put_length t x (flatten ys) n (length x) refl w string d out y front room wrote)

pub ruleset join_laws = (join_end, join_within, join_left, join_put, join_same)
