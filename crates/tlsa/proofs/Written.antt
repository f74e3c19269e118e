-- Every set within the limits is given by some lists: the records one after another, and their lengths written as a list, are read back. Assumes nothing.
use Prim.Native.Nat.{ℕ}
use mathlib.Core.Path.{◌≡◌}
use mathlib.Core.Bool.{true}
use mathlib.Core.List.{List, flatten}
use native.Mathlib.Omega.{arith}
use lib.Dec.{leb}
use lib.ListN.{length}
use Rattle.lists.specs.Bytes.{all, is_bytes}
use Rattle.lists.proofs.Bools.{and_right}
use Rattle.numbers.specs.Pieces.{up_to}
use Rattle.numbers.proofs.Written.{lengths_of, lengths_bytes, pieces_back, pieces_sum}
use Rattle.tlsa.specs.Answer.{records_of, set_fits, answer_fits}
use Rattle.tlsa.specs.Answer.{Lookup}

-- A set within the limits is read back, and its lists keep the limits of an answer.
module _ (set : List (List ℕ)) (h : set_fits set ≡ true) where
  pub set_each : all (up_to 4096) set ≡ true
  unfolding set_fits
  set_each = and_right (leb (length set) 32) (all (up_to 4096) set) h

  pub set_lengths_bytes : is_bytes (lengths_of set) ≡ true
  set_lengths_bytes = lengths_bytes 4096 (omega arith) set set_each

  pub set_back : records_of (lengths_of set) (flatten set) ≡ set
  set_back = pieces_back 4096 (omega arith) set set_each

  pub set_accepted : answer_fits Lookup.Secure (lengths_of set) (flatten set) ≡ true
  unfolding answer_fits
  set_accepted = rw (pieces_sum 4096 (omega arith) set set_each, set_back) h
