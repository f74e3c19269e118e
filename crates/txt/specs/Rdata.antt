-- Document 01, "TXT record": the wire form. The RDATAs stand one after another, with a list of their lengths; an RDATA is made of character strings.
use Rattle.std.specs.Prelude.{ℕ, zero, suc, Bool, true, ◌&&◌, leb, ltb, length, take, drop}
use mathlib.Core.List.{List, [], ◌∷◌, flatten, map}
use Rattle.lists.specs.Bytes.{all}
use Rattle.numbers.specs.Numbers.{numbers}
use Rattle.numbers.specs.Pieces.{cut, sums_to}

-- the character strings of an RDATA: one length byte, then that many bytes, as far as the RDATA goes. The first argument bounds how many are read
unfoldable pub strings_in : ℕ → List ℕ → List (List ℕ)
strings_in zero s = []
strings_in (suc k) [] = []
strings_in (suc k) (n ∷ s) = take n s ∷ strings_in k (drop n s)

-- all of them: an RDATA has no more strings than bytes
unfoldable pub strings : List ℕ → List (List ℕ)
strings s = strings_in (length s) s

-- none of the first strings, as many as the first argument says, runs past the RDATA
unfoldable pub fit_in : ℕ → List ℕ → Bool
fit_in zero s = true
fit_in (suc k) [] = true
fit_in (suc k) (n ∷ s) = leb n (length s) && fit_in k (drop n s)

-- no character string runs past the RDATA
unfoldable pub strings_fit : List ℕ → Bool
strings_fit s = fit_in (length s) s

-- an RDATA that is not empty, and whose strings do not run past it
unfoldable pub is_rdata : List ℕ → Bool
is_rdata s = ltb 0 (length s) && strings_fit s

-- the wire form is right: the list has no left-over bytes and sums to the bytes, no RDATA is empty, and no character string runs past its RDATA. Else 43
unfoldable pub is_wire_form : List ℕ → List ℕ → Bool
is_wire_form rdatas lengths = sums_to lengths (length rdatas) && all is_rdata (cut rdatas (numbers lengths))

-- the text of a record: its strings joined without spaces
unfoldable pub joined : List ℕ → List ℕ
joined s = flatten (strings s)

-- the texts of the records, in the order given
unfoldable pub texts : List ℕ → List ℕ → List (List ℕ)
texts rdatas lengths = map joined (cut rdatas (numbers lengths))
