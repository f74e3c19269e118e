-- Document 01, "A host's facts, in the order learnt": a TLSA answer, its limits, what reading it comes to, and what a set needs (RFC 7672, section 2.2).
use Rattle.std.specs.Prelude.{ℕ, Bool, true, false, cond, ◌&&◌, ◌||◌, List, [], ◌∷◌, leb, length}
use Rattle.std.proofs.Math.Option.{Option, none, some}
use Rattle.lists.specs.Bytes.{all, any}
use Rattle.numbers.specs.Numbers.{numbers}
use Rattle.numbers.specs.Pieces.{cut, sums_to, up_to}
use Rattle.tlsa.specs.Record.{short, usable}
use Rattle.numbers.specs.declared.Pieces.{Pieces}
use Rattle.tlsa.specs.declared.TlsaAnswer.{TlsaAnswer}
use Rattle.tlsa.specs.declared.TlsaAnswer.TheVariants as T
use Rattle.tlsa.specs.declared.Needs.{Needs}
use Rattle.tlsa.specs.declared.Needs.TheVariants.{Nothing, Tls, Authentication}
use Rattle.tlsa.specs.declared.Read.{Read}
use Rattle.tlsa.specs.declared.Read.TheVariants.{LookupFailed, Taken, NextName}

-- A TLSA answer: secure with records (perhaps none), insecure, absent, failed.
pub data Answer : Type 0 where
  secure : List (List ℕ) → Answer
  insecure absent failed : Answer

-- The records of a list: they stand one after another, and a list of numbers has their lengths.
abbrev pub records_of : List ℕ → List ℕ → List (List ℕ)
records_of lengths records = cut records (numbers lengths)

-- The records of a list that code holds as one value.
abbrev pub records_in : Pieces → List (List ℕ)
records_in set = records_of set.lengths.now set.bytes.now

-- How a TLSA lookup ended.
pub data Lookup : Type 0 where
  Secure Insecure Absent Failed : Lookup

-- The answer that is given by how the lookup ended and, where that is secure, by the records. Otherwise these are not looked at.
unfoldable pub answer_of : Lookup → List ℕ → List ℕ → Answer
answer_of Secure lengths records = secure (records_of lengths records)
answer_of Insecure lengths records = insecure
answer_of Absent lengths records = absent
answer_of Failed lengths records = failed

-- The answer that code holds as one value.
unfoldable pub answer_in : TlsaAnswer → Answer
answer_in (T.Secure set) = secure (records_in set)
answer_in T.Insecure = insecure
answer_in T.Absent = absent
answer_in T.Failed = failed

-- The limits of a set: 32 records, 4,096 bytes each.
unfoldable pub set_fits : List (List ℕ) → Bool
set_fits set = leb (length set) 32 && all (up_to 4096) set

-- The limits of an answer, which is refused with 64 outside them: lengths that sum to the bytes, none left over, and the limits of its set.
unfoldable pub answer_fits : Lookup → List ℕ → List ℕ → Bool
answer_fits Secure lengths records = sums_to lengths (length records) && set_fits (records_of lengths records)
answer_fits Insecure lengths records = true
answer_fits Absent lengths records = true
answer_fits Failed lengths records = true

-- The same of what code holds as one value.
unfoldable pub set_keeps : Pieces → Bool
set_keeps set = answer_fits Secure set.lengths.now set.bytes.now

unfoldable pub answer_keeps : TlsaAnswer → Bool
answer_keeps (T.Secure set) = set_keeps set
answer_keeps T.Insecure = true
answer_keeps T.Absent = true
answer_keeps T.Failed = true

-- What a set needs: nothing without a record, TLS with no usable one, DANE authentication with a usable one.
unfoldable pub needs_of : List (List ℕ) → Needs
needs_of [] = Nothing
needs_of (r ∷ set) = cond (any usable (r ∷ set)) Authentication Tls

-- A secure answer with a record: that set is taken. With no record: next name.
unfoldable pub taken_of : List (List ℕ) → Read
taken_of [] = NextName
taken_of (r ∷ set) = Taken (needs_of (r ∷ set))

-- A secure answer: a record under 3 bytes makes the lookup count as failed.
unfoldable pub taken_if_whole : List (List ℕ) → Read
taken_if_whole set = cond (any short set) LookupFailed (taken_of set)

-- What reading an answer comes to. Failed, or a secure record under 3 bytes: the lookup counts as failed. Insecure or absent: next name.
unfoldable pub read_of : Answer → Read
read_of (secure set) = cond (any short set) LookupFailed (taken_of set)
read_of insecure = NextName
read_of absent = NextName
read_of failed = LookupFailed

-- The secure records of an answer.
abbrev pub secure_records : Answer → List (List ℕ)
secure_records (secure set) = set
secure_records insecure = []
secure_records absent = []
secure_records failed = []

-- The lookup failed.
abbrev pub is_failed : Answer → Bool
is_failed (secure set) = false
is_failed insecure = false
is_failed absent = false
is_failed failed = true

-- Document 01's verdict on an answer: 22 where the lookup failed or a secure record has under 3 bytes; none where the walk goes on.
unfoldable pub lookup_verdict : Answer → Option ℕ
lookup_verdict a = cond (is_failed a || any short (secure_records a)) (some 22) none

-- Document 01's verdict for each case of `Read`.
abbrev pub read_verdict : Read → Option ℕ
read_verdict LookupFailed = some 22
read_verdict (Taken needs) = none
read_verdict NextName = none
