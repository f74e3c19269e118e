-- The returns of the functions on an answer. L and R are the list of lengths and the records. Assumes nothing.
use Prim.Native.Nat.{ℕ, ◌<◌, ◌≤◌}
use mathlib.Core.Path.{◌≡◌, refl, sym, ap, ◌∙◌}
use mathlib.Core.Bool.{Bool, true, false, cond, ◌&&◌, and-false}
use mathlib.Core.List.{List, [], ◌∷◌}
use mathlib.Core.Option.{none, some}
use native.Mathlib.Omega.{arith}
use lib.ListN.{length}
use borrow.Author.Rules.{rules}
use borrow.Author.Tests.{not-true, not-false, lt-leb, le-leb}
use Rattle.lists.specs.Bytes.{all, any}
use Rattle.numbers.specs.Numbers.{numbers, at_most}
use Rattle.numbers.specs.Pieces.{cut, sums_to}
use Rattle.numbers.proofs.Cut.{cut_count, sizes}
use Rattle.tlsa.specs.Record.{short, usable}
use Rattle.numbers.specs.declared.Pieces.{Pieces}
use Rattle.tlsa.specs.Answer.{Answer, secure, insecure, absent, failed, records_of, records_in, answer_in, set_fits, answer_fits, set_keeps, answer_keeps, needs_of, taken_of, taken_if_whole, read_of, lookup_verdict, read_verdict}
use Rattle.tlsa.specs.declared.TlsaAnswer.{TlsaAnswer}
use Rattle.tlsa.specs.declared.TlsaAnswer.TheVariants as T
use Rattle.tlsa.specs.declared.Needs.{Needs}
use Rattle.tlsa.specs.declared.Read.{Read}

-- a list of lengths with no number has no record
no_record : (L R : List ℕ) → length (numbers L) ≡ 0 → records_of L R ≡ []
no_record L R h = go (cut R (numbers L)) (cut_count R (numbers L) ∙ h)
  where
    go : (set : List (List ℕ)) → length set ≡ 0 → set ≡ []
    go [] e = refl
    go (r ∷ set) e = absurd (omega arith)

-- what a set with a record needs, and that it is taken
some_needs : (set : List (List ℕ)) → (length set ≡ 0 → ⊥) → needs_of set ≡ cond (any usable set) Needs.Authentication Needs.Tls
unfolding needs_of
some_needs [] h = absurd (h refl)
some_needs (r ∷ set) h = refl

some_taken : (set : List (List ℕ)) → (length set ≡ 0 → ⊥) → taken_of set ≡ Read.Taken (needs_of set)
unfolding taken_of
some_taken [] h = absurd (h refl)
some_taken (r ∷ set) h = refl

-- `needs_of`: n and u are what `count` and `has_usable` gave
module _ (L R : List ℕ) (n : ℕ) (counted : n ≡ length (numbers L)) where
  some_record : (n ≡ 0 → ⊥) → length (records_of L R) ≡ 0 → ⊥
  some_record h e = h (omega (arith, cut_count R (numbers L)))

  pub needs_nothing : n ≡ 0 → Needs.Nothing ≡ needs_of (records_of L R)
  unfolding needs_of
  needs_nothing h = rw (no_record L R (sym counted ∙ h))

  module _ (h : n ≡ 0 → ⊥) (u : Bool) (ue : u ≡ any usable (records_of L R)) where
    pub needs_tls : u ≡ false → Needs.Tls ≡ needs_of (records_of L R)
    needs_tls t = cc (some_needs (records_of L R) (some_record h))

    pub needs_authentication : u ≡ true → Needs.Authentication ≡ needs_of (records_of L R)
    needs_authentication t = cc (some_needs (records_of L R) (some_record h))

-- `read_secure`: s and d are what `has_short` and `needs_of` gave
module _ (L R : List ℕ) (s : Bool) (se : s ≡ any short (records_of L R)) where
  pub read_malformed : s ≡ true → Read.LookupFailed ≡ taken_if_whole (records_of L R)
  unfolding taken_if_whole
  read_malformed t = cc

  module _ (sf : s ≡ false) (n : ℕ) (counted : n ≡ length (numbers L)) where
    pub read_next : n ≡ 0 → Read.NextName ≡ taken_if_whole (records_of L R)
    unfolding taken_if_whole taken_of
    read_next h = cc (no_record L R (sym counted ∙ h))

    pub read_taken : (n ≡ 0 → ⊥) → (d : Needs) → d ≡ needs_of (records_of L R) → Read.Taken d ≡ taken_if_whole (records_of L R)
    unfolding taken_if_whole
    read_taken h d e = cc (some_taken (records_of L R) (some_record L R n counted h))

pub ruleset needs_laws = (needs_nothing, needs_tls, needs_authentication, not-true, not-false, rules)

pub ruleset secure_laws = (read_malformed, read_next, read_taken, not-true, not-false, rules)

-- the verdict on what was read is that on the answer
pub read_verdict_lem : (a : Answer) → read_verdict (read_of a) ≡ lookup_verdict a
unfolding read_of taken_of lookup_verdict any
read_verdict_lem (secure set) = go (any short set) set
  where
    go : (t : Bool) (set : List (List ℕ)) → read_verdict (cond t Read.LookupFailed (taken_of set)) ≡ cond t (some 22) none
    go true set = refl
    go false [] = refl
    go false (r ∷ set) = refl
read_verdict_lem insecure = refl
read_verdict_lem absent = refl
read_verdict_lem failed = refl

-- `TlsaAnswer::read`: r is what `read_secure` gave
module _ (a : TlsaAnswer) where
  module _ (set : Pieces) (h : a ≡ T.Secure set) (r : Read) (e : r ≡ taken_if_whole (records_in set)) where
    pub answer_secure : r ≡ read_of (answer_in a)
    unfolding read_of answer_in taken_if_whole
    answer_secure = rw h e

    pub verdict_secure : read_verdict r ≡ lookup_verdict (answer_in a)
    verdict_secure = ap read_verdict answer_secure ∙ read_verdict_lem (answer_in a)

  pub answer_insecure : a ≡ T.Insecure → Read.NextName ≡ read_of (answer_in a)
  unfolding read_of answer_in
  answer_insecure h = rw h

  pub verdict_insecure : a ≡ T.Insecure → none ≡ lookup_verdict (answer_in a)
  unfolding answer_in lookup_verdict any
  verdict_insecure h = rw h

  pub answer_absent : a ≡ T.Absent → Read.NextName ≡ read_of (answer_in a)
  unfolding read_of answer_in
  answer_absent h = rw h

  pub verdict_absent : a ≡ T.Absent → none ≡ lookup_verdict (answer_in a)
  unfolding answer_in lookup_verdict any
  verdict_absent h = rw h

  pub answer_failed : a ≡ T.Failed → Read.LookupFailed ≡ read_of (answer_in a)
  unfolding read_of answer_in
  answer_failed h = rw h

  pub verdict_failed : a ≡ T.Failed → some 22 ≡ lookup_verdict (answer_in a)
  unfolding answer_in lookup_verdict
  verdict_failed h = rw h

pub ruleset answer_laws = (answer_secure, verdict_secure, answer_insecure, verdict_insecure, answer_absent, verdict_absent, answer_failed, verdict_failed, rules)

-- `set_fits`: n is what `count` gave
module _ (set : Pieces) (n : ℕ) (ne : n ≡ length (numbers set.lengths.now)) where
  by_sizes : n ≤ 32 → (w : Bool) → w ≡ sums_to set.lengths.now (length set.bytes.now) → (w && all (at_most 4096) (numbers set.lengths.now)) ≡ (w && set_fits (records_in set))
  unfolding set_fits
  by_sizes h true e = rw (sizes 4096 set.bytes.now set.lengths.now true e refl, cut_count set.bytes.now (numbers set.lengths.now), ← ne, le-leb n 32 h)
  by_sizes h false e = refl

  pub fit_count : 32 < n → false ≡ set_keeps set
  unfolding set_keeps answer_fits set_fits
  fit_count h = rw (cut_count set.bytes.now (numbers set.lengths.now), ← ne, lt-leb n 32 h) (sym (and-false (sums_to set.lengths.now (length set.bytes.now))))

  pub fit_sizes : n ≤ 32 → (r : Bool) → r ≡ (sums_to set.lengths.now (length set.bytes.now) && all (at_most 4096) (numbers set.lengths.now)) → r ≡ set_keeps set
  unfolding set_keeps answer_fits
  fit_sizes h r re = re ∙ by_sizes h (sums_to set.lengths.now (length set.bytes.now)) refl

pub ruleset fit_laws = (fit_count, fit_sizes, rules)

-- `TlsaAnswer::fits`: r is what `set_fits` gave
module _ (a : TlsaAnswer) where
  pub fits_secure : (set : Pieces) → a ≡ T.Secure set → (r : Bool) → r ≡ set_keeps set → r ≡ answer_keeps a
  unfolding answer_keeps
  fits_secure set h r e = rw h e

  pub fits_insecure : a ≡ T.Insecure → true ≡ answer_keeps a
  unfolding answer_keeps
  fits_insecure h = rw h

  pub fits_absent : a ≡ T.Absent → true ≡ answer_keeps a
  unfolding answer_keeps
  fits_absent h = rw h

  pub fits_failed : a ≡ T.Failed → true ≡ answer_keeps a
  unfolding answer_keeps
  fits_failed h = rw h

pub ruleset fits_laws = (fits_secure, fits_insecure, fits_absent, fits_failed, rules)
