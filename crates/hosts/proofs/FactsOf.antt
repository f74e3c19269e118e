-- What `certificate_facts` and `answer_of` give. Assumes nothing.
use Prim.Native.Nat.{ℕ}
use mathlib.Core.Path.{◌≡◌, refl}
use mathlib.Core.Bool.{Bool, true, false}
use mathlib.Core.List.{List}
use lib.Dec.{eqb}
use borrow.Author.Rules.{rules}
use borrow.Author.Tests.{ne_eqb}
use Rattle.std.specs.Borrow.{Bor}
use Rattle.std.specs.Prelude as S
use Rattle.std.specs.Bool.{then_some}
use Rattle.tlsa.specs.declared.TlsaAnswer.TheVariants as T
use Rattle.numbers.specs.declared.Pieces.{Pieces}
use Rattle.tlsa.specs.Answer.{answer_of, answer_fits, answer_in, answer_keeps, set_keeps}
use Rattle.certificates.specs.Facts.{when, text_in, presented_by, presented_of}
use Rattle.certificates.specs.Limits.{names_fit, names_keep, facts_fit, facts_keep}
use Rattle.hosts.specs.declared.HostCall.{HostCall}
use Rattle.hosts.specs.Arguments.{said_by, lookup_of, presented_in}
use Rattle.hosts.specs.Call.{if_supplied, certificates_fit}

-- `certificate_facts`: n is the common name, or none
name_is : (t : Bool) (s : Bor (List ℕ)) → text_in (then_some t s) ≡ when t s.now
name_is true s = refl
name_is false s = refl

module _ (h : HostCall) (n : S.Option (Bor (List ℕ))) (ne : n ≡ then_some (eqb h.numbers.common_name_given 1) h.common_name) where
  pub facts_value : presented_by (record { chain = h.chain; trusted_root = eqb h.numbers.trusted_root 1; dns_ids = h.dns_ids; common_name = n }) ≡ presented_in (said_by h)
  unfolding presented_by presented_in presented_of
  facts_value = rw (ne, name_is (eqb h.numbers.common_name_given 1) h.common_name)

  pub facts_limits : if_supplied (eqb h.numbers.certificates_given 1) (facts_keep (record { chain = h.chain; trusted_root = eqb h.numbers.trusted_root 1; dns_ids = h.dns_ids; common_name = n })) ≡ certificates_fit (said_by h)
  unfolding facts_keep names_keep certificates_fit facts_fit names_fit
  facts_limits = rw (ne, name_is (eqb h.numbers.common_name_given 1) h.common_name)

-- `answer_of`, by its code
module _ (p : Pieces) (code : ℕ) where
  pub secure_value : code ≡ 1 → answer_in (T.Secure p) ≡ answer_of (lookup_of code) p.lengths.now p.bytes.now
  unfolding answer_in answer_of
  secure_value h = rw h

  pub secure_limits : code ≡ 1 → answer_keeps (T.Secure p) ≡ answer_fits (lookup_of code) p.lengths.now p.bytes.now
  unfolding answer_keeps set_keeps
  secure_limits h = rw h

  pub insecure_value : code ≡ 2 → answer_in T.Insecure ≡ answer_of (lookup_of code) p.lengths.now p.bytes.now
  unfolding answer_in answer_of
  insecure_value h = rw h

  pub insecure_limits : code ≡ 2 → answer_keeps T.Insecure ≡ answer_fits (lookup_of code) p.lengths.now p.bytes.now
  unfolding answer_keeps answer_fits
  insecure_limits h = rw h

  pub absent_value : code ≡ 3 → answer_in T.Absent ≡ answer_of (lookup_of code) p.lengths.now p.bytes.now
  unfolding answer_in answer_of
  absent_value h = rw h

  pub absent_limits : code ≡ 3 → answer_keeps T.Absent ≡ answer_fits (lookup_of code) p.lengths.now p.bytes.now
  unfolding answer_keeps answer_fits
  absent_limits h = rw h

  module _ (a : code ≡ 1 → ⊥) (b : code ≡ 2 → ⊥) (c : code ≡ 3 → ⊥) where
    pub failed_value : answer_in T.Failed ≡ answer_of (lookup_of code) p.lengths.now p.bytes.now
    unfolding answer_in answer_of
    failed_value = rw (ne_eqb code 1 a, ne_eqb code 2 b, ne_eqb code 3 c)

    pub failed_limits : answer_keeps T.Failed ≡ answer_fits (lookup_of code) p.lengths.now p.bytes.now
    unfolding answer_keeps answer_fits
    failed_limits = rw (ne_eqb code 1 a, ne_eqb code 2 b, ne_eqb code 3 c)

pub ruleset answer_of_laws = (secure_value, secure_limits, insecure_value, insecure_limits, absent_value, absent_limits, failed_value, failed_limits, rules)
