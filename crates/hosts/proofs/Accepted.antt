-- Arguments that the call accepts: every check passes, and the values of the facts keep the limits. Assumes nothing.
use Prim.Native.Nat.{ℕ, ◌+◌, ◌*◌, ◌<◌, ◌≤◌}
use mathlib.Core.Path.{◌≡◌, refl, sym, ◌∙◌, ap, subst}
use mathlib.Core.Bool.{Bool, true, false, not, cond, ◌&&◌, ◌||◌, and-false}
use mathlib.Core.List.{List, [], ◌∷◌}
use mathlib.Core.Option.{none, some}
use native.Mathlib.Omega.{arith}
use lib.Dec.{T, eqb, leb}
use lib.ListN.{length, get_or, take, drop}
use borrow.Author.Tests.{le-leb, eq-eqb, eqb-true}
use Rattle.lists.specs.Check.{Check}
use Rattle.lists.specs.Bytes.{all, is_bytes}
use Rattle.lists.proofs.Bools.{apart, and_left, and_right, and_intro, holds, by_true, or_right, neither_right, never}
use Rattle.lists.proofs.All.{all_take, all_drop, all_at}
use Rattle.lists.proofs.Laws.{part_length}
use Rattle.numbers.specs.Numbers.{numbers}
use Rattle.numbers.specs.Pieces.{cut, sums_to}
use Rattle.numbers.proofs.Cut.{cut_count, cut_all, numbered_all}
use Rattle.names.specs.Name.{is_name}
use Rattle.policies.specs.Policy.{policy_answer}
use Rattle.policies.proofs.Sanity.{is_policy_refusal, refusal_range, policy_number_lem}
use Rattle.tlsa.specs.Answer.{Lookup}
use Rattle.tlsa.specs.Answer as L
use Rattle.tlsa.specs.Answer.{answer_of, answer_fits, set_fits, records_of}
use Rattle.certificates.specs.Facts.{certificate_at, certificates_of, when, common_name_of, presented_of}
use Rattle.certificates.specs.Limits.{chain_keeps_limits, keeps_limits, one_for_each, chain_fits, names_fit, facts_fit}
use Rattle.certificates.proofs.Written.{name_of, facts_limits}
use Rattle.hosts.specs.declared.HostAnswer.{HostAnswer}
use Rattle.hosts.specs.Facts.{Handshake, established, failed, tlsa, first, second, starttls, handshake, certificates}
use Rattle.hosts.specs.Arguments.{Arguments, origin_of, address_of, is_alias, lookup_of, outcome_of, base_of, presented_in, facts_of}
use Rattle.hosts.specs.Call.{if_supplied, version_fits, codes_fit, clocks_fit, next_hops_fit, host_fits, host_names_fit, policy_fits, answers_fit, certificates_fit, checks, refused, checked, walked, host_answer}
use Rattle.hosts.specs.Demands.{is_refusal, IsPassed}
use Rattle.hosts.proofs.Trees.{GivenOk}
use Rattle.hosts.proofs.Values.{OkAnswer, sized, ok_certificate, OkPresented, OkHandshake, Ok}
use Rattle.hosts.proofs.TwoVerdicts.{OkName}

-- every check passes
pub record Passes (a : Arguments) : Type 0 where
  pub codes : codes_fit a ≡ true
  pub clocks : clocks_fit a ≡ true
  pub next_hop_lem : next_hops_fit a ≡ true
  pub names : host_names_fit a ≡ true
  pub body : policy_fits a ≡ true
  pub answers : answers_fit a ≡ true
  pub facts : certificates_fit a ≡ true

-- then the answer is that of the walk
pub walks : (a : Arguments) → Passes a → host_answer a ≡ walked (facts_of a)
unfolding host_answer checks
walks a p = rw (p.codes, p.clocks, p.next_hop_lem, p.names, p.body, p.answers, p.facts)

-- a policy that is not accepted is refused with 50, or 52 to 57
pub policy_refusal : (a : Arguments) → policy_fits a ≡ false → is_policy_refusal (policy_answer a.body).number ≡ true
unfolding policy_fits
policy_refusal a h = go (eqb (policy_answer a.body).number 7) (neither_right (not (eqb a.numbers.policy_given 1)) (eqb (policy_answer a.body).number 7) h) (policy_number_lem a.body)
  where
    go : (x : Bool) → x ≡ false → (x || is_policy_refusal (policy_answer a.body).number) ≡ true → is_policy_refusal (policy_answer a.body).number ≡ true
    go true e k = apart (sym e)
    go false e k = k

-- each check passes, or its refusal passes the test
abbrev pub refuses_by : (ℕ → Bool) → Check → Bool
refuses_by p c = c.passes || p c.refusal

-- the answer is a refusal that passes the test, or every check passes
pub refused_or : (p : ℕ → Bool) (cs : List Check) (r : HostAnswer) (P : HostAnswer → Type 0) → all (refuses_by p) cs ≡ true → ((n : ℕ) → p n ≡ true → P (refused n)) → (all (λ (c : Check). c.passes) cs ≡ true → P r) → P (checked cs r)
unfolding all
refused_or p [] r P h f g = g refl
refused_or p (c ∷ cs) r P h f g = go c.passes refl (refused_or p cs r P (and_right (refuses_by p c) (all (refuses_by p) cs) h) f)
  where
    go : (x : Bool) → c.passes ≡ x → ((all (λ (c : Check). c.passes) cs ≡ true → P r) → P (checked cs r)) → P (cond x (checked cs r) (refused c.refusal))
    go true e ih = ih (λ k. g (and_intro c.passes (all (λ (c : Check). c.passes) cs) e k))
    go false e ih = f c.refusal (sym (ap (λ (x : Bool). x || p c.refusal) e) ∙ and_left (refuses_by p c) (all (refuses_by p) cs) h)

module _ (p : ℕ → Bool) (fixed : (p 67 && p 62 && p 60 && p 61 && p 64 && p 65) ≡ true) (fifty : (n : ℕ) → is_policy_refusal n ≡ true → p n ≡ true) (a : Arguments) where
  policy_by : refuses_by p (record { passes = policy_fits a; refusal = (policy_answer a.body).number }) ≡ true
  policy_by = go (policy_fits a) refl
    where
      go : (x : Bool) → policy_fits a ≡ x → (x || p (policy_answer a.body).number) ≡ true
      go true e = refl
      go false e = fifty (policy_answer a.body).number (policy_refusal a e)

  -- a test of 67, 62, 60, 61, 50, 52 to 57, 64 and 65 is a test of every refusal of the checks
  pub refusals : all (refuses_by p) (checks a) ≡ true
  unfolding checks all
  refusals =
      let f5 = and_left (p 67 && p 62 && p 60 && p 61 && p 64) (p 65) fixed in
      let f4 = and_left (p 67 && p 62 && p 60 && p 61) (p 64) f5 in
      let f3 = and_left (p 67 && p 62 && p 60) (p 61) f4 in
      let f2 = and_left (p 67 && p 62) (p 60) f3 in
      and_intro (refuses_by p (record { passes = codes_fit a; refusal = 67 })) _ (or_right (codes_fit a) (p 67) (and_left (p 67) (p 62) f2))
      (and_intro (refuses_by p (record { passes = clocks_fit a; refusal = 62 })) _ (or_right (clocks_fit a) (p 62) (and_right (p 67) (p 62) f2))
      (and_intro (refuses_by p (record { passes = next_hops_fit a; refusal = 60 })) _ (or_right (next_hops_fit a) (p 60) (and_right (p 67 && p 62) (p 60) f3))
      (and_intro (refuses_by p (record { passes = host_names_fit a; refusal = 61 })) _ (or_right (host_names_fit a) (p 61) (and_right (p 67 && p 62 && p 60) (p 61) f4))
      (and_intro (refuses_by p (record { passes = policy_fits a; refusal = (policy_answer a.body).number })) _ policy_by
      (and_intro (refuses_by p (record { passes = answers_fit a; refusal = 64 })) _ (or_right (answers_fit a) (p 64) (and_right (p 67 && p 62 && p 60 && p 61) (p 64) f5))
      (and_intro (refuses_by p (record { passes = certificates_fit a; refusal = 65 })) true (or_right (certificates_fit a) (p 65) (and_right (p 67 && p 62 && p 60 && p 61 && p 64) (p 65) fixed)) refl))))))

-- the checks, one by one
pub each_passes : (a : Arguments) → all (λ (c : Check). c.passes) (checks a) ≡ true → Passes a
unfolding checks all
each_passes a h =
    let h2 = and_right (codes_fit a) _ h in
    let h3 = and_right (clocks_fit a) _ h2 in
    let h4 = and_right (next_hops_fit a) _ h3 in
    let h5 = and_right (host_names_fit a) _ h4 in
    let h6 = and_right (policy_fits a) _ h5 in
    let h7 = and_right (answers_fit a) _ h6 in
    record {
      codes = and_left (codes_fit a) _ h;
      clocks = and_left (clocks_fit a) _ h2;
      next_hop_lem = and_left (next_hops_fit a) _ h3;
      names = and_left (host_names_fit a) _ h4;
      body = and_left (policy_fits a) _ h5;
      answers = and_left (answers_fit a) _ h6;
      facts = and_left (certificates_fit a) true h7;
    }

-- any test of refusals and of the walk's answer
pub by_answer_of : (p : ℕ → Bool) → (p 67 && p 62 && p 60 && p 61 && p 64 && p 65) ≡ true → ((n : ℕ) → is_policy_refusal n ≡ true → p n ≡ true)
    → (a : Arguments) (P : HostAnswer → Type 0) → ((n : ℕ) → p n ≡ true → P (refused n)) → (Passes a → P (walked (facts_of a))) → P (host_answer a)
unfolding host_answer
by_answer_of p fixed fifty a P f g = refused_or p (checks a) (walked (facts_of a)) P (refusals p fixed fifty a) f (λ k. g (each_passes a k))

fifty_refuses : (n : ℕ) → is_policy_refusal n ≡ true → is_refusal n ≡ true
fifty_refuses n h = le-leb 40 n (omega (arith, (refusal_range n h).0))

-- what is not refused passes every check
pub accepted_passes : (a : Arguments) → (T (is_refusal (host_answer a).number) → ⊥) → Passes a
accepted_passes a = by_answer_of is_refusal refl fifty_refuses a (λ (r : HostAnswer). (T (is_refusal r.number) → ⊥) → Passes a) (λ n h k. absurd (k (by_true (is_refusal n) h))) (λ p k. p)

-- bytes

abbrev pub slices : Arguments → List (List ℕ)
slices a = a.next_hop ∷ a.expanded_next_hop ∷ a.host ∷ a.expanded ∷ a.body ∷ a.lengths1 ∷ a.records1 ∷ a.lengths2 ∷ a.records2 ∷ a.certificates ∷ a.certificate_lengths ∷ a.key_places ∷ a.digests ∷ a.paths ∷ a.dns_ids ∷ a.dns_id_lengths ∷ a.common_name ∷ []

-- the slice at a place, in the boundary's order
pub slice_bytes : (a : Arguments) → IsPassed a → (i : ℕ) → i < 17 → is_bytes (get_or (slices a) i []) ≡ true
slice_bytes a h i k = all_at is_bytes [] (slices a) i k (holds (all is_bytes (slices a)) h.slices)

abbrev pub numbers_in : Arguments → List ℕ
numbers_in a = a.numbers.clock ∷ a.numbers.expanded_next_hop_given ∷ a.numbers.origin ∷ a.numbers.address ∷ a.numbers.policy_given ∷ a.numbers.fetched ∷ a.numbers.tlsa_answers ∷ a.numbers.tlsa1_result ∷ a.numbers.tlsa2_result ∷ a.numbers.starttls ∷ a.numbers.handshake ∷ a.numbers.tls_version ∷ a.numbers.certificates_given ∷ a.numbers.trusted_root ∷ a.numbers.common_name_given ∷ []

abbrev pub is_number : ℕ → Bool
is_number n = leb n 18446744073709551615

pub number_fits : (a : Arguments) → IsPassed a → (i : ℕ) → i < 15 → is_number (get_or (numbers_in a) i 0) ≡ true
number_fits a h i k = all_at is_number 0 (numbers_in a) i k (holds (all is_number (numbers_in a)) h.numbers)

-- TLSA answers

answer_ok : (l : Lookup) (lengths records : List ℕ) → answer_fits l lengths records ≡ true → is_bytes records ≡ true → OkAnswer (answer_of l lengths records)
unfolding answer_fits answer_of
answer_ok L.Secure lengths records h k = (and_right (sums_to lengths (length records)) (set_fits (records_of lengths records)) h, cut_all (λ (b : ℕ). leb b 255) records (numbers lengths) k)
answer_ok L.Insecure lengths records h k = tt
answer_ok L.Absent lengths records h k = tt
answer_ok L.Failed lengths records h k = tt

-- certificate facts

digest_ok : (D : List ℕ) (at n : ℕ) → at + n ≤ length D → is_bytes D ≡ true → sized n (take n (drop at D)) ≡ true
digest_ok D at n h b = and_intro (eqb (length (take n (drop at D))) n) (is_bytes (take n (drop at D))) (eq-eqb (length (take n (drop at D))) n (part_length D at n h)) (all_take (λ (x : ℕ). leb x 255) n (drop at D) (all_drop (λ (x : ℕ). leb x 255) at D b))

certificate_ok : (P D Q : List ℕ) (n j : ℕ) (x : List ℕ) → length D ≡ n * 192 → is_bytes D ≡ true → j < n → is_bytes x ≡ true → ok_certificate (certificate_at P D Q j x) ≡ true
unfolding ok_certificate certificate_at
certificate_ok P D Q n j x l b h k = rw (k, digest_ok D (j * 192 + 0) 32 (omega arith) b, digest_ok D (j * 192 + 32) 64 (omega arith) b, digest_ok D (j * 192 + 96) 32 (omega arith) b, digest_ok D (j * 192 + 128) 64 (omega arith) b)

chain_ok : (C L P D Q : List ℕ) → one_for_each (length (numbers L)) P D Q ≡ true → is_bytes C ≡ true → is_bytes D ≡ true → all ok_certificate (certificates_of C L P D Q) ≡ true
unfolding one_for_each certificates_of
chain_ok C L P D Q h c d =
    let n : ℕ = length (numbers L) in
    let l : length D ≡ n * 192 = eqb-true (length D) (n * 192) (and_right (eqb (length P) (n * 8)) (eqb (length D) (n * 192)) (and_left (eqb (length P) (n * 8) && eqb (length D) (n * 192)) (eqb (length Q) (n * 4)) h)) in
    numbered_all ok_certificate is_bytes (certificate_at P D Q) n (λ j x k b. certificate_ok P D Q n j x l d k b) 0 (cut C (numbers L)) (omega (arith, cut_count C (numbers L))) (cut_all (λ (b : ℕ). leb b 255) C (numbers L) c)

common_ok : (given : Bool) (name : List ℕ) → is_bytes name ≡ true → is_bytes (name_of (common_name_of given name)) ≡ true
unfolding all
common_ok true name h = h
common_ok false name h = refl

module _ (C L P D Q I X N : List ℕ) (root given : Bool) (h : facts_fit C L P D Q I X given N ≡ true) where
  chain_fits_lem : chain_fits C L P D Q ≡ true
  unfolding facts_fit
  chain_fits_lem = and_left (chain_fits C L P D Q) (names_fit I X given N) h

  one_each : one_for_each (length (numbers L)) P D Q ≡ true
  unfolding chain_fits
  one_each = and_right (sums_to L (length C) && chain_keeps_limits (certificates_of C L P D Q)) (one_for_each (length (numbers L)) P D Q) chain_fits_lem

  facts_ok : is_bytes C ≡ true → is_bytes D ≡ true → is_bytes I ≡ true → is_bytes N ≡ true → OkPresented (presented_of C L P D Q root I X given N)
  unfolding presented_of keeps_limits
  facts_ok c d i n = record {
    limits = facts_limits C L P D Q root I X given N h;
    each = chain_ok C L P D Q one_each c d;
    ids = cut_all (λ (b : ℕ). leb b 255) I (numbers X) i;
    name = common_ok given N n;
  }

-- what is given where a test holds
given_when : {A : Type 0} (P : A → Type 0) (t : Bool) (x v : A) → (t ≡ true → P x) → when t x ≡ some v → P v
given_when P true x v h e = let z : x ≡ v = cc in subst P z (h refl)
given_when P false x v h e = never cc

supplied : (s t : Bool) → if_supplied s t ≡ true → s ≡ true → t ≡ true
supplied true t h e = h
supplied false t h e = apart e

-- a version of over two bytes is no code
pub bad_version : (a : Arguments) → version_fits a.numbers ≡ false → codes_fit a ≡ false
unfolding codes_fit
bad_version a e = simp (e, and-false)

module _ (a : Arguments) (passed : IsPassed a) (p : Passes a) where
  first_ok : leb 1 a.numbers.tlsa_answers ≡ true → OkAnswer (answer_of (lookup_of a.numbers.tlsa1_result) a.lengths1 a.records1)
  unfolding answers_fit
  first_ok e = answer_ok (lookup_of a.numbers.tlsa1_result) a.lengths1 a.records1 (supplied (leb 1 a.numbers.tlsa_answers) _ (and_left (if_supplied (leb 1 a.numbers.tlsa_answers) (answer_fits (lookup_of a.numbers.tlsa1_result) a.lengths1 a.records1)) _ p.answers) e) (slice_bytes a passed 6 (omega arith))

  second_ok : leb 2 a.numbers.tlsa_answers ≡ true → OkAnswer (answer_of (lookup_of a.numbers.tlsa2_result) a.lengths2 a.records2)
  unfolding answers_fit
  second_ok e = answer_ok (lookup_of a.numbers.tlsa2_result) a.lengths2 a.records2 (supplied (leb 2 a.numbers.tlsa_answers) _ (and_right (if_supplied (leb 1 a.numbers.tlsa_answers) (answer_fits (lookup_of a.numbers.tlsa1_result) a.lengths1 a.records1)) _ p.answers) e) (slice_bytes a passed 8 (omega arith))

  presented_ok : eqb a.numbers.certificates_given 1 ≡ true → OkPresented (presented_in a)
  unfolding certificates_fit presented_in
  presented_ok e =
      facts_ok a.certificates a.certificate_lengths a.key_places a.digests a.paths a.dns_ids a.dns_id_lengths a.common_name (eqb a.numbers.trusted_root 1) (eqb a.numbers.common_name_given 1)
      (supplied (eqb a.numbers.certificates_given 1) _ p.facts e)
      (slice_bytes a passed 9 (omega arith)) (slice_bytes a passed 12 (omega arith)) (slice_bytes a passed 14 (omega arith)) (slice_bytes a passed 16 (omega arith))

  -- the version of an established handshake has two bytes
  version_fits_lem : version_fits a.numbers ≡ true
  version_fits_lem = go (version_fits a.numbers) refl
    where
      go : (t : Bool) → version_fits a.numbers ≡ t → t ≡ true
      go true e = refl
      go false e = apart (sym (bad_version a e) ∙ p.codes)

  outcome_ok : (m : Handshake) → outcome_of a.numbers.handshake a.numbers.tls_version ≡ some m → OkHandshake m
  outcome_ok m e = go (eqb a.numbers.handshake 0) (eqb a.numbers.handshake 1) version_fits_lem e
    where
      go : (x y : Bool) → if_supplied y (leb a.numbers.tls_version 65535) ≡ true → cond x none (some (cond y (established a.numbers.tls_version) failed)) ≡ some m → OkHandshake m
      go true y h k = never cc
      go false true h k = let z : established a.numbers.tls_version ≡ m = cc in subst OkHandshake z h
      go false false h k = let z : failed ≡ m = cc in subst OkHandshake z tt

  -- the facts given keep the limits
  pub given_ok : GivenOk Ok (facts_of a)
  unfolding facts_of
  given_ok (tlsa first) v e = given_when OkAnswer (leb 1 a.numbers.tlsa_answers) (answer_of (lookup_of a.numbers.tlsa1_result) a.lengths1 a.records1) v first_ok e
  given_ok (tlsa second) v e = given_when OkAnswer (leb 2 a.numbers.tlsa_answers) (answer_of (lookup_of a.numbers.tlsa2_result) a.lengths2 a.records2) v second_ok e
  given_ok starttls v e = tt
  given_ok handshake v e = outcome_ok v e
  given_ok certificates v e = given_when OkPresented (eqb a.numbers.certificates_given 1) (presented_in a) v presented_ok e

  -- the host and, under an alias, the expanded name are names
  pub host_ok : OkName (base_of a).host
  unfolding base_of host_names_fit
  host_ok = (and_left (is_name a.host) (host_fits (origin_of a.numbers.origin) a.host a.next_hop) (and_left (is_name a.host && host_fits (origin_of a.numbers.origin) a.host a.next_hop) (if_supplied (is_alias (address_of a.numbers.address)) (is_name a.expanded)) p.names), slice_bytes a passed 2 (omega arith))

  pub expanded_ok : is_alias (base_of a).address ≡ true → OkName (base_of a).expanded
  unfolding base_of host_names_fit
  expanded_ok e = go (is_alias (address_of a.numbers.address)) (and_right (is_name a.host && host_fits (origin_of a.numbers.origin) a.host a.next_hop) (if_supplied (is_alias (address_of a.numbers.address)) (is_name a.expanded)) p.names) e
    where
      go : (x : Bool) → if_supplied x (is_name a.expanded) ≡ true → x ≡ true → OkName (cond x a.expanded [])
      go true h t = (h, slice_bytes a passed 3 (omega arith))
      go false h t = apart t
