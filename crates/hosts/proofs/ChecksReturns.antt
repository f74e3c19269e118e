-- The returns of the argument checks. Assumes nothing.
use Prim.Native.Nat.{ℕ, ◌<◌, ◌≤◌}
use mathlib.Core.Path.{◌≡◌}
use mathlib.Core.Bool.{Bool, true, false, ◌&&◌, and_assoc}
use mathlib.Core.List.{List}
use lib.Dec.{eqb, leb}
use borrow.Author.Rules.{rules}
use borrow.Author.Tests.{not-true, not-false, lt-leb, le-leb, ne_eqb}
use Rattle.lists.specs.Bytes.{within, all}
use Rattle.lists.specs.Equal.{same_text}
use Rattle.numbers.specs.Numbers.{numbers}
use Rattle.names.specs.Name.{is_name}
use Rattle.clock.specs.Clock.{is_reading}
use Rattle.tlsa.specs.declared.Address.{Address}
use Rattle.tlsa.specs.Answer.{answer_fits}
use Rattle.certificates.specs.declared.Origin.{Origin}
use Rattle.certificates.specs.Limits.{yes_no}
use Rattle.hosts.specs.declared.HostAnswer.{HostAnswer}
use Rattle.hosts.specs.declared.Numbers.{Numbers}
use Rattle.std.specs.Prelude as S
use Rattle.tlsa.specs.declared.TlsaAnswer.{TlsaAnswer}
use Rattle.tlsa.specs.Answer.{answer_keeps}
use Rattle.certificates.specs.declared.CertificateFacts.{CertificateFacts}
use Rattle.certificates.specs.Limits.{facts_keep}
use Rattle.hosts.specs.Arguments.{Arguments, origin_of, address_of, is_alias, lookup_of}
use Rattle.hosts.specs.Call.{if_supplied, version_fits, host_fits, codes_fit, clocks_fit, next_hops_fit, host_names_fit, answers_fit, certificates_fit}
use Rattle.hosts.specs.Stages.{base_codes_fit, later_codes_fit, certificate_codes_fit, first_refusal, last_refusal, saying}

-- what is supplied is tested, what is not passes: `result_fits`
pub supplied_is : (s t r : Bool) → s ≡ true → r ≡ t → r ≡ if_supplied s t
supplied_is s t r h e = cc

pub supplied_not : (s t : Bool) → s ≡ false → true ≡ if_supplied s t
supplied_not s t h = cc

pub ruleset supplied_laws = (supplied_is, supplied_not, not-true, not-false, rules)

-- `answer_fits`: a is the answer
pub answer_is : (s : Bool) (code : ℕ) (L R : List ℕ) (a : TlsaAnswer) (r : Bool) → s ≡ true → answer_keeps a ≡ answer_fits (lookup_of code) L R → r ≡ answer_keeps a → r ≡ if_supplied s (answer_fits (lookup_of code) L R)
answer_is s code L R a r h e g = cc

pub ruleset answer_laws = (answer_is, supplied_not, not-true, not-false, rules)

-- `base_codes_fit`: x, o, a, p are what its calls gave
module _ (n : Numbers) (x : Bool) (xe : x ≡ within 1 2 n.expanded_next_hop_given) where
  pub base_expanded : x ≡ false → false ≡ base_codes_fit n
  unfolding base_codes_fit
  base_expanded t = cc

  module _ (xt : x ≡ true) (o : Bool) (oe : o ≡ within 1 3 n.origin) where
    pub base_origin : o ≡ false → false ≡ base_codes_fit n
    unfolding base_codes_fit
    base_origin t = cc

    module _ (ot : o ≡ true) (a : Bool) (ae : a ≡ within 1 7 n.address) where
      pub base_address : a ≡ false → false ≡ base_codes_fit n
      unfolding base_codes_fit
      base_address t = cc

      module _ (at : a ≡ true) (p : Bool) (pe : p ≡ within 1 2 n.policy_given) where
        pub base_policy : p ≡ false → false ≡ base_codes_fit n
        unfolding base_codes_fit
        base_policy t = cc

        pub base_answers : p ≡ true → leb n.tlsa_answers 2 ≡ base_codes_fit n
        unfolding base_codes_fit
        base_answers t = cc

pub ruleset base_laws = (base_expanded, base_origin, base_address, base_policy, base_answers, not-true, not-false, rules)

-- `later_codes_fit`: f, s, v are what its calls gave
module _ (n : Numbers) (f : Bool) (fe : f ≡ if_supplied (leb 1 n.tlsa_answers) (within 1 4 n.tlsa1_result)) where
  pub later_first : f ≡ false → false ≡ later_codes_fit n
  unfolding later_codes_fit
  later_first t = cc

  module _ (ft : f ≡ true) (s : Bool) (se : s ≡ if_supplied (leb 2 n.tlsa_answers) (within 1 4 n.tlsa2_result)) where
    pub later_second : s ≡ false → false ≡ later_codes_fit n
    unfolding later_codes_fit
    later_second t = cc

    module _ (st : s ≡ true) where
      pub later_starttls : 2 < n.starttls → false ≡ later_codes_fit n
      unfolding later_codes_fit
      later_starttls h = cc (lt-leb n.starttls 2 h)

      module _ (o : n.starttls ≤ 2) where
        pub later_handshake : 2 < n.handshake → false ≡ later_codes_fit n
        unfolding later_codes_fit
        later_handshake h = cc (le-leb n.starttls 2 o, lt-leb n.handshake 2 h)

        module _ (h : n.handshake ≤ 2) (v : Bool) (ve : v ≡ version_fits n) where
          pub later_version : v ≡ false → false ≡ later_codes_fit n
          unfolding later_codes_fit
          later_version t = cc (le-leb n.starttls 2 o, le-leb n.handshake 2 h)

          pub later_certificates : v ≡ true → leb n.certificates_given 1 ≡ later_codes_fit n
          unfolding later_codes_fit
          later_certificates t = cc (le-leb n.starttls 2 o, le-leb n.handshake 2 h)

pub ruleset later_laws = (later_first, later_second, later_starttls, later_handshake, later_version, later_certificates, not-true, not-false, rules)

-- `certificate_codes_fit`: a, t, r are what its calls gave
module _ (n : Numbers) (Q : List ℕ) where
  pub certificate_none : (n.certificates_given ≡ 1 → ⊥) → true ≡ certificate_codes_fit n Q
  unfolding certificate_codes_fit
  certificate_none h = cc (ne_eqb n.certificates_given 1 h)

  module _ (given : n.certificates_given ≡ 1) (a : Bool) (ae : a ≡ all yes_no (numbers Q)) where
    pub certificate_paths : a ≡ false → false ≡ certificate_codes_fit n Q
    unfolding certificate_codes_fit
    certificate_paths t = cc

    module _ (at : a ≡ true) (t : Bool) (te : t ≡ yes_no n.trusted_root) where
      pub certificate_root : t ≡ false → false ≡ certificate_codes_fit n Q
      unfolding certificate_codes_fit
      certificate_root f = cc

      pub certificate_name : t ≡ true → (r : Bool) → r ≡ yes_no n.common_name_given → r ≡ certificate_codes_fit n Q
      unfolding certificate_codes_fit
      certificate_name h r e = cc

pub ruleset certificate_laws = (certificate_none, certificate_paths, certificate_root, certificate_name, not-true, not-false, rules)

-- `codes_fit`: the codes in three groups; b, l and c are what its calls gave
pub codes_are : (a : Arguments) → (base_codes_fit a.numbers && later_codes_fit a.numbers && certificate_codes_fit a.numbers a.paths) ≡ codes_fit a
unfolding codes_fit base_codes_fit later_codes_fit certificate_codes_fit
codes_are a = simp and_assoc

module _ (a : Arguments) (b : Bool) (be : b ≡ base_codes_fit a.numbers) where
  pub codes_base : b ≡ false → false ≡ codes_fit a
  codes_base h = cc (codes_are a)

  module _ (bt : b ≡ true) (l : Bool) (le : l ≡ later_codes_fit a.numbers) where
    pub codes_later : l ≡ false → false ≡ codes_fit a
    codes_later h = cc (codes_are a)

    pub codes_last : l ≡ true → (r : Bool) → r ≡ certificate_codes_fit a.numbers a.paths → r ≡ codes_fit a
    codes_last h r e = cc (codes_are a)

pub ruleset codes_laws = (codes_base, codes_later, codes_last, not-true, not-false, rules)

-- `clocks_fit`: t is what its first call gave
module _ (a : Arguments) (t : Bool) (te : t ≡ is_reading a.numbers.clock) where
  pub clocks_present : t ≡ false → false ≡ clocks_fit a
  unfolding clocks_fit
  clocks_present h = cc

  pub clocks_alone : t ≡ true → (a.numbers.policy_given ≡ 1 → ⊥) → true ≡ clocks_fit a
  unfolding clocks_fit
  clocks_alone h k = cc (ne_eqb a.numbers.policy_given 1 k)

  pub clocks_fetched : t ≡ true → a.numbers.policy_given ≡ 1 → (r : Bool) → r ≡ is_reading a.numbers.fetched → r ≡ clocks_fit a
  unfolding clocks_fit
  clocks_fetched h k r e = cc

pub ruleset clocks_laws = (clocks_present, clocks_alone, clocks_fetched, not-true, not-false, rules)

-- `next_hops_fit`: t is what its first call gave
module _ (a : Arguments) (t : Bool) (te : t ≡ is_name a.next_hop) where
  pub hops_first : t ≡ false → false ≡ next_hops_fit a
  unfolding next_hops_fit
  hops_first h = cc

  module _ (tt : t ≡ true) where
    pub hops_alone : (a.numbers.expanded_next_hop_given ≡ 1 → ⊥) → true ≡ next_hops_fit a
    unfolding next_hops_fit
    hops_alone h = cc (ne_eqb a.numbers.expanded_next_hop_given 1 h)

    pub hops_both : a.numbers.expanded_next_hop_given ≡ 1 → (r : Bool) → r ≡ is_name a.expanded_next_hop → r ≡ next_hops_fit a
    unfolding next_hops_fit
    hops_both h r e = cc

pub ruleset hops_laws = (hops_first, hops_alone, hops_both, not-true, not-false, rules)

-- `host_fits`
module _ (origin : Origin) (host hop : List ℕ) where
  pub host_secure : origin ≡ Origin.SecureMx → true ≡ host_fits origin host hop
  host_secure e = rw e

  pub host_insecure : origin ≡ Origin.InsecureMx → true ≡ host_fits origin host hop
  host_insecure e = rw e

  pub host_same : origin ≡ Origin.NoMx → (r : Bool) → r ≡ same_text host hop → r ≡ host_fits origin host hop
  host_same e r g = rw e g

pub ruleset host_laws = (host_secure, host_insecure, host_same, rules)

-- `host_names_fit`: t, o, f, d, s are what its calls gave
module _ (a : Arguments) (t : Bool) (te : t ≡ is_name a.host) where
  pub names_host : t ≡ false → false ≡ host_names_fit a
  unfolding host_names_fit
  names_host h = cc

  module _ (tt : t ≡ true) (o : Origin) (oe : o ≡ origin_of a.numbers.origin) (f : Bool) (fe : f ≡ host_fits o a.host a.next_hop) where
    pub names_same : f ≡ false → false ≡ host_names_fit a
    unfolding host_names_fit
    names_same h = cc

    module _ (ft : f ≡ true) (d : Address) (de : d ≡ address_of a.numbers.address) (s : Bool) (se : s ≡ is_alias d) where
      pub names_plain : s ≡ false → true ≡ host_names_fit a
      unfolding host_names_fit
      names_plain h = cc

      pub names_alias : s ≡ true → (r : Bool) → r ≡ is_name a.expanded → r ≡ host_names_fit a
      unfolding host_names_fit
      names_alias h r e = cc

pub ruleset names_laws = (names_host, names_same, names_plain, names_alias, not-true, not-false, rules)

-- `check_first`: c, k, m, h are what its calls gave, x is the answer of a refusal
module _ (a : Arguments) (c : Bool) (ce : c ≡ codes_fit a) where
  pub first_67 : c ≡ false → (x : HostAnswer) → x ≡ saying 67 0 → S.Err x ≡ first_refusal a
  unfolding first_refusal
  first_67 t x e = rw (← ce, t, e)

  module _ (ct : c ≡ true) (k : Bool) (ke : k ≡ clocks_fit a) where
    pub first_62 : k ≡ false → (x : HostAnswer) → x ≡ saying 62 0 → S.Err x ≡ first_refusal a
    unfolding first_refusal
    first_62 t x e = rw (← ce, ct, ← ke, t, e)

    module _ (kt : k ≡ true) (m : Bool) (me : m ≡ next_hops_fit a) where
      pub first_60 : m ≡ false → (x : HostAnswer) → x ≡ saying 60 0 → S.Err x ≡ first_refusal a
      unfolding first_refusal
      first_60 t x e = rw (← ce, ct, ← ke, kt, ← me, t, e)

      module _ (mt : m ≡ true) (h : Bool) (he : h ≡ host_names_fit a) where
        pub first_61 : h ≡ false → (x : HostAnswer) → x ≡ saying 61 0 → S.Err x ≡ first_refusal a
        unfolding first_refusal
        first_61 t x e = rw (← ce, ct, ← ke, kt, ← me, mt, ← he, t, e)

        pub first_none : h ≡ true → S.Ok tt ≡ first_refusal a
        unfolding first_refusal
        first_none t = rw (← ce, ct, ← ke, kt, ← me, mt, ← he, t)

pub ruleset first_laws = (first_67, first_62, first_60, first_61, first_none, not-true, not-false, rules)

-- `answers_fit`: f and s are what its calls gave
module _ (a : Arguments) (f : Bool) (fe : f ≡ if_supplied (leb 1 a.numbers.tlsa_answers) (answer_fits (lookup_of a.numbers.tlsa1_result) a.lengths1 a.records1)) where
  pub last_first : f ≡ false → false ≡ answers_fit a
  unfolding answers_fit
  last_first t = cc

  pub last_second : f ≡ true → (s : Bool) → s ≡ if_supplied (leb 2 a.numbers.tlsa_answers) (answer_fits (lookup_of a.numbers.tlsa2_result) a.lengths2 a.records2) → s ≡ answers_fit a
  unfolding answers_fit
  last_second t s e = cc

pub ruleset last_laws = (last_first, last_second, not-true, not-false, rules)

-- `certificates_fit`: p are the facts
module _ (a : Arguments) where
  pub facts_none : (a.numbers.certificates_given ≡ 1 → ⊥) → true ≡ certificates_fit a
  unfolding certificates_fit
  facts_none h = cc (ne_eqb a.numbers.certificates_given 1 h)

  pub facts_given : a.numbers.certificates_given ≡ 1 → (p : CertificateFacts) → if_supplied (eqb a.numbers.certificates_given 1) (facts_keep p) ≡ certificates_fit a → (r : Bool) → r ≡ facts_keep p → r ≡ certificates_fit a
  facts_given h p e r g = cc

pub ruleset facts_laws = (facts_none, facts_given, rules)

-- `check_last`: f and c are what its calls gave, x is the answer of a refusal
module _ (a : Arguments) (f : Bool) (fe : f ≡ answers_fit a) where
  pub last_64 : f ≡ false → (x : HostAnswer) → x ≡ saying 64 0 → S.Err x ≡ last_refusal a
  unfolding last_refusal
  last_64 t x e = rw (← fe, t, e)

  module _ (ft : f ≡ true) (c : Bool) (ce : c ≡ certificates_fit a) where
    pub last_65 : c ≡ false → (x : HostAnswer) → x ≡ saying 65 0 → S.Err x ≡ last_refusal a
    unfolding last_refusal
    last_65 t x e = rw (← fe, ft, ← ce, t, e)

    pub last_none : c ≡ true → S.Ok tt ≡ last_refusal a
    unfolding last_refusal
    last_none t = rw (← fe, ft, ← ce, t)

pub ruleset refusal_laws = (last_64, last_65, last_none, not-true, not-false, rules)
