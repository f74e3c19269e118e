-- The returns of the stages of the walk. Assumes nothing.
use Prim.Native.Nat.{ℕ, ◌+◌, ◌<◌, ◌≤◌}
use mathlib.Core.Path.{◌≡◌, refl, sym, ◌∙◌}
use mathlib.Core.Bool.{Bool, true, false, cond, not, ◌&&◌, ◌||◌}
use mathlib.Core.List.{List}
use mathlib.Core.Option.{none, some}
use lib.Dec.{eqb, leb}
use borrow.Author.Rules.{rules}
use borrow.Author.Tests.{not-true, not-false, lt-ltb, le-ltb, lt-leb, le-leb, ne_eqb}
use Rattle.clock.specs.Clock.{is_live}
use Rattle.policies.specs.declared.PolicyAnswer.{PolicyAnswer}
use Rattle.policies.specs.declared.PolicyFor.{PolicyFor}
use Rattle.policies.specs.Policy.{policy_for}
use Rattle.tlsa.specs.declared.Address.{Address}
use Rattle.tlsa.specs.declared.Address.TheVariants as A
use Rattle.tlsa.specs.declared.Needs.{Needs}
use Rattle.tlsa.specs.declared.Needs.TheVariants as N
use Rattle.tlsa.specs.declared.Read.{Read}
use Rattle.tlsa.specs.declared.Read.TheVariants as R
use Rattle.tlsa.specs.declared.Tries.{Tries}
use Rattle.tlsa.specs.declared.Tries.TheVariants.{ExpandedThenHost, HostOnly, NoName, AddressFailed, AddressMissing}
use Rattle.tlsa.specs.Address.{names_to_try, meaning_of}
use Rattle.tlsa.specs.Answer.{answer_of, read_of, lookup_verdict, read_verdict}
use Rattle.tlsa.proofs.Meaning.{meaning_one}
use Rattle.certificates.specs.Facts.{Presented, when}
use Rattle.certificates.specs.Checks.{references, dane_passes, shows_host}
use Rattle.hosts.specs.declared.HostAnswer.{HostAnswer}
use Rattle.std.specs.Prelude as S
use Rattle.std.specs.Result.{IsErrAnd}
use Rattle.hosts.specs.declared.Found.{Found}
use Rattle.hosts.specs.Facts.{established, failed, is_given}
use Rattle.hosts.specs.Rules.{is_authentication, is_tls, is_old, last_verdict}
use Rattle.tlsa.specs.declared.TlsaAnswer.{TlsaAnswer}
use Rattle.tlsa.specs.Answer.{answer_in}
use Rattle.hosts.specs.Arguments.{Arguments, origin_of, address_of, lookup_of, offered_of, outcome_of, presented_in}
use Rattle.hosts.specs.Stages.{no_policy, given_policy, policy_needs, read_given, later_given, asking, saying, read_stage, host_read, at_host, expanded_read, at_expanded, Stage, tries_of, names_stage, first_stage, Connection, handshake_stage, connection, domain_of, records_at, certificate_verdict, found_answer, walk_answer, answer_of_walk}

-- `ask`
module _ (number n : ℕ) (later : Bool) (x : HostAnswer) where
  pub ask_early : later ≡ true → x ≡ saying 66 0 → x ≡ asking number n later
  ask_early h e = rw h e

  pub ask_now : later ≡ false → x ≡ saying number n → x ≡ asking number n later
  ask_now h e = rw h e

pub ruleset ask_laws = (ask_early, ask_now, rules)

-- `given_policy`
module _ (given : ℕ) (body host : List ℕ) where
  pub policy_given : given ≡ 1 → (x : PolicyFor) → x ≡ policy_for body host → x ≡ given_policy given body host
  unfolding given_policy
  policy_given h x e = cc

  pub policy_none : (given ≡ 1 → ⊥) → no_policy ≡ given_policy given body host
  unfolding given_policy
  policy_none h = cc (ne_eqb given 1 h)

pub ruleset policy_laws = (policy_given, policy_none, rules)

-- `policy_needs`
module _ (p : PolicyAnswer) (fetched clock : ℕ) where
  pub needs_other : (p.mode ≡ 1 → ⊥) → false ≡ policy_needs p fetched clock
  unfolding policy_needs
  needs_other h = cc (ne_eqb p.mode 1 h)

  pub needs_live : p.mode ≡ 1 → (r : Bool) → r ≡ is_live fetched p.lifetime clock → r ≡ policy_needs p fetched clock
  unfolding policy_needs
  needs_live h r e = cc

pub ruleset policy_needs_laws = (needs_other, needs_live, rules)

-- `is_unlisted`
module _ (e t : Bool) where
  pub unlisted_not : e ≡ false → false ≡ (e && not t)
  unlisted_not h = rw h

  pub unlisted_by : e ≡ true → not t ≡ (e && not t)
  unlisted_by h = rw h

pub ruleset unlisted_laws = (unlisted_not, unlisted_by, not-true, not-false, rules)

-- `read_given`: a is the answer
module _ (given : Bool) (code : ℕ) (L R : List ℕ) where
  pub read_none : given ≡ false → S.None ≡ read_given (when given (answer_of (lookup_of code) L R))
  unfolding read_given
  read_none h = rw h

  pub read_some : given ≡ true → (a : TlsaAnswer) → answer_in a ≡ answer_of (lookup_of code) L R → (x : Read) → (x ≡ read_of (answer_in a)) × (read_verdict x ≡ lookup_verdict (answer_in a)) → S.Some x ≡ read_given (when given (answer_of (lookup_of code) L R))
  unfolding read_given
  read_some h a ae x e = rw (h, ← ae, ← e.0)

pub ruleset read_laws = (read_none, read_some, not-true, not-false, rules)

-- `later_than_starttls`, `later_given`, `later_than_first`
module _ (s h c : ℕ) where
  pub given_handshake : (h ≡ 0 → ⊥) → true ≡ (not (eqb h 0) || eqb c 1)
  given_handshake k = rw (ne_eqb h 0 k)

  pub given_certificates : h ≡ 0 → eqb c 1 ≡ (not (eqb h 0) || eqb c 1)
  given_certificates k = rw k

  pub later_starttls : (s ≡ 0 → ⊥) → true ≡ later_given s h c
  unfolding later_given
  later_starttls k = rw (ne_eqb s 0 k)

  pub later_rest : s ≡ 0 → (r : Bool) → r ≡ (not (eqb h 0) || eqb c 1) → r ≡ later_given s h c
  unfolding later_given
  later_rest z r e = rw z e

pub ruleset handshake_given_laws = (given_handshake, given_certificates, rules)

pub ruleset later_laws = (later_starttls, later_rest, rules)

module _ (n : ℕ) (l : Bool) where
  pub first_second : 2 ≤ n → true ≡ (leb 2 n || l)
  first_second h = rw (le-leb 2 n h)

  pub first_later : n < 2 → (r : Bool) → r ≡ l → r ≡ (leb 2 n || l)
  first_later h r e = rw (lt-leb 2 n h) e

pub ruleset after_first_laws = (first_second, first_later, rules)

-- `read_at_host`, `at_host`
module _ (second : Bool) (n : ℕ) where
  module _ (read : Read) where
    pub host_failed : read ≡ R.LookupFailed → (x : HostAnswer) → x ≡ saying 22 (n + 1) → S.Err x ≡ host_read second n read
    unfolding host_read read_stage
    host_failed h x e = rw (h, e)

    pub host_taken : (d : Needs) → read ≡ R.Taken d → S.Ok (record { needs = d; expanded = false; second = second; questions = n + 1 }) ≡ host_read second n read
    unfolding host_read read_stage
    host_taken d h = rw h

    pub host_next : read ≡ R.NextName → S.Ok (record { needs = Needs.Nothing; expanded = false; second = false; questions = n + 1 }) ≡ host_read second n read
    unfolding host_read read_stage
    host_next h = rw h

  module _ (later : Bool) (given : S.Option Read) where
    pub host_asked : given ≡ S.None → (x : HostAnswer) → x ≡ asking 14 n later → S.Err x ≡ at_host second n later given
    unfolding at_host
    host_asked h x e = rw (h, e)

    pub host_read_lem : (r : Read) → given ≡ S.Some r → (x : Stage) → x ≡ host_read second n r → x ≡ at_host second n later given
    unfolding at_host
    host_read_lem r h x e = rw h e

pub ruleset host_read_laws = (host_failed, host_taken, host_next, rules)

pub ruleset host_laws = (host_asked, host_read_lem, rules)

-- `read_at_expanded`, `at_expanded`
module _ (later : Bool) (y : S.Option Read) where
  module _ (read : Read) where
    pub expanded_failed : read ≡ R.LookupFailed → (x : HostAnswer) → x ≡ saying 22 1 → S.Err x ≡ expanded_read later y read
    unfolding expanded_read read_stage
    expanded_failed h x e = rw (h, e)

    pub expanded_taken : (d : Needs) → read ≡ R.Taken d → S.Ok (record { needs = d; expanded = true; second = false; questions = 1 }) ≡ expanded_read later y read
    unfolding expanded_read read_stage
    expanded_taken d h = rw h

    pub expanded_next : read ≡ R.NextName → (x : Stage) → x ≡ at_host true 1 later y → x ≡ expanded_read later y read
    unfolding expanded_read read_stage
    expanded_next h x e = rw h e

  module _ (f : Bool) (given : S.Option Read) where
    pub expanded_asked : given ≡ S.None → (x : HostAnswer) → x ≡ asking 13 0 f → S.Err x ≡ at_expanded f later given y
    unfolding at_expanded
    expanded_asked h x e = rw (h, e)

    pub expanded_read_lem : (r : Read) → given ≡ S.Some r → (x : Stage) → x ≡ expanded_read later y r → x ≡ at_expanded f later given y
    unfolding at_expanded
    expanded_read_lem r h x e = rw h e

pub ruleset expanded_read_laws = (expanded_failed, expanded_taken, expanded_next, rules)

pub ruleset expanded_laws = (expanded_asked, expanded_read_lem, rules)

-- `at_names`
module _ (t : Tries) (u f s : Bool) (y z : S.Option Read) where
  module _ (x : HostAnswer) where
    pub names_20 : t ≡ AddressFailed → x ≡ saying 20 0 → S.Err x ≡ names_stage t u f s y z
    unfolding names_stage
    names_20 h e = rw (h, e)

    pub names_21 : t ≡ AddressMissing → x ≡ saying 21 0 → S.Err x ≡ names_stage t u f s y z
    unfolding names_stage
    names_21 h e = rw (h, e)

    pub names_23 : (t ≡ AddressFailed → ⊥) → (t ≡ AddressMissing → ⊥) → u ≡ true → x ≡ saying 23 0 → S.Err x ≡ names_stage t u f s y z
    unfolding names_stage
    names_23 h k ut e = rw (ut, e) (go t h k)
      where
        go : (t : Tries) → (t ≡ AddressFailed → ⊥) → (t ≡ AddressMissing → ⊥) → S.Err (saying 23 0) ≡ names_stage t true f s y z
        go AddressFailed h k = absurd (h refl)
        go AddressMissing h k = absurd (k refl)
        go NoName h k = refl
        go HostOnly h k = refl
        go ExpandedThenHost h k = refl

  module _ (k : u ≡ false) where
    pub no_name : t ≡ NoName → S.Ok (record { needs = Needs.Nothing; expanded = false; second = false; questions = 0 }) ≡ names_stage t u f s y z
    unfolding names_stage
    no_name h = rw (h, k)

    pub host_first : t ≡ HostOnly → (x : Stage) → x ≡ at_host false 0 f y → x ≡ names_stage t u f s y z
    unfolding names_stage
    host_first h x e = rw (h, k) e

    pub expanded_first : t ≡ ExpandedThenHost → (x : Stage) → x ≡ at_expanded f s y z → x ≡ names_stage t u f s y z
    unfolding names_stage
    expanded_first h x e = rw (h, k) e

pub ruleset names_laws = (names_20, names_21, names_23, no_name, host_first, expanded_first, not-true, not-false, rules)

-- `find_set`: what its calls gave
pub tries_meaning : (a : Address) → meaning_of (tries_of a) ≡ names_to_try a
unfolding tries_of
tries_meaning A.NoAliasSecure = refl
tries_meaning A.NoAliasInsecure = refl
tries_meaning A.AliasSecure = refl
tries_meaning A.AliasFirstStepSecure = refl
tries_meaning A.AliasFirstStepInsecure = refl
tries_meaning A.Failed = refl
tries_meaning A.NoAddress = refl

pub stage_is : (a : Arguments) (u : Bool) (y : S.Option Read) → y ≡ read_given (when (leb 1 a.numbers.tlsa_answers) (answer_of (lookup_of a.numbers.tlsa1_result) a.lengths1 a.records1)) → (z : S.Option Read) → z ≡ read_given (when (leb 2 a.numbers.tlsa_answers) (answer_of (lookup_of a.numbers.tlsa2_result) a.lengths2 a.records2)) → (l : Bool) → l ≡ later_given a.numbers.starttls a.numbers.handshake a.numbers.certificates_given → (f : Bool) → f ≡ (leb 2 a.numbers.tlsa_answers || later_given a.numbers.starttls a.numbers.handshake a.numbers.certificates_given) → (d : Address) → d ≡ address_of a.numbers.address → (t : Tries) → meaning_of t ≡ names_to_try d → (x : Stage) → x ≡ names_stage t u f l y z → x ≡ first_stage a u
unfolding first_stage
stage_is a u y ye z ze l le f fe d de t te x e =
    let k : t ≡ tries_of d = meaning_one t (tries_of d) (te ∙ sym (tries_meaning d)) in
    rw (← de, ← fe, ← le, ← k, ← ye, ← ze) e

pub ruleset stage_laws = (stage_is, rules)

-- `unless_needed`
module _ (number : ℕ) (d : Needs) (e : Bool) where
  pub unless_nothing : d ≡ N.Nothing → e ≡ false → 1 ≡ cond (is_tls d || e) number 1
  unless_nothing h k = rw (h, k)

  pub unless_sts : d ≡ N.Nothing → e ≡ true → number ≡ cond (is_tls d || e) number 1
  unless_sts h k = rw (h, k)

  pub unless_set : (d ≡ N.Nothing → ⊥) → number ≡ cond (is_tls d || e) number 1
  unless_set h = go d h
    where
      go : (d : Needs) → (d ≡ N.Nothing → ⊥) → number ≡ cond (is_tls d || e) number 1
      go N.Nothing h = absurd (h refl)
      go N.Tls h = refl
      go N.Authentication h = refl

pub ruleset unless_laws = (unless_nothing, unless_sts, unless_set, not-true, not-false, rules)

-- `at_handshake`
module _ (n : ℕ) (d : Needs) (e : Bool) (m version : ℕ) (c : Bool) where
  module _ (x : HostAnswer) where
    pub handshake_asked : m ≡ 0 → x ≡ asking 11 n c → S.Err x ≡ handshake_stage n d e (outcome_of m version) c
    unfolding handshake_stage
    handshake_asked h k = rw (h, k)

    pub handshake_failed : (m ≡ 0 → ⊥) → (m ≡ 1 → ⊥) → (v : ℕ) → v ≡ cond (is_tls d || e) 25 1 → x ≡ saying v n → S.Err x ≡ handshake_stage n d e (outcome_of m version) c
    unfolding handshake_stage
    handshake_failed h k v ve g = rw (ne_eqb m 0 h, ne_eqb m 1 k, g, ve)

  module _ (up : m ≡ 1) (dane : Bool) (de : dane ≡ is_authentication d) where
    pub handshake_unneeded : dane ≡ false → e ≡ false → (x : HostAnswer) → x ≡ saying 2 n → S.Err x ≡ handshake_stage n d e (outcome_of m version) c
    unfolding handshake_stage
    handshake_unneeded h k x g = rw (up, ← de, h, k, g)

    module _ (kt : (dane || e) ≡ true) where
      pub handshake_old : version < 771 → (x : HostAnswer) → x ≡ saying 28 n → S.Err x ≡ handshake_stage n d e (outcome_of m version) c
      unfolding handshake_stage is_old
      handshake_old o x g = rw (up, ← de, kt, lt-ltb version 771 o, g)

      module _ (o : 771 ≤ version) where
        pub handshake_given : c ≡ true → S.Ok tt ≡ handshake_stage n d e (outcome_of m version) c
        unfolding handshake_stage is_old
        handshake_given h = rw (up, ← de, kt, le-ltb version 771 o, h)

        pub handshake_certificates : c ≡ false → (x : HostAnswer) → x ≡ saying 12 n → S.Err x ≡ handshake_stage n d e (outcome_of m version) c
        unfolding handshake_stage is_old
        handshake_certificates h x g = rw (up, ← de, kt, le-ltb version 771 o, h, g)

pub or_first : (a b : Bool) → a ≡ true → (a || b) ≡ true
or_first a b h = rw h

pub or_second : (a b : Bool) → a ≡ false → b ≡ true → (a || b) ≡ true
or_second a b h k = rw (h, k)

pub ruleset handshake_laws = (handshake_asked, handshake_failed, handshake_unneeded, handshake_old, handshake_given, handshake_certificates, or_first, or_second, not-true, not-false, rules)

-- what is given by its code
code_given : {A : Type 0} (n : ℕ) (a : A) → is_given (cond (eqb n 0) none (some a)) ≡ not (eqb n 0)
code_given n a = go (eqb n 0)
  where
    go : (t : Bool) → is_given (cond t none (some a)) ≡ not t
    go true = refl
    go false = refl

pub offered_given : (s : ℕ) → is_given (offered_of s) ≡ not (eqb s 0)
offered_given s = code_given s (eqb s 1)

pub outcome_given : (m version : ℕ) → is_given (outcome_of m version) ≡ not (eqb m 0)
outcome_given m version = code_given m (cond (eqb m 1) (established version) failed)

-- `at_starttls`
module _ (n : ℕ) (d : Needs) (e : Bool) (s m version : ℕ) (c : Bool) where
  pub starttls_asked : s ≡ 0 → (l : Bool) → l ≡ (not (eqb m 0) || c) → (x : HostAnswer) → x ≡ asking 10 n l → S.Err x ≡ connection n d e (offered_of s) (outcome_of m version) c
  unfolding connection
  starttls_asked h l le x g = rw (h, outcome_given m version, ← le, g)

  pub starttls_not : (s ≡ 0 → ⊥) → (s ≡ 1 → ⊥) → (v : ℕ) → v ≡ cond (is_tls d || e) 24 1 → (x : HostAnswer) → x ≡ saying v n → S.Err x ≡ connection n d e (offered_of s) (outcome_of m version) c
  unfolding connection
  starttls_not h k v ve x g = rw (ne_eqb s 0 h, ne_eqb s 1 k, g, ve)

  pub starttls_offered : s ≡ 1 → (x : Connection) → x ≡ handshake_stage n d e (outcome_of m version) c → x ≡ connection n d e (offered_of s) (outcome_of m version) c
  unfolding connection
  starttls_offered h x g = rw h g

pub ruleset starttls_laws = (starttls_asked, starttls_not, starttls_offered, rules)

-- `last_verdict`
module _ (d e p q : Bool) where
  pub last_26 : d ≡ true → p ≡ false → 26 ≡ last_verdict d e p q
  last_26 dt pf = rw (dt, pf) (go e)
    where
      go : (e : Bool) → 26 ≡ last_verdict true e false q
      go true = refl
      go false = refl

  pub last_3 : d ≡ true → p ≡ true → e ≡ false → 3 ≡ last_verdict d e p q
  last_3 dt pt ef = rw (dt, pt, ef)

  pub last_5 : d ≡ true → p ≡ true → e ≡ true → q ≡ true → 5 ≡ last_verdict d e p q
  last_5 dt pt et qt = rw (dt, pt, et, qt)

  pub last_27 : d ≡ true → p ≡ true → e ≡ true → q ≡ false → 27 ≡ last_verdict d e p q
  last_27 dt pt et qf = rw (dt, pt, et, qf)

  pub last_2 : d ≡ false → e ≡ false → 2 ≡ last_verdict d e p q
  last_2 df ef = rw (df, ef)

  pub last_4 : d ≡ false → e ≡ true → q ≡ true → 4 ≡ last_verdict d e p q
  last_4 df et qt = rw (df, et, qt)

  pub last_27_alone : d ≡ false → e ≡ true → q ≡ false → 27 ≡ last_verdict d e p q
  last_27_alone df et qf = rw (df, et, qf)

pub ruleset last_laws = (last_26, last_3, last_5, last_27, last_2, last_4, last_27_alone, not-true, not-false, rules)

-- `dane_passes`, `shows_host`: asked only where it is needed
pub needed_not : (s t : Bool) → s ≡ false → true ≡ (not s || t)
needed_not s t h = cc

pub needed_is : (s t r : Bool) → s ≡ true → r ≡ t → r ≡ (not s || t)
needed_is s t r h e = cc

pub ruleset needed_laws = (needed_not, needed_is, not-true, not-false, rules)

-- `certificate_verdict`: p, t, x, y are what its calls gave
pub verdict_is : (a : Arguments) (f : Found) (e : Bool) (p : Presented) → p ≡ presented_in a → (t : Bool) → t ≡ is_authentication f.needs → (x : Bool) → x ≡ (not t || dane_passes (references (origin_of a.numbers.origin) (domain_of a f) a.next_hop (when (eqb a.numbers.expanded_next_hop_given 1) a.expanded_next_hop)) (records_at a f) p) → (y : Bool) → y ≡ (not e || shows_host a.host p) → (v : ℕ) → v ≡ last_verdict t e x y → v ≡ certificate_verdict a f e
unfolding certificate_verdict
verdict_is a f e p pe t te x xe y ye v ve = rw (← te, ← pe, ← xe, ← ye) ve

pub ruleset verdict_laws = (verdict_is, rules)

-- `walk`: what a `?` hands on, and s and c, what its calls gave
pub ended_at : (r : S.Result HostAnswer HostAnswer) (x : HostAnswer) → IsErrAnd r (λ (y : HostAnswer). y ≡ x) → answer_of_walk r ≡ x
ended_at (S.Err y) x h = h
ended_at (S.Ok y) x h = absurd h

module _ (a : Arguments) (e u : Bool) (s : Stage) (se : s ≡ first_stage a u) where
  pub walk_ended : (x : HostAnswer) → s ≡ S.Err x → x ≡ walk_answer a e u
  unfolding walk_answer
  walk_ended x h = rw (← se, h)

  module _ (f : Found) (sf : s ≡ S.Ok f) (c : Connection) (ce : c ≡ connection f.questions f.needs e (offered_of a.numbers.starttls) (outcome_of a.numbers.handshake a.numbers.tls_version) (eqb a.numbers.certificates_given 1)) where
    pub walk_answered : (x : HostAnswer) → c ≡ S.Err x → x ≡ walk_answer a e u
    unfolding walk_answer found_answer
    walk_answered x h = rw (← se, sf, ← ce, h)

    pub walk_certificates : (w : Unit {0}) → c ≡ S.Ok w → (v : ℕ) → v ≡ certificate_verdict a f e → (x : HostAnswer) → x ≡ saying v f.questions → x ≡ walk_answer a e u
    unfolding walk_answer found_answer
    walk_certificates w h v ve x xe = rw (← se, sf, ← ce, h, ← ve) xe

pub ruleset walk_laws = (walk_ended, walk_answered, walk_certificates, rules)
