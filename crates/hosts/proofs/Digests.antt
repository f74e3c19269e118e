-- Strongest digest only (document 02, No. 8), of the call that judges a host, for every call: sets that reading, need and matching do not tell apart have the same answer. So
-- the order of a set's records does not matter, and what is ignored may be left out. Assumes nothing.
use Prim.Native.Nat.{ℕ, ◌+◌}
use mathlib.Core.Path.{◌≡◌, refl, sym, ap, ◌∙◌}
use mathlib.Core.Bool.{Bool, true, false, cond, not, ◌&&◌, ◌||◌}
use mathlib.Core.List.{List, [], ◌∷◌, ◌++◌, flatten}
use mathlib.Core.Option.{Option, none, some}
use lib.Dec.{leb}
use lib.ListN.{length}
use Rattle.lists.specs.Bytes.{any}
use Rattle.lists.proofs.Any.{any_swap}
use Rattle.lists.proofs.Bools.{and_right, by_cond}
use Rattle.numbers.specs.Pieces.{sums_to}
use Rattle.numbers.proofs.Written.{lengths_of}
use Rattle.tlsa.specs.Answer.{Lookup}
use Rattle.tlsa.specs.Answer as L
use Rattle.tlsa.specs.declared.Needs.{Needs}
use Rattle.tlsa.specs.declared.Needs.TheVariants as N
use Rattle.tlsa.specs.declared.Read.{Read}
use Rattle.tlsa.specs.declared.Read.TheVariants as R
use Rattle.tlsa.specs.Address.{TlsaName, NamesOrVerdict, names, names_to_try}
use Rattle.tlsa.specs.Address as A
use Rattle.tlsa.specs.Record.{short, usable, ignored}
use Rattle.tlsa.specs.Answer.{Answer, secure, insecure, absent, failed, records_of, answer_of, set_fits, answer_fits, needs_of, taken_of, read_of, secure_records}
use Rattle.tlsa.proofs.Ignored.{without, needs_unchanged, needs_order, short_unchanged, fits_without, fits_exchanged}
use Rattle.tlsa.proofs.Written.{set_back, set_accepted}
use Rattle.certificates.specs.Facts.{Presented, when}
use Rattle.certificates.specs.Checks.{references, dane_passes}
use Rattle.certificates.proofs.Safety.{set_order}
use Rattle.certificates.proofs.Digests.{ignored_unread}
use Rattle.hosts.specs.Facts.{Base, Handshake, established, Place, first, second, Fact, Value, tlsa, starttls, handshake, certificates, Facts, given, is_given, later}
use Rattle.hosts.specs.Facts as F
use Rattle.hosts.specs.Tree.{Rules, verdict, ask, Outcome, final, missing, on_given, walk, is_tlsa, answers_read}
use Rattle.hosts.specs.Rules.{needs_mta_sts, is_listed, mta_sts_passes, Taken, nothing, set, is_authentication, is_tls, needs_authentication, last_verdict, is_old, after_handshake, connect, domain_of, after_answer, seek, start, rules}
use Rattle.hosts.specs.Arguments.{Arguments, arguments_of, lookup_of, base_of, presented_in, facts_of}
use Rattle.hosts.specs.Call.{codes_fit, clocks_fit, next_hops_fit, host_names_fit, policy_fits, answers_fit, certificates_fit, checks, checked, outcome_answer, walked, host_answer}

-- Two sets that no rule tells apart: both have a record under 3 bytes or neither; they need the same; DANE passes for both or for neither, whatever the references and certificates.
pub record Alike (rs ss : List (List ℕ)) : Type 0 where
  pub malformed : any short rs ≡ any short ss
  pub needed : needs_of rs ≡ needs_of ss
  pub passed : (refs : List (List ℕ)) (p : Presented) → dane_passes refs rs p ≡ dane_passes refs ss p

pub alike_itself : (rs : List (List ℕ)) → Alike rs rs
alike_itself rs = record { malformed = refl; needed = refl; passed = λ refs p. refl }

-- what is taken follows from what is needed
taken_by : Needs → Read
taken_by N.Nothing = R.NextName
taken_by N.Tls = R.Taken N.Tls
taken_by N.Authentication = R.Taken N.Authentication

taken_is : (rs : List (List ℕ)) → taken_of rs ≡ taken_by (needs_of rs)
unfolding taken_of needs_of taken_by
taken_is [] = refl
taken_is (r ∷ rs) = go (any usable (r ∷ rs))
  where
    go : (u : Bool) → R.Taken (cond u N.Authentication N.Tls) ≡ taken_by (cond u N.Authentication N.Tls)
    go true = refl
    go false = refl

read_alike : (rs ss : List (List ℕ)) → Alike rs ss → read_of (secure rs) ≡ read_of (secure ss)
unfolding read_of
read_alike rs ss h = rw (h.malformed, taken_is rs, taken_is ss, h.needed)

-- two answers that no rule tells apart: of the same result, with sets alike where that is secure
abbrev AlikeAnswers : Answer → Answer → Type 0
AlikeAnswers (secure rs) (secure ss) = Alike rs ss
AlikeAnswers (secure rs) insecure = ⊥
AlikeAnswers (secure rs) absent = ⊥
AlikeAnswers (secure rs) failed = ⊥
AlikeAnswers insecure a = insecure ≡ a
AlikeAnswers absent a = absent ≡ a
AlikeAnswers failed a = failed ≡ a

-- the rules after sets alike are the same rules
module _ (b : Base) (domain : List ℕ) (rs ss : List (List ℕ)) (h : Alike rs ss) where
  handshake_alike : (m : Handshake) → after_handshake b (set domain rs) m ≡ after_handshake b (set domain ss) m
  handshake_alike (established version) = λ i.
      cond (is_authentication (h.needed i) || needs_mta_sts b)
      (cond (is_old version) (verdict 28)
      (ask 12 certificates (λ p. verdict (last_verdict (is_authentication (h.needed i)) (needs_mta_sts b) (h.passed (references b.origin domain b.next_hop b.expanded_next_hop) p i) (mta_sts_passes b p)))))
      (verdict 2)
  handshake_alike F.failed = λ i. verdict (cond (is_tls (h.needed i) || needs_mta_sts b) 25 1)

  connect_alike : connect b (set domain rs) ≡ connect b (set domain ss)
  connect_alike = λ i. ask 10 starttls (λ offered. cond offered (ask 11 handshake (λ m. handshake_alike m i)) (verdict (cond (is_tls (h.needed i) || needs_mta_sts b) 24 1)))

answer_alike : (b : Base) (domain : List ℕ) (next : Rules) (a c : Answer) → AlikeAnswers a c → after_answer b domain (secure_records a) next (read_of a) ≡ after_answer b domain (secure_records c) next (read_of c)
answer_alike b domain next (secure rs) (secure ss) h = rw (read_alike rs ss h) (go (read_of (secure ss)))
  where
    go : (r : Read) → after_answer b domain rs next r ≡ after_answer b domain ss next r
    go R.LookupFailed = refl
    go (R.Taken n) = connect_alike b domain rs ss h
    go R.NextName = refl
answer_alike b domain next (secure rs) insecure h = absurd h
answer_alike b domain next (secure rs) absent h = absurd h
answer_alike b domain next (secure rs) failed h = absurd h
answer_alike b domain next insecure c h = ap (λ (x : Answer). after_answer b domain (secure_records x) next (read_of x)) h
answer_alike b domain next absent c h = ap (λ (x : Answer). after_answer b domain (secure_records x) next (read_of x)) h
answer_alike b domain next failed c h = ap (λ (x : Answer). after_answer b domain (secure_records x) next (read_of x)) h

-- answers that are given or not: both or neither, and alike
abbrev AlikeGiven : Option Answer → Option Answer → Type 0
AlikeGiven none none = Unit {0}
AlikeGiven none (some c) = ⊥
AlikeGiven (some a) none = ⊥
AlikeGiven (some a) (some c) = AlikeAnswers a c

given_alike : (x y : Option Answer) → AlikeGiven x y → is_given x ≡ is_given y
given_alike none none h = refl
given_alike none (some c) h = absurd h
given_alike (some a) none h = absurd h
given_alike (some a) (some c) h = refl

-- rules that ask for no TLSA answer
abbrev NoTlsa : Fact → Type 0
NoTlsa (tlsa p) = ⊥
NoTlsa starttls = Unit {0}
NoTlsa handshake = Unit {0}
NoTlsa certificates = Unit {0}

Blind : Rules → Type 0
Blind (verdict v) = Unit {0}
Blind (ask n q k) = NoTlsa q × ((a : Value q) → Blind (k a))

module _ (b : Base) where
  blind_handshake : (s : Taken) (m : Handshake) → Blind (after_handshake b s m)
  unfolding Blind
  blind_handshake s (established version) = by_cond Blind (needs_authentication b s) (λ e. by_cond Blind (is_old version) (λ o. tt) (λ o. (tt, λ p. tt))) (λ e. tt)
  blind_handshake s F.failed = tt

  blind_connect : (s : Taken) → Blind (connect b s)
  unfolding Blind
  blind_connect s = (tt, λ offered. by_cond Blind offered (λ e. (tt, blind_handshake s)) (λ e. tt))

  -- facts that differ in TLSA answers, which are alike
  module _ (g : Facts) (x1 x2 y1 y2 : Option Answer) (h1 : AlikeGiven x1 y1) (h2 : AlikeGiven x2 y2) where
    abbrev with_answers : Option Answer → Option Answer → Facts
    with_answers z1 z2 = record { base = b; tlsa1 = z1; tlsa2 = z2; offered = g.offered; outcome = g.outcome; presented = g.presented }

    abbrev left : Facts
    left = with_answers x1 x2

    abbrev right : Facts
    right = with_answers y1 y2

    record Same (t : Rules) : Type 0 where
      pub walks : walk t left ≡ walk t right
      pub reads : answers_read t left ≡ answers_read t right

    not_tlsa_same : (q : Fact) → NoTlsa q → given left q ≡ given right q
    not_tlsa_same (tlsa p) n = absurd n
    not_tlsa_same starttls n = refl
    not_tlsa_same handshake n = refl
    not_tlsa_same certificates n = refl

    blind_same : (t : Rules) → Blind t → Same t
    unfolding Blind
    blind_same (verdict v) n = record { walks = refl; reads = refl }
    blind_same (ask n q k) w = go (λ a. blind_same (k a) (w.1 a))
      where
        walks : (o : Option (Value q)) → ((a : Value q) → Same (k a)) → on_given o (missing (record { number = n; fact = q })) (λ a. walk (k a) left) ≡ on_given o (missing (record { number = n; fact = q })) (λ a. walk (k a) right)
        walks none f = refl
        walks (some a) f = (f a).walks

        reads : (o : Option (Value q)) → ((a : Value q) → Same (k a)) → on_given o 0 (λ a. is_tlsa q + answers_read (k a) left) ≡ on_given o 0 (λ a. is_tlsa q + answers_read (k a) right)
        reads none f = refl
        reads (some a) f = ap (λ (c : ℕ). is_tlsa q + c) (f a).reads

        go : ((a : Value q) → Same (k a)) → Same (ask n q k)
        go f = record { walks = rw (not_tlsa_same q w.0) (walks (given right q) f); reads = rw (not_tlsa_same q w.0) (reads (given right q) f) }

    -- after an answer
    after_same : (domain : List ℕ) (rs : List (List ℕ)) (next : Rules) → Same next → (r : Read) → Same (after_answer b domain rs next r)
    after_same domain rs next n R.LookupFailed = record { walks = refl; reads = refl }
    after_same domain rs next n (R.Taken d) = blind_same (connect b (set domain rs)) (blind_connect (set domain rs))
    after_same domain rs next n R.NextName = n

    place_alike : (p : Place) → AlikeGiven (given left (tlsa p)) (given right (tlsa p))
    place_alike first = h1
    place_alike second = h2

    seek_same : (place : Place) (ns : List TlsaName) → Same (seek b place ns)
    seek_same place [] = blind_same (connect b nothing) (blind_connect nothing)
    seek_same place (n ∷ ns) =
        let w = go (given left (tlsa place)) (given right (tlsa place)) (place_alike place) (seek_same second ns) in
        record { walks = w.0; reads = w.1 }
      where
        after : Answer → Rules
        after a = after_answer b (domain_of b n) (secure_records a) (seek b second ns) (read_of a)

        go : (x y : Option Answer) → AlikeGiven x y → Same (seek b second ns) → (on_given x (missing (record { number = A.question_of n; fact = tlsa place })) (λ a. walk (after a) left) ≡ on_given y (missing (record { number = A.question_of n; fact = tlsa place })) (λ a. walk (after a) right)) × (on_given x 0 (λ a. 1 + answers_read (after a) left) ≡ on_given y 0 (λ a. 1 + answers_read (after a) right))
        go none none h f = (refl, refl)
        go none (some c) h f = absurd h
        go (some a) none h f = absurd h
        go (some a) (some c) h f =
            let t : after a ≡ after c = answer_alike b (domain_of b n) (seek b second ns) a c h in
            let w = after_same (domain_of b n) (secure_records c) (seek b second ns) f (read_of c) in
            (ap (λ (r : Rules). walk r left) t ∙ w.walks, ap (λ (r : Rules). 1 + answers_read r left) t ∙ ap (λ (k : ℕ). 1 + k) w.reads)

    start_same : (ns : NamesOrVerdict) → Same (start b ns)
    start_same (A.verdict v) = record { walks = refl; reads = refl }
    start_same (names ns) = by_cond Same (needs_mta_sts b && not (is_listed b)) (λ e. record { walks = refl; reads = refl }) (λ e. seek_same first ns)

    later_alike : (q : Fact) → later q left ≡ later q right
    later_alike (tlsa first) = rw (given_alike x2 y2 h2)
    later_alike (tlsa second) = refl
    later_alike starttls = refl
    later_alike handshake = refl
    later_alike certificates = refl

    -- the answer of the rules
    walked_same : walked left ≡ walked right
    unfolding rules
    walked_same =
        let w = start_same (names_to_try b.address) in
        rw (w.walks, w.reads) (said (answers_read (rules b) right) (walk (rules b) right))
      where
        said : (n : ℕ) (o : Outcome) → outcome_answer left n o ≡ outcome_answer right n o
        said n (final v) = refl
        said n (missing q) = rw (later_alike q.fact)

-- the arguments with other lists for the two TLSA answers
abbrev pub with_sets : (lengths1 records1 lengths2 records2 : List ℕ) → Arguments → Arguments
with_sets lengths1 records1 lengths2 records2 a = arguments_of a.numbers a.next_hop a.expanded_next_hop a.host a.expanded a.body lengths1 records1 lengths2 records2 a.certificates a.certificate_lengths a.key_places a.digests a.paths a.dns_ids a.dns_id_lengths a.common_name

-- lists of a secure answer: both keep the limits or neither, and their sets are alike
pub record AlikeLists (lengths records others theirs : List ℕ) : Type 0 where
  pub fit : answer_fits L.Secure lengths records ≡ answer_fits L.Secure others theirs
  pub alike : Alike (records_of lengths records) (records_of others theirs)

module _ (K R M S : List ℕ) (h : AlikeLists K R M S) where
  fits_alike : (l : Lookup) → answer_fits l K R ≡ answer_fits l M S
  unfolding answer_fits
  fits_alike L.Secure = h.fit
  fits_alike L.Insecure = refl
  fits_alike L.Absent = refl
  fits_alike L.Failed = refl

  answers_alike : (l : Lookup) → AlikeAnswers (answer_of l K R) (answer_of l M S)
  unfolding answer_of
  answers_alike L.Secure = h.alike
  answers_alike L.Insecure = refl
  answers_alike L.Absent = refl
  answers_alike L.Failed = refl

  when_alike : (given : Bool) (l : Lookup) → AlikeGiven (when given (answer_of l K R)) (when given (answer_of l M S))
  when_alike true l = answers_alike l
  when_alike false l = tt

module _ (a : Arguments) (K1 R1 K2 R2 M1 S1 M2 S2 : List ℕ) (h1 : AlikeLists K1 R1 M1 S1) (h2 : AlikeLists K2 R2 M2 S2) where
  checks_same : checks (with_sets K1 R1 K2 R2 a) ≡ checks (with_sets M1 S1 M2 S2 a)
  unfolding checks codes_fit clocks_fit next_hops_fit host_names_fit policy_fits answers_fit certificates_fit
  checks_same = rw (fits_alike K1 R1 M1 S1 h1 (lookup_of a.numbers.tlsa1_result), fits_alike K2 R2 M2 S2 h2 (lookup_of a.numbers.tlsa2_result))

  rules_same : walked (facts_of (with_sets K1 R1 K2 R2 a)) ≡ walked (facts_of (with_sets M1 S1 M2 S2 a))
  unfolding facts_of base_of presented_in
  rules_same =
      walked_same (base_of a) (facts_of a) _ _ _ _
      (when_alike K1 R1 M1 S1 h1 (leb 1 a.numbers.tlsa_answers) (lookup_of a.numbers.tlsa1_result))
      (when_alike K2 R2 M2 S2 h2 (leb 2 a.numbers.tlsa_answers) (lookup_of a.numbers.tlsa2_result))

  -- Sets that no rule tells apart have the same answer, in every call, also in one that asks or refuses.
  pub alike_sets : host_answer (with_sets K1 R1 K2 R2 a) ≡ host_answer (with_sets M1 S1 M2 S2 a)
  unfolding host_answer
  alike_sets = rw checks_same (ap (checked (checks (with_sets M1 S1 M2 S2 a))) rules_same)

-- a set with two neighbours exchanged, and a set without its ignored records
pub alike_exchanged : (xs : List (List ℕ)) (r s : List ℕ) (ys : List (List ℕ)) → Alike (xs ++ (r ∷ s ∷ ys)) (xs ++ (s ∷ r ∷ ys))
alike_exchanged xs r s ys = record { malformed = any_swap short xs r s ys; needed = needs_order xs r s ys; passed = λ refs p. set_order refs xs r s ys p }

pub alike_left_out : (rs : List (List ℕ)) → Alike rs (without (ignored rs) rs)
alike_left_out rs = record { malformed = sym (short_unchanged rs); needed = sym (needs_unchanged rs); passed = λ refs p. sym (ignored_unread refs p rs) }

-- sets within the limits, written as lists
lists_alike : (rs ss : List (List ℕ)) → set_fits rs ≡ true → set_fits ss ≡ true → Alike rs ss → AlikeLists (lengths_of rs) (flatten rs) (lengths_of ss) (flatten ss)
lists_alike rs ss f g h = record { fit = set_accepted rs f ∙ sym (set_accepted ss g); alike = rw (set_back rs f, set_back ss g) h }

same_lists : (K R : List ℕ) → AlikeLists K R K R
same_lists K R = record { fit = refl; alike = alike_itself (records_of K R) }

module _ (a : Arguments) where
  -- the arguments with this set in the first, or in the second, TLSA answer
  abbrev pub with_first : List (List ℕ) → Arguments
  with_first rs = with_sets (lengths_of rs) (flatten rs) a.lengths2 a.records2 a

  abbrev pub with_second : List (List ℕ) → Arguments
  with_second rs = with_sets a.lengths1 a.records1 (lengths_of rs) (flatten rs) a

  module _ (rs ss : List (List ℕ)) (f : set_fits rs ≡ true) (g : set_fits ss ≡ true) (h : Alike rs ss) where
    in_first : host_answer (with_first rs) ≡ host_answer (with_first ss)
    in_first = alike_sets a (lengths_of rs) (flatten rs) a.lengths2 a.records2 (lengths_of ss) (flatten ss) a.lengths2 a.records2 (lists_alike rs ss f g h) (same_lists a.lengths2 a.records2)

    in_second : host_answer (with_second rs) ≡ host_answer (with_second ss)
    in_second = alike_sets a a.lengths1 a.records1 (lengths_of rs) (flatten rs) a.lengths1 a.records1 (lengths_of ss) (flatten ss) (same_lists a.lengths1 a.records1) (lists_alike rs ss f g h)

  -- The order of a set's records does not matter: any two that stand side by side may be exchanged, in either answer.
  module _ (xs : List (List ℕ)) (r s : List ℕ) (ys : List (List ℕ)) (f : set_fits (xs ++ (r ∷ s ∷ ys)) ≡ true) where
    pub first_order : host_answer (with_first (xs ++ (r ∷ s ∷ ys))) ≡ host_answer (with_first (xs ++ (s ∷ r ∷ ys)))
    first_order = in_first (xs ++ (r ∷ s ∷ ys)) (xs ++ (s ∷ r ∷ ys)) f (sym (fits_exchanged xs r s ys) ∙ f) (alike_exchanged xs r s ys)

    pub second_order : host_answer (with_second (xs ++ (r ∷ s ∷ ys))) ≡ host_answer (with_second (xs ++ (s ∷ r ∷ ys)))
    second_order = in_second (xs ++ (r ∷ s ∷ ys)) (xs ++ (s ∷ r ∷ ys)) f (sym (fits_exchanged xs r s ys) ∙ f) (alike_exchanged xs r s ys)

  -- What is ignored decides nothing: the answer is that of the set without its ignored records.
  module _ (rs : List (List ℕ)) (f : set_fits rs ≡ true) where
    pub first_ignored : host_answer (with_first rs) ≡ host_answer (with_first (without (ignored rs) rs))
    first_ignored = in_first rs (without (ignored rs) rs) f (fits_without (ignored rs) rs f) (alike_left_out rs)

    pub second_ignored : host_answer (with_second rs) ≡ host_answer (with_second (without (ignored rs) rs))
    second_ignored = in_second rs (without (ignored rs) rs) f (fits_without (ignored rs) rs f) (alike_left_out rs)

  -- This is said of every call whose lists keep the limits: its answer is that with its own set, written anew.
  written_anew : (K R : List ℕ) → answer_fits L.Secure K R ≡ true → AlikeLists (lengths_of (records_of K R)) (flatten (records_of K R)) K R
  unfolding answer_fits
  written_anew K R f =
      let g : set_fits (records_of K R) ≡ true = and_right (sums_to K (length R)) (set_fits (records_of K R)) f in
      record { fit = set_accepted (records_of K R) g ∙ sym f; alike = rw (set_back (records_of K R) g) (alike_itself (records_of K R)) }

  pub first_own : answer_fits L.Secure a.lengths1 a.records1 ≡ true → host_answer (with_first (records_of a.lengths1 a.records1)) ≡ host_answer a
  first_own f = alike_sets a _ _ a.lengths2 a.records2 a.lengths1 a.records1 a.lengths2 a.records2 (written_anew a.lengths1 a.records1 f) (same_lists a.lengths2 a.records2)

  pub second_own : answer_fits L.Secure a.lengths2 a.records2 ≡ true → host_answer (with_second (records_of a.lengths2 a.records2)) ≡ host_answer a
  second_own f = alike_sets a a.lengths1 a.records1 _ _ a.lengths1 a.records1 a.lengths2 a.records2 (same_lists a.lengths1 a.records1) (written_anew a.lengths2 a.records2 f)
