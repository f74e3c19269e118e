-- The shape of the rules: the numbers in them, and how many TLSA answers they read. Assumes nothing.
use Prim.Native.Nat.{ℕ, ◌≤◌}
use mathlib.Core.Path.{◌≡◌, refl, sym, ◌∙◌, subst}
use mathlib.Core.Bool.{Bool, true, false, not, cond, ◌&&◌, ◌||◌}
use mathlib.Core.List.{List, [], ◌∷◌}
use native.Mathlib.Omega.{arith}
use lib.Dec.{eqb, leb}
use lib.ListN.{length}
use Rattle.lists.specs.Bytes.{within}
use Rattle.tlsa.specs.declared.Address.{Address}
use Rattle.tlsa.specs.declared.Address.TheVariants.{NoAliasSecure, NoAliasInsecure, AliasSecure, AliasFirstStepSecure, AliasFirstStepInsecure, Failed, NoAddress}
use Rattle.tlsa.specs.Address.{TlsaName, expanded_name, host_name, question_of, NamesOrVerdict, names, names_to_try}
use Rattle.tlsa.specs.Address as A
use Rattle.tlsa.specs.Answer.{Answer}
use Rattle.verdicts.specs.Verdicts.{is_delivery, is_next_host, is_verdict}
use Rattle.verdicts.proofs.Ranges.{verdict_no_middle, verdict_below}
use Rattle.hosts.specs.Facts.{Base, Handshake, established, failed, Place, first, second, Facts}
use Rattle.hosts.specs.Tree.{Rules, walk, answers_read, final}
use Rattle.hosts.specs.Rules.{is_old, needs_mta_sts, is_listed, mta_sts_passes, Taken, nothing, set, needs_dane, needs_authentication, needs_anything, taken_passes, last_verdict, after_handshake, connect, domain_of, seek, start, rules}
use Rattle.hosts.specs.Demands.{is_refusal}
use Rattle.lists.proofs.Bools.{apart, and_left, and_right, by_cond}
use borrow.Author.Tests.{not-true, leb-true}
use Rattle.hosts.proofs.Trees.{Each, each_more, Comes, comes, Most, most_read}
use Rattle.hosts.proofs.AnswerCases.{by_answer}

-- a question, 10 to 14
abbrev pub is_question : ℕ → Bool
is_question n = within 10 14 n

-- a question, a verdict and a refusal are three kinds of number
pub question_no_verdict : (n : ℕ) → is_question n ≡ true → is_verdict n ≡ true → ⊥
question_no_verdict n q v = verdict_no_middle n v (omega (arith, leb-true 10 n (and_left (leb 10 n) (leb n 14) q))) (omega (arith, leb-true n 14 (and_right (leb 10 n) (leb n 14) q)))

pub verdict_no_refusal : (n : ℕ) → is_verdict n ≡ true → is_refusal n ≡ true → ⊥
verdict_no_refusal n v r = omega (arith, verdict_below n v, leb-true 40 n r)

pub question_no_refusal : (n : ℕ) → is_question n ≡ true → is_refusal n ≡ true → ⊥
question_no_refusal n q r = omega (arith, leb-true n 14 (and_right (leb 10 n) (leb n 14) q), leb-true 40 n r)

-- a verdict before any TLSA answer is read
abbrev pub is_early : ℕ → Bool
is_early n = eqb n 20 || eqb n 21 || eqb n 23

-- any other
abbrev pub is_sought : ℕ → Bool
is_sought n = is_verdict n && not (is_early n)

last_sought : (n e d s : Bool) → is_sought (last_verdict n e d s) ≡ true
unfolding is_delivery is_next_host
last_sought true true true true = refl
last_sought true true true false = refl
last_sought true true false s = refl
last_sought true false true s = refl
last_sought true false false s = refl
last_sought false true d true = refl
last_sought false true d false = refl
last_sought false false d s = refl

abbrev Sought : Rules → Type 0
Sought t = Each is_sought is_question t

module _ (b : Base) where
  sought_cond : (x : Bool) (v w : ℕ) → is_sought v ≡ true → is_sought w ≡ true → is_sought (cond x v w) ≡ true
  sought_cond true v w h k = h
  sought_cond false v w h k = k

  sought_connect : (s : Taken) → Sought (connect b s)
  unfolding is_delivery is_next_host
  sought_connect s = (refl, λ o. by_cond Sought o (λ e. (refl, sought_handshake)) (λ e. sought_cond (needs_anything b s) 24 1 refl refl))
    where
      sought_handshake : (m : Handshake) → Sought (after_handshake b s m)
      sought_handshake (established version) = by_cond Sought (needs_authentication b s) (λ e. by_cond Sought (is_old version) (λ o. refl) (λ o. (refl, λ p. last_sought (needs_dane s) (needs_mta_sts b) (taken_passes b s p) (mta_sts_passes b p)))) (λ e. refl)
      sought_handshake failed = sought_cond (needs_anything b s) 25 1 refl refl

  question_is : (n : TlsaName) → is_question (question_of n) ≡ true
  question_is expanded_name = refl
  question_is host_name = refl

  pub sought_seek : (p : Place) (ns : List TlsaName) → Sought (seek b p ns)
  unfolding is_delivery is_next_host
  sought_seek p [] = sought_connect nothing
  sought_seek p (n ∷ ns) =
      let next : Sought (seek b second ns) = sought_seek second ns in
      (question_is n, by_answer b (domain_of b n) (seek b second ns) (λ (a : Answer) (t : Rules). Sought t) refl next next next (λ r rs e. refl) (λ r rs e. sought_connect (set (domain_of b n) (r ∷ rs))))

  most_cond : (x : Bool) (t u : Rules) (n : ℕ) → Most t n → Most u n → Most (cond x t u) n
  most_cond true t u n h k = h
  most_cond false t u n h k = k

  most_connect : (s : Taken) (n : ℕ) → Most (connect b s) n
  most_connect s n = (n, omega arith, λ x. most_cond x _ _ n (n, omega arith, most_handshake) tt)
    where
      most_handshake : (m : Handshake) → Most (after_handshake b s m) n
      most_handshake (established version) = most_cond (needs_authentication b s) _ _ n (most_cond (is_old version) _ _ n tt (n, omega arith, λ p. tt)) tt
      most_handshake failed = tt

  most_seek : (p : Place) (ns : List TlsaName) → Most (seek b p ns) (length ns)
  most_seek p [] = most_connect nothing 0
  most_seek p (n ∷ ns) =
      let next : Most (seek b second ns) (length ns) = most_seek second ns in
      (length ns, omega arith, by_answer b (domain_of b n) (seek b second ns) (λ (a : Answer) (t : Rules). Most t (length ns)) tt next next next (λ r rs e. tt) (λ r rs e. most_connect (set (domain_of b n) (r ∷ rs)) (length ns)))

  abbrev size : NamesOrVerdict → ℕ
  size (A.verdict v) = 0
  size (names ns) = length ns

  most_start : (st : NamesOrVerdict) → Most (start b st) (size st)
  most_start (A.verdict v) = tt
  most_start (names ns) = most_cond (needs_mta_sts b && not (is_listed b)) _ _ (length ns) tt (most_seek first ns)

  few : (a : Address) → size (names_to_try a) ≤ 2
  few NoAliasSecure = omega arith
  few NoAliasInsecure = omega arith
  few AliasSecure = omega arith
  few AliasFirstStepSecure = omega arith
  few AliasFirstStepInsecure = omega arith
  few Failed = omega arith
  few NoAddress = omega arith

  -- at most two answers are read
  pub at_most_two : (g : Facts) → answers_read (rules b) g ≤ 2
  unfolding rules
  at_most_two g = omega (arith, most_read (rules b) _ g (most_start (names_to_try b.address)), few b.address)

  -- each verdict is one of document 01, and each question too
  each_seek : (ns : List TlsaName) → Each is_verdict is_question (seek b first ns)
  each_seek ns = each_more is_sought is_verdict is_question (λ n h. and_left (is_verdict n) (not (is_early n)) h) (seek b first ns) (sought_seek first ns)

  each_names : (ns : List TlsaName) → Each is_verdict is_question (start b (names ns))
  unfolding is_delivery is_next_host
  each_names ns = by_cond (Each is_verdict is_question) (needs_mta_sts b && not (is_listed b)) (λ e. refl) (λ e. each_seek ns)

  each_start : (a : Address) → Each is_verdict is_question (start b (names_to_try a))
  unfolding is_delivery is_next_host
  each_start NoAliasSecure = each_names (host_name ∷ [])
  each_start NoAliasInsecure = each_names []
  each_start AliasSecure = each_names (expanded_name ∷ host_name ∷ [])
  each_start AliasFirstStepSecure = each_names (host_name ∷ [])
  each_start AliasFirstStepInsecure = each_names []
  each_start Failed = refl
  each_start NoAddress = refl

  pub each_rules : Each is_verdict is_question (rules b)
  unfolding rules
  each_rules = each_start b.address

  -- under 20, 21 and 23 no answer is read
  module _ (g : Facts) where
    abbrev Unread : Rules → Type 0
    Unread t = (v : ℕ) → walk t g ≡ final v → is_early v ≡ true → answers_read t g ≡ 0

    unread_seek : (ns : List TlsaName) → Unread (seek b first ns)
    unread_seek ns v e h =
        let s : is_sought v ≡ true = subst (Comes is_sought is_question) e (comes is_sought is_question (seek b first ns) g (sought_seek first ns)) in
        apart (sym (not-true (is_early v) (and_right (is_verdict v) (not (is_early v)) s)) ∙ h)

    unread_start : (st : NamesOrVerdict) → Unread (start b st)
    unread_start (A.verdict n) = λ v e h. refl
    unread_start (names ns) = by_cond Unread (needs_mta_sts b && not (is_listed b)) (λ x v e h. refl) (λ x. unread_seek ns)

    pub unread : Unread (rules b)
    unfolding rules
    unread = unread_start (names_to_try b.address)
