-- What every delivery has behind it: nothing that was needed is let off, and nothing rescues what did not pass. Assumes nothing.
use Prim.Native.Nat.{ℕ}
use mathlib.Core.Path.{◌≡◌, refl, sym, ◌∙◌, subst}
use mathlib.Core.Bool.{Bool, true, false, not, cond, ◌&&◌, ◌||◌}
use mathlib.Core.List.{List, [], ◌∷◌}
use mathlib.Core.Logic.{◌⊎◌, inl, inr}
use Rattle.lists.specs.Bytes.{any}
use Rattle.lists.proofs.Bools.{apart, by_cond}
use Rattle.tlsa.specs.declared.Address.{Address}
use Rattle.tlsa.specs.declared.Address.TheVariants.{NoAliasSecure, NoAliasInsecure, AliasSecure, AliasFirstStepSecure, AliasFirstStepInsecure, Failed, NoAddress}
use Rattle.tlsa.specs.Address.{TlsaName, expanded_name, host_name, question_of, names, names_to_try}
use Rattle.tlsa.specs.Record.{usable}
use Rattle.tlsa.specs.Answer.{Answer, secure, secure_records, read_of}
use Rattle.certificates.specs.Checks.{references, dane_passes}
use Rattle.verdicts.specs.Verdicts.{is_delivery}
use Rattle.hosts.specs.Facts.{Base, Handshake, established, Place, first, second, tlsa, Full, value}
use Rattle.hosts.specs.Facts as F
use Rattle.hosts.specs.Tree.{Rules, Question, verdict_of, reached}
use Rattle.hosts.specs.Rules.{is_old, needs_mta_sts, is_listed, mta_sts_passes, Taken, nothing, set, needs, is_tls, needs_dane, needs_authentication, needs_anything, taken_passes, last_verdict, after_handshake, connect, domain_of, after_answer, seek, start, rules}
use Rattle.hosts.specs.Arguments.{Arguments, base_of}
use Rattle.hosts.specs.Call.{host_answer}
use Rattle.hosts.specs.Demands.{IsFull, full_of, answers_at, none_usable, reached_answers}
use Rattle.hosts.proofs.AnswerCases.{authentication_is, tls_is, by_answer}
use Rattle.hosts.proofs.FullSets.{full_number}
use Rattle.hosts.proofs.Second.{quiet_connect}

-- the last verdict delivers only where what was needed passes
last_safe : (n e d s : Bool) → is_delivery (last_verdict n e d s) ≡ true → (e ≡ true → s ≡ true) × (n ≡ true → d ≡ true)
unfolding is_delivery
last_safe true true true true h = (λ z. refl, λ z. refl)
last_safe true true true false h = apart h
last_safe true true false s h = apart h
last_safe true false true s h = (λ z. apart z, λ z. refl)
last_safe true false false s h = apart h
last_safe false true d true h = (λ z. refl, λ z. apart z)
last_safe false true d false h = apart h
last_safe false false d s h = (λ z. apart z, λ z. apart z)

-- without TLS there is delivery only where nothing was needed: DANE (n) needs TLS (t), and MTA-STS (e) does
none_needed : (n t e : Bool) (v : ℕ) → is_delivery v ≡ false → (n ≡ true → t ≡ true) → is_delivery (cond (t || e) v 1) ≡ true → (e ≡ true → ⊥) × (n ≡ true → ⊥)
none_needed n true e v w k h = apart (sym w ∙ h)
none_needed n false true v w k h = apart (sym w ∙ h)
none_needed n false false v w k h = (λ z. apart z, λ z. apart (k z))

module _ (b : Base) (f : Full) where
  -- what is needed and passes, by what the set taken says of DANE
  abbrev SafeWith : Taken → ℕ → Type 0
  SafeWith s v = is_delivery v ≡ true → (needs_mta_sts b ≡ true → mta_sts_passes b f.presented ≡ true) × (needs_dane s ≡ true → taken_passes b s f.presented ≡ true)

  module _ (s : Taken) (tls : needs_dane s ≡ true → is_tls (needs s) ≡ true) where
    safe_none : (v : ℕ) → is_delivery v ≡ false → SafeWith s (cond (needs_anything b s) v 1)
    safe_none v w h = let z = none_needed (needs_dane s) (is_tls (needs s)) (needs_mta_sts b) v w tls h in (λ e. absurd (z.0 e), λ n. absurd (z.1 n))

    neither : (n e : Bool) → (n || e) ≡ false → (e ≡ true → ⊥) × (n ≡ true → ⊥)
    neither true e h = apart (sym h)
    neither false true h = apart (sym h)
    neither false false h = (λ z. apart z, λ z. apart z)

    safe_handshake : (m : Handshake) → SafeWith s (verdict_of (after_handshake b s m) f)
    unfolding is_delivery
    safe_handshake (established version) = by_cond (λ (t : Rules). SafeWith s (verdict_of t f)) (needs_authentication b s)
        (λ e. by_cond (λ (t : Rules). SafeWith s (verdict_of t f)) (is_old version) (λ o h. apart h) (λ o. last_safe (needs_dane s) (needs_mta_sts b) (taken_passes b s f.presented) (mta_sts_passes b f.presented)))
        (λ e h. let z = neither (needs_dane s) (needs_mta_sts b) e in (λ x. absurd (z.0 x), λ x. absurd (z.1 x)))
    safe_handshake F.failed = safe_none 25 refl

    safe_connect : SafeWith s (verdict_of (connect b s) f)
    unfolding is_delivery
    safe_connect = by_cond (λ (t : Rules). SafeWith s (verdict_of t f)) f.offered (λ e. safe_handshake f.outcome) (λ e. safe_none 24 refl)

  -- a question is one of some
  abbrev pub IsAmong : Question → List Question → Type 0
  IsAmong q [] = ⊥
  IsAmong q (x ∷ qs) = (x ≡ q) ⊎ IsAmong q qs

  -- the question for the TLSA answer at a name, as the first or the second
  abbrev pub question_at : TlsaName → Place → Question
  question_at n p = record { number = question_of n; fact = tlsa p }

  -- the set that answers the question for a name passes DANE, with that name as the TLSA base domain
  pub record DanePassed (qs : List Question) : Type 0 where
    pub name : TlsaName
    pub place : Place
    pub records : List (List ℕ)
    pub asked : IsAmong (question_at name place) qs
    pub answered : value f (tlsa place) ≡ secure records
    pub passes : dane_passes (references b.origin (domain_of b name) b.next_hop b.expanded_next_hop) records f.presented ≡ true

  -- of the answers l to the questions qs
  abbrev Safe : List Answer → List Question → Rules → Type 0
  Safe l qs t = is_delivery (verdict_of t f) ≡ true → (needs_mta_sts b ≡ true → mta_sts_passes b f.presented ≡ true) × (none_usable l ≡ false → DanePassed qs)

  safe_nothing : (qs : List Question) → Safe [] qs (connect b nothing)
  unfolding any
  safe_nothing qs h = ((safe_connect nothing (λ z. z) h).0, λ e. apart (sym e))

  later_dane : (q : Question) (qs : List Question) → DanePassed qs → DanePassed (q ∷ qs)
  later_dane q qs d = record { name = d.name; place = d.place; records = d.records; asked = inr d.asked; answered = d.answered; passes = d.passes }

  usable_some : (x : Bool) → not (x || false) ≡ false → x ≡ true
  usable_some true h = refl
  usable_some false h = apart (sym h)

  safe_taken : (n : TlsaName) (p : Place) (r : List ℕ) (rs : List (List ℕ)) (qs : List Question) → value f (tlsa p) ≡ secure (r ∷ rs) → Safe (secure (r ∷ rs) ∷ []) (question_at n p ∷ qs) (connect b (set (domain_of b n) (r ∷ rs)))
  unfolding any
  safe_taken n p r rs qs v h =
      let s : Taken = set (domain_of b n) (r ∷ rs) in
      let z = safe_connect s (λ x. tls_is r rs) h in
      (z.0, λ e. record { name = n; place = p; records = r ∷ rs; asked = inl refl; answered = v; passes = z.1 (authentication_is (r ∷ rs) ∙ usable_some (any usable (r ∷ rs)) e) })

  -- rules after the answer a at a name
  abbrev SafeAfter : TlsaName → Place → Answer → Rules → Type 0
  SafeAfter n p a t = value f (tlsa p) ≡ a → Safe (a ∷ answers_at (reached t f) f) (question_at n p ∷ reached t f) t

  safe_answer : (n : TlsaName) (p : Place) (next : Rules) → Safe (answers_at (reached next f) f) (reached next f) next → (a : Answer) → SafeAfter n p a (after_answer b (domain_of b n) (secure_records a) next (read_of a))
  unfolding any is_delivery
  safe_answer n p next ih = by_answer b (domain_of b n) next (SafeAfter n p) (λ v h. apart h)
      (λ v h. ((ih h).0, λ e. later_dane _ _ ((ih h).1 e)))
      (λ v h. ((ih h).0, λ e. later_dane _ _ ((ih h).1 e)))
      (λ v h. ((ih h).0, λ e. later_dane _ _ ((ih h).1 e)))
      (λ r rs e v h. apart h)
      (λ r rs e v. subst (λ (l : List Answer). Safe (secure (r ∷ rs) ∷ l) (question_at n p ∷ reached (connect b (set (domain_of b n) (r ∷ rs))) f) (connect b (set (domain_of b n) (r ∷ rs)))) (sym (quiet_connect b f (set (domain_of b n) (r ∷ rs))).0) (safe_taken n p r rs _ v))

  safe_seek : (p : Place) (ns : List TlsaName) → Safe (answers_at (reached (seek b p ns) f) f) (reached (seek b p ns) f) (seek b p ns)
  safe_seek p [] = subst (λ (l : List Answer). Safe l (reached (connect b nothing) f) (connect b nothing)) (sym (quiet_connect b f nothing).0) (safe_nothing _)
  safe_seek p (n ∷ ns) = safe_answer n p (seek b second ns) (safe_seek second ns) (value f (tlsa p)) refl

  safe_names : (ns : List TlsaName) → Safe (answers_at (reached (start b (names ns)) f) f) (reached (start b (names ns)) f) (start b (names ns))
  unfolding is_delivery
  safe_names ns = by_cond (λ (t : Rules). Safe (answers_at (reached t f) f) (reached t f) t) (needs_mta_sts b && not (is_listed b)) (λ e h. apart h) (λ e. safe_seek first ns)

  safe_start : (a : Address) → Safe (answers_at (reached (start b (names_to_try a)) f) f) (reached (start b (names_to_try a)) f) (start b (names_to_try a))
  unfolding is_delivery
  safe_start NoAliasSecure = safe_names (host_name ∷ [])
  safe_start NoAliasInsecure = safe_names []
  safe_start AliasSecure = safe_names (expanded_name ∷ host_name ∷ [])
  safe_start AliasFirstStepSecure = safe_names (host_name ∷ [])
  safe_start AliasFirstStepInsecure = safe_names []
  safe_start Failed = λ h. apart h
  safe_start NoAddress = λ h. apart h

  safe_rules : Safe (reached_answers b f) (reached (rules b) f) (rules b)
  unfolding rules
  safe_rules = safe_start b.address

-- whatever is delivered: under a live enforce policy the MTA-STS check passes, and where the rules read a usable secure record, the set that they take passes DANE, with the name at which it was asked for as the TLSA base domain
pub delivers_safely : (a : Arguments) → IsFull a → is_delivery (host_answer a).number ≡ true
    → (needs_mta_sts (base_of a) ≡ true → mta_sts_passes (base_of a) (full_of a).presented ≡ true) × (none_usable (reached_answers (base_of a) (full_of a)) ≡ false → DanePassed (base_of a) (full_of a) (reached (rules (base_of a)) (full_of a)))
delivers_safely a h d = safe_rules (base_of a) (full_of a) (subst (λ (n : ℕ). is_delivery n ≡ true) (full_number a h) d)
