-- Demand 2. Assumes nothing.
use Prim.Native.Nat.{ℕ}
use mathlib.Core.Path.{◌≡◌, refl, subst}
use mathlib.Core.Bool.{Bool, true, false, not, cond, ◌&&◌, ◌||◌, or-false}
use mathlib.Core.List.{List, [], ◌∷◌}
use lib.Dec.{eqb}
use Rattle.lists.specs.Bytes.{any}
use Rattle.lists.proofs.Bools.{apart}
use Rattle.tlsa.specs.declared.Address.{Address}
use Rattle.tlsa.specs.declared.Address.TheVariants.{NoAliasSecure, NoAliasInsecure, AliasSecure, AliasFirstStepSecure, AliasFirstStepInsecure, Failed, NoAddress}
use Rattle.tlsa.specs.Address.{TlsaName, expanded_name, host_name, names, names_to_try}
use Rattle.tlsa.specs.Record.{short, usable}
use Rattle.tlsa.specs.Answer.{Answer, secure, secure_records, read_of}
use Rattle.hosts.specs.declared.HostAnswer.{HostAnswer}
use Rattle.hosts.specs.Facts.{Base, Handshake, established, Place, first, second, tlsa, handshake, Full, value}
use Rattle.hosts.specs.Facts as F
use Rattle.hosts.specs.Tree.{Rules, verdict, ask, verdict_of, reached}
use Rattle.hosts.specs.Rules.{is_old, needs_mta_sts, is_listed, mta_sts_passes, Taken, nothing, set, needs, is_tls, needs_dane, needs_authentication, needs_anything, taken_passes, last_verdict, after_handshake, connect, domain_of, after_answer, seek, start, rules}
use Rattle.hosts.specs.Arguments.{Arguments, base_of}
use Rattle.hosts.specs.Call.{host_answer}
use Rattle.hosts.specs.Demands.{IsFull, full_of, answers_at, is_handshake, is_established, has_address, none_failed, none_usable, none_at_all, Demand2}
use Rattle.hosts.proofs.AnswerCases.{authentication_is, tls_is, by_answer}
use Rattle.hosts.proofs.FullSets.{full_number}

-- delivery without authentication
abbrev unauthenticated : ℕ → Bool
unauthenticated v = eqb v 1 || eqb v 2

-- the end, by tests: TLS needed by the set (t), MTA-STS needed (e), TLS offered (o) and made (m), and the verdict where it is made
abbrev pub ended : (t e o m : Bool) → ℕ → ℕ
ended t e o m v = cond o (cond m v (cond (t || e) 25 1)) (cond (t || e) 24 1)

-- the verdict where TLS is made: DANE needed (n), an old version (w), the checks (d, s)
abbrev pub made : (n e w d s : Bool) → ℕ
made n e w d s = cond (n || e) (cond w 28 (last_verdict n e d s)) 2

-- made at an old version
abbrev pub is_made_old : Handshake → Bool
is_made_old (established version) = is_old version
is_made_old F.failed = false

abbrev Made : (n e : Bool) → ℕ → Type 0
Made n e v = (unauthenticated v ≡ (not n && not e)) × (eqb v 1 ≡ false)

made_is : (n e w d s : Bool) → Made n e (made n e w d s)
made_is true e true d s = (refl, refl)
made_is false true true d s = (refl, refl)
made_is true true false true true = (refl, refl)
made_is true true false true false = (refl, refl)
made_is true true false false s = (refl, refl)
made_is true false false true s = (refl, refl)
made_is true false false false s = (refl, refl)
made_is false true false d true = (refl, refl)
made_is false true false d false = (refl, refl)
made_is false false w d s = (refl, refl)

abbrev Ended : (n t e o m : Bool) → ℕ → Type 0
Ended n t e o m v = (unauthenticated v ≡ (not n && (not e && ((o && m) || not t)))) × (eqb v 1 ≡ ((not n && (not e && ((o && m) || not t))) && not (o && m)))

ended_is : (n t e o m : Bool) (v : ℕ) → (n ≡ true → t ≡ true) → Made n e v → Ended n t e o m (ended t e o m v)
ended_is true t e true true v h u = u
ended_is false t true true true v h u = u
ended_is false t false true true v h u = u
ended_is true false e true false v h u = apart (h refl)
ended_is true true e true false v h u = (refl, refl)
ended_is false true true true false v h u = (refl, refl)
ended_is false true false true false v h u = (refl, refl)
ended_is false false true true false v h u = (refl, refl)
ended_is false false false true false v h u = (refl, refl)
ended_is true false e false m v h u = apart (h refl)
ended_is true true e false m v h u = (refl, refl)
ended_is false true true false m v h u = (refl, refl)
ended_is false true false false m v h u = (refl, refl)
ended_is false false true false m v h u = (refl, refl)
ended_is false false false false m v h u = (refl, refl)

module _ (b : Base) (f : Full) where
  -- the answers that the rules read, and whether TLS is established
  abbrev pub answers_of : Rules → List Answer
  answers_of t = answers_at (reached t f) f

  abbrev established_by : Rules → Bool
  established_by t = any is_handshake (reached t f) && is_established f.outcome

  -- what demand 2 asks besides an address
  abbrev opens : List Answer → Bool → Bool
  opens l m = none_failed l && (none_usable l && (not (needs_mta_sts b) && (m || none_at_all l)))

  abbrev Fits : ℕ → List Answer → Bool → Type 0
  Fits v l m = (unauthenticated v ≡ opens l m) × (eqb v 1 ≡ (opens l m && not m))

  abbrev FitsRules : Rules → Type 0
  FitsRules t = Fits (verdict_of t f) (answers_of t) (established_by t)

  -- rules that read no TLSA answer: whether they reach the handshake, and the verdict
  abbrev pub Quiet : Rules → Bool → ℕ → Type 0
  Quiet t h v = (answers_of t ≡ []) × (any is_handshake (reached t f) ≡ h) × (verdict_of t f ≡ v)

  quiet_cond : (x : Bool) (t u : Rules) (h : Bool) (v w : ℕ) → Quiet t h v → Quiet u h w → Quiet (cond x t u) h (cond x v w)
  quiet_cond true t u h v w p q = p
  quiet_cond false t u h v w p q = q

  module _ (s : Taken) where
    -- the verdict where TLS is made, at an old version (w) or not
    abbrev pub made_at : Bool → ℕ
    made_at w = made (needs_dane s) (needs_mta_sts b) w (taken_passes b s f.presented) (mta_sts_passes b f.presented)

    abbrev pub made_of : ℕ
    made_of = made_at (is_made_old f.outcome)

    quiet_handshake : (m : Handshake) → Quiet (after_handshake b s m) false (cond (is_established m) (made_at (is_made_old m)) (cond (needs_anything b s) 25 1))
    unfolding any
    quiet_handshake (established version) = quiet_cond (needs_authentication b s) _ _ false _ _ (quiet_cond (is_old version) _ _ false _ _ (refl, refl, refl) (refl, refl, refl)) (refl, refl, refl)
    quiet_handshake F.failed = (refl, refl, refl)

    pub quiet_connect : Quiet (connect b s) f.offered (ended (is_tls (needs s)) (needs_mta_sts b) f.offered (is_established f.outcome) made_of)
    unfolding any
    quiet_connect = go f.offered
      where
        go : (o : Bool) → Quiet (cond o (ask 11 handshake (after_handshake b s)) (verdict (cond (needs_anything b s) 24 1))) o (ended (is_tls (needs s)) (needs_mta_sts b) o (is_established f.outcome) made_of)
        go true = ((quiet_handshake f.outcome).0, refl, (quiet_handshake f.outcome).2)
        go false = (refl, refl, refl)

    -- the end, after a set that needs DANE (n) and TLS (t)
    ended_connect : (n t : Bool) → needs_dane s ≡ n → is_tls (needs s) ≡ t → (n ≡ true → t ≡ true) → Ended n t (needs_mta_sts b) f.offered (is_established f.outcome) (verdict_of (connect b s) f)
    ended_connect n t p q h = rw (quiet_connect.2, q) (ended_is n t (needs_mta_sts b) f.offered (is_established f.outcome) made_of h (subst (λ (x : Bool). Made x (needs_mta_sts b) made_of) p (made_is (needs_dane s) (needs_mta_sts b) (is_made_old f.outcome) (taken_passes b s f.presented) (mta_sts_passes b f.presented))))

  fits_nothing : FitsRules (connect b nothing)
  unfolding any
  fits_nothing = rw ((quiet_connect nothing).0, (quiet_connect nothing).1) (ended_connect nothing false false refl refl (λ z. z))

  -- rules after the answer a
  abbrev FitsAfter : Answer → Rules → Type 0
  FitsAfter a t = Fits (verdict_of t f) (a ∷ answers_of t) (established_by t)

  opens_taken : (r : List ℕ) (rs : List (List ℕ)) (m : Bool) → any short (r ∷ rs) ≡ false → opens (secure (r ∷ rs) ∷ []) m ≡ (not (any usable (r ∷ rs)) && (not (needs_mta_sts b) && (m || false)))
  unfolding any
  opens_taken r rs m e = rw (e, or-false (any usable (r ∷ rs)))

  fits_taken : (domain r : List ℕ) (rs : List (List ℕ)) → any short (r ∷ rs) ≡ false → FitsAfter (secure (r ∷ rs)) (connect b (set domain (r ∷ rs)))
  fits_taken domain r rs e =
      let s : Taken = set domain (r ∷ rs) in
      rw ((quiet_connect s).0, (quiet_connect s).1, opens_taken r rs (f.offered && is_established f.outcome) e)
      (ended_connect s (any usable (r ∷ rs)) true (authentication_is (r ∷ rs)) (tls_is r rs) (λ z. refl))

  fits_short : (r : List ℕ) (rs : List (List ℕ)) → any short (r ∷ rs) ≡ true → FitsAfter (secure (r ∷ rs)) (verdict 22)
  unfolding any
  fits_short r rs e = rw e (refl, refl)

  fits_answer : (domain : List ℕ) (next : Rules) → FitsRules next → (a : Answer) → FitsAfter a (after_answer b domain (secure_records a) next (read_of a))
  unfolding any
  fits_answer domain next h = by_answer b domain next FitsAfter (refl, refl) h h h fits_short (fits_taken domain)

  fits_seek : (p : Place) (ns : List TlsaName) → FitsRules (seek b p ns)
  unfolding any
  fits_seek p [] = fits_nothing
  fits_seek p (n ∷ ns) = fits_answer (domain_of b n) (seek b second ns) (fits_seek second ns) (value f (tlsa p))

  fits_names : (ns : List TlsaName) → FitsRules (start b (names ns))
  unfolding any
  fits_names ns = go (needs_mta_sts b) (is_listed b) refl
    where
      go : (e l : Bool) → needs_mta_sts b ≡ e → FitsRules (cond (e && not l) (verdict 23) (seek b first ns))
      go false l p = fits_seek first ns
      go true true p = fits_seek first ns
      go true false p = rw p (refl, refl)

  -- with the address
  abbrev FitsAddress : Bool → Rules → Type 0
  FitsAddress a t = (unauthenticated (verdict_of t f) ≡ (a && opens (answers_of t) (established_by t))) × (eqb (verdict_of t f) 1 ≡ ((a && opens (answers_of t) (established_by t)) && not (established_by t)))

  fits_address : (a : Address) → FitsAddress (has_address a) (start b (names_to_try a))
  fits_address NoAliasSecure = fits_names (host_name ∷ [])
  fits_address NoAliasInsecure = fits_names []
  fits_address AliasSecure = fits_names (expanded_name ∷ host_name ∷ [])
  fits_address AliasFirstStepSecure = fits_names (host_name ∷ [])
  fits_address AliasFirstStepInsecure = fits_names []
  fits_address Failed = (refl, refl)
  fits_address NoAddress = (refl, refl)

  -- both sentences of demand 2, of any answer with the verdict of the full set
  pub fits_rules : (r : HostAnswer) → r.number ≡ verdict_of (rules b) f → Demand2 b f r
  unfolding rules
  fits_rules r e = record { unauthenticated = rw e (fits_address b.address).0; cleartext = rw e (fits_address b.address).1 }

-- demand 2, of the call, for all arguments that say a full set and that it accepts
pub demand_2 : (a : Arguments) → IsFull a → Demand2 (base_of a) (full_of a) (host_answer a)
demand_2 a h = fits_rules (base_of a) (full_of a) (host_answer a) (full_number a h)
