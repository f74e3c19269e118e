-- Every question of the rules matters: two ways to go on, both inside the limits, have two verdicts. Assumes nothing.
use Prim.Native.Nat.{ℕ, ◌≤◌}
use mathlib.Core.Path.{◌≡◌, refl, sym, ◌∙◌, ap}
use mathlib.Core.Bool.{Bool, true, false, not, cond, ◌&&◌, ◌||◌, and-false}
use mathlib.Core.List.{List, [], ◌∷◌}
use native.Mathlib.Omega.{arith}
use lib.Dec.{eqb, leb}
use lib.ListN.{length, drop, length-drop}
use Rattle.lists.specs.Bytes.{all, any, is_bytes}
use Rattle.lists.proofs.Bools.{apart, and_left, and_intro, by_cond}
use Rattle.lists.proofs.Any.{any_none}
use Rattle.lists.proofs.All.{all_drop}
use Rattle.numbers.specs.Pieces.{up_to}
use Rattle.numbers.proofs.Cut.{up_to_true}
use Rattle.names.specs.Name.{is_name}
use Rattle.tlsa.specs.declared.Address.{Address}
use Rattle.tlsa.specs.declared.Address.TheVariants.{NoAliasSecure, NoAliasInsecure, AliasSecure, AliasFirstStepSecure, AliasFirstStepInsecure, Failed, NoAddress}
use Rattle.tlsa.specs.Address.{host_name, NamesOrVerdict, names, names_to_try}
use Rattle.tlsa.specs.Address as A
use Rattle.tlsa.specs.Record.{data_of, usable, counts}
use Rattle.tlsa.specs.Answer.{Answer, secure, absent, failed, read_of, secure_records}
use Rattle.tlsa.proofs.Ignored.{some_counts}
use Rattle.tlsa.proofs.Written.{set_each}
use Rattle.certificates.specs.Facts.{Presented}
use Rattle.certificates.specs.Checks.{references, names_reference, record_matches, dane_passes, shows_host}
use Rattle.hosts.specs.Facts.{Base, Handshake, established, Place, first, second, tlsa, starttls, handshake, Facts, Full}
use Rattle.hosts.specs.Facts as F
use Rattle.hosts.specs.Tree.{Rules, verdict, ask, verdict_of}
use Rattle.hosts.specs.Rules.{is_old, needs_mta_sts, is_listed, mta_sts_passes, Taken, nothing, set, needs_dane, needs_authentication, needs_anything, taken_passes, last_verdict, authenticate, after_handshake, connect, after_answer, seek, start, rules}
use Rattle.hosts.specs.Arguments.{is_alias}
use Rattle.hosts.proofs.Pick.{pick, pick_any, pick_passes, pick_all}
use Rattle.hosts.proofs.Trees.{fill, before, Two, Differ, Matters}
use Rattle.hosts.proofs.Values.{OkAnswer, OkPresented, OkHandshake, Ok, set_of, set_ok, nobody, nobody_ok}
use Rattle.hosts.proofs.MadeCertificate.{showing, showing_ok, showing_host, showing_matches}
use Rattle.hosts.proofs.AnswerCases.{authentication_is, by_answer}

-- a name, of bytes
abbrev pub OkName : List ℕ → Type 0
OkName n = (is_name n ≡ true) × (is_bytes n ≡ true)

-- where something is needed: what passes none of it and what passes all of it differ
last_apart : (n e d s d' s' : Bool) → (n || e) ≡ true → (n ≡ true → d ≡ false) → s ≡ false → (n ≡ true → d' ≡ true) → (e ≡ true → s' ≡ true) → last_verdict n e d s ≡ last_verdict n e d' s' → ⊥
last_apart true true true s d' s' h p q i j z = apart (sym (p refl))
last_apart true true false s true true h p q i j z = omega arith
last_apart true true false s true false h p q i j z = omega arith
last_apart true true false s false s' h p q i j z = apart (i refl)
last_apart true false true s d' s' h p q i j z = apart (sym (p refl))
last_apart true false false s true s' h p q i j z = omega arith
last_apart true false false s false s' h p q i j z = apart (i refl)
last_apart false true d true d' s' h p q i j z = apart (sym q)
last_apart false true d false d' true h p q i j z = omega arith
last_apart false true d false d' false h p q i j z = apart (j refl)
last_apart false false d s d' s' h p q i j z = apart h

-- with TLS established the verdict is none of those without
abbrev late : ℕ → Bool
late n = not (eqb n 1) && (not (eqb n 24) && not (eqb n 25))

late_last : (n e d s : Bool) → late (last_verdict n e d s) ≡ true
late_last true true true true = refl
late_last true true true false = refl
late_last true true false s = refl
late_last true false true s = refl
late_last true false false s = refl
late_last false true d true = refl
late_last false true d false = refl
late_last false false d s = refl

-- where no record counts: any record
abbrev spare : List ℕ
spare = 0 ∷ 0 ∷ 0 ∷ 0 ∷ []

spare_short : up_to 4096 spare ≡ true
unfolding up_to
spare_short = refl

spare_bytes : is_bytes spare ≡ true
unfolding all
spare_bytes = refl

-- nothing matches where there is no certificate
no_match : (rs : List (List ℕ)) (named : Bool) (r : List ℕ) → (counts rs r && record_matches named [] r) ≡ false
unfolding record_matches any
no_match rs named r = simp and-false

module _ (b : Base) where
  -- a set taken: its name, and its records inside the limits
  abbrev TakenOk : Taken → Type 0
  TakenOk nothing = Unit {0}
  TakenOk (set domain rs) = OkName domain × OkAnswer (secure rs)

  -- no certificate passes nothing
  nobody_dane : (s : Taken) → needs_dane s ≡ true → taken_passes b s nobody ≡ false
  unfolding dane_passes
  nobody_dane nothing h = apart h
  nobody_dane (set domain rs) h = any_none _ (no_match rs (names_reference (references b.origin domain b.next_hop b.expanded_next_hop) nobody)) rs

  nobody_sts : mta_sts_passes b nobody ≡ false
  unfolding mta_sts_passes shows_host
  nobody_sts = and-false (is_listed b)

  -- the one that passes: forged from the first record that counts
  bytes_of : Taken → List ℕ
  bytes_of nothing = 0 ∷ []
  bytes_of (set domain rs) = data_of (pick (counts rs) spare rs)

  name_of : Taken → List ℕ
  name_of nothing = b.host
  name_of (set domain rs) = domain

  somebody : Taken → Presented
  somebody s = showing (bytes_of s) (name_of s) b.host

  module _ (host_ok : OkName b.host) where
    somebody_ok : (s : Taken) → TakenOk s → OkPresented (somebody s)
    unfolding somebody bytes_of name_of all
    somebody_ok nothing k = showing_ok (0 ∷ []) b.host b.host host_ok.0 host_ok.0 (omega arith) refl host_ok.1 host_ok.1
    somebody_ok (set domain rs) k =
        let r : List ℕ = pick (counts rs) spare rs in
        let l : length r ≤ 4096 = up_to_true 4096 r (pick_all (counts rs) (up_to 4096) spare rs spare_short (set_each rs k.1.0)) in
        let m : is_bytes r ≡ true = pick_all (counts rs) is_bytes spare rs spare_bytes k.1.1 in
        showing_ok (drop 3 r) domain b.host k.0.0 host_ok.0 (omega (arith, length-drop 3 r)) (all_drop (λ (x : ℕ). leb x 255) 3 r m) k.0.1 host_ok.1

    somebody_dane : (s : Taken) → TakenOk s → needs_dane s ≡ true → taken_passes b s (somebody s) ≡ true
    unfolding somebody bytes_of name_of dane_passes
    somebody_dane nothing k h = apart h
    somebody_dane (set domain rs) k h =
        let some_counted : any (counts rs) rs ≡ true = some_counts rs (sym (authentication_is rs) ∙ h) in
        let r : List ℕ = pick (counts rs) spare rs in
        let is_counted : counts rs r ≡ true = pick_passes (counts rs) spare rs some_counted in
        let is_usable : usable r ≡ true = and_left (usable r) _ is_counted in
        pick_any (counts rs) _ spare rs some_counted (and_intro (counts rs r) _ is_counted (showing_matches r domain b.host k.0.0 host_ok.0 is_usable b.origin b.next_hop b.expanded_next_hop))

    somebody_sts : (s : Taken) → TakenOk s → is_listed b ≡ true → mta_sts_passes b (somebody s) ≡ true
    unfolding somebody bytes_of name_of mta_sts_passes
    somebody_sts nothing k l = and_intro (is_listed b) _ l (showing_host (0 ∷ []) b.host b.host host_ok.0 host_ok.0)
    somebody_sts (set domain rs) k l = and_intro (is_listed b) _ l (showing_host (data_of (pick (counts rs) spare rs)) domain b.host k.0.0 host_ok.0)

    module _ (listed_ok : needs_mta_sts b ≡ true → is_listed b ≡ true) where
      matters_authenticate : (s : Taken) → TakenOk s → (version : ℕ) → Matters Ok (authenticate b s version)
      matters_authenticate s k version = by_cond (Matters Ok) (needs_authentication b s) (λ e. by_cond (Matters Ok) (is_old version) (λ o. tt) (λ o. (
        record {
          left = set_of absent false nobody;
          right = set_of absent false (somebody s);
          left_ok = set_ok absent false nobody tt nobody_ok;
          right_ok = set_ok absent false (somebody s) tt (somebody_ok s k);
          differ = λ g. last_apart (needs_dane s) (needs_mta_sts b) (taken_passes b s nobody) (mta_sts_passes b nobody) (taken_passes b s (somebody s)) (mta_sts_passes b (somebody s)) e (nobody_dane s) nobody_sts (somebody_dane s k) (λ z. somebody_sts s k (listed_ok z));
        },
        λ p h. tt,
      ))) (λ e. tt)

      late_authenticate : (s : Taken) (version : ℕ) (f : Full) → late (verdict_of (authenticate b s version) f) ≡ true
      late_authenticate s version f =
          by_cond (λ (t : Rules). late (verdict_of t f) ≡ true) (needs_authentication b s)
          (λ e. by_cond (λ (t : Rules). late (verdict_of t f) ≡ true) (is_old version) (λ o. refl) (λ o. late_last (needs_dane s) (needs_mta_sts b) (taken_passes b s f.presented) (mta_sts_passes b f.presented)))
          (λ e. refl)

      early : (s : Taken) (version : ℕ) (f : Full) (x : Bool) (n : ℕ) → late n ≡ false → cond x n 1 ≡ verdict_of (authenticate b s version) f → ⊥
      early s version f true n h z = apart (sym h ∙ (ap late z ∙ late_authenticate s version f))
      early s version f false n h z = apart (ap late z ∙ late_authenticate s version f)

      matters_connect : (s : Taken) → TakenOk s → Matters Ok (connect b s)
      matters_connect s k = (fork_10, λ o h. by_cond (Matters Ok) o (λ x. (fork_11, matters_handshake)) (λ x. tt))
        where
          matters_handshake : (m : Handshake) → OkHandshake m → Matters Ok (after_handshake b s m)
          matters_handshake (established version) h = matters_authenticate s k version
          matters_handshake F.failed h = tt

          fork_10 : Two Ok (λ l r. (g : Facts) → Differ Ok (connect b s) (before starttls g) l r)
          fork_10 = record {
            left = set_of absent false nobody;
            right = set_of absent true nobody;
            left_ok = set_ok absent false nobody tt nobody_ok;
            right_ok = set_ok absent true nobody tt nobody_ok;
            differ = λ g. early s 771 _ (needs_anything b s) 24 refl;
          }

          fork_11 : Two Ok (λ l r. (g : Facts) → Differ Ok (ask 11 handshake (after_handshake b s)) (before handshake g) l r)
          fork_11 = record {
            left = set_of absent false nobody;
            right = set_of absent true nobody;
            left_ok = set_ok absent false nobody tt nobody_ok;
            right_ok = set_ok absent true nobody tt nobody_ok;
            differ = λ g. early s 771 _ (needs_anything b s) 25 refl;
          }

      -- the rules after an answer inside the limits
      matters_answer : (domain : List ℕ) (next : Rules) → OkName domain → Matters Ok next → (a : Answer) → OkAnswer a → Matters Ok (after_answer b domain (secure_records a) next (read_of a))
      matters_answer domain next n s = by_answer b domain next (λ (a : Answer) (t : Rules). OkAnswer a → Matters Ok t)
          (λ h. tt) (λ h. s) (λ h. s) (λ h. s) (λ r rs e h. tt) (λ r rs e h. matters_connect (set domain (r ∷ rs)) (n, h))

      -- not 22, where every lookup is absent and TLS is not offered
      calm : (x : Bool) → ◌≡◌ {A = ℕ} 22 (cond x 24 1) → ⊥
      calm true z = omega arith
      calm false z = omega arith

      matters_ask : (n : ℕ) (p : Place) (domain : List ℕ) (next : Rules) → OkName domain → Matters Ok next
          → ((g : Facts) → 22 ≡ verdict_of next (fill (before (tlsa p) g) (set_of absent false nobody)) → ⊥)
          → Matters Ok (ask n (tlsa p) (λ a. after_answer b domain (secure_records a) next (read_of a)))
      unfolding read_of
      matters_ask n first domain next m s c = (
        record {
          left = set_of failed false nobody;
          right = set_of absent false nobody;
          left_ok = set_ok failed false nobody tt nobody_ok;
          right_ok = set_ok absent false nobody tt nobody_ok;
          differ = c;
        },
        matters_answer domain next m s,
      )
      matters_ask n second domain next m s c = (
        record {
          left = set_of failed false nobody;
          right = set_of absent false nobody;
          left_ok = set_ok failed false nobody tt nobody_ok;
          right_ok = set_ok absent false nobody tt nobody_ok;
          differ = c;
        },
        matters_answer domain next m s,
      )

      matters_host : (p : Place) → Matters Ok (seek b p (host_name ∷ []))
      matters_host first = matters_ask 14 first b.host (connect b nothing) host_ok (matters_connect nothing tt) (λ g. calm (needs_mta_sts b))
      matters_host second = matters_ask 14 second b.host (connect b nothing) host_ok (matters_connect nothing tt) (λ g. calm (needs_mta_sts b))

      -- the rules after the policy's patterns
      abbrev sought : NamesOrVerdict → Rules
      sought (A.verdict v) = verdict v
      sought (names ns) = seek b first ns

      matters_sought : (a : Address) → (is_alias a ≡ true → OkName b.expanded) → Matters Ok (sought (names_to_try a))
      unfolding read_of
      matters_sought NoAliasSecure h = matters_host first
      matters_sought NoAliasInsecure h = matters_connect nothing tt
      matters_sought AliasSecure h = matters_ask 13 first b.expanded (seek b second (host_name ∷ [])) (h refl) (matters_host second) (λ g. calm (needs_mta_sts b))
      matters_sought AliasFirstStepSecure h = matters_host first
      matters_sought AliasFirstStepInsecure h = matters_connect nothing tt
      matters_sought Failed h = tt
      matters_sought NoAddress h = tt

listed_from : (e l : Bool) → (e && not l) ≡ false → e ≡ true → l ≡ true
listed_from true true z t = refl
listed_from true false z t = apart (sym z)
listed_from false l z t = apart t

matters_start : (b : Base) (h : OkName b.host) (st : NamesOrVerdict) → ((l : needs_mta_sts b ≡ true → is_listed b ≡ true) → Matters Ok (sought b h l st)) → Matters Ok (start b st)
matters_start b h (A.verdict v) k = tt
matters_start b h (names ns) k = by_cond (Matters Ok) (needs_mta_sts b && not (is_listed b)) (λ e. tt) (λ e. k (listed_from (needs_mta_sts b) (is_listed b) e))

pub matters_rules : (b : Base) → OkName b.host → (is_alias b.address ≡ true → OkName b.expanded) → Matters Ok (rules b)
unfolding rules
matters_rules b h e = matters_start b h (names_to_try b.address) (λ l. matters_sought b h l b.address e)
