-- What the rules reach is what document 01 says that they reach, in its order, each asked for by its number. So what demands 2 and 3 say of it doesn't rest on the tree alone. Assumes nothing.
use Prim.Native.Nat.{ℕ}
use mathlib.Core.Path.{◌≡◌, refl, ap}
use mathlib.Core.Bool.{Bool, true, false, not, cond, ◌&&◌, ◌||◌}
use mathlib.Core.List.{List, [], ◌∷◌, ◌++◌}
use Rattle.lists.specs.Bytes.{any}
use Rattle.tlsa.specs.declared.Address.{Address}
use Rattle.tlsa.specs.declared.Address.TheVariants.{NoAliasSecure, NoAliasInsecure, AliasSecure, AliasFirstStepSecure, AliasFirstStepInsecure, Failed, NoAddress}
use Rattle.tlsa.specs.Address.{TlsaName, expanded_name, host_name, names, names_to_try}
use Rattle.tlsa.specs.Record.{usable}
use Rattle.tlsa.specs.Answer.{Answer, secure_records, read_of}
use Rattle.certificates.specs.Facts.{Presented}
use Rattle.hosts.specs.Facts.{Base, Handshake, Place, first, second, Fact, tlsa, starttls, handshake, certificates, Full}
use Rattle.hosts.specs.Facts as F
use Rattle.hosts.specs.Tree.{Rules, Question, verdict, ask, reached}
use Rattle.hosts.specs.Rules.{is_old, needs_mta_sts, is_listed, mta_sts_passes, Taken, nothing, set, needs_dane, needs_authentication, needs_anything, taken_passes, last_verdict, after_handshake, connect, after_answer, seek, start, rules}
use Rattle.hosts.specs.Demands.{is_established}
use Rattle.hosts.specs.Verdicts.{Tried, tried, search_end, is_lookup_failure, is_live_enforce, lists_host, is_handshake_made, is_made_below0303, tests_at, tests_of, is20, is21, is22, is23, tlsa_reached, connection_reached, facts_reached, asks}
use Rattle.hosts.proofs.AnswerCases.{authentication_is, by_answer}
use Rattle.hosts.proofs.Second.{is_made_old}
use Rattle.hosts.proofs.Verdicts.{enforced_is, listed_is, made_is, old_is}

-- facts with the numbers that ask for them
abbrev pub asked : Address → List Fact → List Question
asked x [] = []
asked x (q ∷ qs) = record { number = asks q x; fact = q } ∷ asked x qs

module _ (b : Base) (f : Full) where
  -- from STARTTLS on, where DANE is needed (u)
  abbrev onwards : Bool → List Fact
  onwards u = starttls ∷ cond f.offered (handshake ∷ cond (is_established f.outcome && ((u || needs_mta_sts b) && not (is_made_old f.outcome))) (certificates ∷ []) []) []

  module _ (x : Address) where
    reached_handshake : (s : Taken) (m : Handshake) → reached (after_handshake b s m) f ≡ asked x (cond (is_established m && ((needs_authentication b s) && not (is_made_old m))) (certificates ∷ []) [])
    reached_handshake s (F.established version) = go (needs_authentication b s) (is_old version) (λ p. verdict (last_verdict (needs_dane s) (needs_mta_sts b) (taken_passes b s p) (mta_sts_passes b p))) (λ p. refl)
      where
        go : (t w : Bool) (k : Presented → Rules) → ((p : Presented) → reached (k p) f ≡ []) → reached (cond t (cond w (verdict 28) (ask 12 certificates k)) (verdict 2)) f ≡ asked x (cond (t && not w) (certificates ∷ []) [])
        go true true k n = refl
        go true false k n = rw (n f.presented)
        go false w k n = refl
    reached_handshake s F.failed = refl

    reached_connect : (s : Taken) → reached (connect b s) f ≡ asked x (onwards (needs_dane s))
    reached_connect s = go f.offered (cond (needs_anything b s) 24 1)
      where
        go : (o : Bool) (v : ℕ) → (record { number = 10; fact = starttls } ∷ reached (cond o (ask 11 handshake (after_handshake b s)) (verdict v)) f) ≡ asked x (starttls ∷ cond o (handshake ∷ cond (is_established f.outcome && ((needs_authentication b s) && not (is_made_old f.outcome))) (certificates ∷ []) []) [])
        go true v = rw (reached_handshake s f.outcome)
        go false v = refl

    -- after the search: nothing where the lookup failed
    abbrev after : Tried → List Fact
    after t = cond (is_lookup_failure t.answer) [] (onwards (any usable (secure_records t.answer)))

    reached_nothing : reached (connect b nothing) f ≡ asked x (tlsa_reached second [] ++ after (search_end []))
    unfolding any
    reached_nothing = reached_connect nothing

    -- a name that is tried, at a place
    reached_answer : (p : Place) (domain : List ℕ) (next : Rules) (ts : List Tried) → reached next f ≡ asked x (tlsa_reached second ts ++ after (search_end ts)) → (a : Answer)
        → (record { number = asks (tlsa p) x; fact = tlsa p } ∷ reached (after_answer b domain (secure_records a) next (read_of a)) f) ≡ asked x (tlsa_reached p (record { name = domain; answer = a } ∷ ts) ++ after (search_end (record { name = domain; answer = a } ∷ ts)))
    reached_answer p domain next ts h = by_answer b domain next (λ (a : Answer) (t : Rules). (record { number = asks (tlsa p) x; fact = tlsa p } ∷ reached t f) ≡ asked x (tlsa_reached p (record { name = domain; answer = a } ∷ ts) ++ after (search_end (record { name = domain; answer = a } ∷ ts))))
        refl more more more
        (λ r rs e. rw e)
        (λ r rs e. rw (e, reached_connect (set domain (r ∷ rs)), authentication_is (r ∷ rs)))
      where
        more : (record { number = asks (tlsa p) x; fact = tlsa p } ∷ reached next f) ≡ (record { number = asks (tlsa p) x; fact = tlsa p } ∷ asked x (tlsa_reached second ts ++ after (search_end ts)))
        more = ap (λ (l : List Question). record { number = asks (tlsa p) x; fact = tlsa p } ∷ l) h

    reached_host : (p : Place) (a : Answer) → (record { number = asks (tlsa p) x; fact = tlsa p } ∷ reached (after_answer b b.host (secure_records a) (connect b nothing) (read_of a)) f) ≡ asked x (tlsa_reached p (record { name = b.host; answer = a } ∷ []) ++ after (search_end (record { name = b.host; answer = a } ∷ [])))
    reached_host p = reached_answer p b.host (connect b nothing) [] reached_nothing

    -- the facts that are reached after 20 and 21, in the paper's words: e is a live enforce policy, l whether it lists the host
    abbrev found : (e l : Bool) → List Tried → (m w : Bool) → List Fact
    found e l ts m w =
        cond (e && not l) []
        (tlsa_reached first ts ++ cond (not (e && not l) && is_lookup_failure (search_end ts).answer) [] (starttls ∷ cond f.offered (handshake ∷ cond (m && ((any usable (secure_records (search_end ts).answer) || e) && not w)) (certificates ∷ []) []) []))

    reached_names : (ns : List TlsaName) (ts : List Tried) → reached (seek b first ns) f ≡ asked x (tlsa_reached first ts ++ after (search_end ts)) → reached (start b (names ns)) f ≡ asked x (found (is_live_enforce b.clock b.policy) (lists_host b.host b.policy) ts (is_handshake_made f.outcome) (is_made_below0303 f.outcome))
    reached_names ns ts h = rw (enforced_is b f, listed_is b f, made_is f.outcome, old_is f.outcome) (go (needs_mta_sts b && not (is_listed b)))
      where
        go : (u : Bool) → reached (cond u (verdict 23) (seek b first ns)) f ≡ asked x (cond u [] (tlsa_reached first ts ++ cond (not u && is_lookup_failure (search_end ts).answer) [] (onwards (any usable (secure_records (search_end ts).answer)))))
        go true = refl
        go false = h

  abbrev facts_at : Address → List Fact
  facts_at x =
      let t = tests_at b f x (search_end (tried b f x)) in
      cond (is20 t || (is21 t || is23 t)) [] (tlsa_reached first (tried b f x) ++ cond (is22 t) [] (connection_reached t))

  reached_address : (x : Address) → reached (start b (names_to_try x)) f ≡ asked x (facts_at x)
  reached_address NoAliasSecure = reached_names NoAliasSecure (host_name ∷ []) (tried b f NoAliasSecure) (reached_host NoAliasSecure first f.tlsa1)
  reached_address NoAliasInsecure = reached_names NoAliasInsecure [] [] (reached_nothing NoAliasInsecure)
  reached_address AliasSecure = reached_names AliasSecure (expanded_name ∷ host_name ∷ []) (tried b f AliasSecure) (reached_answer AliasSecure first b.expanded (seek b second (host_name ∷ [])) (record { name = b.host; answer = f.tlsa2 } ∷ []) (reached_host AliasSecure second f.tlsa2) f.tlsa1)
  reached_address AliasFirstStepSecure = reached_names AliasFirstStepSecure (host_name ∷ []) (tried b f AliasFirstStepSecure) (reached_host AliasFirstStepSecure first f.tlsa1)
  reached_address AliasFirstStepInsecure = reached_names AliasFirstStepInsecure [] [] (reached_nothing AliasFirstStepInsecure)
  reached_address Failed = refl
  reached_address NoAddress = refl

  -- what the rules reach in a full set, with its questions' numbers
  pub reaches_what_01_says : reached (rules b) f ≡ asked b.address (facts_reached b f)
  unfolding rules tests_of facts_reached
  reaches_what_01_says = reached_address b.address
