-- The facts that the rules reach come in document 01's order. So the first of them that isn't given is the first in that order. Assumes nothing.
use Prim.Native.Nat.{ℕ}
use mathlib.Core.Path.{◌≡◌, refl}
use mathlib.Core.Bool.{true, not, ◌&&◌}
use mathlib.Core.List.{List, [], ◌∷◌}
use lib.Dec.{ltb}
use Rattle.tlsa.specs.declared.Address.{Address}
use Rattle.tlsa.specs.declared.Address.TheVariants.{NoAliasSecure, NoAliasInsecure, AliasSecure, AliasFirstStepSecure, AliasFirstStepInsecure, Failed, NoAddress}
use Rattle.tlsa.specs.Address.{TlsaName, expanded_name, host_name, names, names_to_try}
use Rattle.tlsa.specs.Answer.{Answer}
use Rattle.hosts.specs.Facts.{Base, Handshake, established, failed, first, second, tlsa, Full, value}
use Rattle.hosts.specs.Tree.{Rules, reached}
use Rattle.hosts.specs.Rules.{is_old, needs_mta_sts, is_listed, Taken, nothing, set, needs_authentication, after_handshake, connect, domain_of, seek, start, rules}
use Rattle.hosts.specs.Demands.{is_rising}
use Rattle.lists.proofs.Bools.{by_cond}
use Rattle.hosts.proofs.AnswerCases.{by_answer}

module _ (b : Base) (f : Full) where
  abbrev Rises : ℕ → Rules → Type 0
  Rises n t = is_rising n (reached t f) ≡ true

  rises_handshake : (s : Taken) (m : Handshake) → Rises 4 (after_handshake b s m)
  rises_handshake s (established version) = by_cond (Rises 4) (needs_authentication b s) (λ e. by_cond (Rises 4) (is_old version) (λ o. refl) (λ o. refl)) (λ e. refl)
  rises_handshake s failed = refl

  rises_connect : (n : ℕ) → ltb n 3 ≡ true → (s : Taken) → Rises n (connect b s)
  rises_connect n h s = rw h (by_cond (Rises 3) f.offered (λ e. rises_handshake s f.outcome) (λ e. refl))

  rises_second : (n : TlsaName) → Rises 1 (seek b second (n ∷ []))
  rises_second n = by_answer b (domain_of b n) (seek b second []) (λ (a : Answer) (t : Rules). Rises 2 t) refl last last last (λ r rs e. refl) (λ r rs e. rises_connect 2 refl (set (domain_of b n) (r ∷ rs))) (value f (tlsa second))
    where
      last : Rises 2 (connect b nothing)
      last = rises_connect 2 refl nothing

  rises_first : (n : TlsaName) (ns : List TlsaName) → Rises 1 (seek b second ns) → Rises 0 (seek b first (n ∷ ns))
  rises_first n ns next = by_answer b (domain_of b n) (seek b second ns) (λ (a : Answer) (t : Rules). Rises 1 t) refl next next next (λ r rs e. refl) (λ r rs e. rises_connect 1 refl (set (domain_of b n) (r ∷ rs))) (value f (tlsa first))

  rises_names : (ns : List TlsaName) → Rises 0 (seek b first ns) → Rises 0 (start b (names ns))
  rises_names ns h = by_cond (Rises 0) (needs_mta_sts b && not (is_listed b)) (λ e. refl) (λ e. h)

  rises_start : (a : Address) → Rises 0 (start b (names_to_try a))
  rises_start NoAliasSecure = rises_names (host_name ∷ []) (rises_first host_name [] (rises_connect 1 refl nothing))
  rises_start NoAliasInsecure = rises_names [] (rises_connect 0 refl nothing)
  rises_start AliasSecure = rises_names (expanded_name ∷ host_name ∷ []) (rises_first expanded_name (host_name ∷ []) (rises_second host_name))
  rises_start AliasFirstStepSecure = rises_names (host_name ∷ []) (rises_first host_name [] (rises_connect 1 refl nothing))
  rises_start AliasFirstStepInsecure = rises_names [] (rises_connect 0 refl nothing)
  rises_start Failed = refl
  rises_start NoAddress = refl

  -- the facts that a full set reaches come in document 01's order, each once
  pub in_order : is_rising 0 (reached (rules b) f) ≡ true
  unfolding rules
  in_order = rises_start b.address
