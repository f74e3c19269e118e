-- What cannot authenticate, and what does not matter: laws of the two checks for every set, every reference and all certificate facts. Assumes nothing.
use Prim.Native.Nat.{ℕ}
use mathlib.Core.Path.{◌≡◌, refl, sym, ap, ◌∙◌}
use mathlib.Core.Bool.{Bool, true, false, not, ◌&&◌, and-false}
use mathlib.Core.List.{List, [], ◌∷◌, ◌++◌}
use mathlib.Core.Logic.{◌⊎◌, inl, inr}
use lib.Dec.{eqb}
use borrow.Author.Tests.{eqb-true}
use Rattle.lists.specs.Bytes.{all, any}
use Rattle.lists.proofs.Any.{any_none, any_fails, any_agree, any_swap}
use Rattle.tlsa.specs.Record.{usage_of, usable, counts}
use Rattle.tlsa.proofs.Ignored.{order}
use Rattle.certificates.specs.Facts.{Certificate, Presented}
use Rattle.certificates.specs.Checks.{matches_certificate, matches_on_path, leaf_of, after_leaf, record_matches, leaf_names, names_reference, dane_passes, shows_host}
use Rattle.certificates.proofs.Passing.{matches_3, matches_2}

-- the test that DANE makes of each record
abbrev passing : (refs set : List (List ℕ)) → Presented → List ℕ → Bool
passing refs set p r = counts set r && record_matches (names_reference refs p) p.certificates r

-- An empty set authenticates nobody.
pub empty_set : (refs : List (List ℕ)) (p : Presented) → dane_passes refs [] p ≡ false
unfolding dane_passes any
empty_set refs p = refl

-- A wholly unusable set authenticates nobody.
pub unusable_set : (refs set : List (List ℕ)) (p : Presented) → any usable set ≡ false → dane_passes refs set p ≡ false
unfolding dane_passes
unusable_set refs set p h = any_fails usable (passing refs set p) (λ r e. rw e) set h

-- With zero certificates neither check passes, whatever else is given.
no_leaf : (named : Bool) (certs : List Certificate) (r : List ℕ) → certs ≡ [] → record_matches named certs r ≡ false
unfolding record_matches any
no_leaf named certs r h = rw (h, and-false (eqb (usage_of r) 3), and-false (eqb (usage_of r) 2 && named))

pub no_certificate_no_dane : (refs set : List (List ℕ)) (p : Presented) → p.certificates ≡ [] → dane_passes refs set p ≡ false
unfolding dane_passes
no_certificate_no_dane refs set p h = any_none (passing refs set p) (λ r. rw (no_leaf (names_reference refs p) p.certificates r h) (and-false (counts set r))) set

pub no_certificate_no_host : (host : List ℕ) (p : Presented) → p.certificates ≡ [] → shows_host host p ≡ false
unfolding shows_host
no_certificate_no_host host p h = rw (h, and-false p.trusted_root)

-- every record of a set has this usage
abbrev pub all_of_usage : ℕ → List (List ℕ) → Bool
all_of_usage usage set = all (λ (r : List ℕ). eqb (usage_of r) usage) set

-- Usage 3 looks at the certificates alone: with the same certificates the check comes out the same, whatever references, names and root flag there are.
pub usage_3_alone : (refs others set : List (List ℕ)) (p q : Presented) → all_of_usage 3 set ≡ true → p.certificates ≡ q.certificates → dane_passes refs set p ≡ dane_passes others set q
unfolding dane_passes
usage_3_alone refs others set p q h e = any_agree (λ (r : List ℕ). eqb (usage_of r) 3) (passing refs set p) (passing others set q) same set h
  where
    same : (r : List ℕ) → eqb (usage_of r) 3 ≡ true → passing refs set p r ≡ passing others set q r
    same r u = ap (λ (b : Bool). counts set r && b) (matches_3 (names_reference refs p) p.certificates r (eqb-true (usage_of r) 3 u) ∙ ap (λ (certs : List Certificate). any (matches_certificate r) (leaf_of certs)) e ∙ sym (matches_3 (names_reference others q) q.certificates r (eqb-true (usage_of r) 3 u)))

-- Usage 2 passes by no means where the leaf names no reference, or where no certificate after the leaf has a path flag that holds: the leaf alone never passes.
module _ (refs set : List (List ℕ)) (p : Presented) (h : all_of_usage 2 set ≡ true) where
  usage_2_none : (names_reference refs p ≡ false ⊎ ((r : List ℕ) → any (matches_on_path r) (after_leaf p.certificates) ≡ false)) → dane_passes refs set p ≡ false
  unfolding dane_passes
  usage_2_none w = any_agree (λ (r : List ℕ). eqb (usage_of r) 2) (passing refs set p) (λ (r : List ℕ). false) (none w) set h ∙ any_none (λ (r : List ℕ). false) (λ r. refl) set
    where
      none : (names_reference refs p ≡ false ⊎ ((r : List ℕ) → any (matches_on_path r) (after_leaf p.certificates) ≡ false)) → (r : List ℕ) → eqb (usage_of r) 2 ≡ true → passing refs set p r ≡ false
      none (inl f) r u = rw (matches_2 (names_reference refs p) p.certificates r (eqb-true (usage_of r) 2 u), f) (and-false (counts set r))
      none (inr f) r u = rw (matches_2 (names_reference refs p) p.certificates r (eqb-true (usage_of r) 2 u), f r, and-false (names_reference refs p)) (and-false (counts set r))

  pub usage_2_unnamed : names_reference refs p ≡ false → dane_passes refs set p ≡ false
  usage_2_unnamed f = usage_2_none (inl f)

  pub usage_2_off_path : any (λ (c : Certificate). c.path) (after_leaf p.certificates) ≡ false → dane_passes refs set p ≡ false
  unfolding matches_on_path
  usage_2_off_path f = usage_2_none (inr (λ r. any_fails (λ (c : Certificate). c.path) (matches_on_path r) (λ c e. rw e) (after_leaf p.certificates) f))

-- The order of a set's records does not matter: any two that stand side by side may be exchanged.
pub set_order : (refs xs : List (List ℕ)) (r s : List ℕ) (ys : List (List ℕ)) (p : Presented) → dane_passes refs (xs ++ (r ∷ s ∷ ys)) p ≡ dane_passes refs (xs ++ (s ∷ r ∷ ys)) p
unfolding dane_passes
set_order refs xs r s ys p =
    (λ i. any (λ (x : List ℕ). usable x && not (order xs r s ys x i) && record_matches (names_reference refs p) p.certificates x) (xs ++ (r ∷ s ∷ ys)))
    ∙ any_swap (passing refs (xs ++ (s ∷ r ∷ ys)) p) xs r s ys

-- The common name counts only where there is no DNS-ID, and never for MTA-STS.
pub common_name_shut_out : (refs : List (List ℕ)) (id : List ℕ) (ids : List (List ℕ)) (p q : Presented) → p.dns_ids ≡ id ∷ ids → q.dns_ids ≡ id ∷ ids → names_reference refs p ≡ names_reference refs q
unfolding names_reference leaf_names
common_name_shut_out refs id ids p q e f = rw (e, f)

pub common_name_never : (host : List ℕ) (p q : Presented) → p.certificates ≡ q.certificates → p.dns_ids ≡ q.dns_ids → p.trusted_root ≡ q.trusted_root → shows_host host p ≡ shows_host host q
unfolding shows_host
common_name_never host p q c d t = rw (c, d, t)
