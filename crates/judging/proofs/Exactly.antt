-- When the call answers 90 and 91, to the letter; and no answer is zero. Assumes nothing.
use Rattle.std.specs.Prelude.{Result, Ok, Err}
use Prim.Native.Nat.{ℕ}
use mathlib.Core.Path.{◌≡◌, refl, sym, ap, ◌∙◌}
use mathlib.Core.Bool.{Bool, true, false, cond, ◌&&◌, ◌||◌, and-false}
use mathlib.Core.List.{List}
use borrow.Author.Tests.{ne_eqb, eq-eqb}
use lib.Dec.{eqb}
use Rattle.lists.proofs.Bools.{apart}
use Rattle.verdicts.specs.Verdicts.{is_delivery, is_next_host}
use Rattle.policies.specs.Policy.{policy_answer}
use Rattle.policies.proofs.Sanity.{is_policy_refusal, policy_number_lem}
use Rattle.hosts.specs.declared.HostAnswer.{HostAnswer}
use Rattle.hosts.specs.Arguments.{Arguments}
use Rattle.hosts.specs.Call.{codes_fit, clocks_fit, next_hops_fit, host_names_fit, policy_fits, answers_fit, checks, refused, host_answer}
use Rattle.hosts.proofs.Table.{is_answer, in_table}
use Rattle.x509.specs.declared.Found.{Found}
use Rattle.leaf.specs.declared.ReadError.{ReadError}
use Rattle.leaf.specs.Read.{read_leaf}
use Rattle.judging.specs.Judging.{has_leaf, leaf_of, on_read, chain_keeps, read_answer, chain_answer, certificate_answer}

-- the certificate has a fault
abbrev pub is_fault : Result Found ReadError → Bool
is_fault (Err (ReadError.Malformed o)) = true
is_fault (Err ReadError.ManyDnsIds) = false
is_fault (Ok f) = false

-- it has none, and over 64 DNS-IDs
abbrev pub is_many : Result Found ReadError → Bool
is_many (Err (ReadError.Malformed o)) = false
is_many (Err ReadError.ManyDnsIds) = true
is_many (Ok f) = false

-- a number that is no answer of the plain call
module _ (n : ℕ) (outside : is_answer n ≡ false) where
  plain_not : (a : Arguments) → eqb (host_answer a).number n ≡ false
  plain_not a = ne_eqb (host_answer a).number n (λ e. apart (sym outside ∙ ap is_answer (sym e) ∙ in_table a))

policy_not : (n : ℕ) → (eqb n 7 || is_policy_refusal n) ≡ false → (s : List ℕ) → eqb (policy_answer s).number n ≡ false
policy_not n h s = ne_eqb (policy_answer s).number n (λ e. apart (sym h ∙ ap (λ (k : ℕ). eqb k 7 || is_policy_refusal k) (sym e) ∙ policy_number_lem s))

-- a choice has that number where it is taken and its answer has it
by_choice : (b t : Bool) (x y : HostAnswer) (n : ℕ) → eqb y.number n ≡ false → eqb x.number n ≡ t → eqb (cond b x y).number n ≡ (b && t)
by_choice true t x y n h e = e
by_choice false t x y n h e = h

-- a number that neither the plain call nor a check answers, with the readings of the leaf that it answers
module _ (a : Arguments) (n : ℕ) (outside : is_answer n ≡ false) (policy : (eqb n 7 || is_policy_refusal n) ≡ false)
    (t : Result Found ReadError → Bool) (on_reading : (x : Result Found ReadError) → eqb (read_answer a x).number n ≡ t x) where
  number_is : eqb 67 n ≡ false → eqb 62 n ≡ false → eqb 60 n ≡ false → eqb 61 n ≡ false → eqb 64 n ≡ false → eqb 65 n ≡ false
      → eqb (certificate_answer a).number n ≡ (has_leaf a && (codes_fit a && (clocks_fit a && (next_hops_fit a && (host_names_fit a && (policy_fits a && (answers_fit a && (chain_keeps a && t (read_leaf (leaf_of a))))))))))
  unfolding certificate_answer checks chain_answer
  number_is e67 e62 e60 e61 e64 e65 =
      by_choice (has_leaf a) _ _ (host_answer a) n (plain_not n outside a)
      (by_choice (codes_fit a) _ _ (refused 67) n e67
      (by_choice (clocks_fit a) _ _ (refused 62) n e62
      (by_choice (next_hops_fit a) _ _ (refused 60) n e60
      (by_choice (host_names_fit a) _ _ (refused 61) n e61
      (by_choice (policy_fits a) _ _ (refused (policy_answer a.body).number) n (policy_not n policy a.body)
      (by_choice (answers_fit a) _ _ (refused 64) n e64
      (by_choice (chain_keeps a) _ _ (refused 65) n e65 (on_reading (read_leaf (leaf_of a))))))))))

-- 90 exactly where there is a leaf, every check before and the limits of the certificates pass, and the leaf has a fault
pub exactly_90 : (a : Arguments)
    → eqb (certificate_answer a).number 90 ≡ (has_leaf a && (codes_fit a && (clocks_fit a && (next_hops_fit a && (host_names_fit a && (policy_fits a && (answers_fit a && (chain_keeps a && is_fault (read_leaf (leaf_of a))))))))))
unfolding read_answer is_delivery is_next_host
exactly_90 a = number_is a 90 refl refl is_fault go refl refl refl refl refl refl
  where
    go : (x : Result Found ReadError) → eqb (read_answer a x).number 90 ≡ is_fault x
    go (Err (ReadError.Malformed o)) = refl
    go (Err ReadError.ManyDnsIds) = refl
    go (Ok f) = plain_not 90 refl (on_read a (leaf_of a) f)

-- 91 exactly where there is a leaf, all that passes, and the leaf has no fault and over 64 DNS-IDs
pub exactly_91 : (a : Arguments)
    → eqb (certificate_answer a).number 91 ≡ (has_leaf a && (codes_fit a && (clocks_fit a && (next_hops_fit a && (host_names_fit a && (policy_fits a && (answers_fit a && (chain_keeps a && is_many (read_leaf (leaf_of a))))))))))
unfolding read_answer is_delivery is_next_host
exactly_91 a = number_is a 91 refl refl is_many go refl refl refl refl refl refl
  where
    go : (x : Result Found ReadError) → eqb (read_answer a x).number 91 ≡ is_many x
    go (Err (ReadError.Malformed o)) = refl
    go (Err ReadError.ManyDnsIds) = refl
    go (Ok f) = plain_not 91 refl (on_read a (leaf_of a) f)

-- no answer is zero
pub never_zero : (a : Arguments) → (certificate_answer a).number ≡ 0 → ⊥
unfolding read_answer is_delivery is_next_host
never_zero a e = apart (sym (number_is a 0 refl refl (λ x. false) go refl refl refl refl refl refl ∙ simp and-false) ∙ eq-eqb (certificate_answer a).number 0 e)
  where
    go : (x : Result Found ReadError) → eqb (read_answer a x).number 0 ≡ false
    go (Err (ReadError.Malformed o)) = refl
    go (Err ReadError.ManyDnsIds) = refl
    go (Ok f) = plain_not 0 refl (on_read a (leaf_of a) f)
