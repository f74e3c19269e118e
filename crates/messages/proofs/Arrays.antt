-- What is no list of hosts is refused; and `read_hosts`: the numbers of the two lists, at the front of arrays of 32. Assumes nothing.
use Prim.Native.Nat.{ℕ, zero, suc, ◌+◌, ◌<◌, ◌≤◌}
use mathlib.Core.Path.{◌≡◌, sym, ap, ◌∙◌}
use mathlib.Core.Bool.{Bool, false, and-false}
use mathlib.Core.List.{List, [], ◌∷◌}
use native.Mathlib.Numerals.{add-one}
use native.Mathlib.Omega.{arith}
use lib.ListN.{length, get_or, take, set}
use lib.Seq.{take-suc, take-suc-set, take-length}
use borrow.Author.Rules.{rules}
use borrow.Author.Tests.{le-leb, lt-leb, ne_eqb}
use Rattle.lists.specs.Bytes.{all}
use Rattle.verdicts.proofs.Ranges.{no_verdict_from}
use Rattle.messages.specs.declared.MessageAnswer.{MessageAnswer}
use Rattle.messages.specs.Hosts.{is_preference, is_host_verdict, is_host_list, no_host, message_answer, hosts_answer}

-- one number that fails a test
pub all_fails : (p : ℕ → Bool) (ns : List ℕ) (k : ℕ) → k < length ns → p (get_or ns k 0) ≡ false → all p ns ≡ false
unfolding all
all_fails p [] k h f = absurd (omega arith)
all_fails p (x ∷ ns) zero h f = rw f
all_fails p (x ∷ ns) (suc k) h f = rw (all_fails p ns k (omega arith) f) (and-false (p x))

-- what is no list of hosts is refused
pub refused_list : (ps vs : List ℕ) → is_host_list ps vs ≡ false → message_answer ps vs ≡ no_host 63
unfolding message_answer
refused_list ps vs f = rw f

bad_preference : (ps vs : List ℕ) → all is_preference ps ≡ false → is_host_list ps vs ≡ false
unfolding is_host_list
bad_preference ps vs f = simp (f, and-false)

bad_verdict : (ps vs : List ℕ) → all is_host_verdict vs ≡ false → is_host_list ps vs ≡ false
unfolding is_host_list
bad_verdict ps vs f = simp (f, and-false)

pub no_preference : (ps vs : List ℕ) → all is_preference ps ≡ false → message_answer ps vs ≡ no_host 63
no_preference ps vs f = refused_list ps vs (bad_preference ps vs f)

pub no_verdict : (ps vs : List ℕ) → all is_host_verdict vs ≡ false → message_answer ps vs ≡ no_host 63
no_verdict ps vs f = refused_list ps vs (bad_verdict ps vs f)

-- at place k of the lists ps and vs, which have `count` numbers each; r is the answer
module _ (ps vs : List ℕ) (k count : ℕ) (counted : count ≡ length ps) (counted₂ : count ≡ length vs) (r : MessageAnswer) where
  module _ (h : k < count) (refused : r ≡ no_host 63) (n : ℕ) where
    high : n ≡ get_or ps k 0 → 65535 < n → is_preference (get_or ps k 0) ≡ false
    unfolding is_preference
    high e o = lt-leb (get_or ps k 0) 65535 (omega arith)

    pub read_preference : n ≡ get_or ps k 0 → 65535 < n → r ≡ message_answer ps vs
    read_preference e o = refused ∙ sym (no_preference ps vs (all_fails is_preference ps k (omega arith) (high e o)))

    other : n ≡ get_or vs k 0 → 255 < n → is_host_verdict (get_or vs k 0) ≡ false
    unfolding is_host_verdict
    other e o = rw (ne_eqb (get_or vs k 0) 9 (λ q. omega arith)) (no_verdict_from (get_or vs k 0) (omega arith))

    pub read_verdict_lem : n ≡ get_or vs k 0 → 255 < n → r ≡ message_answer ps vs
    read_verdict_lem e o = refused ∙ sym (no_verdict ps vs (all_fails is_host_verdict vs k (omega arith) (other e o)))

-- the first k numbers of ns stand at the front of a; v is what `number` gave
pub filled_next : (ns a : List ℕ) (k n : ℕ) → take k a ≡ take k ns → n ≡ length ns → (v : ℕ) → v ≡ get_or ns k 0 → k < n → length a ≡ 32 → n ≤ 32 → take (k + 1) (set a k v) ≡ take (k + 1) ns
filled_next ns a k n inv counted v given h full fits = let w : k < length a = omega arith in rw (add-one k, take-suc-set a k v w, inv, given, take-suc ns k 0 (omega arith))

-- all numbers of the lists stand at the front of a and b; r is what `first_host` gave
pub read_all : (ps vs : List ℕ) (count : ℕ) → count ≡ length ps → count ≡ length vs → count ≤ 32 → (a b : List ℕ) → take count a ≡ take count ps → take count b ≡ take count vs → (r : MessageAnswer) → r ≡ hosts_answer count a b → r ≡ message_answer ps vs
unfolding hosts_answer
read_all ps vs count counted counted₂ fits a b p q r e =
    let f : take count a ≡ ps = p ∙ (ap (λ (n : ℕ). take n ps) counted ∙ take-length ps) in
    let g : take count b ≡ vs = q ∙ (ap (λ (n : ℕ). take n vs) counted₂ ∙ take-length vs) in
    e ∙ rw (le-leb count 32 fits, f, g)

pub ruleset read_laws = (read_preference, read_verdict_lem, read_all, filled_next, rules)
