-- The returns of the functions that have no loop. Assumes nothing.
use Prim.Native.Nat.{ℕ, ◌<◌, ◌≤◌}
use mathlib.Core.Path.{◌≡◌, refl, sym, ◌∙◌}
use mathlib.Core.Bool.{Bool, true, false, cond, ◌&&◌, ◌||◌, and-false, and-true, or-false}
use mathlib.Core.List.{List}
use native.Mathlib.Omega.{arith}
use lib.Dec.{eqb, leb}
use lib.ListN.{length, get_or, take}
use lib.Seq.{length-take-le, get_or-take}
use Rattle.std.proofs.lemmas.List.{length-take}
use borrow.Author.Tests.{le-leb, lt-leb, leb-true, leb-false, eq-eqb, ne_eqb}
use Rattle.numbers.specs.Numbers.{numbers, is_whole}
use Rattle.verdicts.specs.Verdicts.{is_delivery, is_next_host}
use Rattle.messages.specs.declared.MessageAnswer.{MessageAnswer}
use Rattle.messages.specs.declared.Host.{Host}
use Rattle.std.specs.Prelude.{Option, Some, None}
use Rattle.messages.specs.Hosts.{is_host_verdict, is_host_list, no_host, decided_answer, message_answer, hosts_answer, lists_answer}
use Rattle.messages.specs.Search.{before, with_host, decided_by, Gives}
use Rattle.messages.proofs.Arrays.{refused_list}

-- `is_host_verdict`
module _ (v : ℕ) where
  pub verdict_nine : v ≡ 9 → is_host_verdict v ≡ true
  unfolding is_host_verdict
  verdict_nine h = rw (eq-eqb v 9 h)

  pub verdict_next : is_next_host v ≡ true → is_host_verdict v ≡ true
  unfolding is_host_verdict
  verdict_next n = rw n (go (eqb v 9) (is_delivery v))
    where
      go : (a b : Bool) → (a || (b || true)) ≡ true
      go true b = refl
      go false true = refl
      go false false = refl

  pub verdict_final : is_next_host v ≡ false → (v ≡ 9 → ⊥) → is_host_verdict v ≡ is_delivery v
  unfolding is_host_verdict
  verdict_final f n = rw (ne_eqb v 9 n, f, or-false (is_delivery v))

pub ruleset verdict_laws = (verdict_nine, verdict_final, verdict_next)

-- `with_host`
module _ (h : Host) (d : Option Host) where
  pub with_next : is_next_host h.verdict ≡ true → d ≡ with_host h d
  unfolding with_host
  with_next t = rw t

  module _ (f : is_next_host h.verdict ≡ false) where
    pub with_first : d ≡ None → Some h ≡ with_host h d
    unfolding with_host before
    with_first e = rw (f, e)

    pub with_lower : (x : Host) → d ≡ Some x → x.preference < h.preference → d ≡ with_host h d
    unfolding with_host before
    with_lower x e l = rw (f, e, lt-leb h.preference x.preference l)

    pub with_higher : (x : Host) → d ≡ Some x → h.preference ≤ x.preference → Some h ≡ with_host h d
    unfolding with_host before
    with_higher x e l = rw (f, e, le-leb h.preference x.preference l)

pub ruleset with_laws = (with_next, with_first, with_lower, with_higher)

-- `decided_by`
pub decided_none : (r : MessageAnswer) → r ≡ no_host 31 → r ≡ decided_by None
unfolding decided_by
decided_none r e = e

module _ (h : Host) where
  pub decided_nine : h.verdict ≡ 9 → ◌≡◌ {A = MessageAnswer} (record { number = 8; position = h.position }) (decided_by (Some h))
  unfolding decided_by decided_answer
  decided_nine n = rw (eq-eqb h.verdict 9 n)

  pub decided_final : (h.verdict ≡ 9 → ⊥) → ◌≡◌ {A = MessageAnswer} (record { number = h.verdict; position = h.position }) (decided_by (Some h))
  unfolding decided_by decided_answer
  decided_final n = rw (ne_eqb h.verdict 9 n)

pub ruleset decided_laws = (decided_none, decided_nine, decided_final)

-- lists that are empty, too long, or of unequal length, are no list of hosts
empty_list : (ps vs : List ℕ) → length ps < 1 → is_host_list ps vs ≡ false
unfolding is_host_list
empty_list ps vs h = rw (lt-leb 1 (length ps) h)

uneven_list : (ps vs : List ℕ) → (length vs ≡ length ps → ⊥) → is_host_list ps vs ≡ false
unfolding is_host_list
uneven_list ps vs d = rw (ne_eqb (length vs) (length ps) d, and-false)

-- `first_host`: r is its answer
module _ (ps vs : List ℕ) (count : ℕ) (r : MessageAnswer) where
  pub first_outside : (leb 1 count && leb count 32) ≡ false → r ≡ no_host 63 → r ≡ hosts_answer count ps vs
  unfolding hosts_answer
  first_outside h e = go (leb count 32) refl
    where
      go : (t : Bool) → leb count 32 ≡ t → r ≡ cond t (message_answer (take count ps) (take count vs)) (no_host 63)
      go true q =
          let b : count ≤ 32 = leb-true count 32 q in
          let z : count < 1 = leb-false 1 count (sym (and-true (leb 1 count)) ∙ rw q at h) in
          let s : length (take count ps) < 1 = omega (arith, length-take count ps) in
          e ∙ sym (refused_list (take count ps) (take count vs) (empty_list (take count ps) (take count vs) s))
      go false q = e

  pub first_walk : count ≤ 32 → r ≡ message_answer (take count ps) (take count vs) → r ≡ hosts_answer count ps vs
  unfolding hosts_answer
  first_walk h e = rw (le-leb count 32 h) e

-- what a closure that reads an array gives at its front
pub front_gives : (ns : List ℕ) (count : ℕ) (post : ℕ → ℕ → Type 0) → count ≤ length ns → ((k r : ℕ) → k < count → post k r → r ≡ get_or ns k 0) → Gives count post (take count ns)
front_gives ns count post h f = record { long = length-take-le count ns h; each = λ k r i q. f k r i q ∙ sym (get_or-take count ns k 0 i) }

-- `answer_of_lists`: r is its answer
module _ (ps vs : List ℕ) (r : MessageAnswer) where
  pub lists_left : is_whole ps ≡ false → r ≡ no_host 63 → r ≡ lists_answer ps vs
  unfolding lists_answer
  lists_left f e = rw f e

  pub lists_left₂ : is_whole vs ≡ false → r ≡ no_host 63 → r ≡ lists_answer ps vs
  unfolding lists_answer
  lists_left₂ f e = rw (f, and-false (is_whole ps)) e

  module _ (t : is_whole ps ≡ true) (u : is_whole vs ≡ true) where
    refuses : is_host_list (numbers ps) (numbers vs) ≡ false → r ≡ no_host 63 → r ≡ lists_answer ps vs
    unfolding lists_answer
    refuses f e = rw (t, u) (e ∙ sym (refused_list (numbers ps) (numbers vs) f))

    pub lists_outside : (leb 1 (length (numbers ps)) && leb (length (numbers ps)) 32) ≡ false → r ≡ no_host 63 → r ≡ lists_answer ps vs
    unfolding is_host_list
    lists_outside h e = refuses (rw h refl) e

    pub lists_uneven : (length (numbers vs) ≡ length (numbers ps) → ⊥) → r ≡ no_host 63 → r ≡ lists_answer ps vs
    lists_uneven d e = refuses (uneven_list (numbers ps) (numbers vs) d) e

    pub lists_hosts : r ≡ message_answer (numbers ps) (numbers vs) → r ≡ lists_answer ps vs
    unfolding lists_answer
    lists_hosts e = rw (t, u) e
