-- Which host decides, and what the answers can be. Assumes nothing.
use Prim.Native.Nat.{ℕ, ◌+◌, ◌<◌}
use mathlib.Core.Path.{◌≡◌, refl, sym, ap, subst, ◌∙◌}
use mathlib.Core.Bool.{Bool, true, false, cond, not, ◌&&◌, ◌||◌, or-true}
use mathlib.Core.List.{List, [], ◌∷◌}
use native.Mathlib.Omega.{arith}
use lib.Dec.{eqb, leb, ltb}
use lib.ListN.{length, get_or, take}
use borrow.Author.Tests.{lt-ltb, eq-eqb, ne_eqb, ltb-true, eqb-true}
use Rattle.lists.specs.Bytes.{within, all}
use Rattle.numbers.specs.Numbers.{numbers, is_whole}
use Rattle.verdicts.specs.Verdicts.{is_delivery, is_next_host}
use Rattle.messages.specs.declared.MessageAnswer.{MessageAnswer}
use Rattle.messages.specs.declared.MxLookup.{MxLookup}
use Rattle.messages.specs.declared.MxLookup.TheVariants.{Answered, Failed}
use Rattle.messages.specs.declared.Host.{Host}
use Rattle.messages.specs.Hosts.{is_preference, is_host_verdict, is_host_list, hosts_from, hosts_of, in_order, no_host, decided_answer, decided, message_answer, hosts_answer, lists_answer, next_host}
use Rattle.messages.specs.Order.{comes_before, is_ordered, host_at, Decides, is_decision, Outcome, is_message_answer}
use Rattle.messages.specs.Order.Outcome.{refused, none, one}
use Rattle.lists.proofs.Bools.{apart, and_left, and_right}
use Rattle.lists.proofs.All.{all_more}
use Rattle.messages.proofs.Order.{before_fails, before_turn, before_self, all_in_order, ordered, all_hosts, each_host}

-- a host's verdict passes a test
abbrev verdict_is : (ℕ → Bool) → Host → Bool
verdict_is q x = q x.verdict

-- x does not come before h, or is a "next host"
abbrev passes : Host → Host → Bool
passes h x = not (comes_before x h) || is_next_host x.verdict

-- the first host of an ordered list that is not a "next host"
record Found (xs : List Host) : Type 0 where
  host : Host
  is : decided xs ≡ decided_answer host
  stops : is_next_host host.verdict ≡ false
  among : (p : Host → Bool) → all p xs ≡ true → p host ≡ true
  first : all (passes host) xs ≡ true

found : (xs : List Host) → is_ordered xs ≡ true → all (verdict_is is_next_host) xs ≡ false → Found xs
unfolding all is_ordered decided
found [] o n = apart (sym n)
found (x ∷ xs) o n = go (found xs (and_right (all (comes_before x) xs) (is_ordered xs) o)) (is_next_host x.verdict) refl n
  where
    go : (all (verdict_is is_next_host) xs ≡ false → Found xs) → (t : Bool) → is_next_host x.verdict ≡ t → (t && all (verdict_is is_next_host) xs) ≡ false → Found (x ∷ xs)
    go ih true e n =
        let f : Found xs = ih n in
        record {
          host = f.host;
          is = rw e f.is;
          stops = f.stops;
          among = λ p h. f.among p (and_right (p x) (all p xs) h);
          first = rw (e, or-true) f.first;
        }
    go ih false e n =
        record {
          host = x;
          is = rw e;
          stops = e;
          among = λ p h. and_left (p x) (all p xs) h;
          first = rw before_self (all_more (comes_before x) (passes x) (λ y b. rw (before_turn x y b)) xs (and_left (all (comes_before x) xs) (is_ordered xs) o));
        }

none_decides : (xs : List Host) → all (verdict_is is_next_host) xs ≡ true → decided xs ≡ no_host 31
unfolding all decided
none_decides [] h = refl
none_decides (x ∷ xs) h =
    rw (and_left (is_next_host x.verdict) (all (verdict_is is_next_host) xs) h)
    (none_decides xs (and_right (is_next_host x.verdict) (all (verdict_is is_next_host) xs) h))

-- a test of every host's verdict is one of every verdict
all_verdicts : (q : ℕ → Bool) (k : ℕ) (ps vs : List ℕ) → length vs ≡ length ps → all (verdict_is q) (hosts_from k ps vs) ≡ all q vs
unfolding all hosts_from
all_verdicts q k [] [] e = refl
all_verdicts q k [] (v ∷ vs) e = absurd (omega arith)
all_verdicts q k (p ∷ ps) [] e = absurd (omega arith)
all_verdicts q k (p ∷ ps) (v ∷ vs) e = rw (all_verdicts q (k + 1) ps vs (omega arith))

order_verdicts : (q : ℕ → Bool) (ps vs : List ℕ) → length vs ≡ length ps → all (verdict_is q) (in_order (hosts_of ps vs)) ≡ all q vs
order_verdicts q ps vs e = all_in_order (verdict_is q) (hosts_of ps vs) ∙ all_verdicts q 0 ps vs e

-- a host verdict that is not a "next host" gives 8 or 1 to 5
decisive_number : (v : ℕ) → is_host_verdict v ≡ true → is_next_host v ≡ false → is_decision (cond (eqb v 9) 8 v) ≡ true
unfolding is_host_verdict is_decision
decisive_number v h n = go (eqb v 9) (is_delivery v) refl (is_next_host v) n h
  where
    go : (t u : Bool) → is_delivery v ≡ u → (w : Bool) → w ≡ false → (t || (u || w)) ≡ true → (eqb (cond t 8 v) 8 || is_delivery (cond t 8 v)) ≡ true
    go true u e w f k = refl
    go false true e w f k = rw (e, or-true)
    go false false e w f k = apart (sym f ∙ k)

-- the host x is the one at its position
abbrev is_at : List ℕ → List ℕ → Host → Bool
is_at ps vs x = ltb x.position (length ps) && (eqb (get_or ps x.position 0) x.preference && eqb (get_or vs x.position 0) x.verdict)

all_at : (ps vs : List ℕ) → length vs ≡ length ps → all (is_at ps vs) (hosts_of ps vs) ≡ true
all_at ps vs even = all_hosts (is_at ps vs) ps vs even (λ i h. rw (lt-ltb i (length ps) h, eq-eqb (get_or ps i 0) (get_or ps i 0) refl, eq-eqb (get_or vs i 0) (get_or vs i 0) refl))

or_right : (a b : Bool) → (not a || b) ≡ true → a ≡ true → b ≡ true
or_right true b h e = h
or_right false b h e = apart e

-- an accepted list with a host that is not a "next host"
module _ (ps vs : List ℕ) (even : length vs ≡ length ps) where
  at_position : (h : Host) → is_at ps vs h ≡ true → (h.position < length ps) × (h ≡ host_at ps vs h.position)
  at_position h a =
      let rest = and_right (ltb h.position (length ps)) (eqb (get_or ps h.position 0) h.preference && eqb (get_or vs h.position 0) h.verdict) a in
      let p : get_or ps h.position 0 ≡ h.preference = eqb-true (get_or ps h.position 0) h.preference (and_left (eqb (get_or ps h.position 0) h.preference) (eqb (get_or vs h.position 0) h.verdict) rest) in
      let v : get_or vs h.position 0 ≡ h.verdict = eqb-true (get_or vs h.position 0) h.verdict (and_right (eqb (get_or ps h.position 0) h.preference) (eqb (get_or vs h.position 0) h.verdict) rest) in
      (ltb-true h.position (length ps) (and_left (ltb h.position (length ps)) (eqb (get_or ps h.position 0) h.preference && eqb (get_or vs h.position 0) h.verdict) a), rw (p, v))

  decides_at : (k : ℕ) → k < length ps → is_next_host (get_or vs k 0) ≡ false → all (passes (host_at ps vs k)) (hosts_of ps vs) ≡ true → Decides ps vs (decided_answer (host_at ps vs k))
  unfolding decided_answer
  decides_at k l s f =
      record {
        inside = l;
        answer = refl;
        decisive = s;
        first = λ i m b. or_right (comes_before (host_at ps vs i) (host_at ps vs k)) (is_next_host (get_or vs i 0)) (each_host (passes (host_at ps vs k)) ps vs even f i m) b;
      }

  decides_host : (h : Host) → is_at ps vs h ≡ true → is_next_host h.verdict ≡ false → all (passes h) (hosts_of ps vs) ≡ true → Decides ps vs (decided_answer h)
  decides_host h a s f =
      let at = at_position h a in
      subst (λ (x : Host). Decides ps vs (decided_answer x)) (sym at.1)
      (decides_at h.position at.0 (subst (λ (x : Host). is_next_host x.verdict ≡ false) at.1 s) (subst (λ (x : Host). all (passes x) (hosts_of ps vs) ≡ true) at.1 f))

  one_found : is_host_list ps vs ≡ true → all is_host_verdict vs ≡ true → all is_next_host vs ≡ false → Outcome ps vs (decided (in_order (hosts_of ps vs)))
  unfolding decided_answer
  one_found l q n =
      let f : Found (in_order (hosts_of ps vs)) = found (in_order (hosts_of ps vs)) (ordered ps vs) (order_verdicts is_next_host ps vs even ∙ n) in
      let v : is_host_verdict f.host.verdict ≡ true = f.among (verdict_is is_host_verdict) (order_verdicts is_host_verdict ps vs even ∙ q) in
      subst (λ (r : MessageAnswer). Outcome ps vs r) (sym f.is)
      (one l n (decisive_number f.host.verdict v f.stops)
      (decides_host f.host (f.among (is_at ps vs) (all_in_order (is_at ps vs) (hosts_of ps vs) ∙ all_at ps vs even)) f.stops (sym (all_in_order (passes f.host) (hosts_of ps vs)) ∙ f.first)))

  some_outcome : is_host_list ps vs ≡ true → all is_host_verdict vs ≡ true → (t : Bool) → all is_next_host vs ≡ t → Outcome ps vs (decided (in_order (hosts_of ps vs)))
  some_outcome l q true n = none l n (none_decides (in_order (hosts_of ps vs)) (order_verdicts is_next_host ps vs even ∙ n))
  some_outcome l q false n = one_found l q n

-- an accepted list's lengths and verdicts
list_facts : (ps vs : List ℕ) → is_host_list ps vs ≡ true → (length vs ≡ length ps) × (all is_host_verdict vs ≡ true)
unfolding is_host_list
list_facts ps vs h =
    let a = and_left (within 1 32 (length ps) && eqb (length vs) (length ps) && all is_preference ps) (all is_host_verdict vs) h in
    let b = and_left (within 1 32 (length ps) && eqb (length vs) (length ps)) (all is_preference ps) a in
    (eqb-true (length vs) (length ps) (and_right (within 1 32 (length ps)) (eqb (length vs) (length ps)) b), and_right (within 1 32 (length ps) && eqb (length vs) (length ps) && all is_preference ps) (all is_host_verdict vs) h)

-- every answer of a message's preferences and verdicts
pub outcome : (ps vs : List ℕ) → Outcome ps vs (message_answer ps vs)
unfolding message_answer
outcome ps vs = go (is_host_list ps vs) refl
  where
    go : (t : Bool) → is_host_list ps vs ≡ t → Outcome ps vs (cond t (decided (in_order (hosts_of ps vs))) (no_host 63))
    go true e = let f = list_facts ps vs e in some_outcome ps vs f.0 e f.1 (all is_next_host vs) refl
    go false e = refused e refl

-- what the number of a host that decides is not
not_outside : (n m : ℕ) → is_decision n ≡ true → is_decision m ≡ false → eqb n m ≡ false
not_outside n m h k = ne_eqb n m (λ e. apart (sym k ∙ rw e at h))

-- 63 exactly where the lists are no list of hosts
pub refused_when : (ps vs : List ℕ) → eqb (message_answer ps vs).number 63 ≡ not (is_host_list ps vs)
unfolding no_host is_decision is_delivery
refused_when ps vs = go (message_answer ps vs) (outcome ps vs)
  where
    go : (r : MessageAnswer) → Outcome ps vs r → eqb r.number 63 ≡ not (is_host_list ps vs)
    go r (refused l e) = rw (l, e)
    go r (none l n e) = rw (l, e)
    go r (one l n d f) = rw l (not_outside r.number 63 d refl)

-- 31 exactly where they are one, and every verdict is a "next host"
pub none_when : (ps vs : List ℕ) → eqb (message_answer ps vs).number 31 ≡ (is_host_list ps vs && all is_next_host vs)
unfolding no_host is_decision is_delivery
none_when ps vs = go (message_answer ps vs) (outcome ps vs)
  where
    go : (r : MessageAnswer) → Outcome ps vs r → eqb r.number 31 ≡ (is_host_list ps vs && all is_next_host vs)
    go r (refused l e) = rw (l, e)
    go r (none l n e) = rw (l, n, e)
    go r (one l n d f) = rw (l, n) (not_outside r.number 31 d refl)

-- 8 or 1 to 5 exactly where they are one, and some verdict is not a "next host"
pub one_when : (ps vs : List ℕ) → is_decision (message_answer ps vs).number ≡ (is_host_list ps vs && not (all is_next_host vs))
unfolding no_host is_decision is_delivery
one_when ps vs = go (message_answer ps vs) (outcome ps vs)
  where
    go : (r : MessageAnswer) → Outcome ps vs r → is_decision r.number ≡ (is_host_list ps vs && not (all is_next_host vs))
    go r (refused l e) = rw (l, e)
    go r (none l n e) = rw (l, n, e)
    go r (one l n d f) = rw (l, n) d

-- where the answer is 8 or 1 to 5, the host at its position decides
pub decides : (ps vs : List ℕ) → is_decision (message_answer ps vs).number ≡ true → Decides ps vs (message_answer ps vs)
unfolding no_host is_decision is_delivery
decides ps vs h = go (message_answer ps vs) (outcome ps vs) h
  where
    go : (r : MessageAnswer) → Outcome ps vs r → is_decision r.number ≡ true → Decides ps vs r
    go r (refused l e) h = apart (rw e at h)
    go r (none l n e) h = apart (rw e at h)
    go r (one l n d f) h = f

-- no two hosts decide
pub decides_once : (ps vs : List ℕ) (r s : MessageAnswer) → Decides ps vs r → Decides ps vs s → r ≡ s
decides_once ps vs r s f g =
    let a = before_fails (host_at ps vs r.position) (host_at ps vs s.position) (not_first r s f g) in
    let b = before_fails (host_at ps vs s.position) (host_at ps vs r.position) (not_first s r g f) in
    let p : get_or ps r.position 0 ≡ get_or ps s.position 0 = omega (arith, a.0, b.0) in
    let k : r.position ≡ s.position = omega (arith, a.1 p, b.1 (sym p)) in
    f.answer ∙ ap (λ (i : ℕ). decided_answer (host_at ps vs i)) k ∙ sym g.answer
  where
    go : (r s : MessageAnswer) → Decides ps vs r → Decides ps vs s → (t : Bool) → comes_before (host_at ps vs r.position) (host_at ps vs s.position) ≡ t → t ≡ false
    go r s f g true e = sym (g.first r.position f.inside e) ∙ f.decisive
    go r s f g false e = refl

    not_first : (r s : MessageAnswer) → Decides ps vs r → Decides ps vs s → comes_before (host_at ps vs r.position) (host_at ps vs s.position) ≡ false
    not_first r s f g = go r s f g (comes_before (host_at ps vs r.position) (host_at ps vs s.position)) refl

-- every answer stands in the table
message_table : (ps vs : List ℕ) → is_message_answer (message_answer ps vs) ≡ true
unfolding is_message_answer no_host is_decision is_delivery
message_table ps vs = go (message_answer ps vs) (outcome ps vs)
  where
    go : (r : MessageAnswer) → Outcome ps vs r → is_message_answer r ≡ true
    go r (refused l e) = rw e
    go r (none l n e) = rw e
    go r (one l n d f) = rw d

refusal_table : (t : Bool) (r : MessageAnswer) → is_message_answer r ≡ true → is_message_answer (cond t r (no_host 63)) ≡ true
unfolding is_message_answer no_host is_decision is_delivery
refusal_table true r h = h
refusal_table false r h = refl

pub hosts_table : (count : ℕ) (ps vs : List ℕ) → is_message_answer (hosts_answer count ps vs) ≡ true
unfolding hosts_answer
hosts_table count ps vs = refusal_table (leb count 32) (message_answer (take count ps) (take count vs)) (message_table (take count ps) (take count vs))

pub next_table : (l : MxLookup) (ps vs : List ℕ) → is_message_answer (next_host l ps vs) ≡ true
unfolding is_message_answer no_host is_decision is_delivery next_host lists_answer
next_table Failed ps vs = refl
next_table Answered ps vs = refusal_table (is_whole ps && is_whole vs) (message_answer (numbers ps) (numbers vs)) (message_table (numbers ps) (numbers vs))

-- no answer has the number 0
pub table_number : (r : MessageAnswer) → is_message_answer r ≡ true → r.number ≡ 0 → ⊥
unfolding is_message_answer is_decision is_delivery
table_number r h e = apart (rw e at h)

-- the position is 0 under every other number than 8 and 1 to 5
pub table_position : (r : MessageAnswer) → is_message_answer r ≡ true → is_decision r.number ≡ false → r.position ≡ 0
unfolding is_message_answer
table_position r h f = eqb-true r.position 0 (and_right (eqb r.number 30 || eqb r.number 31 || eqb r.number 63) (eqb r.position 0) (rw f at h))

pub never_zero : (l : MxLookup) (ps vs : List ℕ) → (next_host l ps vs).number ≡ 0 → ⊥
never_zero l ps vs = table_number (next_host l ps vs) (next_table l ps vs)

pub never_zero_hosts : (count : ℕ) (ps vs : List ℕ) → (hosts_answer count ps vs).number ≡ 0 → ⊥
never_zero_hosts count ps vs = table_number (hosts_answer count ps vs) (hosts_table count ps vs)
