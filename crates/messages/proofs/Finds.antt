-- The host that decides is found from the last host given to the first, without the order: it is the first of the order that is not a "next host".
-- Assumes nothing.
use Prim.Native.Nat.{ℕ, ◌+◌, ◌<◌, ◌≤◌}
use mathlib.Core.Path.{◌≡◌, refl, sym, ap, ◌∙◌}
use mathlib.Core.Bool.{Bool, true, false, cond}
use mathlib.Core.List.{List, [], ◌∷◌}
use native.Mathlib.Omega.{arith}
use lib.Dec.{leb}
use lib.ListN.{length, get_or, drop, drop_of_length-le}
use borrow.Author.Tests.{lt-leb, le-leb, leb-true, eq-eqb}
use Rattle.lists.specs.Bytes.{all}
use Rattle.verdicts.specs.Verdicts.{is_next_host}
use Rattle.messages.specs.declared.MessageAnswer.{MessageAnswer}
use Rattle.std.specs.Prelude.{Option, Some, None}
use Rattle.messages.specs.declared.Host.{Host}
use Rattle.messages.specs.Hosts.{is_preference, is_host_verdict, is_host_list, hosts_from, hosts_of, insert, in_order, no_host, decided_answer, decided, message_answer}
use Rattle.messages.specs.Order.{comes_before, is_ordered}
use Rattle.messages.specs.Search.{before, with_host, decider_of, decided_by}
use Rattle.lists.proofs.Bools.{and_left, and_right, and_intro}
use Rattle.lists.proofs.All.{all_more}
use Rattle.lists.proofs.Laws.{drop_next}
use Rattle.messages.proofs.Arrays.{all_fails, no_preference, no_verdict}
use Rattle.messages.proofs.Order.{before_facts, hosts_ordered, hosts_next, hosts_end}

-- the first host of a list that is not a "next host"
unfoldable first_in : List Host → Option Host
first_in [] = None
first_in (x ∷ xs) = cond (is_next_host x.verdict) (first_in xs) (Some x)

first_answers : (xs : List Host) → decided xs ≡ decided_by (first_in xs)
unfolding decided first_in decided_by
first_answers [] = refl
first_answers (x ∷ xs) = go (first_answers xs) (is_next_host x.verdict)
  where
    go : decided xs ≡ decided_by (first_in xs) → (t : Bool) → cond t (decided xs) (decided_answer x) ≡ decided_by (cond t (first_in xs) (Some x))
    go ih true = ih
    go ih false = refl

-- a host's preference is at least p
abbrev at_least : ℕ → Host → Bool
at_least p x = leb p x.preference

-- h goes before any host of a list whose preferences are not lower
first_higher : (h : Host) (xs : List Host) → all (at_least h.preference) xs ≡ true → before h (first_in xs) ≡ Some h
unfolding all first_in before
first_higher h [] g = refl
first_higher h (x ∷ xs) g = go (first_higher h xs (and_right (at_least h.preference x) (all (at_least h.preference) xs) g)) (is_next_host x.verdict)
  where
    go : before h (first_in xs) ≡ Some h → (t : Bool) → before h (cond t (first_in xs) (Some x)) ≡ Some h
    go ih true = ih
    go ih false = rw (and_left (at_least h.preference x) (all (at_least h.preference) xs) g)

higher : (h x : Host) (xs : List Host) → is_ordered (x ∷ xs) ≡ true → h.preference ≤ x.preference → all (at_least h.preference) (x ∷ xs) ≡ true
unfolding all is_ordered
higher h x xs o l =
    and_intro (at_least h.preference x) (all (at_least h.preference) xs) (le-leb h.preference x.preference l)
    (all_more (comes_before x) (at_least h.preference) (λ y b. let q : x.preference ≤ y.preference = (before_facts x y b).0 in le-leb h.preference y.preference (omega arith))
    xs (and_left (all (comes_before x) xs) (is_ordered xs) o))

first_insert : (h : Host) (xs : List Host) → is_ordered xs ≡ true → first_in (insert h xs) ≡ with_host h (first_in xs)
unfolding first_in insert with_host before is_ordered
first_insert h [] o = refl
first_insert h (x ∷ xs) o = go (first_insert h xs (and_right (all (comes_before x) xs) (is_ordered xs) o)) (leb h.preference x.preference) refl
  where
    later : leb h.preference x.preference ≡ false → (t : Bool) → Some x ≡ cond t (Some x) (before h (Some x))
    later e true = refl
    later e false = rw e

    pass : first_in (insert h xs) ≡ with_host h (first_in xs) → leb h.preference x.preference ≡ false → (t : Bool) → cond t (first_in (insert h xs)) (Some x) ≡ with_host h (cond t (first_in xs) (Some x))
    pass ih e true = ih
    pass ih e false = later e (is_next_host h.verdict)

    go : first_in (insert h xs) ≡ with_host h (first_in xs) → (t : Bool) → leb h.preference x.preference ≡ t → first_in (cond t (h ∷ x ∷ xs) (x ∷ insert h xs)) ≡ with_host h (first_in (x ∷ xs))
    go ih true e =
        let q : before h (first_in (x ∷ xs)) ≡ Some h = first_higher h (x ∷ xs) (higher h x xs o (leb-true h.preference x.preference e)) in
        ap (λ (d : Option Host). cond (is_next_host h.verdict) (first_in (x ∷ xs)) d) (sym q)
    go ih false e = pass ih e (is_next_host x.verdict)

first_is : (k : ℕ) (ps vs : List ℕ) → first_in (in_order (hosts_from k ps vs)) ≡ decider_of (hosts_from k ps vs)
unfolding first_in in_order hosts_from decider_of
first_is k [] vs = refl
first_is k (p ∷ ps) [] = refl
first_is k (p ∷ ps) (v ∷ vs) =
    first_insert (record { preference = p; verdict = v; position = k }) (in_order (hosts_from (k + 1) ps vs)) (hosts_ordered (k + 1) ps vs)
    ∙ ap (with_host (record { preference = p; verdict = v; position = k })) (first_is (k + 1) ps vs)

-- what the host found answers is what the first of the order that is not a "next host" answers
pub decider_answers : (ps vs : List ℕ) → decided (in_order (hosts_of ps vs)) ≡ decided_by (decider_of (hosts_of ps vs))
decider_answers ps vs = first_answers (in_order (hosts_of ps vs)) ∙ ap decided_by (first_is 0 ps vs)

-- d is the host that decides among those from place k on, all of which are hosts
pub record Walked (ps vs : List ℕ) (k : ℕ) (d : Option Host) : Type 0 where
  pub decides : d ≡ decider_of (hosts_from k (drop k ps) (drop k vs))
  pub preferences : all is_preference (drop k ps) ≡ true
  pub verdicts : all is_host_verdict (drop k vs) ≡ true

-- `walk_hosts`: the loop stands at place k, and looks at the place j before it; r is an answer
module _ (ps vs : List ℕ) (count : ℕ) (full : length ps ≡ count) (full₂ : length vs ≡ count) where
  pub walk_start : Walked ps vs count None
  unfolding decider_of all
  walk_start = let g : length ps ≤ count = omega arith in
      let e : length vs ≤ count = omega arith in
      record { decides = rw (hosts_end ps vs count g); preferences = rw (drop_of_length-le ps g); verdicts = rw (drop_of_length-le vs e) }

  module _ (j k : ℕ) (next : k ≡ j + 1) (le : j < count) (p v : ℕ) (rp : p ≡ get_or ps j 0) (rv : v ≡ get_or vs j 0) where
    pub walk_high : 65535 < p → (r : MessageAnswer) → r ≡ no_host 63 → r ≡ message_answer ps vs
    unfolding is_preference
    walk_high o r e = e ∙ sym (no_preference ps vs (all_fails is_preference ps j (omega arith) (lt-leb (get_or ps j 0) 65535 (omega arith))))

    pub walk_bad : is_host_verdict v ≡ false → (r : MessageAnswer) → r ≡ no_host 63 → r ≡ message_answer ps vs
    walk_bad f r e = e ∙ sym (no_verdict ps vs (all_fails is_host_verdict vs j (omega arith) (rw rv at f)))

    pub walk_next : (d : Option Host) → Walked ps vs k d → p ≤ 65535 → is_host_verdict v ≡ true → (r : Option Host) → r ≡ with_host (record { preference = p; verdict = v; position = j }) d → Walked ps vs j r
    unfolding decider_of all is_preference
    walk_next d w small good r gave =
        let a : j < length ps = omega arith in
        let b : j < length vs = omega arith in
        let e : j + 1 ≡ k = sym next in
        let s : leb p 65535 ≡ true = le-leb p 65535 small in
        record {
          decides = rw (hosts_next ps vs j a b, e, sym w.decides, sym rp, sym rv) gave;
          preferences = rw (drop_next ps j a, e, sym rp, s) w.preferences;
          verdicts = rw (drop_next vs j b, e, sym rv, good) w.verdicts;
        }

  list_good : 0 < count → count ≤ 32 → all is_preference ps ≡ true → all is_host_verdict vs ≡ true → is_host_list ps vs ≡ true
  unfolding is_host_list
  list_good pos fits p v = rw (full, full₂, le-leb 1 count pos, le-leb count 32 fits, eq-eqb count count refl, p, v)

  pub walk_end : 0 < count → count ≤ 32 → (d : Option Host) → Walked ps vs 0 d → (r : MessageAnswer) → r ≡ decided_by d → r ≡ message_answer ps vs
  unfolding message_answer
  walk_end pos fits d w r e =
      let g : is_host_list ps vs ≡ true = list_good pos fits w.preferences w.verdicts in
      rw g (e ∙ (ap decided_by w.decides ∙ sym (decider_answers ps vs)))
