-- Document 01's worked examples, and cases on both sides of each bound, by computation. Assumes nothing.
use Prim.Native.Nat.{ℕ}
use mathlib.Core.Path.{◌≡◌, refl}
use mathlib.Core.List.{List, [], ◌∷◌, ◌++◌, map}
use lib.ListN.{replicate}
use Rattle.lists.specs.Bytes.{all}
use Rattle.numbers.specs.Numbers.{numbers, is_whole, written}
use Rattle.verdicts.specs.Verdicts.{is_delivery, is_next_host}
use Rattle.messages.specs.declared.MessageAnswer.{MessageAnswer}
use Rattle.messages.specs.declared.MxLookup.TheVariants.{Answered, Failed}
use Rattle.messages.specs.Hosts.{is_preference, is_host_verdict, is_host_list, hosts_from, insert, in_order, no_host, decided_answer, decided, message_answer, hosts_answer, lists_answer, next_host}

-- an answer's number and position
abbrev answer : ℕ → ℕ → MessageAnswer
answer n k = record { number = n; position = k }

-- the call's answer to some preferences and verdicts, each passed as a list of bytes
abbrev called : List ℕ → List ℕ → MessageAnswer
called ps vs = next_host Answered (written ps) (written vs)

-- Preferences A 20, B 10, C 10 and verdicts A 9, B 22, C 24: 8 with A. With C 9: 8 with C. With A 26, B 22, C 24: 31.
paper : map (called (20 ∷ 10 ∷ 10 ∷ [])) ((9 ∷ 22 ∷ 24 ∷ []) ∷ (9 ∷ 22 ∷ 9 ∷ []) ∷ (26 ∷ 22 ∷ 24 ∷ []) ∷ []) ≡ answer 8 0 ∷ answer 8 2 ∷ answer 31 0 ∷ []
unfolding next_host lists_answer message_answer hosts_from in_order insert decided decided_answer no_host is_host_list is_preference is_host_verdict is_delivery is_next_host all numbers is_whole written
paper = refl

-- The same preferences: of equal ones the first given decides; a delivery by the first in the order is handed on, one by a later host is passed over.
orders : map (called (20 ∷ 10 ∷ 10 ∷ [])) ((1 ∷ 9 ∷ 9 ∷ []) ∷ (9 ∷ 20 ∷ 5 ∷ []) ∷ (1 ∷ 27 ∷ 9 ∷ []) ∷ (4 ∷ 20 ∷ 27 ∷ []) ∷ []) ≡ answer 8 1 ∷ answer 5 2 ∷ answer 8 2 ∷ answer 4 0 ∷ []
unfolding next_host lists_answer message_answer hosts_from in_order insert decided decided_answer no_host is_host_list is_preference is_host_verdict is_delivery is_next_host all numbers is_whole written
orders = refl

-- The verdicts on both sides of each bound, for a single host.
verdicts : map (λ (v : ℕ). (called (0 ∷ []) (v ∷ [])).number) (0 ∷ 1 ∷ 5 ∷ 6 ∷ 8 ∷ 9 ∷ 10 ∷ 19 ∷ 20 ∷ 27 ∷ 28 ∷ 29 ∷ []) ≡ 63 ∷ 1 ∷ 5 ∷ 63 ∷ 63 ∷ 8 ∷ 63 ∷ 63 ∷ 31 ∷ 31 ∷ 31 ∷ 63 ∷ []
unfolding next_host lists_answer message_answer hosts_from in_order insert decided decided_answer no_host is_host_list is_preference is_host_verdict is_delivery is_next_host all numbers is_whole written
verdicts = refl

-- The highest preference, and one above it.
preferences : map (λ (p : ℕ). (called (p ∷ []) (9 ∷ [])).number) (65535 ∷ 65536 ∷ []) ≡ 8 ∷ 63 ∷ []
unfolding next_host lists_answer message_answer hosts_from in_order insert decided decided_answer no_host is_host_list is_preference is_host_verdict is_delivery is_next_host all numbers is_whole written
preferences = refl

-- No host, 32 hosts of which the last decides, 33 hosts, a verdict too few, a verdict too many.
counts : called [] [] ∷ called (replicate 32 10) (replicate 31 20 ++ (9 ∷ [])) ∷ called (replicate 33 10) (replicate 33 9) ∷ called (10 ∷ 10 ∷ []) (9 ∷ []) ∷ called (10 ∷ []) (9 ∷ 9 ∷ []) ∷ [] ≡ answer 63 0 ∷ answer 8 31 ∷ answer 63 0 ∷ answer 63 0 ∷ answer 63 0 ∷ []
unfolding next_host lists_answer message_answer hosts_from in_order insert decided decided_answer no_host is_host_list is_preference is_host_verdict is_delivery is_next_host all numbers is_whole written
counts = refl

-- A byte left over in either list: 63. MX lookup failed: 30, whatever the lists hold.
bytes : next_host Answered (written (10 ∷ []) ++ (0 ∷ [])) (written (9 ∷ [])) ∷ next_host Answered (written (10 ∷ [])) (written (9 ∷ []) ++ (0 ∷ [])) ∷ next_host Failed (1 ∷ 2 ∷ 3 ∷ []) [] ∷ [] ≡ answer 63 0 ∷ answer 63 0 ∷ answer 30 0 ∷ []
unfolding next_host lists_answer message_answer hosts_from in_order insert decided decided_answer no_host is_host_list is_preference is_host_verdict is_delivery is_next_host all numbers is_whole written
bytes = refl

-- Arrays of 32: only the first `count` places are looked at, and a count over 32 is refused.
arrays : map (λ (n : ℕ). hosts_answer n (10 ∷ 5 ∷ replicate 30 70000) (22 ∷ 9 ∷ replicate 30 6)) (0 ∷ 1 ∷ 2 ∷ 3 ∷ 32 ∷ 33 ∷ []) ≡ answer 63 0 ∷ answer 31 0 ∷ answer 8 1 ∷ answer 63 0 ∷ answer 63 0 ∷ answer 63 0 ∷ []
unfolding hosts_answer message_answer hosts_from in_order insert decided decided_answer no_host is_host_list is_preference is_host_verdict is_delivery is_next_host all
arrays = refl

-- 32 hosts in the arrays: a count of 33 is refused all the same.
long_arrays : map (λ (n : ℕ). hosts_answer n (replicate 32 10) (replicate 32 9)) (32 ∷ 33 ∷ []) ≡ answer 8 0 ∷ answer 63 0 ∷ []
unfolding hosts_answer message_answer hosts_from in_order insert decided decided_answer no_host is_host_list is_preference is_host_verdict is_delivery is_next_host all
long_arrays = refl
