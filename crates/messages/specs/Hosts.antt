-- Document 01, "A message's hosts", with the refusal 63 of "Answer numbers".
use Rattle.std.specs.Prelude.{ℕ, ◌+◌, Bool, cond, ◌&&◌, ◌||◌, List, [], ◌∷◌, eqb, leb, length, take}
use Rattle.lists.specs.Bytes.{within, all}
use Rattle.numbers.specs.Numbers.{numbers, is_whole}
use Rattle.verdicts.specs.Verdicts.{is_next_host, is_verdict}
use Rattle.messages.specs.declared.Host.{Host}
use Rattle.messages.specs.declared.MessageAnswer.{MessageAnswer}
use Rattle.messages.specs.declared.MxLookup.{MxLookup}
use Rattle.messages.specs.declared.MxLookup.TheVariants.{Answered, Failed}

-- a preference: 0 to 65,535
unfoldable pub is_preference : ℕ → Bool
is_preference p = leb p 65535

-- a host verdict: 9 (not tried yet), 1 to 5, or 20 to 28
unfoldable pub is_host_verdict : ℕ → Bool
is_host_verdict v = eqb v 9 || is_verdict v

-- a host list that 63 does not refuse: neither empty nor over 32, lists of equal length, no preference over 65,535, and no number that is no host verdict
unfoldable pub is_host_list : List ℕ → List ℕ → Bool
is_host_list preferences verdicts = within 1 32 (length preferences) && eqb (length verdicts) (length preferences) && all is_preference preferences && all is_host_verdict verdicts

-- the hosts of the two lists, the first of them at position k
unfoldable pub hosts_from : ℕ → List ℕ → List ℕ → List Host
hosts_from k [] verdicts = []
hosts_from k (p ∷ preferences) [] = []
hosts_from k (p ∷ preferences) (v ∷ verdicts) = record { preference = p; verdict = v; position = k } ∷ hosts_from (k + 1) preferences verdicts

-- positions count from 0 in the list as given
abbrev pub hosts_of : List ℕ → List ℕ → List Host
hosts_of preferences verdicts = hosts_from 0 preferences verdicts

-- h, which was given before the hosts of an ordered list, put in its place there: before the first whose preference is not lower
unfoldable pub insert : Host → List Host → List Host
insert h [] = h ∷ []
insert h (x ∷ xs) = cond (leb h.preference x.preference) (h ∷ x ∷ xs) (x ∷ insert h xs)

-- the order: lower preference first, equal ones as given
unfoldable pub in_order : List Host → List Host
in_order [] = []
in_order (h ∷ hs) = insert h (in_order hs)

-- an answer that names no host: the position is 0
unfoldable pub no_host : ℕ → MessageAnswer
no_host n = record { number = n; position = 0 }

-- the answer of the host that decides: 9 gives 8 with its position; 1 to 5 is handed on with its position
unfoldable pub decided_answer : Host → MessageAnswer
decided_answer h = record { number = cond (eqb h.verdict 9) 8 h.verdict; position = h.position }

-- the first host that is not a "next host" decides; none: 31
unfoldable pub decided : List Host → MessageAnswer
decided [] = no_host 31
decided (h ∷ hs) = cond (is_next_host h.verdict) (decided hs) (decided_answer h)

-- the answer of a message's preferences and verdicts, or their refusal
unfoldable pub message_answer : List ℕ → List ℕ → MessageAnswer
message_answer preferences verdicts = cond (is_host_list preferences verdicts) (decided (in_order (hosts_of preferences verdicts))) (no_host 63)

-- the answer of the first `count` preferences and verdicts of two arrays, which have 32 places: a count over 32 is refused as a host list over 32
unfoldable pub hosts_answer : ℕ → List ℕ → List ℕ → MessageAnswer
hosts_answer count preferences verdicts = cond (leb count 32) (message_answer (take count preferences) (take count verdicts)) (no_host 63)

-- the answer of two lists of numbers as bytes; where one has left-over bytes, the lists' refusal
unfoldable pub lists_answer : List ℕ → List ℕ → MessageAnswer
lists_answer preferences verdicts = cond (is_whole preferences && is_whole verdicts) (message_answer (numbers preferences) (numbers verdicts)) (no_host 63)

-- the answer of the call: MX lookup failed gives 30, before anything else
unfoldable pub next_host : MxLookup → List ℕ → List ℕ → MessageAnswer
next_host Failed preferences verdicts = no_host 30
next_host Answered preferences verdicts = lists_answer preferences verdicts
