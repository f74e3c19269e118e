-- Document 01, "A message's hosts", said once more by properties: what the order is, and which host decides. The theorems of Order.antt, Unique.antt and
-- Decision.antt in proofs/ show that the definitions of Hosts.antt have them.
use Rattle.std.specs.Prelude.{ℕ, suc, ◌<◌, ◌≡◌, Bool, true, false, cond, ◌&&◌, ◌||◌, List, [], ◌∷◌, eqb, ltb, length, get_or}
use Rattle.lists.specs.Bytes.{all}
use Rattle.verdicts.specs.Verdicts.{is_delivery, is_next_host}
use Rattle.messages.specs.declared.MessageAnswer.{MessageAnswer}
use Rattle.messages.specs.declared.Host.{Host}
use Rattle.messages.specs.Hosts.{is_host_list, no_host, decided_answer}

-- of two hosts, x comes first: lower preference first, equal ones as given
unfoldable pub comes_before : Host → Host → Bool
comes_before x y = ltb x.preference y.preference || eqb x.preference y.preference && ltb x.position y.position

-- each host comes before all that follow it
unfoldable pub is_ordered : List Host → Bool
is_ordered [] = true
is_ordered (h ∷ hs) = all (comes_before h) hs && is_ordered hs

-- how many hosts pass a test
unfoldable pub how_many : (Host → Bool) → List Host → ℕ
how_many p [] = 0
how_many p (h ∷ hs) = cond (p h) (suc (how_many p hs)) (how_many p hs)

-- the host at position k
abbrev pub host_at : List ℕ → List ℕ → ℕ → Host
host_at preferences verdicts k = record { preference = get_or preferences k 0; verdict = get_or verdicts k 0; position = k }

-- the answer is that of the host at its position, which is not a "next host", and each host that comes before it is one
pub record Decides (preferences verdicts : List ℕ) (r : MessageAnswer) : Type 0 where
  pub inside : r.position < length preferences
  pub answer : r ≡ decided_answer (host_at preferences verdicts r.position)
  pub decisive : is_next_host (get_or verdicts r.position 0) ≡ false
  pub first : (k : ℕ) → k < length preferences → comes_before (host_at preferences verdicts k) (host_at preferences verdicts r.position) ≡ true → is_next_host (get_or verdicts k 0) ≡ true

-- a number that a host which decides can give: 8, or 1 to 5
unfoldable pub is_decision : ℕ → Bool
is_decision n = eqb n 8 || is_delivery n

-- what a message's answer is: refused; or every host is a "next host"; or one of them decides
pub data Outcome (preferences verdicts : List ℕ) (r : MessageAnswer) : Type 0 where
  refused : is_host_list preferences verdicts ≡ false → r ≡ no_host 63 → Outcome preferences verdicts r
  none : is_host_list preferences verdicts ≡ true → all is_next_host verdicts ≡ true → r ≡ no_host 31 → Outcome preferences verdicts r
  one : is_host_list preferences verdicts ≡ true → all is_next_host verdicts ≡ false → is_decision r.number ≡ true → Decides preferences verdicts r → Outcome preferences verdicts r

-- the answers of a message: 8 or 1 to 5 with a position, or 30, 31 or 63 with position 0
unfoldable pub is_message_answer : MessageAnswer → Bool
is_message_answer r = is_decision r.number || (eqb r.number 30 || eqb r.number 31 || eqb r.number 63) && eqb r.position 0
