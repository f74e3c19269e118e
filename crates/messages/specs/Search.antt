-- How the code finds the host that decides without ordering the list: contracts of private functions. No public contract cites them.
use Rattle.std.specs.Prelude.{ℕ, ◌<◌, ◌≡◌, cond, List, [], ◌∷◌, leb, length, get_or, Option, Some, None}
use Rattle.verdicts.specs.Verdicts.{is_next_host}
use Rattle.messages.specs.declared.MessageAnswer.{MessageAnswer}
use Rattle.messages.specs.declared.Host.{Host}
use Rattle.messages.specs.Hosts.{no_host, decided_answer}

-- h, given before the host that decides among later ones, goes before it unless its preference is higher
unfoldable pub before : Host → Option Host → Option Host
before h None = Some h
before h (Some x) = cond (leb h.preference x.preference) (Some h) (Some x)

-- the host that decides among h and later ones
unfoldable pub with_host : Host → Option Host → Option Host
with_host h d = cond (is_next_host h.verdict) d (before h d)

-- the host that decides, found from the last host given to the first
unfoldable pub decider_of : List Host → Option Host
decider_of [] = None
decider_of (h ∷ hs) = with_host h (decider_of hs)

-- the answer of the host that decides, or of a list where none does
unfoldable pub decided_by : Option Host → MessageAnswer
decided_by None = no_host 31
decided_by (Some h) = decided_answer h

-- the calls of a closure, which relate a place to what it answers, give the n numbers of a list
pub record Gives (n : ℕ) (post : ℕ → ℕ → Type 0) (ns : List ℕ) : Type 0 where
  pub long : length ns ≡ n
  pub each : (k r : ℕ) → k < n → post k r → r ≡ get_or ns k 0
