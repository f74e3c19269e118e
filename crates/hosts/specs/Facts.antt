-- Document 01, "A host's facts, in the order learnt": the facts that are given in every call, and the later ones, each given or not.
use Rattle.std.specs.Prelude.{ℕ, Bool, true, false, ◌||◌, List}
use Rattle.std.proofs.Math.Option.{Option, none, some}
use Rattle.tlsa.specs.declared.Address.{Address}
use Rattle.tlsa.specs.Answer.{Answer}
use Rattle.policies.specs.Policy.{Policy}
use Rattle.certificates.specs.Facts.{Presented}
use Rattle.certificates.specs.declared.Origin.{Origin}

-- a policy, with the clock reading of its fetch
pub record HeldPolicy : Type 0 where
  pub policy : Policy
  pub fetched : ℕ

-- 1. What is given in every call: present clock, next-hop, expanded next-hop or none (document 02, No. 3), origin of the host list, host name, address result
-- (with the expanded name of an alias, else none), and a policy with its fetch reading, or none
pub record Base : Type 0 where
  pub clock : ℕ
  pub next_hop : List ℕ
  pub expanded_next_hop : Option (List ℕ)
  pub origin : Origin
  pub host : List ℕ
  pub address : Address
  pub expanded : List ℕ
  pub policy : Option HeldPolicy

-- a handshake's outcome; an established one carries the version of TLS, its two wire bytes as one number, the high byte first (document 02, No. 6)
pub data Handshake : Type 0 where
  established : ℕ → Handshake
  failed : Handshake

-- the two TLSA answers, by their place
pub data Place : Type 0 where
  first second : Place

-- the later facts, in the order learnt: 2. TLSA answers, none to two; 3. STARTTLS offered or not; 4. handshake established, with its version, or failed; 5. certificate facts
pub data Fact : Type 0 where
  tlsa : Place → Fact
  starttls handshake certificates : Fact

-- what a fact is, once it is learnt
abbrev pub Value : Fact → Type 0
Value (tlsa p) = Answer
Value starttls = Bool
Value handshake = Handshake
Value certificates = Presented

-- the facts of a call: those of every call, and each later one, given or not
pub record Facts : Type 0 where
  pub base : Base
  pub tlsa1 : Option Answer
  pub tlsa2 : Option Answer
  pub offered : Option Bool
  pub outcome : Option Handshake
  pub presented : Option Presented

-- a value for every later fact, with two TLSA answers
pub record Full : Type 0 where
  pub tlsa1 : Answer
  pub tlsa2 : Answer
  pub offered : Bool
  pub outcome : Handshake
  pub presented : Presented

-- a later fact of a call, given or not
abbrev pub given : Facts → (q : Fact) → Option (Value q)
given g (tlsa first) = g.tlsa1
given g (tlsa second) = g.tlsa2
given g starttls = g.offered
given g handshake = g.outcome
given g certificates = g.presented

-- a later fact of a full set
abbrev pub value : Full → (q : Fact) → Value q
value f (tlsa first) = f.tlsa1
value f (tlsa second) = f.tlsa2
value f starttls = f.offered
value f handshake = f.outcome
value f certificates = f.presented

abbrev pub is_given : {A : Type 0} → Option A → Bool
is_given none = false
is_given (some a) = true

-- a fact later than q is given
abbrev pub later : Fact → Facts → Bool
later (tlsa first) g = is_given g.tlsa2 || (is_given g.offered || (is_given g.outcome || is_given g.presented))
later (tlsa second) g = is_given g.offered || (is_given g.outcome || is_given g.presented)
later starttls g = is_given g.outcome || is_given g.presented
later handshake g = is_given g.presented
later certificates g = false
